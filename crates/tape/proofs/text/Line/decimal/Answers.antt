use Rattle.std.proofs.Common.{arith, ap, ◌∙◌, ◌++◌, length, length-append, ℕ}
use Rattle.tape.specs.Text.{digits_of}
use Rattle.tape.proofs.Writing.{length_digits}
use Rattle.tape.proofs.text.Line.decimal.Goals as goal

pub returns : goal.returns
returns c =
    let a = c.args in
    let p = c.places_of.ensures in
    let long = ap length c.digits.ensures ∙ length-append a.self.now (digits_of 10 c.places_of.result a.n) in (
      c.digits.ensures ∙ ap (λ (k : ℕ). a.self.now ++ digits_of 10 k a.n) p.0,
      omega (arith, long, length_digits 10 c.places_of.result a.n, p.1),
    )

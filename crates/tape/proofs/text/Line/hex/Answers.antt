use Rattle.std.proofs.Common.{ap, ◌∙◌, ◌+◌, length, length-append, ℕ}
use Rattle.tape.proofs.Writing.{length_digits}
use Rattle.tape.proofs.text.Line.hex.Goals as goal

pub returns : goal.returns
returns c =
    let a = c.args in
    (c.digits.ensures, ap length c.digits.ensures ∙ length-append _ _ ∙ ap (λ (k : ℕ). length a.self.now + k) (length_digits 16 a.width a.v))

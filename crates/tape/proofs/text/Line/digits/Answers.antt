use Rattle.std.proofs.Common.{arith, sym}
use Rattle.tape.specs.Text.{digits_of}
use Rattle.tape.proofs.Writing.{appended, length_digits}
use Rattle.tape.proofs.text.Line.digits.Goals as goal

pub returns : goal.returns
returns c =
    let i = c.self.inside in
    let a = c.args in
    appended i.bytes _ _ (digits_of a.base a.width a.v) i.len a.width c.self.view_is (omega (arith, c.self.invariant)) (omega (arith, c.requires.0))
    (sym (length_digits a.base a.width a.v)) c.put_digits.ensures

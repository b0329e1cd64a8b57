use Rattle.std.proofs.Common.{[], ◌∷◌}
use Rattle.replies.specs.Answers.{notice_dword}
use Rattle.tape.specs.Text.{hex_of, space, newline, identifier_digits, dword_digits}
use Rattle.tape.proofs.Writing.{then}
use Rattle.tape.proofs.lines.told_line.Goals as goal

pub returns : goal.returns
returns c =
    let l = c.args.line.now in
    let id = hex_of identifier_digits c.args.id in
    let no = hex_of dword_digits notice_dword in
    then l _ _ _ (newline ∷ []) (then l _ _ _ no (then l _ _ id (space ∷ []) (rw c.from.ensures at c.hex.ensures.0) c.text.ensures) (rw c.from-2.ensures at c.hex-2.ensures.0)) c.text-2.ensures

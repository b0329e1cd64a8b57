use mathlib.Core.Path.{◌≡◌, sym, ◌∙◌}
use mathlib.Core.List.{[], ◌∷◌}
use Rattle.std.proofs.lemmas.Result.{err_from_is_err_and}
use Rattle.replies.specs.Numbers.{too_short}
use Rattle.replies.specs.Status.{first_of}
use Rattle.commands.specs.StatusTable.{short_line}
use Rattle.commands.proofs.Stacked.{refused, passed}
use Rattle.commands.proofs.status_table.view_status.Goals as goal

pub returns-in_err-asked : goal.returns-in_err-asked
returns-in_err-asked c =
    let s = c.args in
    let p = err_from_is_err_and c.from_residual.result c.from_residual.ensures.1 in
    rw (p.1, p.2) (refused s.asked.command (short_line s.asked.kind s.asked.command s.given s.room ∷ []) s.asked.early s.asked.is_early _ c.in_err-asked.was)

pub returns-then-too_short : goal.returns-then-too_short
returns-then-too_short c =
    let s = c.args in
    let q : too_short ≡ first_of (short_line s.asked.kind s.asked.command s.given s.room ∷ []) = rw (sym c.too_short.ensures ∙ c.if-too_short.true) in
    q ∙ passed s.asked.command (short_line s.asked.kind s.asked.command s.given s.room ∷ []) s.asked.early s.asked.is_early _ c.in_ok-asked.was

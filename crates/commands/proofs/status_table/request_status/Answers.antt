use mathlib.Core.Path.{◌≡◌, ◌∙◌}
use mathlib.Core.List.{[], ◌∷◌}
use borrow.Author.Tests.{le-ltb, le-leb}
use native.Mathlib.Omega.{arith}
use Rattle.std.proofs.lemmas.Result.{err_from_is_err_and}
use Rattle.commands.specs.declared.Kind.TheVariants.{EventRequest}
use Rattle.replies.specs.Numbers.{too_many_requests}
use Rattle.replies.specs.Status.{first_of}
use Rattle.desk.specs.Desk.{requests_maximum}
use Rattle.commands.specs.StatusTable.{short_line, request_line}
use Rattle.commands.proofs.Stacked.{refused, passed}
use Rattle.commands.proofs.status_table.request_status.Goals as goal

pub returns-in_err-asked : goal.returns-in_err-asked
returns-in_err-asked c =
    let s = c.args in
    let p = err_from_is_err_and c.from_residual.result c.from_residual.ensures.1 in
    λ given room. rw (p.1, p.2) (refused s.asked.command (short_line EventRequest s.asked.command given room ∷ request_line EventRequest s.waiting ∷ []) s.asked.early s.asked.is_early _ c.in_err-asked.was)

pub returns-then-waiting-ge-REQUESTS : goal.returns-then-waiting-ge-REQUESTS
returns-then-waiting-ge-REQUESTS c =
    let s = c.args in
    λ given room.
    let q : too_many_requests ≡ first_of (short_line EventRequest s.asked.command given room ∷ request_line EventRequest s.waiting ∷ [])
    = rw (le-ltb given 0 (omega arith), le-ltb room 0 (omega arith), le-leb requests_maximum s.waiting c.if-waiting-ge-REQUESTS.true) in
    q ∙ passed s.asked.command (short_line EventRequest s.asked.command given room ∷ request_line EventRequest s.waiting ∷ []) s.asked.early s.asked.is_early _ c.in_ok-asked.was

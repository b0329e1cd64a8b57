use mathlib.Core.Path.{refl, sym, ◌∙◌}
use Rattle.std.proofs.lemmas.Result.{err_from_is_err_and}
use Rattle.table.proofs.LegalTables.{legal_known, desk_there}
use Rattle.commands.specs.declared.Kind.TheVariants.{GetNotices}
use Rattle.replies.proofs.Refusals.{no_success}
use Rattle.by_value.proofs.NamedCommands.{answered_bad}
use Rattle.by_value.proofs.Viewed.{unqueued, viewed_refused, notices_read}
use Rattle.card.proofs.commanded.answer_notices.Goals as goal

pub returns-then-not-legal : goal.returns-then-not-legal
returns-then-not-legal g c = λ i before l m. answered_bad _ i _ _ (sym c.legal.ensures ∙ c.if-not-legal.true) refl

pub returns-in_err-view_status : goal.returns-in_err-view_status
returns-in_err-view_status g c =
    let s = c.args in
    let k = s.asked.command in
    let p = err_from_is_err_and c.from_residual.result c.from_residual.ensures.1 in
    let e = rw (c.requires, c.in_err-view_status.was) at c.view_status.ensures in
    rw (p.1, p.2) (λ i before l m. viewed_refused _ i GetNotices k s.given before (rw l m) (sym c.legal.ensures ∙ c.if-not-legal.false) _ (rw l (unqueued GetNotices k s.given s.room (g.C.Cell.words s.table.now) _ refl e)) _ (no_success _) refl)

pub on_at-requires : goal.on_at-requires
on_at-requires g c = desk_there _ (legal_known _ (sym c.legal.ensures ∙ c.if-not-legal.false))

pub returns : goal.returns
returns g c =
    let s = c.args in
    let k = s.asked.command in
    let e = rw (c.requires, c.in_ok-view_status.was) at c.view_status.ensures in
    λ i before l m.
    notices_read _ i k s.given before (rw l m) (sym c.legal.ensures ∙ c.if-not-legal.false) _ (rw l (unqueued GetNotices k s.given s.room (g.C.Cell.words s.table.now) _ refl e)) _ _ _ refl c.on_at.ensures c.notices_no.ensures c.give.ensures

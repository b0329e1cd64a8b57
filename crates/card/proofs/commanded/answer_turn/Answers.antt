use mathlib.Core.Path.{refl, sym, ◌∙◌}
use Rattle.std.proofs.lemmas.Result.{err_from_is_err_and}
use Rattle.table.proofs.LegalTables.{legal_known, desk_there}
use Rattle.commands.specs.declared.Kind.TheVariants.{SetNotices}
use Rattle.replies.proofs.Refusals.{no_success}
use Rattle.by_value.proofs.NamedCommands.{answered_bad}
use Rattle.by_value.proofs.Viewed.{unqueued, viewed_refused, viewed_told}
use Rattle.card.proofs.commanded.answer_turn.Goals as goal

pub returns-then-not-legal-clause-answered : goal.returns-then-not-legal-clause-answered
returns-then-not-legal-clause-answered g c = λ i before l m. answered_bad _ i _ _ (sym c.legal.ensures ∙ c.if-not-legal.true) refl

pub returns-in_err-view_status-clause-answered : goal.returns-in_err-view_status-clause-answered
returns-in_err-view_status-clause-answered g c =
    let s = c.args in
    let k = s.asked.command in
    let p = err_from_is_err_and c.from_residual.result c.from_residual.ensures.1 in
    let e = rw (c.requires, c.in_err-view_status.was) at c.view_status.ensures in
    rw (p.1, p.2) (λ i before l m. viewed_refused _ i SetNotices k s.given before (rw l m) (sym c.legal.ensures ∙ c.if-not-legal.false) _ (rw l (unqueued SetNotices k s.given s.room (g.C.Cell.words s.table.now) _ refl e)) _ (no_success _) refl)

pub turn-requires : goal.turn-requires
turn-requires g c = desk_there _ (legal_known _ (sym c.legal.ensures ∙ c.if-not-legal.false))

pub returns-clause-answered : goal.returns-clause-answered
returns-clause-answered g c =
    let s = c.args in
    let k = s.asked.command in
    let e = rw (c.requires, c.in_ok-view_status.was) at c.view_status.ensures in
    λ i before l m.
    viewed_told _ i SetNotices k s.given before (rw l m) (sym c.legal.ensures ∙ c.if-not-legal.false) _ (rw l (unqueued SetNotices k s.given s.room (g.C.Cell.words s.table.now) _ refl e)) _ _ _ _ refl (rw c.turns_on.ensures at c.turn.ensures.desk) refl refl c.done.ensures c.beside.ensures

use mathlib.Core.Path.{refl, sym, ◌∙◌}
use native.Mathlib.Omega.{arith}
use lib.ListN.{length}
use Rattle.std.proofs.lemmas.Result.{err_from_is_err_and}
use Rattle.table.proofs.LegalTables.{legal_known, desk_there}
use Rattle.commands.specs.declared.Kind.TheVariants.{ReadAggregate}
use Rattle.replies.proofs.Refusals.{no_success}
use Rattle.by_value.proofs.Passed.{view_fine}
use Rattle.by_value.proofs.NamedCommands.{answered_bad}
use Rattle.by_value.proofs.Viewed.{unqueued, viewed_refused, aggregate_read}
use Rattle.card.proofs.commanded.answer_aggregate.Goals as goal

pub returns-then-not-legal-clause-answered : goal.returns-then-not-legal-clause-answered
returns-then-not-legal-clause-answered g c = λ i m. answered_bad _ i _ _ (sym c.legal.ensures ∙ c.if-not-legal.true) refl

pub returns-in_err-view_status-clause-answered : goal.returns-in_err-view_status-clause-answered
returns-in_err-view_status-clause-answered g c =
    let s = c.args in
    let p = err_from_is_err_and c.from_residual.result c.from_residual.ensures.1 in
    let e = rw (c.requires.0, c.in_err-view_status.was) at c.view_status.ensures in
    rw (p.1, p.2) (λ i m. viewed_refused _ i ReadAggregate s.asked.command s.given s.answer.now m (sym c.legal.ensures ∙ c.if-not-legal.false) _ (unqueued ReadAggregate s.asked.command s.given (length s.answer.now) (g.C.Cell.words s.table.now) _ refl e) _ (no_success _) refl)

pub aggregate_of-page-requires : goal.aggregate_of-page-requires
aggregate_of-page-requires g c = legal_known _ (sym c.legal.ensures ∙ c.if-not-legal.false)

pub hand_out-reply-requires : goal.hand_out-reply-requires
hand_out-reply-requires g c =
    λ z.
    let s = c.args in
    let f = view_fine ReadAggregate s.asked.command s.given (length s.answer.now) _ c.requires.1 (rw (c.requires.0, c.in_ok-view_status.was) at c.view_status.ensures) z in
    (omega (arith, f.start refl, c.offset_of-from.ensures), omega (arith, f.outward, c.needs_out-n.ensures))

pub lift_if-requires : goal.lift_if-requires
lift_if-requires g c = desk_there _ (legal_known _ (sym c.legal.ensures ∙ c.if-not-legal.false))

pub returns-clause-answered : goal.returns-clause-answered
returns-clause-answered g c =
    let s = c.args in
    λ i m.
    aggregate_read _ i s.asked.command s.given s.answer.now m (sym c.legal.ensures ∙ c.if-not-legal.false) _
    (unqueued ReadAggregate s.asked.command s.given (length s.answer.now) (g.C.Cell.words s.table.now) _ refl (rw (c.requires.0, c.in_ok-view_status.was) at c.view_status.ensures)) _ _ _ _ _
    (rw (c.aggregate_of-page.ensures, c.offset_of-from.ensures, c.needs_out-n.ensures)) c.hand_out-reply.ensures
    c.beside.ensures (rw c.retains.ensures at c.lift_if.ensures.lifted)

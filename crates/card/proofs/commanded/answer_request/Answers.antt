use mathlib.Core.Path.{refl, sym, ◌∙◌}
use lib.ListN.{length}
use Rattle.std.proofs.lemmas.Result.{err_from_is_err_and}
use Rattle.table.specs.Table.{desk_at}
use Rattle.table.proofs.LegalTables.{legal_known, desk_there}
use Rattle.commands.specs.declared.Kind.TheVariants.{EventRequest}
use Rattle.replies.proofs.Refusals.{no_success}
use Rattle.steps.proofs.AtDesk.{request_few}
use Rattle.by_value.proofs.NamedCommands.{answered_bad}
use Rattle.by_value.proofs.Viewed.{viewed_refused, viewed_told}
use Rattle.card.proofs.commanded.answer_request.Goals as goal

pub returns-then-not-legal-clause-answered : goal.returns-then-not-legal-clause-answered
returns-then-not-legal-clause-answered g c = λ i given before m. answered_bad _ i _ _ (sym c.legal.ensures ∙ c.if-not-legal.true) refl

pub waiting_at-requires : goal.waiting_at-requires
waiting_at-requires g c = desk_there _ (legal_known _ (sym c.legal.ensures ∙ c.if-not-legal.false))

pub returns-in_err-request_status-clause-answered : goal.returns-in_err-request_status-clause-answered
returns-in_err-request_status-clause-answered g c =
    let p = err_from_is_err_and c.from_residual.result c.from_residual.ensures.1 in
    rw (p.1, p.2) (λ i given before m. viewed_refused _ i EventRequest c.args.asked.command given before m (sym c.legal.ensures ∙ c.if-not-legal.false) _ (rw (c.waiting_at.ensures, c.in_err-request_status.was) at (c.request_status.ensures given (length before))) _ (no_success _) refl)

pub queue-requires : goal.queue-requires
queue-requires g c = (
  desk_there _ (legal_known _ (sym c.legal.ensures ∙ c.if-not-legal.false)),
  request_few c.args.asked.command 0 0 (desk_at (g.C.Cell.words c.args.table.now)).waiting (sym (rw (c.waiting_at.ensures, c.in_ok-request_status.was) at (c.request_status.ensures 0 0))),
)

pub returns-clause-answered : goal.returns-clause-answered
returns-clause-answered g c =
    λ i given before m.
    viewed_told _ i EventRequest c.args.asked.command given before m (sym c.legal.ensures ∙ c.if-not-legal.false) _ (rw (c.waiting_at.ensures, c.in_ok-request_status.was) at (c.request_status.ensures given (length before))) _ _ _ _ refl (rw c.identifier_of.ensures at c.queue.ensures.desk) refl refl c.awaiting.ensures c.beside.ensures

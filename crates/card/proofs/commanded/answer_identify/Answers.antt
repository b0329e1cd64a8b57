use mathlib.Core.Path.{refl, sym, ◌∙◌}
use lib.ListN.{length}
use Rattle.std.proofs.lemmas.Result.{err_from_is_err_and}
use Rattle.table.proofs.LegalTables.{legal_known}
use Rattle.commands.specs.declared.Kind.TheVariants.{Identify}
use Rattle.replies.proofs.Refusals.{no_success}
use Rattle.by_value.proofs.Passed.{view_fine}
use Rattle.by_value.proofs.NamedCommands.{answered_bad}
use Rattle.pages.proofs.Entries.{list_long}
use Rattle.by_value.proofs.Viewed.{unqueued, viewed_refused, identified}
use Rattle.card.proofs.commanded.answer_identify.Goals as goal

pub returns-then-not-legal : goal.returns-then-not-legal
returns-then-not-legal g c = λ i m. answered_bad _ i _ _ (sym c.legal.ensures ∙ c.if-not-legal.true) refl

pub returns-in_err-view_status : goal.returns-in_err-view_status
returns-in_err-view_status g c =
    let s = c.args in
    let p = err_from_is_err_and c.from_residual.result c.from_residual.ensures.1 in
    let e = rw (c.requires.0, c.in_err-view_status.was) at c.view_status.ensures in
    rw (p.1, p.2) (λ i m. viewed_refused _ i Identify s.asked.command s.given s.answer.now m (sym c.legal.ensures ∙ c.if-not-legal.false) _ (unqueued Identify s.asked.command s.given (length s.answer.now) (g.C.Cell.words s.table.now) _ refl e) _ (no_success _) refl)

pub set_list_onto-requires : goal.set_list_onto-requires
set_list_onto-requires g c =
    let s = c.args in
    let e = rw (c.requires.0, c.in_ok-view_status.was) at c.view_status.ensures in
    (legal_known _ (sym c.legal.ensures ∙ c.if-not-legal.false), (view_fine Identify s.asked.command s.given (length s.answer.now) _ c.requires.1 e refl).outward)

pub returns : goal.returns
returns g c =
    let s = c.args in
    let e = rw (c.requires.0, c.in_ok-view_status.was) at c.view_status.ensures in
    let f = view_fine Identify s.asked.command s.given (length s.answer.now) _ c.requires.1 e refl in
    λ i m.
    identified _ i s.asked.command s.given s.answer.now m (sym c.legal.ensures ∙ c.if-not-legal.false) _ (unqueued Identify s.asked.command s.given (length s.answer.now) (g.C.Cell.words s.table.now) _ refl e) _ _ _ _ refl refl (list_long _ _) f.outward (rw c.asked_by.ensures at c.set_list_onto.ensures) c.give.ensures

use mathlib.Core.Path.{refl}
use Rattle.std.proofs.lemmas.Result.{err_from_is_err_and}
use Rattle.replies.proofs.Refusals.{no_success}
use Rattle.by_value.proofs.Told.{stored_desk}
use Rattle.by_value.proofs.OnOneSet.{fine_on, on_refused, on_done}
use Rattle.card.proofs.InPlace.{listed_by}
use Rattle.card.proofs.commanded.answer_set.Goals as goal

pub returns-in_err-status_on-clause-on : goal.returns-in_err-status_on-clause-on
returns-in_err-status_on-clause-on g c =
    let p = err_from_is_err_and c.from_residual.result c.from_residual.ensures.1 in
    rw (p.1, p.2) (on_refused _ _ _ _ _ _ _ _ _ c.load-r.ensures (rw c.in_err-status_on.was at c.status_on.ensures) (no_success _) refl)

pub change-new-requires-clause-given : goal.change-new-requires-clause-given
change-new-requires-clause-given g c = (fine_on _ _ _ _ _ _ c.requires.0 (rw c.in_ok-status_on.was at c.status_on.ensures) refl).inward

pub hand_by-reply-requires : goal.hand_by-reply-requires
hand_by-reply-requires g c =
    let f = fine_on _ _ _ _ _ _ c.requires.0 (rw c.in_ok-status_on.was at c.status_on.ensures) refl in
    (c.requires.1, f.start, f.outward)

pub settle-requires : goal.settle-requires
settle-requires g c = stored_desk _ _ _ _ c.change-new.ensures.stored.table c.requires.3

pub returns-clause-on : goal.returns-clause-on
returns-clause-on g c =
    let a = c.args in
    let s = c.change-new.ensures.stored in
    on_done (g.C.Cell.words a.table.now) a.slot.0 a.asked.kind a.asked.command a.given.now a.answer.now _ _ _ c.load-r.ensures (rw c.in_ok-status_on.was at c.status_on.ensures) _ _ _ _ _ _ _ refl refl s.table c.hand_by-reply.ensures
    (listed_by _ _ _ _ _ _ c.load-r.ensures s) c.settle.ensures.desk c.beside.ensures

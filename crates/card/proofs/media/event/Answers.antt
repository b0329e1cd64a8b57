use mathlib.Core.Path.{refl, ap, ◌∙◌}
use Rattle.replies.specs.Answers.{refusing}
use Rattle.by_value.proofs.Told.{entered_desk, stored_desk}
use Rattle.by_value.proofs.EventsAndTicks.{event_absent, event_here}
use Rattle.card.proofs.InPlace.{entered_at}
use Rattle.card.proofs.media.event.Goals as goal

pub event_at-new-requires : goal.event_at-new-requires
event_at-new-requires g c = entered_at (g.C.Cell.words c.args.table.now) c.args.id.0 _ _ c.enter.ensures c.in-Ok.is

pub settle-requires : goal.settle-requires
settle-requires g c = stored_desk _ _ _ _ c.event_at-new.ensures.stored.table (entered_desk (g.C.Cell.words c.args.table.now) c.args.id.0 _ _ c.enter.ensures c.in-Ok.is)

pub returns-in-Err-clause-answered : goal.returns-in-Err-clause-answered
returns-in-Err-clause-answered g c =
    event_absent (g.C.Cell.words c.args.table.now) c.args.id.0 c.args.m _ c.enter.ensures _ _ c.in-Err.is (c.refuse.ensures ∙ ap refusing c.refusal_of.ensures)

pub returns-in-Ok-clause-answered : goal.returns-in-Ok-clause-answered
returns-in-Ok-clause-answered g c =
    let s = c.event_at-new.ensures.stored in
    event_here (g.C.Cell.words c.args.table.now) c.args.id.0 c.args.m _ c.enter.ensures _ _ c.in-Ok.is _ _ _ _ _ _ _ refl refl s.table s.listed c.settle.ensures.desk c.done.ensures c.beside.ensures

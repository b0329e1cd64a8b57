use mathlib.Core.Path.{ap}
use Rattle.replies.specs.Answers.{refusing}
use Rattle.by_value.proofs.Told.{entered_desk}
use Rattle.by_value.proofs.NamedCommands.{named_absent, named_here}
use Rattle.card.proofs.InPlace.{entered_at}
use Rattle.card.proofs.commanded.answer_named.Goals as goal

pub answer_set-requires : goal.answer_set-requires
answer_set-requires g c =
    let ws = g.C.Cell.words c.args.table.now in (c.requires.0, c.requires.1, entered_at ws _ _ _ c.enter.ensures c.in-Ok.is, entered_desk ws _ _ _ c.enter.ensures c.in-Ok.is)

pub returns-in-Err-clause-answered : goal.returns-in-Err-clause-answered
returns-in-Err-clause-answered g c =
    let s = c.args in
    λ i m. named_absent (g.C.Cell.words s.table.now) s.asked.kind s.asked.command s.given.now s.answer.now _ (rw c.requires.2 at c.enter.ensures) i m _ _ _ c.in-Err.is c.unknown_refusal.ensures (ap refusing c.refusal_of.ensures)

pub returns-in-Ok-clause-answered : goal.returns-in-Ok-clause-answered
returns-in-Ok-clause-answered g c =
    let s = c.args in
    λ i m. named_here _ s.asked.kind s.asked.command s.given.now s.answer.now _ (rw c.requires.2 at c.enter.ensures) i m _ c.in-Ok.is _ _ _ c.answer_set.ensures.on

use lib.ListN.{length}
use mathlib.Core.Path.{◌∙◌}
use Rattle.steps.specs.Items.{command}
use Rattle.by_value.proofs.Viewed.{is_named_lem, is_viewed}
use Rattle.card.proofs.commanded.carry_out.Goals as goal

pub answer_named-requires : goal.answer_named-requires
answer_named-requires g c = (rw (← c.ask-asked.ensures.command) at c.ask-asked.ensures.kind, c.in-Some.ensures.0, c.in-Some.ensures.1)

pub answer_view-requires : goal.answer_view-requires
answer_view-requires g c = (rw (← c.ask-asked.ensures.command) at c.ask-asked.ensures.kind, c.in-None.ensures.0)

pub returns-in-Some-clause-answered : goal.returns-in-Some-clause-answered
returns-in-Some-clause-answered g c =
    let s = c.args in
    let a = c.ask-asked.result in
    c.answer_named.ensures.answered (command s.bytes.now s.given.now (length s.answer.now))
    (is_named_lem s.bytes.now s.given.now (length s.answer.now) a.command a.kind (c.ask-asked.ensures.command ∙ c.command_in.ensures) (rw (← c.ask-asked.ensures.command) at c.ask-asked.ensures.kind) c.in-Some.ensures.0)

pub returns-in-None-clause-answered : goal.returns-in-None-clause-answered
returns-in-None-clause-answered g c =
    let s = c.args in
    let a = c.ask-asked.result in
    c.answer_view.ensures.answered (command s.bytes.now s.given.now (length s.answer.now))
    (is_viewed s.bytes.now s.given.now (length s.answer.now) a.command a.kind (c.ask-asked.ensures.command ∙ c.command_in.ensures) (rw (← c.ask-asked.ensures.command) at c.ask-asked.ensures.kind) c.in-None.ensures.0)

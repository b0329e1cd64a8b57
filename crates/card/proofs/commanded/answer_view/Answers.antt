use mathlib.Core.Path.{refl}
use Rattle.card.proofs.commanded.answer_view.Goals as goal

pub answer_turn-requires : goal.answer_turn-requires
answer_turn-requires g c = c.in-SetNotices.is

pub answer_notices-requires : goal.answer_notices-requires
answer_notices-requires g c = c.in-GetNotices.is

pub answer_aggregate-requires : goal.answer_aggregate-requires
answer_aggregate-requires g c = (c.in-ReadAggregate.is, rw c.in-ReadAggregate.is at c.requires.0)

pub answer_request-requires : goal.answer_request-requires
answer_request-requires g c = c.in-EventRequest.is

pub answer_identify-requires : goal.answer_identify-requires
answer_identify-requires g c = (c.in-Identify.is, rw c.in-Identify.is at c.requires.0)

pub returns-in-SetNotices-clause-answered : goal.returns-in-SetNotices-clause-answered
returns-in-SetNotices-clause-answered g c = rw c.in-SetNotices.is (λ i m. c.answer_turn.ensures.answered i _ refl m)

pub returns-in-GetNotices-clause-answered : goal.returns-in-GetNotices-clause-answered
returns-in-GetNotices-clause-answered g c = rw c.in-GetNotices.is (λ i m. c.answer_notices.ensures i _ refl m)

pub returns-in-ReadAggregate-clause-answered : goal.returns-in-ReadAggregate-clause-answered
returns-in-ReadAggregate-clause-answered g c = rw c.in-ReadAggregate.is c.answer_aggregate.ensures.answered

pub returns-in-EventRequest-clause-answered : goal.returns-in-EventRequest-clause-answered
returns-in-EventRequest-clause-answered g c = rw c.in-EventRequest.is (λ i m. c.answer_request.ensures.answered i c.args.given _ m)

pub returns-in-Identify-clause-answered : goal.returns-in-Identify-clause-answered
returns-in-Identify-clause-answered g c = rw c.in-Identify.is c.answer_identify.ensures

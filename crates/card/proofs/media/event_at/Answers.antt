use Rattle.std.proofs.Common.{rules, of_calls}
use Rattle.rules.specs.Rules.{read_event, write_event, excursion_event}
use Rattle.rules.proofs.Staying.{read_stays, write_stays, excursion_stays}
use Rattle.card.proofs.InPlace.{rule_stays}
use Rattle.card.proofs.media.event_at.Goals as goal

pub rule_at-requires-clause-stays : goal.rule_at-requires-clause-stays
rule_at-requires-clause-stays g c = let k = c.in-Reads.k in rule_stays _ (read_event k) (λ a s e p. search (rules, of_calls)) (read_stays k)

pub rule_at-requires-in-Writes-clause-stays : goal.rule_at-requires-in-Writes-clause-stays
rule_at-requires-in-Writes-clause-stays g c = let k = c.in-Writes.k in rule_stays _ (write_event k) (λ a s e p. search (rules, of_calls)) (write_stays k)

pub rule_at-requires-in-Excursion-clause-stays : goal.rule_at-requires-in-Excursion-clause-stays
rule_at-requires-in-Excursion-clause-stays g c = rule_stays _ excursion_event (λ a s e p. search (rules, of_calls)) excursion_stays

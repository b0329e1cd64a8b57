use Rattle.std.proofs.Common.{rules, of_calls}
use Rattle.rules.specs.Rules.{tick}
use Rattle.rules.proofs.Staying.{tick_stays}
use Rattle.card.proofs.InPlace.{rule_stays}
use Rattle.card.proofs.media.tick_at.Goals as goal

pub rule_at-requires-clause-stays : goal.rule_at-requires-clause-stays
rule_at-requires-clause-stays g c = rule_stays _ (tick c.args.t) (λ a s e p. search (rules, of_calls)) (tick_stays c.args.t)

use mathlib.Core.Path.{ap, ◌∙◌}
use Rattle.replies.specs.declared.Refusal.{Refusal}
use Rattle.replies.specs.declared.Refusal.TheVariants.{InvalidField}
use Rattle.std.specs.Option.{unwrap_or}
use Rattle.std.specs.Prelude.{Option}
use Rattle.commands.proofs.Stacked.{unknown}
use Rattle.commands.proofs.status_table.unknown_refusal.Goals as goal

pub returns : goal.returns
returns c = unknown c.args.asked.command c.args.asked.early c.args.asked.is_early _ (c.unwrap_or.ensures ∙ ap (λ (o : Option Refusal). unwrap_or o InvalidField) c.err.ensures.value)

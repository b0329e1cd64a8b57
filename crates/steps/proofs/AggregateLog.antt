-- Demand 3 of page 0Bh: the only law on demand 3 that looks at an item.
use mathlib.Core.Path.{refl}
use mathlib.Core.List.{List}
use Prim.Native.Nat.{ℕ, ◌*◌}
use Rattle.octets.specs.Octets.{padded}
use Rattle.replies.specs.Answers.{Answer, granted}
use Rattle.pages.specs.Aggregate.{aggregate_page}
use Rattle.commands.specs.declared.Kind.TheVariants.{ReadAggregate}
use Rattle.steps.specs.Items.{command}
use Rattle.commands.specs.Commands.{command_in, offset, dwords}
use Rattle.steps.specs.Demands.{AggregateLog}
use Rattle.steps.proofs.CommandIs.{command_is}
use Rattle.steps.proofs.OwnHistory.{aggregate}

pub aggregate_log : AggregateLog
aggregate_log c is bytes given room k h =
    let page : List ℕ → Answer = λ (ids : List ℕ). granted 0 (padded (aggregate_page ids) (offset (command_in bytes)) (dwords (command_in bytes) * 4)) in
    aggregate c is (command bytes given room) _ page (command_is bytes given room ReadAggregate k) (λ d. refl) h

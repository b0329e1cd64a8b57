-- A command means what its kind says: the one law on the meaning of a command.
use mathlib.Core.Path.{◌≡◌, ap}
use mathlib.Core.List.{List}
use Prim.Native.Nat.{ℕ}
use Rattle.commands.specs.declared.Kind.{Kind}
use Rattle.commands.specs.Commands.{command_in}
use Rattle.commands.specs.Shapes.{kind_of}
use Rattle.steps.specs.Items.{command}
use Rattle.steps.specs.Commanded.{meaning_by, command_meaning}
use Rattle.steps.specs.Meanings.{meaning}

pub command_is : (bytes given : List ℕ) (room : ℕ) (k : Kind) → kind_of (command_in bytes) ≡ k → meaning (command bytes given room) ≡ meaning_by k (command_in bytes) given room
unfolding meaning command_meaning
command_is bytes given room k e = ap (λ (x : Kind). meaning_by x (command_in bytes) given room) e

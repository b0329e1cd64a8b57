use mathlib.Core.Path.{◌≡◌}
use mathlib.Core.Bool.{Bool}
use mathlib.Core.List.{List}
use Prim.Native.Nat.{ℕ, ◌-◌, ◌≤◌}
use lib.ListN.{length}
use Rattle.tape.specs.Pieces.{player, turns, most_turns}
use Rattle.tape.specs.declared.Progress.{Progress}
use Rattle.tape.proofs.pieces.play_on.Given as goal

-- the tape is within the piece and the buffer, and what is left to do of the turns is what was
pub record Inv (table₀ bodies₀ out₀ piece : List ℕ) (last : Bool) (g₀ : Progress) (table bodies out : List ℕ) (g : Progress) (k : ℕ) : Type 0 where
  pub table_length : length table ≡ length table₀
  pub out_length : length out ≡ length out₀
  pub used : g.used ≤ length piece
  pub len : g.len ≤ length out
  pub left : turns k piece last (player g table bodies out) ≡ turns most_turns piece last (player g₀ table₀ bodies₀ out₀)

abbrev pub invariant-loop : goal.invariant-loop
invariant-loop l = Inv l.initial.table l.initial.bodies l.initial.out l.piece l.last l.initial.g l.table l.bodies l.out l.g (most_turns - l.counter)

use mathlib.Core.Path.{◌≡◌}
use Prim.Native.Nat.{ℕ}
use lib.ListN.{drop}
use Rattle.replies.specs.Status.{first_of, lines_of}
use Rattle.replies.proofs.first.Given as goal

abbrev pub invariant-loop-holds : goal.invariant-loop-holds
invariant-loop-holds g l =
    (number_of : g.row.R.Denot → ℕ) → first_of (lines_of number_of (drop l.holds-index l.rows)) ≡ first_of (lines_of number_of l.rows)

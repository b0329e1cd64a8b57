use mathlib.Core.Path.{◌≡◌}
use Prim.Native.Nat.{◌≤◌}
use lib.ListN.{length}
use lib.Seq.{sets}
use Rattle.tape.specs.Text.{digits_of}
use Rattle.tape.proofs.text.put_digits.Given as goal

abbrev pub invariant-loop-left : goal.invariant-loop-left
invariant-loop-left l = (l.left ≤ l.width) × (length l.out ≡ length l.initial.out) × (sets l.out l.at (digits_of l.base l.left l.rest) ≡ sets l.initial.out l.at (digits_of l.base l.width l.v))

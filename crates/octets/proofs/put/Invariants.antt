use mathlib.Core.Path.{◌≡◌}
use Prim.Native.Nat.{◌-◌}
use lib.ListN.{length}
use lib.Seq.{sets}
use Rattle.octets.specs.Octets.{bytes_of}
use Rattle.octets.proofs.put.Given as goal

abbrev pub invariant-loop-byte : goal.invariant-loop-byte
invariant-loop-byte l = (length l.byte-items ≡ l.width) × (sets l.byte-items l.byte-index (bytes_of (l.width - l.byte-index) l.rest) ≡ bytes_of l.width l.v)

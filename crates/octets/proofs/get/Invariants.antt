use mathlib.Core.Path.{◌≡◌}
use Prim.Native.Nat.{◌+◌, ◌-◌, ◌^◌, ◌<◌}
use Rattle.octets.specs.Octets.{number_of, part}
use Rattle.octets.proofs.get.Given as goal

abbrev pub invariant-loop-i : goal.invariant-loop-i
invariant-loop-i l = (l.x ≡ number_of (part l.buf (l.at + l.i) (l.width - l.i))) × (l.x < 256 ^ (l.width - l.i))

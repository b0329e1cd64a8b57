use mathlib.Core.Path.{◌≡◌}
use Prim.Native.Nat.{◌-◌, ◌*◌}
use Rattle.pages.specs.Bodies.{body_size}
use Rattle.steps.specs.SetUp.{attributes_from}
use Rattle.by_value.proofs.Bodies.{legal_from}
use Rattle.by_value.proofs.set_up.bodies_legal.Given as goal

abbrev pub invariant-loop-i : goal.invariant-loop-i
invariant-loop-i l = legal_from l.before (attributes_from l.bytes (l.i * body_size) (l.n - l.i)) ≡ legal_from 0 (attributes_from l.bytes 0 l.n)

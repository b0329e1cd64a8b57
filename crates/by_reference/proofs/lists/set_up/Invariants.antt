use lib.ListN.{length}
use Rattle.by_reference.proofs.Filled.{Filled}
use Rattle.by_reference.proofs.lists.set_up.Given as goal

abbrev pub invariant-loop-i : goal.invariant-loop-i
invariant-loop-i l = Filled (length l.initial.buffer) l.list l.i l.buffer

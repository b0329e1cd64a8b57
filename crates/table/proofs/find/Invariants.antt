use Rattle.table.proofs.Search.{Searching}
use Rattle.table.proofs.find.Given as goal

abbrev pub invariant-loop-left : goal.invariant-loop-left
invariant-loop-left g l = Searching (g.C.Cell.words l.table) l.want l.«from» l.left l.looks

abbrev pub decreases-loop-left : goal.decreases-loop-left
decreases-loop-left g l = l.looks

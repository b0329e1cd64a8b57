use Prim.Native.Nat.{◌≤◌}
use Rattle.table.specs.Table.{count}
use Rattle.table.proofs.Turns.{Gathered}
use Rattle.table.proofs.listed_word.Given as goal

abbrev pub invariant-loop-i : goal.invariant-loop-i
invariant-loop-i g l =
    let ws = g.C.Cell.words l.table in
    (l.i ≤ count ws) × Gathered ws (count ws) l.i l.word

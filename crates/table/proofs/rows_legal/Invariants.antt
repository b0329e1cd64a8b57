use mathlib.Core.Path.{◌≡◌}
use Prim.Native.Nat.{◌-◌, ◌≤◌}
use Rattle.table.specs.Table.{rows, rows_from, legal_rows}
use Rattle.table.proofs.rows_legal.Given as goal

abbrev pub invariant-loop-i : goal.invariant-loop-i
invariant-loop-i g l =
    (l.i ≤ l.n) × (legal_rows l.before (rows_from (g.C.Cell.words l.table) l.i (l.n - l.i)) ≡ legal_rows 0 (rows (g.C.Cell.words l.table)))

use mathlib.Core.Path.{◌≡◌}
use mathlib.Core.List.{map}
use Prim.Native.Nat.{◌*◌}
use lib.ListN.{length}
use Rattle.table.specs.Table.{written_rows}
use Rattle.pages.specs.Bodies.{body_size}
use Rattle.steps.specs.SetUp.{attributes_from}
use Rattle.by_value.specs.SetUp.{kept_record}
use Rattle.by_value.proofs.Bodies.{rows_left}
use Rattle.card.proofs.set_up.write_rows.Given as goal

abbrev pub invariant-loop-i : goal.invariant-loop-i
invariant-loop-i g l =
    (length (g.C.Cell.words l.table) ≡ length (g.C.Cell.words l.initial.table)) × (g.C.Cell.rest l.table ≡ g.C.Cell.rest l.initial.table)
    × (rows_left (g.C.Cell.words l.table) l.bytes l.n l.i (l.i * body_size) ≡ written_rows (g.C.Cell.words l.initial.table) (map kept_record (attributes_from l.bytes 0 l.n)))

use mathlib.Core.Path.{◌≡◌, refl}
use lib.ListN.{length}
use Rattle.table.specs.Table.{count}
use Rattle.by_value.proofs.WholeCard.{Going}
use Rattle.card.proofs.views.show_all.Given as goal

abbrev pub invariant-loop-i : goal.invariant-loop-i
invariant-loop-i g l =
    (length l.page ≡ length l.initial.page) × Going l.initial.page (g.C.Cell.words l.table) l.«from».0 (count (g.C.Cell.words l.table)) refl l.page l.to l.i

use mathlib.Core.Path.{◌≡◌}
use Rattle.by_value.specs.Ticks.{tick_one}
use Rattle.card.proofs.Ticking.{Ticking}
use Rattle.card.proofs.media.tick_all.Given as goal

abbrev pub invariant-loop-i : goal.invariant-loop-i
invariant-loop-i g l =
    Ticking (tick_one l.t) (g.C.Cell.words l.initial.table) l.n (g.C.Cell.words l.table) l.i l.new × (g.C.Cell.rest l.table ≡ g.C.Cell.rest l.initial.table)

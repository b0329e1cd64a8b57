use mathlib.Core.Path.{sym, ◌∙◌}
use Rattle.table.specs.Table.{legal_table}
use Rattle.table.proofs.legal.Goals as goal
use Rattle.table.proofs.legal.Goals.{then-fits, else-fits}

pub returns-then-legal : goal.returns-then-legal
unfolding legal_table
returns-then-legal g c =
    elim c.if-fits.branch [
      | then-fits w ↦ rw (← c.fits.ensures, w.if-fits.true, ← w.desk_of.ensures, ← w.legal.ensures, ← w.value-is, c.if-legal.true) c.rows_legal.ensures
      | else-fits w ↦ cc
    ]

pub returns-else-legal : goal.returns-else-legal
unfolding legal_table
returns-else-legal g c =
    c.if-legal.false
    ∙ elim c.if-fits.branch [
      | then-fits w ↦ rw (← c.fits.ensures, w.if-fits.true, ← w.desk_of.ensures, ← w.legal.ensures, sym w.value-is ∙ c.if-legal.false)
      | else-fits w ↦ rw (← c.fits.ensures, w.if-fits.false)
    ]

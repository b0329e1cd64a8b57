use Rattle.table.specs.Layout.{record_of}
use Rattle.table.proofs.layout.record_of.Goals as goal

pub returns : goal.returns
unfolding record_of
returns c = simp (c.notes_at-notes.ensures, c.state_at-state.ensures, c.attributes_at-attributes.ensures)

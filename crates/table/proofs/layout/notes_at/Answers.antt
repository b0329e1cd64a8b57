use Rattle.table.proofs.layout.notes_at.Goals as goal

pub returns : goal.returns
returns c = simp c.from_bits_truncate-events.ensures

use Rattle.table.proofs.legal_words.statics_legal.Goals as goal

pub returns : goal.returns
returns c = simp (c.in_range-low.ensures, c.in_range-high.ensures, c.in_range-time.ensures, c.in_range-writes.ensures, c.in_range-reads.ensures, c.capacities_legal-capacities.ensures, c.in_range-group.ensures, c.in_range-id.ensures)

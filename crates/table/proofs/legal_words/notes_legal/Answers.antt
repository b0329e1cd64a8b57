use Rattle.table.proofs.LegalWords.{marked}
use Rattle.table.proofs.legal_words.notes_legal.Goals as goal

pub returns : goal.returns
returns c = simp (marked, c.limit_in-most.ensures, c.within_bits-events.ensures)

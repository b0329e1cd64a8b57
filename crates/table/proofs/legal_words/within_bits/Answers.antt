use Rattle.record.proofs.EventBits.{masked}
use Rattle.table.proofs.legal_words.within_bits.Goals as goal

pub returns : goal.returns
returns c = simp (c.from.ensures.0, c.from_bits_truncate.ensures, masked)

use mathlib.Core.Bool.{◌&&◌}
use lib.Dec.{leb, ltb}
use Rattle.table.specs.LegalWords.{word, within_bits, in_d, in_n, zero_outside}
use Rattle.table.proofs.LegalWords.{at_most, below, recovery_tested}
use Rattle.table.proofs.legal_words.changing_legal.Goals as goal

pub returns : goal.returns
returns c =
    let a = c.args.a in
    let others =
    within_bits (word a 13) && leb (word a 17) 2
    && zero_outside (in_d a) (leb (word a 18) (word a 8)) (word a 18)
    && zero_outside (in_d a) (leb (word a 19) (word a 9)) (word a 19)
    && zero_outside (in_d a) (ltb (word a 20) (word a 10)) (word a 20) in
    simp (at_most, below, c.limit_in-low.ensures, c.limit_in-high.ensures, c.limit_in-time.ensures, c.limit_in-writes.ensures, c.limit_in-reads.ensures, c.within_bits-enev.ensures)
    (recovery_tested others (in_n a) (word a 21) (word a 22) (word a 12) (leb (word a 22) (word a 11)))

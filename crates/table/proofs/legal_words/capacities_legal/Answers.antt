use Rattle.table.specs.LegalWords.{word}
use Rattle.table.proofs.LegalWords.{above_same, above_other}
use Rattle.table.proofs.legal_words.capacities_legal.Goals as goal

pub returns-then-a : goal.returns-then-a
returns-then-a c = let a = c.args.a in above_same (word a 7) (word a 5) (word a 6) (word a 4) c.if-a.true

pub returns-else-a : goal.returns-else-a
returns-else-a c = let a = c.args.a in above_other (word a 7) (word a 5) (word a 6) (word a 4) c.if-a.false

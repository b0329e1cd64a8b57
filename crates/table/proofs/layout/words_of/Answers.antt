use Rattle.table.specs.Layout.{words_of}
use Rattle.table.proofs.layout.words_of.Goals as goal

pub returns : goal.returns
unfolding words_of
returns c = c.field_words.ensures

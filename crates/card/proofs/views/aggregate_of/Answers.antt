use Rattle.by_value.proofs.WholeCard.{aggregate_is}
use Rattle.card.proofs.views.aggregate_of.Goals as goal

pub returns : goal.returns
returns g c = aggregate_is (g.C.Cell.words c.args.table.now) c.requires _ c.listed_word-word.ensures _ _ c.count_page-p.ensures c.list_all.ensures

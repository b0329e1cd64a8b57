-- The number of ones is all that is put on a page of zeros.
use Rattle.pages.proofs.Listed.{counted}
use Rattle.pages.proofs.aggregate.count_page.Goals as goal

pub returns : goal.returns
returns c = counted c.put.new.page c.count_of.result c.args.word c.put.ensures c.count_of.ensures

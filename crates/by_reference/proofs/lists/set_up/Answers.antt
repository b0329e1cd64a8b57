use borrow.Author.Rules.{rules}
use lib.Dec.{lit<}
use Rattle.by_reference.proofs.Filled.{filled_more, set_up_all}
use Rattle.by_reference.proofs.lists.set_up.Goals as goal

pub loop-i-preserved : goal.loop-i-preserved
loop-i-preserved c =
    let l = c.loop-i in
    filled_more _ c.args.list.now l.i l.buffer l.invariant c.loop-i-test.true c.put_body.new.bytes (search rules) c.put_body.ensures

pub returns : goal.returns
returns c =
    let l = c.loop-i in
    set_up_all _ (lit< tt) c.args.list.now l.i l.buffer l.invariant c.loop-i-test.false _ _ _ c.set_up_from.ensures

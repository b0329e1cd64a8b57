use borrow.Author.Rules.{rules}
use Rattle.by_value.proofs.WholeCard.{listing_start, listing_row, listing_room, listing_on, listing_end}
use Rattle.card.proofs.views.list_all.Goals as goal

pub loop-left-init : goal.loop-left-init
loop-left-init g c = listing_start (g.C.Cell.words c.args.table.now) c.requires.0 c.args.word c.requires.1 c.args.page.now c.requires.2

pub put_next-requires : goal.put_next-requires
put_next-requires g c =
    let l = c.loop-left in
    (listing_row (g.C.Cell.words c.args.table.now) c.requires.0 c.args.word c.requires.1 c.args.page.now l.page l.left l.to c.loop-left-test.true l.invariant, listing_room (g.C.Cell.words c.args.table.now) c.requires.0 c.args.word c.requires.1 c.args.page.now l.page l.left l.to c.loop-left-test.true l.invariant)

pub loop-left-preserved : goal.loop-left-preserved
loop-left-preserved g c =
    let l = c.loop-left in
    listing_on (g.C.Cell.words c.args.table.now) c.requires.0 c.args.word c.requires.1 c.args.page.now l.page l.left l.to c.loop-left-test.true l.invariant _ _ c.clear_lowest-left.ensures c.put_next.ensures

pub returns : goal.returns
returns g c =
    let l = c.loop-left in
    listing_end (g.C.Cell.words c.args.table.now) c.requires.0 c.args.word c.requires.1 c.args.page.now l.page l.left l.to (search rules) l.invariant

use borrow.Author.Rules.{rules}
use Rattle.table.proofs.Turns.{legal_stop, legal_again}
use Rattle.table.proofs.rows_legal.Goals as goal

pub returns-then-not-follows : goal.returns-then-not-follows
returns-then-not-follows g c =
    let l = c.loop-i in
    legal_stop _ _ l.i _ _ l.invariant.1 _ _ c.loop-i-test.true c.fetch-a.ensures c.follows.ensures c.if-not-follows.true

pub loop-i-preserved : goal.loop-i-preserved
loop-i-preserved g c =
    let l = c.loop-i in (
      search rules,
      rw c.id_in-before.ensures
          (legal_again _ _ l.i _ _ l.invariant.1 _ _ c.loop-i-test.true c.fetch-a.ensures c.follows.ensures c.if-not-follows.false),
    )

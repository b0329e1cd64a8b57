use Rattle.card_c.proofs.InBytes.{answered_at_c}
use Rattle.card_c.proofs.card_reads.Goals as goal

pub returns : goal.returns
returns c = let r = c.event-r in answered_at_c c.args.table.now _ (λ i. (c.type_inv.table i).fits) r.auto.table r.ensures.rest _ _ _ _ _ _ r.ensures.answered c.put_reply.ensures

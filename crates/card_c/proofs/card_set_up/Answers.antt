use Rattle.card_c.proofs.InBytes.{set_up_at_c}
use Rattle.card_c.proofs.card_set_up.Goals as goal

pub returns : goal.returns
returns c = let r = c.set_up in set_up_at_c c.args.table.now _ (λ i. (c.type_inv.table i).fits) r.auto.table r.ensures.rest _ _ r.ensures.done

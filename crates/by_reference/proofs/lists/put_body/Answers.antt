use Rattle.by_reference.proofs.Filled.{body_put, body_left}
use Rattle.by_reference.proofs.lists.put_body.Goals as goal

pub returns-then-i-bytes : goal.returns-then-i-bytes
returns-then-i-bytes c = body_put _ _ _ _ _ c.if-i-bytes.true c.body_of-body.ensures c.copy_part.ensures

pub returns-else-i-bytes : goal.returns-else-i-bytes
returns-else-i-bytes c = body_left _ _ _ c.if-i-bytes.false

use native.Mathlib.Omega.{arith}
use Rattle.table.proofs.Desks.{count_waiting, queued_tells}
use Rattle.table.proofs.queue.Goals as goal

pub queue_and_settle-s-requires : goal.queue_and_settle-s-requires
queue_and_settle-s-requires g c = rw c.desk_of.ensures (omega (arith, count_waiting (g.C.Cell.words c.args.table.now) c.requires.0, c.requires.1))

pub returns-clause-desk : goal.returns-clause-desk
returns-clause-desk g c = queued_tells _ c.requires.0 _ c.desk_of.ensures _ _ c.put_desk.ensures.words c.args.id c.requires.1 (omega (arith, c.ranges)) c.queue_and_settle-s.ensures

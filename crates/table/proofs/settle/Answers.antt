use Rattle.table.proofs.Desks.{settled_tells, quiet_tells}
use Rattle.table.proofs.settle.Goals as goal

pub returns-then-new-clause-desk : goal.returns-then-new-clause-desk
returns-then-new-clause-desk g c = rw c.if-new.true (settled_tells _ c.requires _ c.desk_of.ensures _ _ c.put_desk.ensures.words _ c.settle-s.ensures)

pub returns-clause-desk : goal.returns-clause-desk
returns-clause-desk g c = rw c.if-new.false (quiet_tells _ c.requires)

use Rattle.table.proofs.Desks.{turned_tells}
use Rattle.table.proofs.turn.Goals as goal

pub returns-clause-desk : goal.returns-clause-desk
returns-clause-desk g c = turned_tells _ c.requires _ c.desk_of.ensures _ _ c.put_desk.ensures.words _ c.turn_and_settle-s.ensures

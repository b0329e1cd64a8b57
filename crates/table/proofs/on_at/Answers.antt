use mathlib.Core.Path.{◌∙◌}
use Rattle.table.proofs.Desks.{on_desk}
use Rattle.table.proofs.on_at.Goals as goal

pub returns : goal.returns
returns g c = (rw c.desk_of.ensures at c.is_on.ensures) ∙ on_desk (g.C.Cell.words c.args.table.now) c.requires

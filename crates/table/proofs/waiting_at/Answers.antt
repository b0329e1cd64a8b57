use mathlib.Core.Path.{◌∙◌}
use Rattle.table.proofs.Desks.{count_waiting}
use Rattle.table.proofs.waiting_at.Goals as goal

pub returns : goal.returns
returns g c = (rw c.desk_of.ensures at c.waiting.ensures) ∙ count_waiting (g.C.Cell.words c.args.table.now) c.requires

use mathlib.Core.Path.{sym}
use Rattle.octets.proofs.CellWords.{length_all}
use Rattle.octets.proofs.cells.U8Cell.room.Goals as goal

pub returns : goal.returns
returns c = sym (length_all c.args.cells.now)

use mathlib.Core.Path.{refl}
use Rattle.table.specs.Layout.{record_of}
use Rattle.table.proofs.layout.id_in.Goals as goal

pub returns : goal.returns
unfolding record_of
returns c = refl

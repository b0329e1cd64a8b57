use mathlib.Core.Path.{ap, ◌∙◌}
use Prim.Native.Nat.{ℕ}
use mathlib.Core.List.{List}
use lib.Seq.{sets}
use Rattle.table.specs.Card.{desk_start}
use Rattle.table.proofs.Desks.{lifted_there}
use Rattle.table.proofs.lift.Goals as goal

pub returns-clause-desk : goal.returns-clause-desk
returns-clause-desk g c = lifted_there (g.C.Cell.words c.args.table.now) c.requires _ _ c.desk_of.ensures (c.put_desk.ensures.words ∙ ap (λ (x : List ℕ). sets (g.C.Cell.words c.args.table.now) desk_start x) c.lift.ensures)

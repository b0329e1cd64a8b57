use mathlib.Core.Path.{ap, ◌∙◌}
use Prim.Native.Nat.{ℕ, ◌%◌, ◌^◌}
use Rattle.table.proofs.Turns.{id_of_lem}
use Rattle.table.proofs.id_of.Goals as goal

pub returns : goal.returns
returns g c = ap (λ (n : ℕ). n % 2 ^ 16) c.id_at.ensures ∙ id_of_lem (g.C.Cell.words c.args.table.now) c.args.slot.0

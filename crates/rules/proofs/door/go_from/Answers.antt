use mathlib.Core.Path.{sym, ◌∙◌}
use Rattle.rules.specs.Door.{going}
use Rattle.rules.proofs.door.go_from.Goals as goal

pub is_staying-requires : goal.is_staying-requires
unfolding going
is_staying-requires c = c.moved-next.ensures

pub returns-then-is_staying : goal.returns-then-is_staying
unfolding going
returns-then-is_staying c =
    let e = sym c.is_staying.ensures ∙ c.if-is_staying.true in
    simp (c.requires, e)

pub returns-else-is_staying : goal.returns-else-is_staying
unfolding going
returns-else-is_staying c =
    let e = sym c.is_staying.ensures ∙ c.if-is_staying.false in
    simp (c.start.ensures, c.moved-next.ensures, c.requires, e)

use mathlib.Core.Path.{sym, ap, ◌∙◌}
use Prim.Native.Nat.{ℕ, ◌-◌}
use native.Mathlib.Omega.{arith}
use lib.Dec.{lit≤}
use Rattle.table.specs.Table.{find_in}
use Rattle.table.proofs.Search.{not_below, search_all, number_inside, search_number, search_here, middle_inside, search_up, search_down, search_nowhere, search_zero}
use Rattle.table.proofs.find.Goals as goal
use Rattle.table.proofs.find.Goals.{then-identifier-sets+else-id_at-want, else-identifier-sets}

pub returns-then-id-eq0 : goal.returns-then-id-eq0
returns-then-id-eq0 g c = rw c.if-id-eq0.true (search_zero _ c.requires)

pub returns-then-id_at-want : goal.returns-then-id_at-want
returns-then-id_at-want g c =
    let e = c.from-identifier.ensures in
    let inside = number_inside _ c.requires _ _ c.count_of-sets.ensures c.if-id-eq0.false (rw e at c.if-identifier-sets.true) in
    rw e (search_here _ c.requires _ _ inside (sym (rw e at c.id_at.ensures) ∙ c.if-id_at-want.true ∙ c.from-want.ensures))

pub loop-left-init : goal.loop-left-init
loop-left-init g c =
    let e = c.from-identifier.ensures in
    elim c.if-identifier-sets.branch [
      | then-identifier-sets+else-id_at-want w ↦
          rw (w.looks-is, w.left-is, c.from-want.ensures)
          (search_number _ c.requires _ _ c.count_of-sets.ensures c.if-id-eq0.false (rw e at w.if-identifier-sets.true) _ _ (ap (λ (n : ℕ). n - 1) e)
          (λ q. w.if-id_at-want.false ((rw e at w.id_at.ensures) ∙ q ∙ sym c.from-want.ensures)) (lit≤ tt))
      | else-identifier-sets w ↦ rw (w.looks-is, w.left-is) (search_all _ c.requires _ _ _ c.count_of-sets.ensures (lit≤ tt))
    ]

pub returns-then-here-want : goal.returns-then-here-want
returns-then-here-want g c =
    search_here _ c.requires _ _ (omega (arith, middle_inside _ c.requires _ _ _ _ c.loop-left.invariant (omega (arith, c.loop-left-test.true)))) (sym c.id_at-here.ensures ∙ c.if-here-want.true)
    ∙ ap (find_in (g.C.Cell.words c.args.table.now)) c.from-want.ensures

pub loop-left-preserved-then-here-want-2 : goal.loop-left-preserved-then-here-want-2
loop-left-preserved-then-here-want-2 g c = search_up _ c.requires _ _ _ _ c.loop-left.invariant (omega (arith, c.loop-left-test.true)) (rw c.id_at-here.ensures at c.if-here-want-2.true)

pub loop-left-preserved : goal.loop-left-preserved
loop-left-preserved g c =
    search_down _ c.requires _ _ _ _ c.loop-left.invariant (omega (arith, c.loop-left-test.true))
    (rw c.id_at-here.ensures at (not_below c.if-here-want.false c.if-here-want-2.false))

pub returns : goal.returns
returns g c =
    search_nowhere _ c.requires _ _ _ _ c.loop-left.invariant c.loop-left-test.false ∙ ap (find_in (g.C.Cell.words c.args.table.now)) c.from-want.ensures

use mathlib.Core.Path.{◌≡◌, refl}
use mathlib.Core.Bool.{true, false}
use Prim.Native.Nat.{ℕ, ◌<◌, ◌≤◌}
use borrow.Author.Tests.{lt-ltb, le-ltb}
use borrow.Author.Rules.{rules}
use Rattle.pages.specs.Identify.{identify_size}
use Rattle.by_value.proofs.WholeCard.{goes_on, going_start, going_on, going_end}
use Rattle.card.proofs.views.show_all.Goals as goal

goes : (n i to : ℕ) → i < n → to < identify_size → goes_on n i to ≡ true
goes n i to h t = rw (lt-ltb i n h, lt-ltb to identify_size t)

over : (n i to : ℕ) → n ≤ i → goes_on n i to ≡ false
over n i to h = rw (le-ltb i n h)

pub loop-i-init : goal.loop-i-init
loop-i-init g c = (refl, going_start c.args.page.now (g.C.Cell.words c.args.table.now) c.args.from.0 _ refl)

pub loop-i-preserved : goal.loop-i-preserved
loop-i-preserved g c =
    let l = c.loop-i in
    let h = rw c.count_of-i-end.ensures at c.loop-i-test.true in
    (search rules, going_on c.args.page.now (g.C.Cell.words c.args.table.now) c.args.from.0 _ refl l.page l.to l.i (goes _ l.i l.to h c.if-is_full.false) l.invariant.1 _ _ c.show_slot-to.ensures)

pub returns : goal.returns
returns g c =
    let l = c.loop-i in
    going_end c.args.page.now (g.C.Cell.words c.args.table.now) c.args.from.0 _ refl l.page l.to l.i (over _ l.i l.to (rw c.count_of-i-end.ensures at c.loop-i-test.false)) l.invariant.1

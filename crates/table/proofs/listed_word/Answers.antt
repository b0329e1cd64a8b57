use mathlib.Core.Path.{◌≡◌, refl, ◌∙◌}
use Prim.Native.Nat.{◌-◌}
use native.Mathlib.Omega.{arith}
use borrow.Author.Rules.{rules}
use Rattle.table.proofs.Turns.{gathered_down, gathered_fits, later_all}
use Rattle.table.proofs.listed_word.Goals as goal

pub overflow_add-word : goal.overflow_add-word
overflow_add-word g c =
    let l = c.loop-i in
    let ws = g.C.Cell.words c.args.table.now in
    omega (arith, c.word.ensures, gathered_fits ws c.requires (l.i - 1) _ 0 (omega arith) (gathered_down ws c.requires l.i l.word c.loop-i-test.true l.invariant.0 l.invariant.1))

pub loop-i-preserved : goal.loop-i-preserved
loop-i-preserved g c =
    let l = c.loop-i in
    (search rules, rw c.word.ensures (gathered_down (g.C.Cell.words c.args.table.now) c.requires l.i l.word c.loop-i-test.true l.invariant.0 l.invariant.1))

pub returns : goal.returns
returns g c =
    let l = c.loop-i in
    let e : l.i ≡ 0 = omega arith in
    l.invariant.1.is ∙ rw (e, later_all _ _ refl)

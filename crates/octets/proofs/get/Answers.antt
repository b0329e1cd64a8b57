use mathlib.Core.Path.{◌≡◌}
use Prim.Native.Nat.{suc, ◌-◌}
use native.Mathlib.Omega.{arith}
use native.Mathlib.Nat.{lt_of_le_of_lt, le-add_right}
use borrow.Author.Rules.{rules}
use lib.Dec.{lit<}
use Rattle.octets.proofs.Turns.{get_turn, more, in_word}
use Rattle.octets.proofs.get.Goals as goal

pub overflow_mul-x : goal.overflow_mul-x
overflow_mul-x c = let l = c.loop-i in record { fits = lt_of_le_of_lt (le-add_right _ 0) (in_word _ _ (more _ l.x 0 l.invariant.1 (lit< tt)) (omega arith)) }

pub overflow_add-x : goal.overflow_add-x
overflow_add-x c = let l = c.loop-i in record { fits = in_word _ _ (more _ l.x c.from.result l.invariant.1 (search rules)) (omega arith) }

pub loop-i-preserved : goal.loop-i-preserved
loop-i-preserved c =
    let l = c.loop-i in
    let n = c.args.width - l.i in
    let e : c.args.width - (l.i - 1) ≡ suc n = omega arith in (
      rw (e, l.invariant.0, c.from.ensures) (get_turn c.args.buf.now c.args.at l.i n (omega arith) (omega arith)),
      rw e (more _ l.x c.from.result l.invariant.1 (search rules)),
    )

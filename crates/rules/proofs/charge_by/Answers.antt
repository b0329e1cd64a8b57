use mathlib.Core.Path.{sym, ◌∙◌}
use Prim.Native.Nat.{◌+◌}
use native.Mathlib.Omega.{arith}
use Rattle.rules.proofs.Over.{not_over}
use Rattle.rules.proofs.charge_by.Goals as goal

pub overflow_cast-n : goal.overflow_cast-n
overflow_cast-n c =
    let l = not_over c.args.q c.from-most.result (c.from-count.result + c.from.result) (sym c.is_over.ensures ∙ c.if-is_over.false) in
    record { fits = omega arith }

pub returns-then-is_over : goal.returns-then-is_over
returns-then-is_over c =
    let n = c.from-count.ensures ∙ c.of.ensures in
    let m = c.from-most.ensures ∙ c.limit.ensures in
    let k = c.from.ensures in
    let o = rw (m, n, k) at (sym c.is_over.ensures ∙ c.if-is_over.true) in
    simp (c.note.ensures, c.and_exceeded.ensures, c.leave_d.ensures, c.warning-low.ensures, c.warns-warns.ensures, c.saturating_sub-2.ensures, c.saturating_sub.ensures, n, m, k, o)

pub returns-else-is_over : goal.returns-else-is_over
returns-else-is_over c =
    let n = c.from-count.ensures ∙ c.of.ensures in
    let m = c.from-most.ensures ∙ c.limit.ensures in
    let k = c.from.ensures in
    let o = rw (m, n, k) at (sym c.is_over.ensures ∙ c.if-is_over.false) in
    simp (c.note-else-is_over.ensures, c.with_spent.ensures, c.warning-low.ensures, c.warns-warns.ensures, c.saturating_sub-2.ensures, c.saturating_sub.ensures, n, m, k, o)

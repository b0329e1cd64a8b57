use native.Mathlib.Omega.{arith}
use mathlib.Core.Path.{refl}
use Rattle.replies.proofs.Refusals.{no_success}
use Rattle.steps.proofs.NewSets.{well}
use Rattle.by_value.proofs.Bodies.{set_up_refused, set_up_done, headed_length, headed_rows}
use Rattle.card.proofs.set_up.set_up.Goals as goal

pub returns-in-Err-clause-done : goal.returns-in-Err-clause-done
returns-in-Err-clause-done g c = rw c.from.ensures (set_up_refused _ _ _ (rw c.room.ensures at c.in-Err.ensures) (no_success c.in-Err.refusal))

pub write-requires : goal.write-requires
write-requires g c =
    let w = well _ _ _ (rw c.room.ensures at c.in_default.ensures) refl in
    omega (arith, w.room)

pub write_rows-requires : goal.write_rows-requires
write_rows-requires g c =
    let a = c.args in
    let w = well _ _ _ (rw c.room.ensures at c.in_default.ensures) refl in
    let l = headed_length a.bytes.now (g.C.Cell.words a.table.now) _ c.write.ensures.words in
    (w.whole, omega (arith, w.room, l))

pub returns-clause-done : goal.returns-clause-done
returns-clause-done g c =
    let e = rw c.room.ensures at c.in_default.ensures in
    set_up_done _ _ _ e refl _ (headed_rows _ _ _ _ (well _ _ _ e refl).legal c.write.ensures.words c.write_rows.ensures.words)

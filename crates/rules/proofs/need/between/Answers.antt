use mathlib.Core.Path.{◌≡◌}
use Prim.Native.Nat.{◌*◌, ◌-◌}
use native.Mathlib.Omega.{arith}
use Rattle.rules.specs.Need.{up_by}
use Rattle.rules.proofs.Needs.{up_most, up_is}
use Rattle.rules.proofs.need.between.Goals as goal

quotient : (c : goal.After-div_ceil) → c.div_ceil.result ≡ up_by ((c.args.high - c.args.low) * c.args.n) c.args.most
quotient c =
    let s = c.args in
    let u = up_is ((s.high - s.low) * s.n) s.most (omega arith) in
    cc

pub overflow_add-result : goal.overflow_add-result
overflow_add-result c =
    let s = c.args in
    let l = up_most (s.high - s.low) s.n s.most (omega arith) (omega arith) in
    record { fits = omega (arith, quotient c) }

pub overflow_cast-result : goal.overflow_cast-result
overflow_cast-result c =
    let s = c.args in
    let l = up_most (s.high - s.low) s.n s.most (omega arith) (omega arith) in
    record { fits = omega (arith, quotient c) }

pub returns : goal.returns
returns c = omega (arith, quotient c)

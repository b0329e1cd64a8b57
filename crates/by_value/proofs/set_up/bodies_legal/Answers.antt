use mathlib.Core.Path.{◌≡◌}
use Prim.Native.Nat.{◌+◌, ◌*◌}
use native.Mathlib.Omega.{arith}
use Rattle.pages.specs.Bodies.{body_size}
use Rattle.by_value.proofs.Bodies.{legal_stop, legal_again}
use Rattle.by_value.proofs.set_up.bodies_legal.Goals as goal

pub returns-then-not-follows : goal.returns-then-not-follows
returns-then-not-follows c =
    let l = c.loop-i in
    legal_stop c.args.bytes.now c.args.n l.i (l.i * body_size) l.before _ l.invariant c.follows.result c.loop-i-test.true c.follows.ensures c.if-not-follows.true

pub loop-i-preserved : goal.loop-i-preserved
loop-i-preserved c =
    let l = c.loop-i in
    let next : (l.i + 1) * body_size ≡ l.i * body_size + body_size = omega arith in
    rw next (legal_again c.args.bytes.now c.args.n l.i (l.i * body_size) l.before _ l.invariant c.follows.result c.loop-i-test.true c.follows.ensures _ c.body_id-before.ensures c.if-not-follows.false)

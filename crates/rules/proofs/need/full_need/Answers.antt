use native.Mathlib.Omega.{arith}
use Rattle.rules.proofs.Needs.{no_maximum, full}
use Rattle.rules.proofs.need.full_need.Goals as goal

pub returns-then-a-eq0 : goal.returns-then-a-eq0
returns-then-a-eq0 c = no_maximum _ _ c.if-a-eq0.true

pub returns : goal.returns
returns c = omega (arith, full c.args.a c.if-a-eq0.false)

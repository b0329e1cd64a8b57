use mathlib.Core.Path.{◌∙◌}
use Rattle.rules.specs.Need.{need_after}
use Rattle.rules.proofs.Needs.{counted, all_counted}
use Rattle.rules.proofs.need.need_after.Goals as goal

pub returns-then-n-a : goal.returns-then-n-a
unfolding need_after
returns-then-n-a c = c.between.ensures ∙ counted c.args.a c.args.n c.if-n-a.true

pub returns : goal.returns
returns c = c.full_need.ensures ∙ all_counted c.args.a c.args.n c.if-n-a.false

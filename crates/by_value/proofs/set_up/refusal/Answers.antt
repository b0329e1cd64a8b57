use Rattle.replies.specs.Numbers.{number}
use Rattle.steps.specs.SetUp.{new_sets, set_up_status}
use Rattle.by_value.proofs.set_up.refusal.Goals as goal

pub returns : goal.returns
unfolding new_sets set_up_status
returns c = simp (c.first.ensures number, c.bodies_legal-legal.ensures)

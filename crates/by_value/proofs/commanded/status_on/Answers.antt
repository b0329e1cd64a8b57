use Rattle.by_value.specs.OnSet.{status_on}
use Rattle.by_value.proofs.commanded.status_on.Goals as goal

pub returns : goal.returns
unfolding status_on
returns c = c.found_status.ensures

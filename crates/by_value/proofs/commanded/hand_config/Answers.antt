use Rattle.by_value.proofs.OnOneSet.{whole_config}
use Rattle.by_value.proofs.commanded.hand_config.Goals as goal

pub returns : goal.returns
returns c = λ x. rw c.give.ensures (whole_config x c.args.r _ c.args.answer.now _ c.mode_no.ensures c.requires c.config_onto.ensures)

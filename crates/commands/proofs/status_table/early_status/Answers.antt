use Rattle.commands.proofs.Early.{no_opcode, not_listed}
use Rattle.commands.proofs.status_table.early_status.Goals as goal

pub returns-then-opcode-s : goal.returns-then-opcode-s
returns-then-opcode-s c = no_opcode c.args.k c.args.c c.requires _ _ _ c.opcode_of-opcode.ensures c.chosen_by-choice.ensures c.shape_of-s.ensures c.if-not-c.false c.if-opcode-s.true

pub returns-then-not-has_choice : goal.returns-then-not-has_choice
returns-then-not-has_choice c = not_listed c.args.k c.args.c c.requires _ _ _ c.opcode_of-opcode.ensures c.chosen_by-choice.ensures c.shape_of-s.ensures c.if-not-c.false c.if-opcode-s.false _ _ c.has_choice.ensures c.if-not-has_choice.true c.unlisted.ensures

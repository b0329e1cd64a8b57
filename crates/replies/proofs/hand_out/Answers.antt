use mathlib.Core.Path.{sym}
use Rattle.octets.specs.Octets.{padded}
use Rattle.replies.proofs.Answering.{refusing, handing, length_padded}
use Rattle.replies.proofs.hand_out.Goals as goal

pub returns-then-status-ne-SUCCESS : goal.returns-then-status-ne-SUCCESS
returns-then-status-ne-SUCCESS c =
    let s = c.args in
    rw c.bare.ensures (refusing s.status s.dword (padded s.page.now s.from s.n) s.answer.now c.if-status-ne-SUCCESS.true)

pub copy_part-requires : goal.copy_part-requires
copy_part-requires c = c.requires c.if-status-ne-SUCCESS.false

pub returns : goal.returns
returns c =
    rw c.give.ensures
    (handing c.args.status c.args.n c.args.dword (padded c.args.page.now c.args.from c.args.n) c.args.answer.now _
    c.if-status-ne-SUCCESS.false (sym (length_padded c.args.page.now c.args.from c.args.n)) (c.requires c.if-status-ne-SUCCESS.false).1 c.copy_part.ensures)

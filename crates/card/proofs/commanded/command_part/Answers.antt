use mathlib.Core.Path.{ap}
use native.Mathlib.Omega.{arith}
use lib.ListN.{length-take}
use Rattle.replies.specs.Answers.{told_no, to_no}
use Rattle.card.proofs.commanded.command_part.Goals as goal

pub returns-clause-handed : goal.returns-clause-handed
returns-clause-handed g c =
    let a = c.command-reply.ensures.answered in
    record {
      table = a.table;
      status_is = a.reply.status;
      dword_is = a.reply.dword;
      told_is = ap told_no a.notice;
      to_is = ap to_no a.notice;
      part_is = a.reply.part;
      within = simp length-take (omega arith);
    }

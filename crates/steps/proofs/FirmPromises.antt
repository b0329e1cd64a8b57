-- How firm each public statement is: any two outcomes that it allows coincide, as specs/Firm.antt says.
use mathlib.Core.Path.{sym, ◌∙◌}
use Rattle.replies.proofs.Answering.{one_outcome}
use Rattle.steps.specs.Words.{step_words}
use Rattle.steps.specs.Firm.{OneSetUp, OneAnswer, OneHanded}

pub one_set_up : OneSetUp
one_set_up bytes ws v w s t h k = (h.table ∙ sym k.table, h.status ∙ sym k.status)

pub one_answer : OneAnswer
one_answer ws i before r q v w x y h k =
    let o = one_outcome (step_words ws i).answer before x y r q h.reply k.reply (h.notice ∙ sym k.notice) in (h.table ∙ sym k.table, o.0, o.1)

pub one_handed : OneHanded
one_handed ws i room v w s t d e m n x y p q h k = (
  h.table ∙ sym k.table,
  h.status_is ∙ sym k.status_is,
  h.dword_is ∙ sym k.dword_is,
  h.told_is ∙ sym k.told_is,
  h.to_is ∙ sym k.to_is,
  h.part_is ∙ sym k.part_is,
)

use Rattle.pages.proofs.Listed.{Left}
use Rattle.by_value.proofs.WholeCard.{set_ids}
use Rattle.card.proofs.views.list_all.Given as goal

abbrev pub invariant-loop-left : goal.invariant-loop-left
invariant-loop-left g l = Left (set_ids (g.C.Cell.words l.table)) l.initial.page l.word l.page l.left l.to

abbrev pub decreases-loop-left : goal.decreases-loop-left
decreases-loop-left g l = l.left

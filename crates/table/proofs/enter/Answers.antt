use mathlib.Core.Path.{sym, ◌∙◌}
use Rattle.table.proofs.LegalTables.{legal_known, enter_bad, enter_found, ok_or_entry}
use Rattle.table.proofs.enter.Goals as goal

pub find-requires : goal.find-requires
find-requires g c = legal_known _ (sym c.legal.ensures ∙ c.if-legal.true)

pub returns-then-legal : goal.returns-then-legal
returns-then-legal g c = c.ok_or.ensures.value ∙ ok_or_entry _ ∙ enter_found _ _ _ (sym c.legal.ensures ∙ c.if-legal.true) c.find.ensures

pub returns-else-legal : goal.returns-else-legal
returns-else-legal g c = enter_bad _ _ (sym c.legal.ensures ∙ c.if-legal.false)

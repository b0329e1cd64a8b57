use mathlib.Core.Path.{sym, ◌∙◌}
use native.Mathlib.Omega.{arith}
use Rattle.table.proofs.LegalTables.{legal_known, desk_there}
use Rattle.by_value.proofs.Told.{rows_desk}
use Rattle.by_value.proofs.EventsAndTicks.{bad, tick_long, tick_done}
use Rattle.card.proofs.media.ticks.Goals as goal

pub returns-then-not-legal-clause-answered : goal.returns-then-not-legal-clause-answered
returns-then-not-legal-clause-answered g c = bad _ _ _ _ (sym c.legal.ensures ∙ c.if-not-legal.true) c.refuse.ensures

pub returns-then-t-gt-DAY_MS-clause-answered : goal.returns-then-t-gt-DAY_MS-clause-answered
returns-then-t-gt-DAY_MS-clause-answered g c = tick_long _ _ _ _ (sym c.legal.ensures ∙ c.if-not-legal.false) c.if-t-gt-DAY_MS.true c.refuse-then-t-gt-DAY_MS.ensures

pub count_of-n-requires : goal.count_of-n-requires
count_of-n-requires g c = omega (arith, (legal_known _ (sym c.legal.ensures ∙ c.if-not-legal.false)).room)

pub tick_all-new-requires : goal.tick_all-new-requires
tick_all-new-requires g c = (c.count_of-n.ensures, legal_known _ (sym c.legal.ensures ∙ c.if-not-legal.false))

pub settle-requires : goal.settle-requires
settle-requires g c = rows_desk _ _ _ c.tick_all-new.ensures.words (desk_there _ (legal_known _ (sym c.legal.ensures ∙ c.if-not-legal.false)))

pub returns-clause-answered : goal.returns-clause-answered
returns-clause-answered g c =
    tick_done _ _ _ _ (sym c.legal.ensures ∙ c.if-not-legal.false) c.if-t-gt-DAY_MS.false _ _ _ _ c.tick_all-new.ensures.words c.tick_all-new.ensures.listed c.settle.ensures.desk _ c.done.ensures c.beside.ensures

use mathlib.Core.Path.{◌≡◌}
use mathlib.Core.Logic.{⊎_elim}
use Rattle.record.specs.declared.Quantity.TheVariants.{Reads, Writes}
use Rattle.rules.specs.Rules.{leaving}
use Rattle.rules.proofs.leave_d.Goals as goal

pub returns-in-Reads : goal.returns-in-Reads
unfolding leaving
returns-in-Reads c =
    ⊎_elim
    (λ (e : c.args.q ≡ Reads). simp (c.leave_by.ensures, e))
    (λ (e : c.args.q ≡ Writes). simp (c.leave_by.ensures, e))
    c.in-Reads.is

pub returns-in-Time : goal.returns-in-Time
unfolding leaving
returns-in-Time c = simp (c.leave_by-in-Time.ensures, c.in-Time.is, c.saturating_sub-excess.ensures, c.from.ensures, c.limit.ensures)

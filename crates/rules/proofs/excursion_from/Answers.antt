use Rattle.rules.specs.declared.Cause.TheVariants.{Excursion}
use Rattle.rules.proofs.Leads.{leads}
use Rattle.rules.proofs.excursion_from.Goals as goal

pub returns : goal.returns
returns c =
    simp (c.note.ensures, c.moving.ensures, c.go_from-t.ensures, leads Excursion c.args.a c.args.s, ← c.requires)

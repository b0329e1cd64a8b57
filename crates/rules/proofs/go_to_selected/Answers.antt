use Rattle.rules.proofs.Leads.{leads}
use Rattle.rules.proofs.go_to_selected.Goals as goal

pub returns : goal.returns
returns c =
    simp (c.note.ensures, c.moving.ensures, c.on_entering-events.ensures, c.go-t.ensures, leads c.args.c c.args.a c.args.s)

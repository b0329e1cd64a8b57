use mathlib.Core.Path.{sym, ◌∙◌}
use Rattle.card.proofs.InPlace.{not_stored}
use Rattle.card.proofs.commanded.read_at.Goals as goal

pub returns-then-retains-clause-stored : goal.returns-then-retains-clause-stored
returns-then-retains-clause-stored g c = λ given. rw (sym c.retains.ensures ∙ c.if-retains.true) (not_stored (g.C.Cell.words c.args.table.now) c.args.slot.0 c.args.r c.requires.there c.requires.own)

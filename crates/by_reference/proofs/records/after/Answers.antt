use mathlib.Core.Path.{refl, sym, ◌∙◌}
use Rattle.by_reference.proofs.OfRecord.{media_ruled}
use Rattle.by_reference.proofs.records.after.Goals as goal

pub returns : goal.returns
returns c = (rw (sym c.record_legal.ensures ∙ c.if-not-record_legal.false) refl, c.after_event.ensures ∙ media_ruled c.args.m c.args.r)

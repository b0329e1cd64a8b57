use mathlib.Core.Path.{refl}
use Rattle.card.proofs.InPlace.{not_stored, still_by}
use Rattle.card.proofs.commanded.change.Goals as goal

pub returns-in-SetWindow-clause-stored : goal.returns-in-SetWindow-clause-stored
returns-in-SetWindow-clause-stored g c = rw c.in-SetWindow.is (c.window_at.ensures.stored c.args.given.now)

pub returns-in-ReadLatency-clause-stored : goal.returns-in-ReadLatency-clause-stored
returns-in-ReadLatency-clause-stored g c = rw c.in-ReadLatency.is (c.read_at.ensures.stored c.args.given.now)

pub returns-in_default : goal.returns-in_default
returns-in_default g c =
    let s = c.args in
    let d = c.in_default in
    let e = still_by s.k s.c s.given.now s.r d.not-SetConfig d.not-SetWindow d.not-ReadLatency in
    record { stored = rw e (not_stored (g.C.Cell.words s.table.now) s.slot.0 s.r c.requires.there c.requires.own); rest = refl }

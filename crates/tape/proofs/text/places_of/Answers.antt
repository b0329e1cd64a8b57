use borrow.Author.Rules.{rules}
use Rattle.tape.proofs.Writing.{counted_start, counted_turn, counted_end}
use Rattle.tape.proofs.text.places_of.Goals as goal

pub loop-rest-init : goal.loop-rest-init
loop-rest-init c = counted_start _ c.ranges.n.fits

pub loop-rest-preserved : goal.loop-rest-preserved
loop-rest-preserved c = counted_turn _ _ _ c.loop-rest.invariant (search rules)

pub returns : goal.returns
returns c = counted_end _ _ _ c.loop-rest.invariant (search rules)

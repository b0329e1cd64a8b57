-- The fields put on the cleared start of the answer make the page there.
use mathlib.Core.Path.{refl}
use Rattle.octets.proofs.Pages.{made_onto}
use Rattle.pages.specs.Latency.{latency_size, latency_fields, latency_page}
use Rattle.pages.proofs.latency.latency_onto.Goals as goal

pub returns : goal.returns
unfolding latency_page
returns c = made_onto latency_size (latency_fields c.args.r) c.args.answer.now _ _ refl c.requires c.clear.ensures (rw c.numbers_of.ensures at c.fill.ensures)

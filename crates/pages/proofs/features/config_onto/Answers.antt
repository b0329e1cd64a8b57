-- The fields put on the cleared start of the answer make the page there.
use mathlib.Core.Path.{refl}
use Rattle.octets.proofs.Pages.{made_onto}
use Rattle.pages.specs.Features.{feature_size, config_fields, config_page}
use Rattle.pages.proofs.features.config_onto.Goals as goal

pub returns : goal.returns
unfolding config_page
returns c = made_onto feature_size (config_fields c.args.c) c.args.answer.now _ _ refl c.requires c.clear.ensures (rw c.from.ensures.0 at c.fill.ensures)

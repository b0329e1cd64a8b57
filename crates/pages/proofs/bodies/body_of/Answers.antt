-- The sizes and then the limits put on a page of zeros.
use mathlib.Core.Path.{◌∙◌}
use Rattle.octets.proofs.Pages.{placed}
use Rattle.pages.specs.Bodies.{body_size, body_fields, body}
use Rattle.pages.proofs.bodies.body_of.Goals as goal

pub returns : goal.returns
unfolding body
returns c = (rw (c.limits_of.ensures, c.fill.ensures, c.sizes_of.ensures) at c.fill-2.ensures) ∙ placed body_size (body_fields c.args.a)

-- The table of specs/Edges.antt holds, by computation.
use mathlib.Core.Path.{refl}
use Rattle.octets.specs.Pages.{place}
use Rattle.rules.specs.Need.{need_after}
use Rattle.rules.specs.Door.{going}
use Rattle.rules.specs.Rules.{leaving}
use Rattle.pages.specs.Latency.{latency_page}
use Rattle.commands.specs.Commands.{command_in}
use Rattle.commands.specs.Shapes.{kind_by}
use Rattle.steps.specs.Commanded.{command_meaning}
use Rattle.steps.specs.Meanings.{meaning}
use Rattle.steps.specs.Card.{refusal_of, effect_on, concerns, touched, answer}
use Rattle.steps.specs.Edges.{twelve, short_windows, Edges}

pub edges : Edges
unfolding twelve short_windows command_in kind_by command_meaning meaning refusal_of effect_on concerns touched answer need_after going leaving latency_page place
edges =
    (refl, (refl, (refl, (refl, (refl, (refl, (refl, (refl, (refl, (refl, (refl, (refl, (refl, (refl, (refl, (refl, (refl, (refl, (refl, (refl, (refl, (refl, (refl, (refl, (refl, (refl, (refl, (refl, (refl, (refl, (refl, (refl, tt))))))))))))))))))))))))))))))))

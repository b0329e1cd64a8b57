-- The four inputs of specs/Order.antt are answered as it says, by computation.
use mathlib.Core.Path.{refl}
use Rattle.table.specs.Table.{legal_table}
use Rattle.commands.specs.Commands.{command_in}
use Rattle.commands.specs.Shapes.{kind_by}
use Rattle.steps.specs.Commanded.{command_meaning}
use Rattle.steps.specs.Meanings.{meaning}
use Rattle.steps.specs.Card.{answer}
use Rattle.steps.specs.Words.{step_words}
use Rattle.steps.specs.Order.{cases, Order}

pub order : Order
unfolding cases command_in kind_by command_meaning meaning answer step_words legal_table
order = (refl, (refl, (refl, (refl, tt))))

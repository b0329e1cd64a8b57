-- The table of specs/Runs.antt holds, by computation.
use mathlib.Core.Path.{refl}
use Rattle.octets.specs.Pages.{place}
use Rattle.rules.specs.Need.{need_after}
use Rattle.rules.specs.Door.{going}
use Rattle.rules.specs.Rules.{leaving}
use Rattle.table.specs.Layout.{words_of, record_of}
use Rattle.table.specs.Table.{records_of, desk_at, legal_row, legal_table, written_rows, written}
use Rattle.pages.specs.Aggregate.{aggregate_page}
use Rattle.pages.specs.Bodies.{body}
use Rattle.commands.specs.Commands.{command_in}
use Rattle.commands.specs.Shapes.{kind_by}
use Rattle.steps.specs.Commanded.{command_meaning}
use Rattle.steps.specs.Meanings.{meaning}
use Rattle.steps.specs.Card.{refusal_of, effect_on, concerns, touched, desk_on, at_desk, answer}
use Rattle.steps.specs.Words.{step_words}
use Rattle.steps.specs.SetUp.{set_up, set_up_status, new_sets}
use Rattle.tape.specs.Text.{places}
use Rattle.tape.specs.Runs.{runs, RunsHold}

pub runs_hold : RunsHold
unfolding runs body places place need_after going leaving words_of record_of records_of desk_at legal_row legal_table written_rows written aggregate_page command_in kind_by command_meaning meaning refusal_of effect_on concerns touched desk_on at_desk answer step_words set_up set_up_status new_sets
runs_hold = (refl, (refl, (refl, (refl, (refl, (refl, (refl, (refl, (refl, (refl, (refl, tt)))))))))))

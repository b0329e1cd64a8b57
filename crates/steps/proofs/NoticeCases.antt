-- 02, "Wake the host", computed on the step: the table of its cases; that a swap may move a notice; and why a swap asks for a legal desk.
use mathlib.Core.Path.{◌≡◌, refl, ap}
use mathlib.Core.Bool.{true, false}
use mathlib.Core.List.{[], ◌∷◌}
use Prim.Native.Nat.{ℕ}
use native.Mathlib.Omega.{arith}
use Rattle.octets.specs.Choice.{bit}
use Rattle.octets.specs.Pages.{place}
use Rattle.replies.specs.Answers.{told_no}
use Rattle.desk.specs.Desk.{Desk, desk_of}
use Rattle.rules.specs.Door.{going}
use Rattle.rules.specs.Rules.{leaving}
use Rattle.pages.specs.Aggregate.{aggregate_page}
use Rattle.pages.specs.Latency.{latency_page}
use Rattle.commands.specs.Commands.{command_in}
use Rattle.commands.specs.Shapes.{kind_by}
use Rattle.steps.specs.Items.{excursion}
use Rattle.steps.specs.Commanded.{command_meaning}
use Rattle.steps.specs.Meanings.{meaning}
use Rattle.steps.specs.Card.{refusal_of, effect_on, concerns, touched, desk_on, at_desk, answer}
use Rattle.steps.specs.Notices.{SwapAsks, NoticesMove}
use Rattle.steps.specs.NoticeCases.{unlisted, cases, CasesHold}

pub cases_hold : CasesHold
unfolding cases command_in command_meaning meaning kind_by refusal_of effect_on concerns touched desk_on at_desk answer going leaving aggregate_page latency_page place
cases_hold = (refl, (refl, (refl, (refl, (refl, (refl, (refl, (refl, (refl, (refl, (refl, (refl, (refl, (refl, (refl, (refl, (refl, (refl, (refl, (refl, (refl, (refl, (refl, (refl, (refl, (refl, (refl, (refl, tt))))))))))))))))))))))))))))

-- with one request waiting, the first of two excursions has the notice beside it
pub notices_move : NoticesMove
unfolding meaning refusal_of effect_on concerns touched desk_on at_desk going leaving
notices_move h =
    let e : ◌≡◌ {A = ℕ} 1 0 = ap told_no (h (unlisted (desk_of true false false (5 ∷ []))) (excursion 7) (excursion 8)) in omega arith

-- with a flag that could be served, whichever item comes first serves it, and the excursion raises it again only if it comes later
pub swap_asks : SwapAsks
unfolding meaning refusal_of effect_on concerns touched desk_on at_desk going leaving
swap_asks h = let e : ◌≡◌ {A = ℕ} 0 1 = ap (λ (d : Desk). bit d.flag) (h (unlisted (desk_of true false true (5 ∷ [])))) in omega arith

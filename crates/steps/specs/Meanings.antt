-- What each item means: whom it names, what refuses it, what it does and answers.
use Rattle.std.specs.Prelude.{ℕ, [], ◌∷◌, ltb}
use Rattle.record.specs.declared.Attributes.{Attributes}
use Rattle.record.specs.declared.State.{State}
use Rattle.record.specs.declared.Effect.{Effect}
use Rattle.record.specs.Legal.{day_ms}
use Rattle.replies.specs.Numbers.{unknown_set, tick_too_long}
use Rattle.replies.specs.Status.{line}
use Rattle.replies.specs.Answers.{granted}
use Rattle.rules.specs.Rules as rules
use Rattle.steps.specs.Commanded.{command_meaning}
use Rattle.steps.specs.Items.{Item, reads, writes, excursion, tick, command, One, All, Meaning, Everybody, The}

-- 01: "Events: bad table 07C3h; unknown set 07C0h"
abbrev pub event : (Attributes → State → Effect) → One
event rule = record { early = []; unknown = unknown_set; late = λ a s. []; rule = rule; done = λ r. granted 0 [] }

-- 01: "tick too long 07C5h". "A tick .. goes to every set." It hands out no data and so asks for no room.
abbrev pub ticked : ℕ → ℕ → All
ticked t room =
    record { early = line (ltb day_ms t) tick_too_long ∷ []; each = 0; room = room; rule = rules.tick t; part = λ r. [] }

unfoldable pub meaning : Item → Meaning
meaning (reads id k) = The id (event (rules.read_event k))
meaning (writes id k) = The id (event (rules.write_event k))
meaning (excursion id) = The id (event rules.excursion_event)
meaning (tick t room) = Everybody (ticked t room)
meaning (command bytes given room) = command_meaning bytes given room

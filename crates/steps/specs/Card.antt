-- The step: what any item does to the card, and what is answered. Every promise about an item on a lent table cites it, on the
-- lent words (`step_words`); set-up's cites `set_up`.
use Rattle.std.specs.Prelude.{Bool, true, false, List, [], ◌∷◌, ◌++◌, map, ℕ, ◌*◌, eqb, ltb, length, if◌then◌else◌}
use Rattle.std.proofs.Math.Option.{Option, none, some}
use Rattle.record.specs.declared.Attributes.{Attributes}
use Rattle.record.specs.declared.State.{State}
use Rattle.record.specs.declared.Record.{Record}
use Rattle.record.specs.declared.Effect.{Effect}
use Rattle.record.specs.Parts.{id_of}
use Rattle.record.specs.Event.{settled}
use Rattle.replies.specs.Numbers.{too_short}
use Rattle.replies.specs.Status.{line, first_of}
use Rattle.replies.specs.Answers.{Notice, Answer, granted, refused, told_of}
use Rattle.desk.specs.Desk.{Desk, Told, quiet, settle}
use Rattle.rules.specs.Rules.{still}
use Rattle.octets.specs.Lists.{first, join}
use Rattle.table.specs.Card.{card_with}
use Rattle.table.specs.Table.{newly}
use Rattle.steps.specs.Items.{Card, Item, One, All, Meaning, Nobody, Everybody, The}
use Rattle.steps.specs.Meanings.{meaning}

-- ---- the refusal: the number of the first row that holds, or 0 where the item is carried out

-- of an item that names a set, where no set has that identifier, and where this one has
abbrev pub unknown_at : One → ℕ
unknown_at o = first_of (o.early ++ line true o.unknown ∷ [])

abbrev pub refusal_at : One → Attributes → State → ℕ
refusal_at o a s = first_of (o.early ++ o.late a s)

abbrev pub refusal_one : One → Option Record → ℕ
refusal_one o none = unknown_at o
refusal_one o (some r) = refusal_at o r.attributes r.state

-- of an item that goes to every set of n
abbrev pub refusal_all : All → ℕ → ℕ
refusal_all a n = first_of (a.early ++ line (ltb a.room (a.each * n)) too_short ∷ [])

abbrev pub has : ℕ → Record → Bool
has id r = eqb (id_of r) id

abbrev pub refusal_by : Meaning → Card → ℕ
refusal_by (Nobody v) c = first_of (v.early c)
refusal_by (Everybody a) c = refusal_all a (length c.sets)
refusal_by (The id o) c = refusal_one o (first (has id) c.sets)

unfoldable pub refusal_of : Card → Item → ℕ
refusal_of c i = refusal_by (meaning i) c

-- ---- what an item does to a set that it concerns: nothing where it is refused

abbrev pub effect_by : Meaning → Attributes → State → Effect
effect_by (Nobody v) a s = still s
effect_by (Everybody e) a s = e.rule a s
effect_by (The id o) a s = if eqb (refusal_at o a s) 0 then o.rule a s else still s

unfoldable pub effect_on : Item → Attributes → State → Effect
effect_on i a s = effect_by (meaning i) a s

-- the record after an item that concerns its set
abbrev pub ruled : Item → Record → Record
ruled i r = settled r (effect_on i r.attributes r.state)

-- ---- whom an item names, and whom it concerns on a card of n sets: the set that it names, or all if it is a tick that is
-- carried out

abbrev pub names_by : Meaning → ℕ → Bool
names_by (Nobody v) id = false
names_by (Everybody a) id = false
names_by (The named o) id = eqb named id

abbrev pub concerns_by : Meaning → ℕ → ℕ → Bool
concerns_by (Nobody v) n id = false
concerns_by (Everybody a) n id = eqb (refusal_all a n) 0
concerns_by (The named o) n id = eqb named id

unfoldable pub names : ℕ → Item → Bool
names id i = names_by (meaning i) id

unfoldable pub concerns : ℕ → ℕ → Item → Bool
concerns n id i = concerns_by (meaning i) n id

-- ---- the step

unfoldable pub touched : ℕ → Item → Record → Record
touched n i r = if concerns n (id_of r) i then ruled i r else r

abbrev pub sets_after : Card → Item → List Record
sets_after c i = map (touched (length c.sets) i) c.sets

-- what an item that is carried out does to the desk by itself
abbrev pub desk_by : Meaning → Desk → Desk
desk_by (Nobody v) d = v.desk d
desk_by (Everybody a) d = d
desk_by (The id o) d = d

unfoldable pub desk_on : Item → Desk → Desk
desk_on i d = desk_by (meaning i) d

-- 02: "When an item lists one or more sets that weren't listed": asked once, over the whole item. At the end of every item that is
-- carried out, and nowhere else, a notice is sent or remembered.
unfoldable pub at_desk : Card → Item → Told
at_desk c i =
    if eqb (refusal_of c i) 0
    then settle (newly c.sets (sets_after c i)) (desk_on i c.desk)
    else quiet c.desk

abbrev pub after : Card → Item → Card
after c i = card_with (sets_after c i) (at_desk c i).desk

-- what is answered where nothing refuses
abbrev pub done_one : One → Option Record → Answer
done_one o none = refused o.unknown
done_one o (some r) = o.done r

abbrev pub done_by : Meaning → Card → Answer
done_by (Nobody v) c = v.done c
done_by (Everybody a) c = granted 0 (join (map a.part c.sets))
done_by (The id o) c = done_one o (first (has id) c.sets)

abbrev pub answer_by : Meaning → Card → Answer
answer_by m c = if eqb (refusal_by m c) 0 then done_by m c else refused (refusal_by m c)

unfoldable pub answer : Card → Item → Answer
answer c i = answer_by (meaning i) c

-- the card afterwards, the answer, and the notice that may go beside it
pub record Outcome : Type 0 where
  pub card : Card
  pub answer : Answer
  pub notice : Notice

abbrev pub step : Card → Item → Outcome
step c i = record { card = after c i; answer = answer c i; notice = (at_desk c i).notice }

-- ---- many items: the card after them, and their answers; notices stand beside these, and demand 3 leaves them out

abbrev pub run : Card → List Item → Card
run c [] = c
run c (i ∷ is) = run (step c i).card is

abbrev pub trace : Card → List Item → List Answer
trace c [] = []
trace c (i ∷ is) = (step c i).answer ∷ trace (step c i).card is

-- the identifiers of the requests that notices completed, in their order
abbrev pub notices : Card → List Item → List ℕ
notices c [] = []
notices c (i ∷ is) = told_of (step c i).notice ++ notices (step c i).card is

-- 01, set-up: "the core first takes the 84-byte bodies below". One definition, apart from the step.
use Rattle.std.specs.Prelude.{◌≡◌, false, not, List, [], ◌∷◌, map, ℕ, zero, suc, ◌+◌, ◌*◌, ◌/◌, ◌%◌, min, ltb, eqb, length, take, if◌then◌else◌, None}
use Rattle.std.proofs.lemmas.List.Edits.{sets}
use Rattle.record.specs.declared.Window.TheVariants.{Off}
use Rattle.record.specs.declared.Attributes.{Attributes}
use Rattle.record.specs.declared.State.{State}
use Rattle.record.specs.declared.Record.{Record}
use Rattle.record.specs.Parts.{config_of, nothing_spent, no_recovery, state_of}
use Rattle.record.specs.Event.{no_events}
use Rattle.record.specs.Legal.{in_range}
use Rattle.replies.specs.Numbers.{too_short, bad_set_up}
use Rattle.replies.specs.Status.{Line, line, first_of}
use Rattle.replies.specs.Answers.{granted}
use Rattle.desk.specs.Desk.{new_desk}
use Rattle.table.specs.Card.{Card, card_with}
use Rattle.table.specs.Table.{row_start, legal_sets, written, max_sets}
use Rattle.pages.specs.Bodies.{body_size, attributes_in}
use Rattle.steps.specs.Words.{OutcomeWords, unchanged}

-- "Set-up starts all off and zero."
abbrev pub new_state : State
new_state = state_of Off (config_of no_events 0 0 0) nothing_spent no_recovery

abbrev pub new_record : Attributes → Record
new_record a =
    record {
      attributes = a;
      state = new_state;
      notes = record { events = no_events; listed = false };
    }

-- the attributes of n bodies from a place on
abbrev pub attributes_from : List ℕ → ℕ → ℕ → List Attributes
attributes_from bytes at zero = []
attributes_from bytes at (suc n) = attributes_in bytes at ∷ attributes_from bytes (at + body_size) n

abbrev pub bodies : List ℕ → ℕ
bodies bytes = length bytes / body_size

-- bodies that are kept until set-up, in bytes with room for some: a body put in the i-th place, where there is room for it; and the
-- first n, or all that there are
abbrev pub with_body : List ℕ → ℕ → List ℕ → List ℕ
with_body bytes i body = if ltb i (bodies bytes) then sets bytes (i * body_size) body else bytes

abbrev pub first_bodies : List ℕ → ℕ → List ℕ
first_bodies bytes n = take (min n (bodies bytes) * body_size) bytes

-- the sets that the bodies make
unfoldable pub new_sets : List ℕ → List Record
new_sets bytes = map new_record (attributes_from bytes 0 (bodies bytes))

-- 01: "Set-up: number of sets, order, an attribute or a body's length wrong 07C4h, then table slice too short 07C2h."; 02: "Set-up refuses
-- 65 with 07C4h."
abbrev pub set_up_lines : List ℕ → ℕ → List Line
set_up_lines bytes words =
    line (not (in_range max_sets (bodies bytes))) bad_set_up
    ∷ line (not (eqb (length bytes % body_size) 0)) bad_set_up
    ∷ line (not (legal_sets 0 (new_sets bytes))) bad_set_up
    ∷ line (ltb words (row_start (bodies bytes))) too_short
    ∷ []

unfoldable pub set_up_status : List ℕ → ℕ → ℕ
set_up_status bytes words = first_of (set_up_lines bytes words)

-- 02: opcode 0Ch and FID 0Bh "start off and empty"
abbrev pub new_card : List ℕ → Card
new_card bytes = card_with (new_sets bytes) new_desk

-- the words past the new card are as they were
abbrev pub new_table : List ℕ → List ℕ → List ℕ
new_table bytes ws = written ws (new_card bytes)

-- the words afterwards, and the answer: "Each refusal is given exactly then, .. nothing written."
unfoldable pub set_up : List ℕ → List ℕ → OutcomeWords
set_up bytes ws =
    if eqb (set_up_status bytes (length ws)) 0
    then record { table = new_table bytes ws; answer = granted 0 []; notice = None }
    else unchanged ws (set_up_status bytes (length ws))

-- what set-up promises: the words that it leaves, and the number that it answers
pub record SetUp (bytes ws after : List ℕ) (number : ℕ) : Type 0 where
  pub table : after ≡ (set_up bytes ws).table
  pub status : number ≡ (set_up bytes ws).answer.status

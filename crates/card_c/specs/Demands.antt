-- Demand 1, of what C lends: "A refused call gives dword 0 as zero and no data, and changes no byte of the table or of the
-- answer buffer." A call is refused where its number is none of an item that was carried out. Each is proved under its name, in snake
-- case, in proofs/Refusals.antt.
use Rattle.std.specs.Prelude.{◌≡◌, false, List, ℕ, length, None}
use Rattle.std.proofs.lemmas.List.Edits.{sets}
use Rattle.octets.specs.Octets.{AllBytes}
use Rattle.steps.specs.Items.{Item}
use Rattle.steps.specs.Rows.{carried_out}
use Rattle.card_c.specs.Entries.{SetUpAtC, AnsweredAtC, reply_part}

abbrev pub RefusedSetUp : Type 0
RefusedSetUp = (bodies region after : List ℕ) (number : ℕ) → AllBytes region → SetUpAtC bodies region after number → carried_out number ≡ false → after ≡ region

-- the table, the answer buffer, and a reply of zeros
abbrev pub RefusedItem : Type 0
RefusedItem =
    (region : List ℕ) (i : Item) (before reply₀ : List ℕ) (number : ℕ) (after buffer said : List ℕ)
    → AllBytes region → AnsweredAtC region i before reply₀ number after buffer said → carried_out number ≡ false
    → (after ≡ region) × (buffer ≡ before) × (said ≡ sets reply₀ 0 (reply_part 0 0 None (length reply₀)))

-- ---- 01: "Any two outcomes allowed by one statement are shown to coincide"

-- set-up: the bytes and the number
abbrev pub OneSetUp : Type 0
OneSetUp = (bodies region v w : List ℕ) (s t : ℕ) → SetUpAtC bodies region v s → SetUpAtC bodies region w t → (v ≡ w) × (s ≡ t)

-- every item: the number, and every byte of the table, of the answer buffer and of the reply
abbrev pub OneItem : Type 0
OneItem =
    (region : List ℕ) (i : Item) (before reply₀ : List ℕ) (s t : ℕ) (v w x y p q : List ℕ)
    → AnsweredAtC region i before reply₀ s v x p → AnsweredAtC region i before reply₀ t w y q → (s ≡ t) × (v ≡ w) × (x ≡ y) × (p ≡ q)

-- 02, "Sixty-four sessions": "An Identify answer still holds 31 entries, so the host asks again from the last identifier plus one; show
-- that asking so until a count below 31, or a last identifier of 65,535, gives each set once."
-- What a host reads off the bytes of such answers, and what it has gathered then. That it is so is stated of the step in
-- crates/steps/specs/Asking.antt, and of every holder of a card, C's bytes among them, in crates/steps/specs/Holders.antt.
use Rattle.std.specs.Prelude.{◌≡◌, Bool, true, false, not, ◌&&◌, ◌||◌, List, [], ◌∷◌, ◌++◌, map, ℕ, zero, suc, ◌+◌, ◌-◌, ◌/◌, ◌≤◌, eqb, ltb, length, get_or}
use Rattle.octets.specs.Lists.{Rising}
use Rattle.octets.specs.Octets.{part}
use Rattle.octets.specs.Pages.{read_at}
use Rattle.record.specs.declared.Attributes.{Attributes}
use Rattle.record.specs.Legal.{number_maximum}
use Rattle.table.specs.Table.{max_sets}
use Rattle.pages.specs.Identify.{identify_entries, identify_count, first_entry, entry_size, entry_id, entry_page, shown}

-- ---- one answer

-- its count, in byte 0
abbrev pub count_in : List ℕ → ℕ
count_in answer = read_at answer 0 identify_count

-- so many entries from a place on, 128 bytes each; and as many as it counts
abbrev pub read_entries : List ℕ → ℕ → ℕ → List (List ℕ)
read_entries answer to zero = []
read_entries answer to (suc n) = part answer to entry_size ∷ read_entries answer (to + entry_size) n

abbrev pub entries_in : List ℕ → List (List ℕ)
entries_in answer = read_entries answer first_entry (count_in answer)

-- the identifier of an entry; "the last identifier"
abbrev pub id_in : List ℕ → ℕ
id_in entry = read_at entry 0 entry_id

abbrev pub last_in : List ℕ → ℕ
last_in answer = id_in (get_or (entries_in answer) (count_in answer - 1) [])

-- "the last identifier plus one"
abbrev pub next_in : List ℕ → ℕ
next_in answer = last_in answer + 1

-- "until a count below 31, or a last identifier of 65,535"
abbrev pub is_last : List ℕ → Bool
is_last answer = ltb (count_in answer) identify_entries || eqb (last_in answer) number_maximum

-- ---- one answer after another

-- an ask that succeeded: from which number, and the bytes that came
pub record Ask : Type 0 where
  pub from : ℕ
  pub answer : List ℕ

abbrev pub ask_of : ℕ → List ℕ → Ask
ask_of from answer = record { from = from; answer = answer }

-- the first ask is from a number, and each other "from the last identifier plus one" of the answer before it, which was not the last
abbrev pub asks_from : ℕ → List Ask → Bool
asks_from from [] = true
asks_from from (a ∷ []) = eqb a.from from
asks_from from (a ∷ b ∷ more) = eqb a.from from && not (is_last a.answer) && asks_from (next_in a.answer) (b ∷ more)

-- the host is through: it has the last answer
abbrev pub through : List Ask → Bool
through [] = false
through (a ∷ []) = is_last a.answer
through (a ∷ b ∷ more) = through (b ∷ more)

-- what it has gathered: the entries of all answers, in their order
abbrev pub gathered : List Ask → List (List ℕ)
gathered [] = []
gathered (a ∷ more) = entries_in a.answer ++ gathered more

-- ---- what is to be shown

-- "gives each set once": the entry, byte for byte, of each set at or above the start, rising, so that none comes twice. No identifier is
-- 0, so that a start of 0 or 1 gives all sets.
pub record EachOnce (sets : List Attributes) (from : ℕ) (entries : List (List ℕ)) : Type 0 where
  pub those : entries ≡ map entry_page (shown from sets)
  pub rising : Rising 0 (map id_in entries)
  pub all : from ≤ 1 → entries ≡ map entry_page sets

-- three asks are enough: as many as there are full answers of 64 sets, and one more, which may have no entry
abbrev pub asks_most : ℕ
asks_most = max_sets / identify_entries + 1

-- asks, one after another: they come to an end, and then have given each set once
pub record GivesEach (sets : List Attributes) (from : ℕ) (asks : List Ask) : Type 0 where
  pub few : length asks ≤ asks_most
  pub ends : length asks ≡ asks_most → through asks ≡ true
  pub once : through asks ≡ true → EachOnce sets from (gathered asks)

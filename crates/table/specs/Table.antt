-- 01: "The table is a lent slice of 64-bit words": a header, then the sets, one row each. Words past it are not looked at.
use Rattle.std.specs.Prelude.{◌≡◌, Bool, true, false, ◌&&◌, ◌||◌, List, [], ◌∷◌, map, Option, None, Some, Result, Ok, Err, ℕ, zero, suc, ◌+◌, ◌*◌, ◌≤◌, ltb, leb, eqb, length, get_or, if◌then◌else◌}
use Rattle.std.proofs.lemmas.List.Edits.{sets}
use Rattle.octets.specs.Octets.{part}
use Rattle.replies.specs.Answers.{Notice}
use Rattle.desk.specs.Desk.{Desk, Told}
use Rattle.desk.specs.Words.{desk_size, desk_words, desk_in, desk_legal}
use Rattle.record.specs.declared.Record.{Record}
use Rattle.record.specs.Parts.{id_of}
use Rattle.record.specs.Event.{bit, newly_listed}
use Rattle.record.specs.Legal.{in_range, legal_record}
use Rattle.table.specs.declared.Absent.{Absent}
use Rattle.table.specs.declared.Absent.TheVariants.{BadTable, NoSet}
use Rattle.record.specs.declared.Slot.{Slot}
use Rattle.table.specs.Layout.{row_words, words_of, record_of}
use Rattle.table.specs.Card.{Card, card_with, layout_number, header_words, desk_start, header}

-- 01: "Up to 31 sets.", amended by 02: "Raise the limit to 64."
abbrev pub max_sets : ℕ
max_sets = 64

-- what the header says: the number of the layout, and that of the sets
abbrev pub layout : List ℕ → ℕ
layout ws = get_or ws 0 0

abbrev pub count : List ℕ → ℕ
count ws = get_or ws 1 0

-- where the row of a slot starts, which for the slot after the last is the table's length
abbrev pub row_start : ℕ → ℕ
row_start slot = header_words + slot * row_words

-- the row of a slot, and the table with another row there
abbrev pub row : List ℕ → ℕ → List ℕ
row ws slot = part ws (row_start slot) row_words

abbrev pub put : List ℕ → ℕ → List ℕ → List ℕ
put ws slot a = sets ws (row_start slot) a

-- n rows from a slot on; all rows
abbrev pub rows_from : List ℕ → ℕ → ℕ → List (List ℕ)
rows_from ws slot zero = []
rows_from ws slot (suc n) = row ws slot ∷ rows_from ws (suc slot) n

abbrev pub rows : List ℕ → List (List ℕ)
rows ws = rows_from ws 0 (count ws)

-- a record that has another one's attributes and configuration, as every item but Set Features 13h leaves them; and where nothing was
-- noted its notes too
pub record Moved (noted : Bool) (r x : Record) : Type 0 where
  pub attributes : x.attributes ≡ r.attributes
  pub config : x.state.config ≡ r.state.config
  pub notes : noted ≡ false → x.notes ≡ r.notes

-- the records of a table, in the order of its slots
unfoldable pub records_of : List ℕ → List Record
records_of ws = map record_of (rows ws)

-- the desk's words, the desk that they hold, and the table with another one there
abbrev pub desk_part : List ℕ → List ℕ
desk_part ws = part ws desk_start desk_size

unfoldable pub desk_at : List ℕ → Desk
desk_at ws = desk_in (desk_part ws)

unfoldable pub with_desk : List ℕ → Desk → List ℕ
with_desk ws d = sets ws desk_start (desk_words d)

-- the card that a table holds
abbrev pub card_of : List ℕ → Card
card_of ws = card_with (records_of ws) (desk_at ws)

-- ---- legality

abbrev pub same_words : List ℕ → List ℕ → Bool
same_words [] [] = true
same_words [] (y ∷ ys) = false
same_words (x ∷ xs) [] = false
same_words (x ∷ xs) (y ∷ ys) = eqb x y && same_words xs ys

-- A row is legal exactly where it is the words of a legal record: so "window none exactly when off", "ENEV and event bits
-- within C007h" and "unused bits zero" hold of its words.
unfoldable pub legal_row : List ℕ → Bool
legal_row a = same_words a (words_of (record_of a)) && legal_record (record_of a)

-- "identifiers strictly rising": a legal row, its identifier above the one before
abbrev pub legal_after : ℕ → List ℕ → Bool
legal_after before a = legal_row a && ltb before (id_of (record_of a))

abbrev pub legal_rows : ℕ → List (List ℕ) → Bool
legal_rows before [] = true
legal_rows before (a ∷ more) = legal_after before a && legal_rows (id_of (record_of a)) more

-- the same of records
abbrev pub legal_sets : ℕ → List Record → Bool
legal_sets before [] = true
legal_sets before (r ∷ rs) = legal_record r && ltb before (id_of r) && legal_sets (id_of r) rs

-- 01: "1 to 31 sets", amended by 02: "Raise the limit to 64."; and room that is not too short for them
abbrev pub room_for : ℕ → ℕ → Bool
room_for n room = in_range max_sets n && leb (row_start n) room

-- this layout, and such a number of sets
abbrev pub sized : List ℕ → Bool
sized ws = eqb (layout ws) layout_number && room_for (count ws) (length ws)

-- how many words the table of n sets takes, where so much room has one of that number
abbrev pub extent_of : ℕ → ℕ → Option ℕ
extent_of n room = if room_for n room then Some (row_start n) else None

-- "Legal table"; and 02: "Legal: at most four waiting, and no flag that could be served at once."
unfoldable pub legal_table : List ℕ → Bool
legal_table ws = sized ws && desk_legal (desk_part ws) && legal_rows 0 (rows ws)

-- what a legal table has: this layout, some sets, not too many, and room for them
pub record Legal (ws : List ℕ) : Type 0 where
  pub known : layout ws ≡ layout_number
  pub some : 1 ≤ count ws
  pub few : count ws ≤ max_sets
  pub room : row_start (count ws) ≤ length ws
  pub desk : desk_legal (desk_part ws) ≡ true
  pub legal : legal_table ws ≡ true

-- words that have room for a desk, and hold a legal one
pub record DeskThere (ws : List ℕ) : Type 0 where
  pub room : header_words ≤ length ws
  pub legal : desk_legal (desk_part ws) ≡ true

-- the desk after an item, in its place, and the notice that goes out
pub record Tells (ws : List ℕ) (t : Told) (after : List ℕ) (notice : Notice) : Type 0 where
  pub desk : after ≡ with_desk ws t.desk
  pub sent : notice ≡ t.notice

-- ---- looking up, writing back, the marks

-- the first slot from `slot` on whose record has this identifier
abbrev pub find_from : ℕ → ℕ → List Record → Option Slot
find_from id slot [] = None
find_from id slot (r ∷ rs) = if eqb (id_of r) id then Some (record { 0 = slot }) else find_from id (suc slot) rs

unfoldable pub find_in : List ℕ → ℕ → Option Slot
find_in ws id = find_from id 0 (records_of ws)

-- the way into an item that names a set
abbrev pub entry_of : Option Slot → Result Slot Absent
entry_of (Some slot) = Ok slot
entry_of None = Err NoSet

unfoldable pub enter_in : List ℕ → ℕ → Result Slot Absent
enter_in ws id = if legal_table ws then entry_of (find_in ws id) else Err BadTable

-- the table with these records in the slots from `slot` on, its header as it was
abbrev pub written_from : List ℕ → ℕ → List Record → List ℕ
written_from ws slot [] = ws
written_from ws slot (r ∷ rs) = written_from (put ws slot (words_of r)) (suc slot) rs

unfoldable pub written_rows : List ℕ → List Record → List ℕ
written_rows ws rs = written_from ws 0 rs

-- the table with this card: its header, desk included, and its sets in their slots
unfoldable pub written : List ℕ → Card → List ℕ
written ws c = written_rows (sets ws 0 (header c)) c.sets

-- "The listed marks of all sets are gathered as one word of bits": the first set's is the lowest
abbrev pub word_of : List Bool → ℕ
word_of [] = 0
word_of (m ∷ ms) = word_of ms * 2 + bit m

-- so the marks of records
abbrev pub listed_marks : List Record → List Bool
listed_marks rs = map (λ r. r.notes.listed) rs

abbrev pub listed_word : List Record → ℕ
listed_word rs = word_of (listed_marks rs)

-- 02: "When an item lists one or more sets that weren't listed": the records before it, and after it
abbrev pub newly : List Record → List Record → Bool
newly [] xs = false
newly (r ∷ rs) [] = false
newly (r ∷ rs) (x ∷ xs) = newly_listed r x || newly rs xs

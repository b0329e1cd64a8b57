-- 01, "Commands": log page 0Bh.
use Rattle.std.specs.Prelude.{◌≡◌, Bool, List, [], ◌∷◌, ◌++◌, ℕ, ◌+◌, ◌-◌, ◌/◌, ◌%◌, ◌^◌, ◌<◌, ◌≤◌, eqb, length, get_or, if◌then◌else◌}
use Rattle.std.specs.Int.Bits.{bit_and}
use Rattle.std.specs.Int.Count.{ones, count_trailing_zeros}
use Rattle.octets.specs.declared.Place.{Place}
use Rattle.octets.specs.Pages.{Field, field, span, fields_at, place}
use Rattle.table.specs.Table.{max_sets, word_of}

-- ---- the listed sets

-- an identifier before others, where its set is listed
abbrev pub listed_if : Bool → ℕ → List ℕ → List ℕ
listed_if listed id others = if listed then id ∷ others else others

-- the identifiers whose mark is set, in their order
abbrev pub picked : List ℕ → List Bool → List ℕ
picked [] marks = []
picked (id ∷ ids) [] = []
picked (id ∷ ids) (mark ∷ marks) = listed_if mark id (picked ids marks)

-- the same by a word: "The listed marks of all sets are gathered as one word of bits", the first set's lowest
abbrev pub listed_by : ℕ → List ℕ → List ℕ
listed_by word [] = []
listed_by word (id ∷ ids) = listed_if (eqb (word % 2) 1) id (listed_by (word / 2) ids)

-- ---- "The listed marks of all sets are gathered as one word of bits; the count is its ones and the next entry its lowest one."
-- Each is proved under its name, in snake case, in proofs/Listed.antt.

-- the word of the marks lists the sets whose mark is set
abbrev pub OneWord : Type 0
OneWord = (ids : List ℕ) (marks : List Bool) → length marks ≡ length ids → listed_by (word_of marks) ids ≡ picked ids marks

-- "the count is its ones"
abbrev pub CountIsOnes : Type 0
CountIsOnes = (ids : List ℕ) (word : ℕ) → word < 2 ^ length ids → length (listed_by word ids) ≡ ones word

-- the lowest one of a word of 64 bits, by its place; and the word without it
abbrev pub word_bits : ℕ
word_bits = 64

abbrev pub lowest_one : ℕ → ℕ
lowest_one word = count_trailing_zeros word_bits word

abbrev pub without_lowest : ℕ → ℕ
without_lowest word = bit_and word (word - 1)

-- "and the next entry its lowest one": the identifier in that slot comes next, and then what the word without it lists
abbrev pub NextIsLowest : Type 0
NextIsLowest =
    (ids : List ℕ) (word : ℕ) → 0 < word → word < 2 ^ length ids → length ids ≤ max_sets
    → listed_by word ids ≡ get_or ids (lowest_one word) 0 ∷ listed_by (without_lowest word) ids

-- ---- the page

-- 01: "0Bh, 72 bytes", amended by 02: "Page 0Bh becomes 136 bytes.": 8 + 2 x 64, so that every set may be listed
abbrev pub aggregate_size : ℕ
aggregate_size = 136

-- where each number lies: "7:0 number of entries, then two bytes each, rising"
abbrev pub list_count : Place
list_count = span 0 8

abbrev pub first_listed : ℕ
first_listed = 8

abbrev pub listed_size : ℕ
listed_size = 2

-- the entries from a place
abbrev pub entries_from : ℕ → List ℕ → List Field
entries_from at [] = []
entries_from at (id ∷ ids) = field at listed_size id ∷ entries_from (at + listed_size) ids

abbrev pub list_fields : List ℕ → List Field
list_fields ids = fields_at (list_count ∷ []) (length ids ∷ []) ++ entries_from first_listed ids

-- the page with its count alone, before entries are put
abbrev pub count_page : ℕ → List ℕ
count_page n = place aggregate_size (fields_at (list_count ∷ []) (n ∷ []))

-- "then zeros"
unfoldable pub aggregate_page : List ℕ → List ℕ
aggregate_page ids = place aggregate_size (list_fields ids)

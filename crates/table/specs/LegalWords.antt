-- What docs/LAYOUT.md says of a legal row, word by word in its order, and that this is `legal_row`.
use Rattle.std.specs.Prelude.{◌≡◌, Bool, not, ◌&&◌, ◌||◌, List, ℕ, leb, ltb, eqb, length, get_or, if◌then◌else◌}
use Rattle.std.specs.Int.Bits.{bit_and}
use Rattle.record.specs.Event.{event_mask}
use Rattle.record.specs.Legal.{number_maximum, four_bytes_maximum, typical_maximum, day_ms, in_range}
use Rattle.table.specs.Layout.{row_words}
use Rattle.table.specs.Table.{legal_row}

-- word k of a row
abbrev pub word : List ℕ → ℕ → ℕ
word a k = get_or a k 0

-- "unallocated not above total": words 7 and 6 against 5 and 4
abbrev pub capacities_legal : List ℕ → Bool
capacities_legal a = ltb (word a 7) (word a 5) || (eqb (word a 7) (word a 5) && leb (word a 6) (word a 4))

-- words 0 to 12: "statics in range"
abbrev pub statics_legal : List ℕ → Bool
statics_legal a =
    in_range number_maximum (word a 0)
    && in_range number_maximum (word a 1)
    && leb (word a 2) four_bytes_maximum
    && leb (word a 3) four_bytes_maximum
    && capacities_legal a
    && in_range typical_maximum (word a 8)
    && in_range typical_maximum (word a 9)
    && in_range day_ms (word a 10)
    && in_range day_ms (word a 11)
    && in_range day_ms (word a 12)
    && leb (word a 12) (word a 11)

-- "within C007h"
abbrev pub within_bits : ℕ → Bool
within_bits x = eqb x (bit_and x event_mask)

-- word 17 is 1 in D and 2 in N
abbrev pub in_d : List ℕ → Bool
in_d a = eqb (word a 17) 1

abbrev pub in_n : List ℕ → Bool
in_n a = eqb (word a 17) 2

-- a word that is within its limit in one window, and zero outside it
abbrev pub zero_outside : Bool → Bool → ℕ → Bool
zero_outside here within x = if here then within else eqb x 0

-- words 13 to 22: ENEV, the window, "reads and writes at most their typicals and time below maximum, all zero outside D"; 01: "N time
-- at most high and zero outside N", amended by 02: "need from low to high in N, else 0; N time at most need"; a threshold is any number
abbrev pub changing_legal : List ℕ → Bool
changing_legal a =
    within_bits (word a 13)
    && leb (word a 17) 2
    && zero_outside (in_d a) (leb (word a 18) (word a 8)) (word a 18)
    && zero_outside (in_d a) (leb (word a 19) (word a 9)) (word a 19)
    && zero_outside (in_d a) (ltb (word a 20) (word a 10)) (word a 20)
    && zero_outside (in_n a) (leb (word a 21) (word a 22)) (word a 21)
    && zero_outside (in_n a) (leb (word a 12) (word a 22) && leb (word a 22) (word a 11)) (word a 22)

-- words 23 and 24: the events, and "listed only if some event bit is set"
abbrev pub notes_legal : List ℕ → Bool
notes_legal a = within_bits (word a 23) && (eqb (word a 24) 0 || (eqb (word a 24) 1 && not (eqb (word a 23) 0)))

abbrev pub words_legal : List ℕ → Bool
words_legal a = statics_legal a && changing_legal a && notes_legal a

-- proved as `legal_words` in proofs/LegalWords.antt
abbrev pub LegalWords : Type 0
LegalWords = (a : List ℕ) → length a ≡ row_words → legal_row a ≡ words_legal a

-- What is done to a desk, done to its words: for the functions that hold it so. proofs/AtDesk.antt says that it is the same.
use Rattle.std.specs.Prelude.{Bool, ◌&&◌, ◌||◌, List, [], ◌∷◌, ℕ, ◌+◌, ◌-◌, ◌%◌, ◌^◌, leb, ltb, eqb, get_or, set, if◌then◌else◌, None, Some}
use Rattle.octets.specs.Choice.{bit}
use Rattle.desk.specs.Desk.{requests_maximum}
use Rattle.desk.specs.Words.{on_word, masked_word, flag_word, count_word, first_waiting, place_legal}
use Rattle.desk.specs.declared.Settled.{Settled}

abbrev pub queued_words : ℕ → List ℕ → List ℕ
queued_words id a = set (set a (first_waiting + get_or a count_word 0) id) count_word (get_or a count_word 0 + 1)

abbrev pub turned_words : Bool → List ℕ → List ℕ
turned_words on a = set a on_word (bit on)

abbrev pub lifted_words : List ℕ → List ℕ
lifted_words a = set (set a masked_word 0) flag_word 0

-- no more requests wait than may, and the places for their identifiers are as they must be
abbrev pub places_legal : List ℕ → Bool
places_legal a =
    leb (get_or a count_word 0) requests_maximum
    && place_legal (ltb 0 (get_or a count_word 0)) (get_or a first_waiting 0)
    && place_legal (ltb 1 (get_or a count_word 0)) (get_or a (first_waiting + 1) 0)
    && place_legal (ltb 2 (get_or a count_word 0)) (get_or a (first_waiting + 2) 0)
    && place_legal (ltb 3 (get_or a count_word 0)) (get_or a (first_waiting + 3) 0)

-- something is to be told, and can be
abbrev pub sends : Bool → List ℕ → Bool
sends new a = (eqb (get_or a flag_word 0) 1 || new) && eqb (get_or a on_word 0) 1 && eqb (get_or a masked_word 0) 0 && ltb 0 (get_or a count_word 0)

-- the oldest request is completed
abbrev pub served : List ℕ → Settled
served a =
    record {
      words = get_or a on_word 0 ∷ 1 ∷ 0 ∷ (get_or a count_word 0 - 1) ∷ get_or a (first_waiting + 1) 0 ∷ get_or a (first_waiting + 2) 0 ∷ get_or a (first_waiting + 3) 0 ∷ 0 ∷ [];
      notice = Some (get_or a first_waiting 0 % 2 ^ 16);
    }

-- the flag remembers
abbrev pub remembered : Bool → List ℕ → Settled
remembered new a = record { words = set a flag_word (bit (eqb (get_or a flag_word 0) 1 || new)); notice = None }

abbrev pub settled_words : Bool → List ℕ → Settled
settled_words new a = if sends new a then served a else remembered new a

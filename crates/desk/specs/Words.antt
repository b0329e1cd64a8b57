-- The desk's words, which stand in the header of a table, in the order of docs/LAYOUT.md; and which words are those of a legal desk.
use Rattle.std.specs.Prelude.{◌≡◌, Bool, true, not, ◌&&◌, ◌||◌, List, ◌∷◌, map, ℕ, ◌+◌, ◌%◌, ◌^◌, leb, ltb, eqb, length, get_or, take, drop}
use Rattle.octets.specs.Choice.{bit}
use Rattle.octets.specs.Octets.{padded}
use Rattle.desk.specs.Desk.{Desk, desk_of, requests_maximum, identifier_maximum, legal_desk}

-- how many words a desk takes
abbrev pub desk_size : ℕ
desk_size = 8

-- which word is which: notices on, masked, the flag, how many requests wait, and from there on their identifiers
abbrev pub on_word : ℕ
on_word = 0

abbrev pub masked_word : ℕ
masked_word = 1

abbrev pub flag_word : ℕ
flag_word = 2

abbrev pub count_word : ℕ
count_word = 3

abbrev pub first_waiting : ℕ
first_waiting = 4

-- notices on, masked, the flag, how many requests wait, and their identifiers, zero where none waits
abbrev pub desk_words : Desk → List ℕ
desk_words d = bit d.on ∷ bit d.masked ∷ bit d.flag ∷ length d.waiting ∷ padded d.waiting 0 requests_maximum

-- the desk of such words: of an identifier's word as much as it holds
abbrev pub desk_in : List ℕ → Desk
desk_in a =
    desk_of (eqb (get_or a on_word 0) 1) (eqb (get_or a masked_word 0) 1) (eqb (get_or a flag_word 0) 1)
    (map (λ x. x % 2 ^ 16) (take (get_or a count_word 0) (drop first_waiting a)))

-- ---- the words of a legal desk, word by word

-- the word of a place for an identifier, where a request waits there, or none does
abbrev pub place_legal : Bool → ℕ → Bool
place_legal used x = leb x identifier_maximum && (used || eqb x 0)

-- "no flag that could be served at once"
abbrev pub servable : List ℕ → Bool
servable a = eqb (get_or a flag_word 0) 1 && eqb (get_or a on_word 0) 1 && eqb (get_or a masked_word 0) 0 && ltb 0 (get_or a count_word 0)

-- "Legal: at most four waiting, and no flag that could be served at once.": on, masked and the flag are 0 or 1, at most four wait, and
-- the identifiers stand "oldest" first, without gaps
abbrev pub desk_legal : List ℕ → Bool
desk_legal a =
    leb (get_or a on_word 0) 1
    && leb (get_or a masked_word 0) 1
    && leb (get_or a flag_word 0) 1
    && leb (get_or a count_word 0) requests_maximum
    && place_legal (ltb 0 (get_or a count_word 0)) (get_or a first_waiting 0)
    && place_legal (ltb 1 (get_or a count_word 0)) (get_or a (first_waiting + 1) 0)
    && place_legal (ltb 2 (get_or a count_word 0)) (get_or a (first_waiting + 2) 0)
    && place_legal (ltb 3 (get_or a count_word 0)) (get_or a (first_waiting + 3) 0)
    && not (servable a)

-- Such words are those of a legal desk, and those of a legal desk are such words. Proved as `legal_words` and `legal_desks` in
-- proofs/LegalDesks.antt.
pub record WordsOfDesk (a : List ℕ) : Type 0 where
  pub words : a ≡ desk_words (desk_in a)
  pub legal : legal_desk (desk_in a) ≡ true

abbrev pub LegalWords : Type 0
LegalWords = (a : List ℕ) → length a ≡ desk_size → desk_legal a ≡ true → WordsOfDesk a

pub record DeskOfWords (d : Desk) : Type 0 where
  pub back : desk_in (desk_words d) ≡ d
  pub legal : desk_legal (desk_words d) ≡ true

abbrev pub LegalDesks : Type 0
LegalDesks = (d : Desk) → legal_desk d ≡ true → DeskOfWords d

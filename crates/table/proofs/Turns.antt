-- A turn of each loop over the slots: what is left to do at slot i is the slot's own part and what is left at i + 1.
use mathlib.Core.Path.{◌≡◌, refl, sym, ap, ◌∙◌}
use mathlib.Core.Bool.{Bool, true, false}
use mathlib.Core.List.{List, [], ◌∷◌, map}
use Prim.Native.Nat.{ℕ, suc, ◌+◌, ◌-◌, ◌*◌, ◌%◌, ◌^◌, ◌≤◌, ◌<◌}
use native.Mathlib.Omega.{arith}
use native.Mathlib.Numerals.{add-one}
use native.Mathlib.Nat.{add-zero, sub-zero, pow-suc, pow-le-pow_right, lt_of_lt_of_le}
use lib.Dec.{lit<, lit≤}
use lib.ListN.{get_or, drop}
use lib.Seq.{get_or-take, get_or-drop}
use Rattle.record.specs.declared.Record.{Record}
use Rattle.record.specs.Event.{bit}
use Rattle.record.specs.Parts.{id_of}
use Rattle.table.specs.Layout.{row_words, words_of, record_of}
use Rattle.table.specs.Table.{count, row_start, row, rows_from, records_of, legal_after, legal_rows, Legal, listed_word, max_sets}
use Rattle.table.proofs.Records.{Row}
use Rattle.table.proofs.LegalTables.{slot_known}

module _ (ws : List ℕ) (n i : ℕ) where
  pub rows_none : n ≤ i → rows_from ws i (n - i) ≡ []
  rows_none h = let e : n - i ≡ 0 = omega arith in rw e

  pub rows_more : i < n → rows_from ws i (n - i) ≡ row ws i ∷ rows_from ws (i + 1) (n - (i + 1))
  rows_more h = let e : n - i ≡ suc (n - suc i) = omega arith in rw (add-one, e)

-- ---- legality

module _ (ws : List ℕ) (n i before : ℕ) (goal : Bool) (inv : legal_rows before (rows_from ws i (n - i)) ≡ goal) where
  pub legal_end : n ≤ i → true ≡ goal
  legal_end h = rw (rows_none ws n i h) at inv

  module _ (a : List ℕ) (s : Bool) (h : i < n) (ea : a ≡ row ws i) (es : s ≡ legal_after before a) where
    pub legal_stop : s ≡ false → false ≡ goal
    legal_stop e = rw (rows_more ws n i h, ← ea, ← es, e) at inv

    pub legal_again : s ≡ true → legal_rows (id_of (record_of a)) (rows_from ws (i + 1) (n - (i + 1))) ≡ goal
    legal_again e = rw (rows_more ws n i h, ← ea, ← es, e) at inv

-- ---- a word of a row, and the field that it is

at_row : (ws : List ℕ) (i k : ℕ) → k < row_words → get_or (row ws i) k 0 ≡ get_or ws (row_start i + k) 0
at_row ws i k h = get_or-take row_words (drop (row_start i) ws) k 0 h ∙ get_or-drop (row_start i) ws k 0

id_word : (a : List ℕ) → Row a → get_or a 0 0 ≡ id_of (record_of a)
unfolding words_of
id_word a r = ap (λ (l : List ℕ). get_or l 0 0) r.words

listed_word_lem : (a : List ℕ) → Row a → get_or a 24 0 ≡ bit (record_of a).notes.listed
unfolding words_of
listed_word_lem a r = ap (λ (l : List ℕ). get_or l 24 0) r.words

module _ (ws : List ℕ) (l : Legal ws) (i : ℕ) (h : i < count ws) where
  pub id_at_lem : get_or ws (row_start i) 0 ≡ id_of (record_of (row ws i))
  id_at_lem =
      ap (λ (k : ℕ). get_or ws k 0) (sym (add-zero (row_start i))) ∙ sym (at_row ws i 0 (lit< tt)) ∙ id_word (row ws i) (slot_known ws l i h)

  pub listed_at : get_or ws (row_start i + 24) 0 ≡ bit (record_of (row ws i)).notes.listed
  listed_at = sym (at_row ws i 24 (lit< tt)) ∙ listed_word_lem (row ws i) (slot_known ws l i h)

-- ---- the word of listed marks, gathered from the last slot to the first

-- the records from slot i on
abbrev pub later : List ℕ → ℕ → ℕ → List Record
later ws n i = map record_of (rows_from ws i (n - i))

pub later_none : (ws : List ℕ) (n i : ℕ) → n ≤ i → later ws n i ≡ []
later_none ws n i h = rw (rows_none ws n i h)

pub later_more : (ws : List ℕ) (n i : ℕ) → i < n → later ws n i ≡ record_of (row ws i) ∷ later ws n (i + 1)
later_more ws n i h = rw (rows_more ws n i h)

pub later_all : (ws : List ℕ) (n : ℕ) → n ≡ count ws → later ws n 0 ≡ records_of ws
unfolding records_of
later_all ws n e = rw (e, sub-zero)

bit_small : (b : Bool) → bit b ≤ 1
bit_small true = lit≤ tt
bit_small false = lit≤ tt

-- m marks make a word below 2 ^ m
doubled : (m x b : ℕ) → x < 2 ^ m → b ≤ 1 → x * 2 + b < 2 ^ suc m
doubled m x b h k = rw pow-suc (omega (arith, h, k))

-- one more mark, from the slot below: the word of the marks from there on, and still a small one
pub record Gathered (ws : List ℕ) (n i word : ℕ) : Type 0 where
  pub is : word ≡ listed_word (later ws n i)
  pub small : word < 2 ^ (n - i)

pub gathered_none : (ws : List ℕ) (n : ℕ) → Gathered ws n n 0
gathered_none ws n =
    let e : n - n ≡ 0 = omega arith in record { is = rw (later_none ws n n (omega arith)); small = rw e (lit< tt) }

pub gathered_more : (ws : List ℕ) → Legal ws → (n i word : ℕ) → n ≡ count ws → i < n → Gathered ws n (i + 1) word
    → Gathered ws n i (word * 2 + get_or ws (row_start i + 24) 0)
gathered_more ws l n i word en h g =
    let e : n - i ≡ suc (n - (i + 1)) = omega arith in
    let q = listed_at ws l i (omega arith) in
    record {
      is = rw (q, g.is, later_more ws n i h);
      small = rw (q, e) (doubled (n - (i + 1)) word _ g.small (bit_small (record_of (row ws i)).notes.listed));
    }

pub gathered_down : (ws : List ℕ) → Legal ws → (i word : ℕ) → 0 < i → i ≤ count ws → Gathered ws (count ws) i word
    → Gathered ws (count ws) (i - 1) (word * 2 + get_or ws (row_start (i - 1) + 24) 0)
gathered_down ws l i word p h g =
    let e : i ≡ i - 1 + 1 = omega arith in gathered_more ws l (count ws) (i - 1) word refl (omega arith) (rw e at g)

-- there are at most as many marks as a word has bits; where k slots are still to come, it has room for k marks more
pub gathered_fits : (ws : List ℕ) → Legal ws → (i word k : ℕ) → k ≤ i → Gathered ws (count ws) i word → word < 2 ^ (max_sets - k)
gathered_fits ws l i word k h g =
    let m : count ws - i ≤ max_sets - k = omega (arith, l.few) in lt_of_lt_of_le g.small (pow-le-pow_right (lit< tt) m)

-- ---- an identifier: a row's first word has it

pub id_of_lem : (ws : List ℕ) (i : ℕ) → get_or ws (row_start i) 0 % 2 ^ 16 ≡ id_of (record_of (row ws i))
unfolding record_of
id_of_lem ws i = ap (λ (n : ℕ). n % 2 ^ 16) (ap (λ (k : ℕ). get_or ws k 0) (sym (add-zero (row_start i))) ∙ sym (at_row ws i 0 (lit< tt)))

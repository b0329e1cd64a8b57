-- A row is legal exactly where its words are what docs/LAYOUT.md says.
use mathlib.Core.Path.{◌≡◌, refl, sym, ap, ◌∙◌}
use mathlib.Core.Bool.{Bool, true, false, not, ◌&&◌, ◌||◌, and-true, and-false, false≢true}
use mathlib.Core.List.{List, [], ◌∷◌}
use Prim.Native.Nat.{ℕ, zero, suc, ◌≤◌}
use native.Mathlib.Omega.{arith}
use borrow.Author.Tests.{eqb-true, le-ltb, le-leb, lt-leb, eq-eqb, ne_eqb}
use lib.Dec.{leb, ltb, eqb}
use lib.ListN.{length, drop_of_length-le}
use lib.Seq.{drop-cons}
use Rattle.std.specs.Prelude.{if◌then◌else◌}
use Rattle.octets.proofs.JoinedTests.{both, together}
use Rattle.record.specs.Windows.{window_no}
use Rattle.record.specs.Event.{bit, bits_of, events_in}
use Rattle.record.specs.Parts.{id_of}
use Rattle.record.proofs.EventBits.{masked}
use Rattle.table.specs.Layout.{row_words, words_of, window_in, record_of}
use Rattle.table.specs.Table.{same_words, legal_row, legal_after}
use Rattle.table.specs.LegalWords.{word, statics_legal, within_bits, zero_outside, changing_legal, notes_legal, words_legal, LegalWords}
use Rattle.table.proofs.SameWords.{same_self}
use Rattle.table.proofs.HeldWords.{words_of_record, changing, held}
use Rattle.table.proofs.Records.{row_of}

-- ---- a row whose words are legal is the words of its record

mark_small : (n : ℕ) (b : Bool) → eqb n 0 || (eqb n 1 && b) ≡ true → n ≤ 1
mark_small zero b h = omega arith
mark_small (suc zero) b h = omega arith
mark_small (suc (suc n)) b h = absurd (false≢true (rw (ne_eqb (suc (suc n)) 0 (λ z. omega arith), ne_eqb (suc (suc n)) 1 (λ z. omega arith)) at h))

window_held : (n : ℕ) → n ≤ 2 → window_no (window_in n) ≡ n
window_held zero h = refl
window_held (suc zero) h = refl
window_held (suc (suc zero)) h = refl
window_held (suc (suc (suc n))) h = absurd (omega arith)

bit_held : (n : ℕ) → n ≤ 1 → bit (eqb n 1) ≡ n
bit_held zero h = refl
bit_held (suc zero) h = refl
bit_held (suc (suc n)) h = absurd (omega arith)

module _ (a : List ℕ) (long : length a ≡ row_words) where
  shape : a ≡ word a 0 ∷ word a 1 ∷ word a 2 ∷ word a 3 ∷ word a 4 ∷ word a 5 ∷ word a 6 ∷ word a 7
      ∷ word a 8 ∷ word a 9 ∷ word a 10 ∷ word a 11 ∷ word a 12 ∷ word a 13 ∷ word a 14 ∷ word a 15
      ∷ word a 16 ∷ word a 17 ∷ word a 18 ∷ word a 19 ∷ word a 20 ∷ word a 21 ∷ word a 22 ∷ word a 23
      ∷ word a 24 ∷ []
  shape =
      let end : length a ≤ 25 = omega arith in
      rw (
        drop-cons a 1 0 (omega arith),
        drop-cons a 2 0 (omega arith),
        drop-cons a 3 0 (omega arith),
        drop-cons a 4 0 (omega arith),
        drop-cons a 5 0 (omega arith),
        drop-cons a 6 0 (omega arith),
        drop-cons a 7 0 (omega arith),
        drop-cons a 8 0 (omega arith),
        drop-cons a 9 0 (omega arith),
        drop-cons a 10 0 (omega arith),
        drop-cons a 11 0 (omega arith),
        drop-cons a 12 0 (omega arith),
        drop-cons a 13 0 (omega arith),
        drop-cons a 14 0 (omega arith),
        drop-cons a 15 0 (omega arith),
        drop-cons a 16 0 (omega arith),
        drop-cons a 17 0 (omega arith),
        drop-cons a 18 0 (omega arith),
        drop-cons a 19 0 (omega arith),
        drop-cons a 20 0 (omega arith),
        drop-cons a 21 0 (omega arith),
        drop-cons a 22 0 (omega arith),
        drop-cons a 23 0 (omega arith),
        drop-cons a 24 0 (omega arith),
        drop_of_length-le a end,
      ) at (drop-cons a 0 0 (omega arith))

  held_words_lem : words_legal a ≡ true → a ≡ words_of (record_of a)
  unfolding words_of record_of
  held_words_lem h =
      let p = both (statics_legal a && changing_legal a) (notes_legal a) h in
      let q = both (statics_legal a) (changing_legal a) p.0 in
      let n = both (within_bits (word a 23)) _ p.1 in
      let f = held a h in
      let c = changing a q.1 in
      let w = window_held (word a 17) c.window in
      let l = bit_held (word a 24) (mark_small _ _ n.1) in
      let v : bits_of (events_in (word a 13)) ≡ word a 13 = masked (word a 13) ∙ sym (eqb-true _ _ c.enev) in
      let e : bits_of (events_in (word a 23)) ≡ word a 23 = masked (word a 23) ∙ sym (eqb-true _ _ n.0) in
      rw (f.id, f.group, f.random, f.optimal, f.reads_typical, f.writes_typical, f.time_maximum, f.high, f.low, f.reads, f.writes, f.time, f.recovery, f.need, w, v, e, l) shape

  -- ---- so the two are the same

  true_both_ways : (x y : Bool) → (x ≡ true → y ≡ true) → (y ≡ true → x ≡ true) → x ≡ y
  true_both_ways true y f g = sym (f refl)
  true_both_ways false true f g = g refl
  true_both_ways false false f g = refl

  known : words_legal a ≡ true → legal_row a ≡ true
  unfolding legal_row
  known h =
      let e = held_words_lem h in
      together (same_words a (words_of (record_of a))) _ (ap (same_words a) (sym e) ∙ same_self a) (sym (words_of_record (record_of a)) ∙ ap words_legal (sym e) ∙ h)

  told : legal_row a ≡ true → words_legal a ≡ true
  told h = let r = row_of a h in ap words_legal r.words ∙ words_of_record (record_of a) ∙ r.legal

  legal_row_lem : legal_row a ≡ words_legal a
  legal_row_lem = true_both_ways (legal_row a) (words_legal a) told known

  id_word : legal_row a ≡ true → id_of (record_of a) ≡ word a 0
  unfolding words_of
  id_word h = sym (ap (λ (l : List ℕ). word l 0) (row_of a h).words)

  -- the test of a row that stands after another, as the code makes it
  pub legal_after_lem : (before : ℕ) → legal_after before a ≡ ltb before (word a 0) && words_legal a
  legal_after_lem before = by (legal_row a) refl
    where
      by : (b : Bool) → legal_row a ≡ b → legal_after before a ≡ ltb before (word a 0) && words_legal a
      by true h = rw (h, id_word h, ← legal_row_lem, h) (sym (and-true (ltb before (word a 0))))
      by false h = rw (h, ← legal_row_lem, h) (sym (and-false (ltb before (word a 0))))

pub legal_words : LegalWords
legal_words = legal_row_lem

-- ---- the tests as the code makes them

or_false : (b : Bool) → b ≡ b || false
or_false true = refl
or_false false = refl

pub above_same : (x y low most : ℕ) → x ≡ y → leb low most ≡ ltb x y || (eqb x y && leb low most)
above_same x y low most e = rw (le-ltb x y (omega arith), eq-eqb x y e)

pub above_other : (x y low most : ℕ) → (x ≡ y → ⊥) → ltb x y ≡ ltb x y || (eqb x y && leb low most)
above_other x y low most e = rw (ne_eqb x y e) (or_false (ltb x y))

at_zero : (x : ℕ) → leb x 0 ≡ eqb x 0
at_zero zero = refl
at_zero (suc x) = rw (lt-leb (suc x) 0 (omega arith), ne_eqb (suc x) 0 (λ z. omega arith))

below_one : (x : ℕ) → ltb x 1 ≡ eqb x 0
below_one zero = refl
below_one (suc x) = rw (le-ltb (suc x) 1 (omega arith), ne_eqb (suc x) 0 (λ z. omega arith))

pub at_most : (here : Bool) (x most : ℕ) → leb x (if here then most else 0) ≡ zero_outside here (leb x most) x
at_most true x most = refl
at_most false x most = at_zero x

-- the code's tests of N time and the need, after the others (x): N time against the need in every window, the need against bounds
-- that are 0 outside N
pub recovery_tested :
    (x here : Bool) (m n low : ℕ) (within : Bool)
    → x && leb m n && (leb (if here then low else 0) n && zero_outside here within n)
    ≡ x && zero_outside here (leb m n) m && zero_outside here (leb low n && within) n
recovery_tested x true m n low within = refl
recovery_tested x false m zero low within = rw (at_zero m)
recovery_tested x false m (suc n) low within =
    rw (le-leb 0 (suc n) (omega arith), ne_eqb (suc n) 0 (λ z. omega arith), and-false (x && leb m (suc n)), and-false (x && eqb m 0))

pub below : (here : Bool) (x most : ℕ) → ltb x (if here then most else 1) ≡ zero_outside here (ltb x most) x
below true x most = refl
below false x most = below_one x

pub marked : (x : ℕ) (none : Bool) → leb x (if none then 0 else 1) ≡ eqb x 0 || (eqb x 1 && not none)
marked zero true = refl
marked zero false = refl
marked (suc zero) true = refl
marked (suc zero) false = refl
marked (suc (suc x)) true = rw (lt-leb (suc (suc x)) 0 (omega arith), ne_eqb (suc (suc x)) 0 (λ z. omega arith), ne_eqb (suc (suc x)) 1 (λ z. omega arith))
marked (suc (suc x)) false = rw (lt-leb (suc (suc x)) 1 (omega arith), ne_eqb (suc (suc x)) 0 (λ z. omega arith), ne_eqb (suc (suc x)) 1 (λ z. omega arith))

-- The words of a legal desk, and the desk of such words: each determines the other.
use mathlib.Core.Path.{◌≡◌, refl, sym}
use mathlib.Core.Bool.{Bool, true, false, not, ◌&&◌}
use mathlib.Core.List.{List, [], ◌∷◌}
use Prim.Native.Nat.{ℕ, zero, suc}
use native.Mathlib.Omega.{arith}
use borrow.Author.Tests.{leb-true, lt-ltb}
use lib.Dec.{leb, ltb, eqb}
use lib.ListN.{length}
use Rattle.octets.specs.Choice.{bit}
use Rattle.octets.proofs.JoinedTests.{both, together}
use Rattle.desk.specs.Desk.{Desk, desk_of, waits, ready, requests_maximum, identifier_maximum, all_identifiers, legal_desk}
use Rattle.desk.specs.Words.{desk_size, desk_words, place_legal, desk_legal, WordsOfDesk, LegalWords, DeskOfWords, LegalDesks}
use Rattle.desk.proofs.Bits.{bit_one, bit_none, bit_small, bit_back, none_not, identifier_whole, used_place, free_place}

pub length_desk : (d : Desk) → length (desk_words d) ≡ desk_size
length_desk d = refl

waits_some : (ws : List ℕ) → waits ws ≡ ltb 0 (length ws)
waits_some [] = refl
waits_some (x ∷ xs) = sym (lt-ltb 0 (length (x ∷ xs)) (omega arith))

same_late : (f o m w : Bool) → f && (o && m && w) ≡ f && o && m && w
same_late true o m w = refl
same_late false o m w = refl

-- what is asked of a desk, by its words
pub record Tests (o m f n p q r s : ℕ) : Type 0 where
  pub on : leb o 1 ≡ true
  pub masked : leb m 1 ≡ true
  pub flag : leb f 1 ≡ true
  pub few : leb n requests_maximum ≡ true
  pub first : place_legal (ltb 0 n) p ≡ true
  pub second : place_legal (ltb 1 n) q ≡ true
  pub third : place_legal (ltb 2 n) r ≡ true
  pub fourth : place_legal (ltb 3 n) s ≡ true
  pub unserved : not (eqb f 1 && eqb o 1 && eqb m 0 && ltb 0 n) ≡ true

tests : (o m f n p q r s : ℕ) → desk_legal (o ∷ m ∷ f ∷ n ∷ p ∷ q ∷ r ∷ s ∷ []) ≡ true → Tests o m f n p q r s
tests o m f n p q r s h =
    let a = both (leb o 1 && leb m 1 && leb f 1 && leb n requests_maximum && place_legal (ltb 0 n) p && place_legal (ltb 1 n) q && place_legal (ltb 2 n) r && place_legal (ltb 3 n) s) _ h in
    let b = both (leb o 1 && leb m 1 && leb f 1 && leb n requests_maximum && place_legal (ltb 0 n) p && place_legal (ltb 1 n) q && place_legal (ltb 2 n) r) _ a.0 in
    let c = both (leb o 1 && leb m 1 && leb f 1 && leb n requests_maximum && place_legal (ltb 0 n) p && place_legal (ltb 1 n) q) _ b.0 in
    let d = both (leb o 1 && leb m 1 && leb f 1 && leb n requests_maximum && place_legal (ltb 0 n) p) _ c.0 in
    let e = both (leb o 1 && leb m 1 && leb f 1 && leb n requests_maximum) _ d.0 in
    let g = both (leb o 1 && leb m 1 && leb f 1) _ e.0 in
    let i = both (leb o 1 && leb m 1) _ g.0 in
    let j = both (leb o 1) _ i.0 in
    record { on = j.0; masked = j.1; flag = i.1; few = g.1; first = e.1; second = d.1; third = c.1; fourth = b.1; unserved = a.1 }

-- a desk of words that pass, with these requests
legal_by : (o m f : ℕ) (ws : List ℕ) → leb m 1 ≡ true → leb (length ws) requests_maximum ≡ true → all_identifiers ws ≡ true
    → not (eqb f 1 && eqb o 1 && eqb m 0 && ltb 0 (length ws)) ≡ true → legal_desk (desk_of (eqb o 1) (eqb m 1) (eqb f 1) ws) ≡ true
legal_by o m f ws hm few ids h =
    together (leb (length ws) requests_maximum && all_identifiers ws) _ (together (leb (length ws) requests_maximum) _ few ids)
    (rw (waits_some ws, same_late (eqb f 1) (eqb o 1) (not (eqb m 1)) (ltb 0 (length ws)), ← none_not m hm) h)

by_count : (o m f n p q r s : ℕ) → Tests o m f n p q r s → WordsOfDesk (o ∷ m ∷ f ∷ n ∷ p ∷ q ∷ r ∷ s ∷ [])
by_count o m f zero p q r s t =
    record {
      words = rw (bit_back o t.on, bit_back m t.masked, bit_back f t.flag, free_place p t.first, free_place q t.second, free_place r t.third, free_place s t.fourth);
      legal = legal_by o m f [] t.masked refl refl t.unserved;
    }
by_count o m f (suc zero) p q r s t =
    let ip = used_place p t.first in
    let ep = identifier_whole p ip in
    record {
      words = rw (bit_back o t.on, bit_back m t.masked, bit_back f t.flag, ep, free_place q t.second, free_place r t.third, free_place s t.fourth);
      legal = rw ep (legal_by o m f (p ∷ []) t.masked refl (rw ip) t.unserved);
    }
by_count o m f (suc (suc zero)) p q r s t =
    let ip = used_place p t.first in
    let iq = used_place q t.second in
    let ep = identifier_whole p ip in
    let eq = identifier_whole q iq in
    record {
      words = rw (bit_back o t.on, bit_back m t.masked, bit_back f t.flag, ep, eq, free_place r t.third, free_place s t.fourth);
      legal = rw (ep, eq) (legal_by o m f (p ∷ q ∷ []) t.masked refl (rw (ip, iq)) t.unserved);
    }
by_count o m f (suc (suc (suc zero))) p q r s t =
    let ip = used_place p t.first in
    let iq = used_place q t.second in
    let ir = used_place r t.third in
    let ep = identifier_whole p ip in
    let eq = identifier_whole q iq in
    let er = identifier_whole r ir in
    record {
      words = rw (bit_back o t.on, bit_back m t.masked, bit_back f t.flag, ep, eq, er, free_place s t.fourth);
      legal = rw (ep, eq, er) (legal_by o m f (p ∷ q ∷ r ∷ []) t.masked refl (rw (ip, iq, ir)) t.unserved);
    }
by_count o m f (suc (suc (suc (suc zero)))) p q r s t =
    let ip = used_place p t.first in
    let iq = used_place q t.second in
    let ir = used_place r t.third in
    let is = used_place s t.fourth in
    let ep = identifier_whole p ip in
    let eq = identifier_whole q iq in
    let er = identifier_whole r ir in
    let es = identifier_whole s is in
    record {
      words = rw (bit_back o t.on, bit_back m t.masked, bit_back f t.flag, ep, eq, er, es);
      legal = rw (ep, eq, er, es) (legal_by o m f (p ∷ q ∷ r ∷ s ∷ []) t.masked refl (rw (ip, iq, ir, is)) t.unserved);
    }
by_count o m f (suc (suc (suc (suc (suc n))))) p q r s t = absurd (let l = leb-true (suc (suc (suc (suc (suc n))))) requests_maximum t.few in omega arith)

pub legal_words : LegalWords
legal_words [] e h = absurd (omega arith)
legal_words (o ∷ []) e h = absurd (omega arith)
legal_words (o ∷ m ∷ []) e h = absurd (omega arith)
legal_words (o ∷ m ∷ f ∷ []) e h = absurd (omega arith)
legal_words (o ∷ m ∷ f ∷ n ∷ []) e h = absurd (omega arith)
legal_words (o ∷ m ∷ f ∷ n ∷ p ∷ []) e h = absurd (omega arith)
legal_words (o ∷ m ∷ f ∷ n ∷ p ∷ q ∷ []) e h = absurd (omega arith)
legal_words (o ∷ m ∷ f ∷ n ∷ p ∷ q ∷ r ∷ []) e h = absurd (omega arith)
legal_words (o ∷ m ∷ f ∷ n ∷ p ∷ q ∷ r ∷ s ∷ []) e h = by_count o m f n p q r s (tests o m f n p q r s h)
legal_words (o ∷ m ∷ f ∷ n ∷ p ∷ q ∷ r ∷ s ∷ x ∷ xs) e h = absurd (omega arith)

-- ---- and back

-- what a legal desk has
pub record Fine (d : Desk) : Type 0 where
  pub few : leb (length d.waiting) requests_maximum ≡ true
  pub ids : all_identifiers d.waiting ≡ true
  pub unserved : not (d.flag && ready d) ≡ true

pub fine : (d : Desk) → legal_desk d ≡ true → Fine d
fine d h =
    let a = both (leb (length d.waiting) requests_maximum && all_identifiers d.waiting) _ h in
    let b = both (leb (length d.waiting) requests_maximum) _ a.0 in
    record { few = b.0; ids = b.1; unserved = a.1 }

-- the identifiers of a list of them
pub one_of : (x : ℕ) (xs : List ℕ) → all_identifiers (x ∷ xs) ≡ true → (leb x identifier_maximum ≡ true) × (all_identifiers xs ≡ true)
one_of x xs h = both (leb x identifier_maximum) (all_identifiers xs) h

late_words : (on masked flag : Bool) (ws : List ℕ) → not (flag && ready (desk_of on masked flag ws)) ≡ true
    → not (eqb (bit flag) 1 && eqb (bit on) 1 && eqb (bit masked) 0 && ltb 0 (length ws)) ≡ true
late_words on masked flag ws h =
    rw (bit_one flag, bit_one on, bit_none masked, ← waits_some ws, ← same_late flag on (not masked) (waits ws)) h

back_by : (on masked flag : Bool) (ws : List ℕ) → leb (length ws) requests_maximum ≡ true → all_identifiers ws ≡ true
    → not (eqb (bit flag) 1 && eqb (bit on) 1 && eqb (bit masked) 0 && ltb 0 (length ws)) ≡ true → DeskOfWords (desk_of on masked flag ws)
back_by on masked flag [] few ids h =
    record { back = rw (bit_one on, bit_one masked, bit_one flag); legal = rw (bit_small on, bit_small masked, bit_small flag) h }
back_by on masked flag (x ∷ []) few ids h =
    let ix = one_of x [] ids in
    record {
      back = rw (bit_one on, bit_one masked, bit_one flag, identifier_whole x ix.0);
      legal = rw (bit_small on, bit_small masked, bit_small flag, ix.0) h;
    }
back_by on masked flag (x ∷ y ∷ []) few ids h =
    let ix = one_of x (y ∷ []) ids in
    let iy = one_of y [] ix.1 in
    record {
      back = rw (bit_one on, bit_one masked, bit_one flag, identifier_whole x ix.0, identifier_whole y iy.0);
      legal = rw (bit_small on, bit_small masked, bit_small flag, ix.0, iy.0) h;
    }
back_by on masked flag (x ∷ y ∷ z ∷ []) few ids h =
    let ix = one_of x (y ∷ z ∷ []) ids in
    let iy = one_of y (z ∷ []) ix.1 in
    let iz = one_of z [] iy.1 in
    record {
      back = rw (bit_one on, bit_one masked, bit_one flag, identifier_whole x ix.0, identifier_whole y iy.0, identifier_whole z iz.0);
      legal = rw (bit_small on, bit_small masked, bit_small flag, ix.0, iy.0, iz.0) h;
    }
back_by on masked flag (x ∷ y ∷ z ∷ w ∷ []) few ids h =
    let ix = one_of x (y ∷ z ∷ w ∷ []) ids in
    let iy = one_of y (z ∷ w ∷ []) ix.1 in
    let iz = one_of z (w ∷ []) iy.1 in
    let iw = one_of w [] iz.1 in
    record {
      back = rw (bit_one on, bit_one masked, bit_one flag, identifier_whole x ix.0, identifier_whole y iy.0, identifier_whole z iz.0, identifier_whole w iw.0);
      legal = rw (bit_small on, bit_small masked, bit_small flag, ix.0, iy.0, iz.0, iw.0) h;
    }
back_by on masked flag (x ∷ y ∷ z ∷ w ∷ v ∷ vs) few ids h = absurd (let l = leb-true (length (x ∷ y ∷ z ∷ w ∷ v ∷ vs)) requests_maximum few in omega arith)

pub legal_desks : LegalDesks
legal_desks d h =
    let f = fine d h in
    back_by d.on d.masked d.flag d.waiting f.few f.ids (late_words d.on d.masked d.flag d.waiting f.unserved)

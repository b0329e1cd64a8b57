-- A page read back: proved once, over the table of fields.
use mathlib.Core.Path.{◌≡◌, refl, sym, ap, ap₂, ◌∙◌}
use mathlib.Core.Bool.{true}
use mathlib.Core.List.{List, [], ◌∷◌, ◌++◌}
use mathlib.Core.Logic.{◌⊎◌, inl, inr, ⊎_elim}
use Prim.Native.Nat.{ℕ, zero, suc, ◌+◌, ◌-◌, ◌≤◌, min}
use native.Mathlib.Omega.{arith}
use native.Mathlib.Nat.{zero-add, eq-zero-or-pos}
use lib.Dec.{leb}
use lib.ListN.{length, drop, replicate, length-replicate, drop_of_length-le}
use lib.Seq.{sets, sets-eq, length-sets}
use borrow.Author.Tests.{leb-true, le-leb}
use Rattle.octets.specs.Octets.{bytes_of, number_of, part}
use Rattle.octets.specs.declared.Place.{Place}
use Rattle.octets.specs.Pages.{Field, field, fields_at, places_from, puts, place, tidy, readings, Fit, values}
use Rattle.octets.proofs.Runs.{sets_append, part_into}
use Rattle.octets.proofs.PutAndGet.{length_bytes, get_put, get_other}
use Rattle.octets.proofs.JoinedTests.{both}

tidy_end : (fs : List Field) (from size : ℕ) → tidy from size fs ≡ true → from ≤ size
tidy_end [] from size h = leb-true from size h
tidy_end (f ∷ fs) from size h =
    let b = both _ _ h in
    let l : f.at + f.width ≤ size = tidy_end fs (f.at + f.width) size b.1 in
    let k : from ≤ f.at = leb-true from f.at b.0 in
    omega arith

-- what stands before the fields is as it was
pub puts_before : (fs : List Field) (l : List ℕ) (from size d m : ℕ) → tidy from size fs ≡ true → d + m ≤ from → part (puts l fs) d m ≡ part l d m
puts_before [] l from size d m h o = refl
puts_before (f ∷ fs) l from size d m h o =
    let b = both _ _ h in
    let k : from ≤ f.at = leb-true from f.at b.0 in
    puts_before fs (sets l f.at (bytes_of f.width f.value)) (f.at + f.width) size d m b.1 (omega arith)
    ∙ get_other l f.at f.width f.value d m (inl (omega arith))

-- and what stands after them
pub puts_after : (fs : List Field) (l : List ℕ) (from size d m : ℕ) → tidy from size fs ≡ true → size ≤ d → part (puts l fs) d m ≡ part l d m
puts_after [] l from size d m h o = refl
puts_after (f ∷ fs) l from size d m h o =
    let b = both (leb from f.at) _ h in
    let k : f.at + f.width ≤ size = tidy_end fs (f.at + f.width) size b.1 in
    puts_after fs (sets l f.at (bytes_of f.width f.value)) (f.at + f.width) size d m b.1 o
    ∙ get_other l f.at f.width f.value d m (inr (omega arith))

-- a part of a page of zeros
pub part_zeros : (size at n : ℕ) → at + n ≤ size → part (replicate size 0) at n ≡ replicate n 0
part_zeros size zero zero h = refl
part_zeros zero zero (suc n) h = absurd (omega arith)
part_zeros zero (suc at) n h = absurd (omega arith)
part_zeros (suc size) zero (suc n) h = ap (◌∷◌ 0) (part_zeros size 0 n (omega arith))
part_zeros (suc size) (suc at) n h = part_zeros size at n (omega arith)

back : (fs : List Field) (l : List ℕ) (from : ℕ) → tidy from (length l) fs ≡ true → Fit fs → readings (puts l fs) fs ≡ values fs
back [] l from h fit = refl
back (f ∷ fs) l from h fit =
    let b = both (leb from f.at) _ h in
    let l' : List ℕ = sets l f.at (bytes_of f.width f.value) in
    let e : length l' ≡ length l = length-sets l f.at (bytes_of f.width f.value) in
    let room : f.at + f.width ≤ length l = tidy_end fs (f.at + f.width) (length l) b.1 in
    ap₂ ◌∷◌
    (ap number_of (puts_before fs l' (f.at + f.width) (length l) f.at f.width b.1 (omega arith))
    ∙ get_put l f.at f.width f.value room fit.0)
    (back fs l' (f.at + f.width) (rw e b.1) fit.1)

-- a page read at its fields gives back their values
pub read_back : (size : ℕ) (fs : List Field) → tidy 0 size fs ≡ true → Fit fs → readings (place size fs) fs ≡ values fs
unfolding place
read_back size fs h fit = back fs (replicate size 0) 0 (rw length-replicate h) fit

earlier : (fs : List Field) (from size : ℕ) → tidy from size fs ≡ true → tidy 0 size fs ≡ true
earlier [] from size h = le-leb 0 size (omega arith)
earlier (f ∷ fs) from size h = rw (le-leb 0 f.at (omega arith)) (both (leb from f.at) _ h).1

-- the first field is within the page, and the rest is tidy
pub tidy_first : (f : Field) (fs : List Field) (size : ℕ) → tidy 0 size (f ∷ fs) ≡ true → (f.at + f.width ≤ size) × (tidy 0 size fs ≡ true)
tidy_first f fs size h =
    let b = both (leb 0 f.at) _ h in (tidy_end fs (f.at + f.width) size b.1, earlier fs (f.at + f.width) size b.1)

-- what is put at places within a part is put in the part
pub puts_window : (ps : List Place) (vs l : List ℕ) (from n : ℕ) → tidy 0 n (fields_at (places_from 0 ps) vs) ≡ true
    → part (puts l (fields_at (places_from from ps) vs)) from n ≡ puts (part l from n) (fields_at (places_from 0 ps) vs)
puts_window [] vs l from n h = refl
puts_window (p ∷ ps) [] l from n h = refl
puts_window (p ∷ ps) (v ∷ vs) l from n h =
    let t = tidy_first (field (0 + p.at) p.width v) (fields_at (places_from 0 ps) vs) n h in
    let z : 0 + p.at ≡ p.at = zero-add p.at in
    puts_window ps vs (sets l (from + p.at) (bytes_of p.width v)) from n t.1
    ∙ ap (λ (m : List ℕ). puts m (fields_at (places_from 0 ps) vs))
    (part_into (bytes_of p.width v) l from p.at n (omega (arith, t.0, z, length_bytes p.width v)) ∙ ap (λ (k : ℕ). sets (part l from n) k (bytes_of p.width v)) (sym z))

none_at : (ps : List Place) → fields_at ps [] ≡ []
none_at [] = refl
none_at (p ∷ ps) = refl

-- a turn of the loop that puts numbers at places
module _ (from : ℕ) (ps : List Place) (vs : List ℕ) where
  ends : (n : ℕ) → n ≡ min (length ps) (length vs) → (length ps ≤ n) ⊎ (length vs ≤ n)
  ends n e = ⊎_elim (λ z. inl (omega arith)) (λ z. inr (omega arith)) (eq-zero-or-pos (length ps - n))

  -- what is left to put after n turns
  abbrev pub rest_of : ℕ → List Field
  rest_of n = fields_at (places_from from (drop n ps)) (drop n vs)

  pub fill_end : (page : List ℕ) (n : ℕ) → n ≡ min (length ps) (length vs) → puts page (rest_of n) ≡ page
  fill_end page n e =
      ⊎_elim
      (λ h. let e : drop n ps ≡ [] = drop_of_length-le ps h in rw e)
      (λ h. let e : drop n vs ≡ [] = drop_of_length-le vs h in rw (e, none_at (places_from from (drop n ps))))
      (ends n e)

pub placed : (size : ℕ) (fs : List Field) → puts (replicate size 0) fs ≡ place size fs
unfolding place
placed size fs = refl

-- ---- a page made in place, on the first bytes of a list

pub blank : (size : ℕ) → replicate size 0 ≡ place size []
unfolding place
blank size = refl

puts_blank : (size : ℕ) (fs : List Field) → puts (place size []) fs ≡ place size fs
unfolding place
puts_blank size fs = refl

pub length_puts : (fs : List Field) (page : List ℕ) → length (puts page fs) ≡ length page
length_puts [] page = refl
length_puts (f ∷ fs) page =
    length_puts fs (sets page f.at (bytes_of f.width f.value)) ∙ length-sets page f.at (bytes_of f.width f.value)

pub length_place : (size : ℕ) (fs : List Field) → length (place size fs) ≡ size
unfolding place
length_place size fs = length_puts fs (replicate size 0) ∙ length-replicate size 0

puts_append : (fs : List Field) (z m : List ℕ) → tidy 0 (length z) fs ≡ true → puts (z ++ m) fs ≡ puts z fs ++ m
puts_append [] z m h = refl
puts_append (f ∷ fs) z m h =
    let t = tidy_first f fs (length z) h in
    let v : List ℕ = bytes_of f.width f.value in
    let room : f.at + length v ≤ length z = rw (length_bytes f.width f.value) t.0 in
    ap (λ (l : List ℕ). puts l fs) (sets_append v z m f.at room)
    ∙ puts_append fs (sets z f.at v) m (rw (length-sets z f.at v) t.1)

-- fields put on a cleared start make the page there, and the rest is as it was
pub puts_onto : (size : ℕ) (fs : List Field) (l : List ℕ) → tidy 0 size fs ≡ true → size ≤ length l
    → puts (sets l 0 (place size [])) fs ≡ sets l 0 (place size fs)
puts_onto size fs l h room =
    let blank : List ℕ = place size [] in
    let long : length blank ≡ size = length_place size [] in
    let rest : List ℕ = drop (0 + size) l in
    let start : sets l 0 blank ≡ blank ++ rest = sets-eq blank l 0 (omega arith) ∙ rw long in
    let whole : length (place size fs) ≡ size = length_place size fs in
    ap (λ (m : List ℕ). puts m fs) start
    ∙ puts_append fs blank rest (rw long h)
    ∙ ap (λ (m : List ℕ). m ++ rest) (puts_blank size fs)
    ∙ sym (sets-eq (place size fs) l 0 (omega arith) ∙ rw whole)

pub made_onto : (size : ℕ) (fs : List Field) (l start last : List ℕ) → tidy 0 size fs ≡ true → size ≤ length l
    → start ≡ sets l 0 (place size []) → last ≡ puts start fs → last ≡ sets l 0 (place size fs)
made_onto size fs l start last h room es el = el ∙ ap (λ (m : List ℕ). puts m fs) es ∙ puts_onto size fs l h room

pub puts_more : (fs gs : List Field) (page : List ℕ) → puts page (fs ++ gs) ≡ puts (puts page fs) gs
puts_more [] gs page = refl
puts_more (f ∷ fs) gs page = puts_more fs gs (sets page f.at (bytes_of f.width f.value))

-- A reply of 16 bytes, as its numbers.
use mathlib.Core.Path.{◌≡◌, refl, sym, ap, ◌∙◌}
use mathlib.Core.Bool.{Bool, true, false}
use mathlib.Core.List.{List, ◌∷◌, ◌++◌}
use mathlib.Core.Logic.{inl}
use Prim.Native.Nat.{ℕ, zero, suc, ◌-◌, ◌≤◌, ◌<◌, min}
use native.Mathlib.Omega.{arith}
use borrow.Author.Tests.{leb-true, leb-false}
use lib.Dec.{lit<, leb}
use lib.ListN.{length, get_or, take, replicate, length-replicate}
use lib.Seq.{sets, length-sets}
use Rattle.octets.specs.Octets as octet
use Rattle.octets.specs.Octets.{bytes_of, number_of, padded}
use Rattle.octets.specs.Pages.{place}
use Rattle.octets.proofs.Runs.{sets_join, sets_over}
use Rattle.octets.proofs.PutAndGet.{get_put, get_other}
use Rattle.replies.specs.Answers.{Notice, told_no, to_no, notice_no}
use Rattle.std.specs.Prelude.{None, Some}
use Rattle.desk.specs.Desk.{identifier_maximum}
use Rattle.steps.proofs.HeldWords.{notice_back}
use Rattle.card_c.specs.Entries.{reply_size, notice_at, notice_id_at, notice_size, reply_page, reply_part}
use Rattle.card_c.specs.HeldByC.{silenced, notice_in}

-- the notice's, and all of them
abbrev told : Notice → List ℕ
told n = bytes_of 2 (told_no n) ++ (bytes_of 2 (to_no n) ++ bytes_of 4 (notice_no n))

abbrev numbers : ℕ → ℕ → Notice → List ℕ
numbers dword len n = bytes_of 4 dword ++ (bytes_of 4 len ++ told n)

pub page_is : (dword len : ℕ) (n : Notice) → reply_page dword len n ≡ numbers dword len n
unfolding reply_page place
page_is dword len n = refl

pub page_long : (dword len : ℕ) (n : Notice) → length (reply_page dword len n) ≡ reply_size
page_long dword len n = ap length (page_is dword len n)

pub whole :
    (r : List ℕ) (dword len : ℕ) (n : Notice)
    → sets (sets (sets (sets (sets r 0 (bytes_of 4 dword)) 4 (bytes_of 4 len)) 8 (bytes_of 2 (told_no n))) 10 (bytes_of 2 (to_no n))) 12 (bytes_of 4 (notice_no n))
    ≡ sets r 0 (reply_page dword len n)
whole r dword len n =
    sets_join (bytes_of 2 (to_no n)) (bytes_of 4 (notice_no n)) (sets (sets (sets r 0 (bytes_of 4 dword)) 4 (bytes_of 4 len)) 8 (bytes_of 2 (told_no n))) 10
    ∙ sets_join (bytes_of 2 (told_no n)) (bytes_of 2 (to_no n) ++ bytes_of 4 (notice_no n)) (sets (sets r 0 (bytes_of 4 dword)) 4 (bytes_of 4 len)) 8
    ∙ sets_join (bytes_of 4 len) (told n) (sets r 0 (bytes_of 4 dword)) 4
    ∙ sets_join (bytes_of 4 dword) (bytes_of 4 len ++ told n) r 0
    ∙ ap (sets r 0) (sym (page_is dword len n))

pub part_whole : (dword len : ℕ) (n : Notice) (room : ℕ) → reply_size ≤ room → reply_part dword len n room ≡ reply_page dword len n
unfolding reply_page place
part_whole dword len n room h = let e : min room reply_size ≡ reply_size = omega arith in rw e

pub part_short : (dword len : ℕ) (n : Notice) (room : ℕ) → room ≤ reply_size → padded (reply_page dword len n) 0 room ≡ reply_part dword len n room
part_short dword len n room h = let e : min room reply_size ≡ room = omega arith in rw e

-- ---- the notice left out, as far as the region reaches

padded_take : (l : List ℕ) (at n k : ℕ) → n ≤ k → take n (padded l at k) ≡ padded l at n
padded_take l at zero k h = refl
padded_take l at (suc n) zero h = absurd (omega arith)
padded_take l at (suc n) (suc k) h = ap (λ (t : List ℕ). get_or l at 0 ∷ t) (padded_take l (suc at) n k (omega arith))

length_padded : (l : List ℕ) (at n : ℕ) → length (padded l at n) ≡ n
length_padded l at zero = refl
length_padded l at (suc n) = ap suc (length_padded l (suc at) n)

take_zeros : (n k : ℕ) → n ≤ k → take {A = ℕ} n (replicate k 0) ≡ replicate n 0
take_zeros zero k h = refl
take_zeros (suc n) zero h = absurd (omega arith)
take_zeros (suc n) (suc k) h = ap (λ (t : List ℕ). 0 ∷ t) (take_zeros n k (omega arith))

module _ (r : List ℕ) (dword len : ℕ) (n : Notice) where
  abbrev front : List ℕ
  front = bytes_of 4 dword ++ bytes_of 4 len

  abbrev part : Notice → List ℕ
  part n = reply_part dword len n (length r)

  said_long : (n : Notice) → length (sets r 0 (part n)) ≡ length r
  said_long n = length-sets r 0 (part n)

  -- no byte of it is there
  short : (n : Notice) → length r ≤ notice_at → part n ≡ take (length r) front
  short n h =
      let e : min (length r) reply_size ≡ length r = omega arith in
      rw (e, page_is dword len n) (sym (padded_take (numbers dword len n) 0 (length r) notice_at h))

  none : length r ≤ notice_at → silenced (sets r 0 (part n)) ≡ sets r 0 (part None)
  none h =
      let z : min (length (sets r 0 (part n)) - notice_at) notice_size ≡ 0 = omega (arith, said_long n) in
      rw z (ap (sets r 0) (short n h ∙ sym (short None h)))

  -- some are
  abbrev more : ℕ
  more = min (length r - notice_at) notice_size

  long : (n : Notice) → notice_at ≤ length r → part n ≡ front ++ padded (numbers dword len n) notice_at more
  long n h =
      let e : min (length r) reply_size ≡ suc (suc (suc (suc (suc (suc (suc (suc more))))))) = omega arith in
      rw e (ap (λ (page : List ℕ). padded page 0 (suc (suc (suc (suc (suc (suc (suc (suc more))))))))) (page_is dword len n))

  zeros : padded (numbers dword len None) notice_at more ≡ replicate more 0
  zeros =
      let h : more ≤ notice_size = omega arith in
      sym (padded_take (numbers dword len None) notice_at more notice_size h) ∙ take_zeros more notice_size h

  some : notice_at ≤ length r → silenced (sets r 0 (part n)) ≡ sets r 0 (part None)
  some h =
      let ys = padded (numbers dword len n) notice_at more in
      let z : min (length (sets r 0 (part n)) - notice_at) notice_size ≡ more = omega (arith, said_long n) in
      rw z
      (ap (λ (s : List ℕ). sets (sets r 0 s) notice_at (replicate more 0)) (long n h)
      ∙ ap (λ (s : List ℕ). sets s notice_at (replicate more 0)) (sym (sets_join front ys r 0))
      ∙ sets_over ys (replicate more 0) (sets r 0 front) notice_at (length_padded (numbers dword len n) notice_at more ∙ sym (length-replicate more 0))
      ∙ sets_join front (replicate more 0) r 0
      ∙ ap (sets r 0) (ap (λ (s : List ℕ). front ++ s) (sym zeros) ∙ sym (long None h)))

  by_room : (b : Bool) → leb notice_at (length r) ≡ b → silenced (sets r 0 (part n)) ≡ sets r 0 (part None)
  by_room true e = some (leb-true notice_at (length r) e)
  by_room false e = none (omega (arith, leb-false notice_at (length r) e))

  pub notice_left_out : silenced (sets r 0 (part n)) ≡ sets r 0 (part None)
  notice_left_out = by_room (leb notice_at (length r)) refl

  -- ---- the notice read back, where there is room for it

  module _ (h : reply_size ≤ length r) (small : to_no n ≤ identifier_maximum) where
    abbrev here : List ℕ
    here = sets (sets r 0 (bytes_of 4 dword)) 4 (bytes_of 4 len)

    abbrev before : List ℕ
    before = sets here notice_at (bytes_of 2 (told_no n))

    here_long : length here ≡ length r
    here_long = length-sets (sets r 0 (bytes_of 4 dword)) 4 (bytes_of 4 len) ∙ length-sets r 0 (bytes_of 4 dword)

    before_long : length before ≡ length r
    before_long = length-sets here notice_at (bytes_of 2 (told_no n)) ∙ here_long

    said_is : sets r 0 (part n) ≡ sets (sets before notice_id_at (bytes_of 2 (to_no n))) 12 (bytes_of 4 (notice_no n))
    said_is = ap (sets r 0) (part_whole dword len n (length r) h) ∙ sym (whole r dword len n)

    told_below : (n : Notice) → told_no n < 65536
    told_below None = lit< tt
    told_below (Some id) = lit< tt

    told_back : number_of (octet.part (sets r 0 (part n)) notice_at 2) ≡ told_no n
    told_back =
        rw said_is
        (ap number_of (get_other (sets before notice_id_at (bytes_of 2 (to_no n))) 12 4 (notice_no n) notice_at 2 (inl (omega arith))
        ∙ get_other before notice_id_at 2 (to_no n) notice_at 2 (inl (omega arith)))
        ∙ get_put here notice_at 2 (told_no n) (omega (arith, here_long)) (told_below n))

    to_back : number_of (octet.part (sets r 0 (part n)) notice_id_at 2) ≡ to_no n
    to_back =
        rw said_is
        (ap number_of (get_other (sets before notice_id_at (bytes_of 2 (to_no n))) 12 4 (notice_no n) notice_id_at 2 (inl (omega arith)))
        ∙ get_put before notice_id_at 2 (to_no n) (omega (arith, before_long)) (omega arith))

    pub notice_heard : notice_in (sets r 0 (part n)) ≡ n
    notice_heard = rw (told_back, to_back) (notice_back n)

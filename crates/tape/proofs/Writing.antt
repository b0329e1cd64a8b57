-- Text put piece by piece: a turn of each loop, and how long each piece is.
use mathlib.Core.Path.{◌≡◌, refl, sym, ap, ◌∙◌}
use mathlib.Core.List.{List, [], ◌∷◌, ◌++◌}
use mathlib.Core.Logic.{inr}
use Prim.Native.Nat.{ℕ, zero, suc, ◌+◌, ◌*◌, ◌-◌, ◌/◌, ◌%◌, ◌^◌, ◌≤◌, ◌<◌}
use native.Mathlib.Omega.{arith}
use native.Mathlib.Nat.{pow-suc, lt_trans, lt_of_lt_of_le, mod-lt}
use native.Mathlib.Numerals.{add-one}
use borrow.Author.Tests.{lt-ltb, le-ltb}
use lib.Dec.{lit<}
use lib.ListN.{length, length-append, get_or, set, take, drop}
use lib.Seq.{sets, length-sets, drop-cons}
use borrow.Rule.Slice.PartMut.{put_mid}
use Rattle.std.proofs.Common.{append_assoc, length-take-le}
use Rattle.std.proofs.lemmas.List.{take_at}
use Rattle.std.proofs.lemmas.List.Edits.{sets-eq, paste_all}
use Rattle.std.proofs.lemmas.Slice.{put_mid-paste}
use Rattle.octets.proofs.Runs.{set_sets, sets_join}
use Rattle.tape.specs.Text.{digit_of, digits_of, hex_of, places_below, places, data_hex, data_text, space, Put}

pub length_digits : (base w v : ℕ) → length (digits_of base w v) ≡ w
length_digits base zero v = refl
length_digits base (suc w) v =
    length-append (digits_of base w (v / base)) (digit_of (v % base) ∷ []) ∙ ap (λ (k : ℕ). k + 1) (length_digits base w (v / base)) ∙ add-one w

pub digits_turn : (l : List ℕ) (at base left v : ℕ) → 0 < left
    → sets (set l (at + (left - 1)) (digit_of (v % base))) at (digits_of base (left - 1) (v / base)) ≡ sets l at (digits_of base left v)
digits_turn l at base zero v h = absurd (omega arith)
digits_turn l at base (suc k) v h =
    let d = digit_of (v % base) in
    let xs = digits_of base k (v / base) in
    let e : suc k - 1 ≡ k = omega arith in
    let long : length xs ≡ k = length_digits base k (v / base) in
    rw e
    (set_sets xs l at (at + k) d (inr (omega arith))
    ∙ ap (λ (n : ℕ). set (sets l at xs) (at + n) d) (sym long)
    ∙ sets_join xs (d ∷ []) l at)

pub digits_end : (l : List ℕ) (at base left v : ℕ) → left ≤ 0 → sets l at (digits_of base left v) ≡ l
digits_end l at base zero v h = refl
digits_end l at base (suc k) v h = absurd (omega arith)

pub digit_below : (base v : ℕ) → 2 ≤ base → base ≤ 16 → v % base < 16
digit_below base v h f = lt_of_lt_of_le (mod-lt v (omega arith)) f

-- ---- how many decimal digits

pub record Counted (n k rest : ℕ) : Type 0 where
  pub some : 1 ≤ k
  pub few : k ≤ 20
  pub below : rest < 10 ^ suc (20 - k)
  pub left : places_below 19 n + 1 ≡ k + places_below (20 - k) rest

pub counted_start : (n : ℕ) → n < 2 ^ 64 → Counted n 1 n
counted_start n h = record { some = omega arith; few = omega arith; below = lt_trans h (lit< tt); left = omega arith }

turn_by :
    (n k m rest : ℕ) → k + m ≡ 20 → rest < 10 ^ suc m → places_below 19 n + 1 ≡ k + places_below m rest → 10 ≤ rest
    → (k + 1 ≤ 20) × (rest / 10 < 10 ^ suc (m - 1)) × (places_below 19 n + 1 ≡ k + 1 + places_below (m - 1) (rest / 10))
turn_by n k zero rest e b l h = absurd (omega arith)
turn_by n k (suc m) rest e b l h =
    let down : suc m - 1 ≡ m = omega arith in
    let big : rest < 10 ^ suc m * 10 = rw (← pow-suc) b in
    let more : places_below (suc m) rest ≡ suc (places_below m (rest / 10)) = rw (le-ltb rest 10 h) in
    rw down (omega arith, omega arith, omega (arith, more, l))

pub counted_turn : (n k rest : ℕ) → Counted n k rest → 10 ≤ rest → Counted n (k + 1) (rest / 10)
counted_turn n k rest c h =
    let t = turn_by n k (20 - k) rest (omega arith) c.below c.left h in
    let e : 20 - (k + 1) ≡ 20 - k - 1 = omega arith in
    record { some = omega arith; few = t.0; below = rw e t.1; left = rw e t.2 }

one_place : (m rest : ℕ) → rest < 10 → places_below m rest ≡ 1
one_place zero rest h = refl
one_place (suc m) rest h = rw (lt-ltb rest 10 h)

pub counted_end : (n k rest : ℕ) → Counted n k rest → rest < 10 → (k ≡ places n) × (k ≤ 20)
unfolding places
counted_end n k rest c h = (omega (arith, c.left, one_place (20 - k) rest h), c.few)

-- ---- pieces one after another

-- what a part of bytes is after others are copied to it
pub put_mid_sets : (a k : ℕ) (xs ys : List ℕ) → k ≡ length ys → a + length ys ≤ length xs → put_mid a k xs ys ≡ sets xs a ys
put_mid_sets a k xs ys e h =
    put_mid-paste a k xs ys ys (length ys) refl (sym e) refl
    ∙ paste_all xs a ys (length ys) refl
    ∙ sym (append_assoc (take a xs) ys (drop (a + length ys) xs))
    ∙ sym (sets-eq ys xs a h)

-- text that is put after the first bytes
pub grown : (l xs : List ℕ) (at k : ℕ) → k ≡ length xs → at + k ≤ length l → take (at + k) (sets l at xs) ≡ take at l ++ xs
grown l xs at k e h =
    let room : at + length xs ≤ length l = omega arith in
    let long : length (take at l ++ xs) ≡ at + k = omega (arith, length-append (take at l) xs, length-take-le at l (omega arith)) in
    ap (take (at + k)) (sets-eq xs l at room) ∙ take_at (take at l ++ xs) (drop (at + length xs) l) (at + k) long

-- text that is put into bytes after those that are shown
pub appended :
    (bytes after shown text : List ℕ) (at k : ℕ) → take at bytes ≡ shown → at ≤ length bytes → length shown + k ≤ length bytes
    → k ≡ length text → after ≡ sets bytes at text → take (at + k) after ≡ shown ++ text
appended bytes after shown text at k e h f n p =
    ap (take (at + k)) p
    ∙ grown bytes text at k n (omega (arith, f, ap length e, length-take-le at bytes h))
    ∙ ap (λ (l : List ℕ). l ++ text) e

-- text after text
pub then : (l m n xs ys : List ℕ) → m ≡ l ++ xs → n ≡ m ++ ys → n ≡ l ++ (xs ++ ys)
then l m n xs ys p q = q ∙ ap (λ (k : List ℕ). k ++ ys) p ∙ append_assoc l xs ys

pub put_after : (before text after : List ℕ) (at next : ℕ) → after ≡ sets before at text → next ≡ at + length text → at + length text ≤ length before → Put before at text after next
put_after before text after at next e n h = record { bytes = e; place = n; within = rw (n, e, length-sets) h }

-- ---- data

-- a byte's two digits, and after them those of the bytes that follow
pub data_turn : (l bytes : List ℕ) (at i : ℕ) → i < length bytes
    → sets (sets l (at + 2 * i) (hex_of 2 (get_or bytes i 0))) (at + 2 * (i + 1)) (data_hex (drop (i + 1) bytes)) ≡ sets l (at + 2 * i) (data_hex (drop i bytes))
data_turn l bytes at i h =
    let xs = hex_of 2 (get_or bytes i 0) in
    let e : at + 2 * (i + 1) ≡ at + 2 * i + 2 = omega arith in
    rw (drop-cons bytes i 0 h, e, add-one) (sets_join xs (data_hex (drop (suc i) bytes)) l (at + 2 * i))

pub length_data : (bytes : List ℕ) → length (data_hex bytes) ≡ 2 * length bytes
length_data [] = refl
length_data (b ∷ bs) = length-append (hex_of 2 b) (data_hex bs) ∙ omega (arith, length_digits 16 2 b, length_data bs)

-- data after a space
pub spaced :
    (l m n bytes : List ℕ) → (length bytes ≡ 0 → ⊥) → m ≡ l ++ (space ∷ []) → n ≡ m ++ data_hex bytes
    → (n ≡ l ++ data_text bytes) × (length n ≤ length l + 1 + 2 * length bytes)
spaced l m n [] e p q = absurd (e refl)
spaced l m n (b ∷ bs) e p q =
    let whole = then l m n (space ∷ []) (data_hex (b ∷ bs)) p q in
    (whole, omega (arith, ap length whole, length-append l ((space ∷ []) ++ data_hex (b ∷ bs)), length_data (b ∷ bs)))

-- The events of a number's bits are those that the bits were made of: all 32 choices, computed; and the bits of a number's events are
-- those within the mask.
use mathlib.Core.Path.{◌≡◌, refl, sym, ap, ◌∙◌}
use mathlib.Core.Bool.{Bool, true, false}
use mathlib.Core.Logic.{⊎_elim}
use Prim.Native.Nat.{ℕ, ◌+◌, ◌*◌, ◌/◌, ◌%◌, ◌^◌}
use native.Mathlib.Nat.{mod-lt, div-add-mod'}
use native.Mathlib.Omega.{arith}
use lib.Bits.{bit_and, and_block, and_mask}
use lib.Dec.{eqb, lit<}
use Rattle.octets.proofs.Halves.{odd_or_even}
use Rattle.record.specs.declared.Events.{Events}
use Rattle.record.specs.Event.{bit, events_of, bits_of, event_mask, events_in}

back : (i o t x y : Bool) → events_in (bits_of (events_of i o t x y)) ≡ events_of i o t x y
back true true true true true = refl
back true true true true false = refl
back true true true false true = refl
back true true true false false = refl
back true true false true true = refl
back true true false true false = refl
back true true false false true = refl
back true true false false false = refl
back true false true true true = refl
back true false true true false = refl
back true false true false true = refl
back true false true false false = refl
back true false false true true = refl
back true false false true false = refl
back true false false false true = refl
back true false false false false = refl
back false true true true true = refl
back false true true true false = refl
back false true true false true = refl
back false true true false false = refl
back false true false true true = refl
back false true false true false = refl
back false true false false true = refl
back false true false false false = refl
back false false true true true = refl
back false false true true false = refl
back false false true false true = refl
back false false true false false = refl
back false false false true true = refl
back false false false true false = refl
back false false false false true = refl
back false false false false false = refl

pub events_back : (e : Events) → events_in (bits_of e) ≡ e
events_back e = back e.reads e.writes e.time e.exceeded e.excursion

-- ---- the mask

bit_of : (w : ℕ) → bit (eqb (w % 2) 1) ≡ w % 2
bit_of w = ⊎_elim (λ (e : w % 2 ≡ 0). rw e) (λ (e : w % 2 ≡ 1). rw e) (odd_or_even w)

two_bits : (x : ℕ) → x % 4 ≡ x % 2 + 2 * (x / 2 % 2)
two_bits x = omega arith

low_bits : (x : ℕ) → x / 2 ^ 0 % 2 + 2 * (x / 2 ^ 1 % 2) + 4 * (x / 2 ^ 2 % 2) ≡ x % 2 ^ 14 % 2 ^ 3
low_bits x =
    let within : x % 2 ^ 14 % 2 ^ 3 ≡ x % 8 = omega arith in
    let lowest : x % 8 ≡ x % 2 + 2 * (x / 2 % 4) = omega arith in
    let one : x / 2 ^ 0 ≡ x = omega arith in
    let quarter : x / 2 ^ 2 ≡ x / 2 / 2 = omega arith in
    rw (one, quarter) (omega (arith, within, lowest, two_bits (x / 2)))

high_bits : (x : ℕ) → 0x4000 * (x / 2 ^ 14 % 2) + 0x8000 * (x / 2 ^ 15 % 2) ≡ x / 2 ^ 14 % 2 ^ 2 * 2 ^ 14
high_bits x = omega arith

pub masked : (x : ℕ) → bits_of (events_in x) ≡ bit_and x event_mask
masked x =
    let whole : x / 2 ^ 14 * 2 ^ 14 + x % 2 ^ 14 ≡ x = div-add-mod' x (2 ^ 14) in
    let halves = and_block 14 (x / 2 ^ 14) 3 (x % 2 ^ 14) 7 (mod-lt x (lit< tt)) (lit< tt) in
    let and : bit_and x event_mask ≡ x / 2 ^ 14 % 2 ^ 2 * 2 ^ 14 + x % 2 ^ 14 % 2 ^ 3
    = ap (λ (y : ℕ). bit_and y event_mask) (sym whole) ∙ halves ∙ rw (and_mask (x / 2 ^ 14) 2, and_mask (x % 2 ^ 14) 3) in
    rw (bit_of (x / 2 ^ 0), bit_of (x / 2 ^ 1), bit_of (x / 2 ^ 2), bit_of (x / 2 ^ 14), bit_of (x / 2 ^ 15)) (omega (arith, and, low_bits x, high_bits x))

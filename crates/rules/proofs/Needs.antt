-- The laws of the need, and that the code's numbers have room for it.
use mathlib.Core.Path.{◌≡◌, ap}
use mathlib.Core.Bool.{true}
use Prim.Native.Nat.{ℕ, ◌+◌, ◌*◌, ◌-◌, ◌≤◌, ◌<◌, min}
use native.Mathlib.Omega.{arith}
use native.Mathlib.Nat.{mul-le-mul_left, div-lt_iff_lt-mul, le-div_iff_mul-le, div-mul-le_self, add-mul, div-zero}
use borrow.Author.Tests.{leb-true}
use Rattle.std.specs.Int.{div_ceil}
use Rattle.std.proofs.lemmas.Grind.{div_ceil_times}
use Rattle.octets.proofs.JoinedTests.{and_left, and_right}
use Rattle.record.specs.declared.Attributes.{Attributes}
use Rattle.record.specs.Legal.{legal_attributes}
use Rattle.rules.specs.Need.{up_by, need_after, NeedWithin, NeedRises, NeedEnds, NeedRounded}

-- ---- what of a legal set's numbers is used

-- a set has some time in D
pub time_positive : (a : Attributes) → legal_attributes a ≡ true → 1 ≤ a.time_maximum
time_positive a h = search (and_left, and_right, leb-true) depth 12

pub low_high : (a : Attributes) → legal_attributes a ≡ true → a.minimum_low ≤ a.minimum_high
low_high a h = search (and_left, and_right, leb-true) depth 12

-- ---- a quotient that is rounded up

-- it is not below the quotient, and less than one above it
up_covers : (x y : ℕ) → 0 < y → x ≤ up_by x y * y
up_covers x y p =
    let q = up_by x y in
    let e : (q + 1) * y ≡ q * y + 1 * y = add-mul q 1 y in
    let l : x + (y - 1) < (q + 1) * y = (div-lt_iff_lt-mul p).0 (omega arith) in
    omega arith

up_within : (x y : ℕ) → 0 < y → up_by x y * y < x + y
up_within x y p = let l = div-mul-le_self (x + (y - 1)) y in omega arith

up_rises : (x z y : ℕ) → 0 < y → x ≤ z → up_by x y ≤ up_by z y
up_rises x z y p h = (le-div_iff_mul-le p).1 (let q = div-mul-le_self (x + (y - 1)) y in omega arith)

-- of a product no more than a factor, where the other is at most the divisor
pub up_most : (d s y : ℕ) → 0 < y → s ≤ y → up_by (d * s) y ≤ d
up_most d s y p h =
    let m : d * s ≤ d * y = mul-le-mul_left d h in
    let e : (d + 1) * y ≡ d * y + 1 * y = add-mul d 1 y in
    let q : up_by (d * s) y < d + 1 = (div-lt_iff_lt-mul p).1 (omega arith) in
    omega arith

up_full : (d y : ℕ) → 0 < y → d ≤ up_by (d * y) y
up_full d y p = (le-div_iff_mul-le p).1 (omega arith)

-- ---- the laws

pub need_within : NeedWithin
unfolding need_after
need_within a s h l =
    let u = up_most (a.minimum_high - a.minimum_low) s a.time_maximum (time_positive a h) l in
    (omega arith, omega (arith, u, low_high a h))

pub need_rises : NeedRises
unfolding need_after
need_rises a s t h l =
    let d = a.minimum_high - a.minimum_low in
    let m : d * s ≤ d * t = mul-le-mul_left d l in
    let u = up_rises (d * s) (d * t) a.time_maximum (time_positive a h) m in
    omega arith

pub need_ends : NeedEnds
unfolding need_after
need_ends a h =
    let d = a.minimum_high - a.minimum_low in
    let p = time_positive a h in
    let none : up_by (d * 0) a.time_maximum < 1 = (div-lt_iff_lt-mul p).1 (omega arith) in
    let most = up_most d a.time_maximum a.time_maximum p (omega arith) in
    let full = up_full d a.time_maximum p in
    (omega arith, omega (arith, most, full, low_high a h))

pub need_rounded : NeedRounded
unfolding need_after
need_rounded a s h =
    let x = (a.minimum_high - a.minimum_low) * s in
    let y = a.time_maximum in
    let p = time_positive a h in
    let e : a.minimum_low + up_by x y - a.minimum_low ≡ up_by x y = omega arith in
    rw e (up_covers x y p, up_within x y p)

-- ---- for the code

-- the library's quotient, rounded up
pub up_is : (x y : ℕ) → 0 < y → div_ceil x y ≡ up_by x y
up_is x y p =
    let b = div_ceil_times x y p in
    let q = div_ceil x y in
    let l : q ≤ up_by x y = (le-div_iff_mul-le p).1 (omega arith) in
    let e : (q + 1) * y ≡ q * y + 1 * y = add-mul q 1 y in
    let g : up_by x y < q + 1 = (div-lt_iff_lt-mul p).1 (omega arith) in
    omega arith

-- where maximum is 0, which no legal set has
pub no_maximum : (a : Attributes) (s : ℕ) → a.time_maximum ≡ 0 → a.minimum_low ≡ need_after a s
unfolding need_after
no_maximum a s z = rw (z, div-zero ((a.minimum_high - a.minimum_low) * s + (0 - 1))) (omega arith)

-- after a full window: whatever low and high are, the greater of them
pub full : (a : Attributes) → (a.time_maximum ≡ 0 → ⊥) → need_after a a.time_maximum ≡ a.minimum_low + (a.minimum_high - a.minimum_low)
unfolding need_after
full a z =
    let d = a.minimum_high - a.minimum_low in
    let p : 0 < a.time_maximum = omega arith in
    omega (arith, up_most d a.time_maximum a.time_maximum p (omega arith), up_full d a.time_maximum p)

-- of a time in D no more than maximum counts
pub counted : (a : Attributes) (n : ℕ) → n < a.time_maximum → need_after a n ≡ need_after a (min n a.time_maximum)
counted a n l = ap (need_after a) (omega arith)

pub all_counted : (a : Attributes) (n : ℕ) → a.time_maximum ≤ n → need_after a a.time_maximum ≡ need_after a (min n a.time_maximum)
all_counted a n l = ap (need_after a) (omega arith)

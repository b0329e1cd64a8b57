-- One turn of each loop, over plain variables.
use mathlib.Core.Path.{◌≡◌, refl}
use mathlib.Core.List.{List}
use Prim.Native.Nat.{ℕ, zero, suc, ◌+◌, ◌*◌, ◌-◌, ◌/◌, ◌%◌, ◌^◌, ◌≤◌, ◌<◌}
use native.Mathlib.Omega.{arith}
use native.Mathlib.Nat.{pow-suc, pow-le-pow_right, lt_of_lt_of_le}
use native.Mathlib.Numerals.{add-one}
use lib.Arith.{digits_lt}
use lib.Dec.{lit<}
use lib.ListN.{length, get_or, set}
use lib.Seq.{sets, drop-cons}
use Rattle.octets.specs.Octets.{bytes_of, number_of, part}

pub put_turn : (l : List ℕ) (i left x : ℕ) → 0 < left
    → sets (set l i (x % 256)) (i + 1) (bytes_of (left - 1) (x / 256)) ≡ sets l i (bytes_of left x)
put_turn l i zero x h = absurd (omega arith)
put_turn l i (suc k) x h = let e : suc k - 1 ≡ k = omega arith in rw (e, add-one)

pub put_end : (l : List ℕ) (i left x : ℕ) → left ≤ 0 → sets l i (bytes_of left x) ≡ l
put_end l i zero x h = refl
put_end l i (suc k) x h = absurd (omega arith)

pub get_turn : (l : List ℕ) (at i n : ℕ) → 0 < i → at + i ≤ length l
    → number_of (part l (at + i) n) * 256 + get_or l (at + (i - 1)) 0 ≡ number_of (part l (at + (i - 1)) (suc n))
get_turn l at i n h room = let s : suc (at + (i - 1)) ≡ at + i = omega arith in rw (drop-cons l (at + (i - 1)) 0 (omega arith), s)

-- one more byte, and the number still fits as many bytes
pub more : (n x b : ℕ) → x < 256 ^ n → b < 256 → x * 256 + b < 256 ^ suc n
more n x b hx hb = rw pow-suc (digits_lt hx hb)

pub in_word : (n x : ℕ) → x < 256 ^ n → n ≤ 8 → x < 2 ^ 64
in_word n x h f = lt_of_lt_of_le h (pow-le-pow_right (lit< tt) f)

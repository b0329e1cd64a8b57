-- Numbers read from bytes: one of so many bytes fits as many, and one of a part is that of the whole.
use mathlib.Core.Path.{◌≡◌, refl, ap, ◌∙◌}
use mathlib.Core.List.{List, [], ◌∷◌}
use Prim.Native.Nat.{ℕ, zero, suc, ◌+◌, ◌^◌, ◌≤◌, ◌<◌}
use native.Mathlib.Nat.{one-le-pow}
use native.Mathlib.Omega.{arith}
use lib.ListN.{length, get_or, take, drop}
use lib.Dec.{lit<}
use lib.Seq.{drop-cons, take-take, drop-drop, get_or-drop}
use Rattle.octets.specs.Octets.{number_of, part, AllBytes}
use Rattle.octets.specs.Numbers.{number_at}
use Rattle.octets.proofs.Turns.{more}
use Rattle.octets.proofs.Below.{below_rest}

module _ (bytes : List ℕ) (each : (i : ℕ) → get_or bytes i 0 < 256) where
  pub number_below : (at width : ℕ) → at + width ≤ length bytes → number_at bytes at width < 256 ^ width
  number_below at zero h = omega arith
  number_below at (suc width) h =
      let k : at < length bytes = omega arith in
      rw (drop-cons bytes at 0 k) (more width _ (get_or bytes at 0) (number_below (suc at) width (omega arith)) (each at))

-- the same wherever it lies: of bytes that are not there it has none
taken_below : (w : ℕ) (l : List ℕ) → AllBytes l → number_of (take w l) < 256 ^ w
taken_below zero l each = omega arith
taken_below (suc w) [] each = one-le-pow (suc w) 256 (lit< tt)
taken_below (suc w) (b ∷ bs) each = more w _ b (taken_below w bs (below_rest 256 b bs each)) (each 0)

pub read_below : (bytes : List ℕ) → AllBytes bytes → (at width : ℕ) → number_of (part bytes at width) < 256 ^ width
read_below bytes each at width = taken_below width (drop at bytes) (λ i. rw (get_or-drop at bytes i 0) (each (at + i)))

-- ---- a part of a part

pub within_take : (k w n : ℕ) (l : List ℕ) → k + w ≤ n → take w (drop k (take n l)) ≡ take w (drop k l)
within_take zero w n l h = take-take w n l (omega arith)
within_take (suc k) w zero l h = absurd (omega arith)
within_take (suc k) w (suc n) [] h = refl
within_take (suc k) w (suc n) (x ∷ l) h = within_take k w n l (omega arith)

-- a number of a part is that of the whole, further on
pub number_within : (l : List ℕ) (at n k w : ℕ) → k + w ≤ n → number_at (part l at n) k w ≡ number_at l (at + k) w
number_within l at n k w h = ap number_of (within_take k w n (drop at l) h ∙ ap (take w) (drop-drop k at l))

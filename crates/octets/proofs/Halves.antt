-- A number is even or odd.
use mathlib.Core.Path.{◌≡◌}
use mathlib.Core.Logic.{◌⊎◌, inl, inr, ⊎_elim}
use Prim.Native.Nat.{ℕ, ◌%◌}
use native.Mathlib.Nat.{eq-zero-or-pos}
use native.Mathlib.Omega.{arith}

pub odd_or_even : (w : ℕ) → (w % 2 ≡ 0) ⊎ (w % 2 ≡ 1)
odd_or_even w = ⊎_elim inl (λ p. inr (omega arith)) (eq-zero-or-pos (w % 2))

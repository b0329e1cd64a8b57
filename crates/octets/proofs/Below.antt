-- Lists of numbers that are all below a bound, as bytes are and words: parts of them, and what is put among them.
use mathlib.Core.List.{List, [], ◌∷◌}
use Prim.Native.Nat.{ℕ, zero, suc, ◌+◌, ◌<◌}
use lib.ListN.{set, take, drop}
use lib.Seq.{sets, get_or-drop}
use Rattle.octets.specs.Octets.{part, AllBelow}

module _ (m : ℕ) where
  pub below_cons : (x : ℕ) (xs : List ℕ) → x < m → AllBelow m xs → AllBelow m (x ∷ xs)
  below_cons x xs h each zero = h
  below_cons x xs h each (suc j) = each j

  -- one after another
  abbrev pub Each : List ℕ → Type 0
  Each [] = Unit {0}
  Each (x ∷ xs) = (x < m) × Each xs

  pub each_below : 0 < m → (l : List ℕ) → Each l → AllBelow m l
  each_below h [] each j = h
  each_below h (x ∷ xs) each j = below_cons x xs each.0 (each_below h xs each.1) j

  pub below_rest : (x : ℕ) (xs : List ℕ) → AllBelow m (x ∷ xs) → AllBelow m xs
  below_rest x xs each j = each (suc j)

  set_below : (l : List ℕ) (i x : ℕ) → x < m → AllBelow m l → AllBelow m (set l i x)
  set_below [] i x h each j = each j
  set_below (a ∷ l) zero x h each j = below_cons x l h (below_rest a l each) j
  set_below (a ∷ l) (suc i) x h each j = below_cons a (set l i x) (each 0) (set_below l i x h (below_rest a l each)) j

  pub sets_below : (xs l : List ℕ) (i : ℕ) → AllBelow m xs → AllBelow m l → AllBelow m (sets l i xs)
  sets_below [] l i every each = each
  sets_below (x ∷ xs) l i every each = sets_below xs (set l i x) (suc i) (below_rest x xs every) (set_below l i x (every 0) each)

  module _ (some : 0 < m) where
    take_below : (n : ℕ) (l : List ℕ) → AllBelow m l → AllBelow m (take n l)
    take_below zero l each i = some
    take_below (suc n) [] each i = some
    take_below (suc n) (x ∷ xs) each i = below_cons x (take n xs) (each 0) (take_below n xs (below_rest x xs each)) i

    pub part_below : (l : List ℕ) (at n : ℕ) → AllBelow m l → AllBelow m (part l at n)
    part_below l at n each = take_below n (drop at l) (λ i. rw (get_or-drop at l i 0) (each (at + i)))

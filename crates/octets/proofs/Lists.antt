-- Laws of the lists by tests. Nothing of the card.
use mathlib.Core.Path.{◌≡◌, refl, sym, ap}
use mathlib.Core.List.{List, [], ◌∷◌, map}
use mathlib.Core.Option
use mathlib.Core.Option.{Option, some}
use mathlib.Core.Bool.{Bool, true, false}
use Prim.Native.Nat.{ℕ, zero, suc, ◌≤◌}
use native.Mathlib.Omega.{arith}
use lib.ListN.{length}
use Rattle.std.specs.Prelude.{if◌then◌else◌}
use Rattle.octets.specs.Lists.{keep, nth, first}

pub if_ap : {A B : Type 0} (f : A → B) (b : Bool) (x y : A) → f (if b then x else y) ≡ if b then f x else f y
if_ap f true x y = refl
if_ap f false x y = refl

pub if_same : {A : Type 0} (b : Bool) (x : A) → (if b then x else x) ≡ x
if_same true x = refl
if_same false x = refl

pub if_cons : {A : Type 0} (b : Bool) (x y : A) (xs ys : List A) → (b ≡ true → x ≡ y) → xs ≡ ys → (if b then x ∷ xs else xs) ≡ (if b then y ∷ ys else ys)
if_cons true x y xs ys h e = cc (h refl)
if_cons false x y xs ys h e = e

pub map_id : {A : Type 0} (xs : List A) → map (λ (x : A). x) xs ≡ xs
map_id [] = refl
map_id (x ∷ xs) = ap (x ∷◌) (map_id xs)

pub map_same : {A B : Type 0} (f g : A → B) → ((x : A) → f x ≡ g x) → (xs : List A) → map f xs ≡ map g xs
map_same f g e [] = refl
map_same f g e (x ∷ xs) = cc (e x, map_same f g e xs)

pub map_same_if : {A B : Type 0} (f g : A → B) (xs : List A) → (1 ≤ length xs → (x : A) → f x ≡ g x) → map f xs ≡ map g xs
map_same_if f g [] h = refl
map_same_if f g (x ∷ xs) h = map_same f g (h (omega arith)) (x ∷ xs)

pub map_fixed : {A : Type 0} (f : A → A) (xs : List A) → ((k : ℕ) (x : A) → nth k xs ≡ some x → f x ≡ x) → map f xs ≡ xs
map_fixed f [] h = refl
map_fixed f (x ∷ xs) h = cc (h 0 x refl, map_fixed f xs (λ k y e. h (suc k) y e))

pub nth_map : {A B : Type 0} (f : A → B) (k : ℕ) (xs : List A) → nth k (map f xs) ≡ Option.map f (nth k xs)
nth_map f k [] = refl
nth_map f zero (x ∷ xs) = refl
nth_map f (suc k) (x ∷ xs) = nth_map f k xs

pub keep_same : {A : Type 0} (p q : A → Bool) → ((x : A) → p x ≡ q x) → (xs : List A) → keep p xs ≡ keep q xs
keep_same p q e [] = refl
keep_same p q e (x ∷ xs) = rw (e x, keep_same p q e xs)

pub keep_map : {A B : Type 0} (g : A → B) (f : A → A) (p q : A → Bool) → ((x : A) → g (f x) ≡ g x) → ((x : A) → p (f x) ≡ q x)
    → (xs : List A) → map g (keep p (map f xs)) ≡ map g (keep q xs)
keep_map g f p q e h [] = refl
keep_map g f p q e h (x ∷ xs) =
    rw (h x, if_ap (map g) (q x) (f x ∷ keep p (map f xs)) (keep p (map f xs)), if_ap (map g) (q x) (x ∷ keep q xs) (keep q xs), e x, keep_map g f p q e h xs)

-- what is found passes the test
passes_by : {A : Type 0} (p : A → Bool) (y x : A) (b : Bool) (o : Option A) → p y ≡ b → (if b then some y else o) ≡ some x → (o ≡ some x → p x ≡ true) → p x ≡ true
passes_by p y x true o e h k = let q : y ≡ x = cc in cc
passes_by p y x false o e h k = k h

pub first_passes : {A : Type 0} (p : A → Bool) (xs : List A) (x : A) → first p xs ≡ some x → p x ≡ true
first_passes p [] x e = cc
first_passes p (y ∷ xs) x e = passes_by p y x (p y) (first p xs) refl e (first_passes p xs x)

module _ {A : Type 0} (f : A → A) (p : A → Bool) (same : (x : A) → p (f x) ≡ p x) where
  pub first_map : (xs : List A) → first p (map f xs) ≡ Option.map f (first p xs)
  first_map [] = refl
  first_map (x ∷ xs) = rw (same x, first_map xs) (sym (if_ap (Option.map f) (p x) (some x) (first p xs)))

  fixed_by : (x : A) (b : Bool) → (b ≡ true → f x ≡ x) → (o : Option A) → (if b then some (f x) else o) ≡ (if b then some x else o)
  fixed_by x true h o = ap some (h refl)
  fixed_by x false h o = refl

  pub first_fixed : ((x : A) → p x ≡ true → f x ≡ x) → (xs : List A) → first p (map f xs) ≡ first p xs
  first_fixed h [] = refl
  first_fixed h (x ∷ xs) = rw (same x, first_fixed h xs) (fixed_by x (p x) (h x) (first p xs))

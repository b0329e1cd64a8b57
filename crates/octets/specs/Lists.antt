-- Lists by tests, and lists in order. Nothing of the card.
use Rattle.std.specs.Prelude.{Bool, false, ◌||◌, List, [], ◌∷◌, ◌++◌, ℕ, zero, suc, ◌<◌, cond}
use Rattle.std.proofs.Math.Option.{Option, none, some}

-- the first element that passes a test
abbrev pub first {ℓ} : {A : Type ℓ} → (A → Bool) → List A → Option A
first p [] = none
first p (x ∷ xs) = cond (p x) (some x) (first p xs)

-- whether some element passes it
abbrev pub any_of {ℓ} : {A : Type ℓ} → (A → Bool) → List A → Bool
any_of p [] = false
any_of p (x ∷ xs) = p x || any_of p xs

-- the element at a place
abbrev pub nth {ℓ} : {A : Type ℓ} → ℕ → List A → Option A
nth k [] = none
nth zero (x ∷ xs) = some x
nth (suc k) (x ∷ xs) = nth k xs

-- the elements that pass a test
abbrev pub keep {ℓ} : {A : Type ℓ} → (A → Bool) → List A → List A
keep p [] = []
keep p (x ∷ xs) = cond (p x) (x ∷ keep p xs) (keep p xs)

-- lists joined
abbrev pub join {ℓ} : {A : Type ℓ} → List (List A) → List A
join [] = []
join (x ∷ xs) = x ++ join xs

-- of two lists side by side, the elements of the second beside those of the first that pass
abbrev pub beside {ℓ} : {A B : Type ℓ} → (A → Bool) → List A → List B → List B
beside p [] ys = []
beside p (x ∷ xs) [] = []
beside p (x ∷ xs) (y ∷ ys) = cond (p x) (y ∷ beside p xs ys) (beside p xs ys)

-- numbers that rise, each above the one before it and the first above `before`
abbrev pub Rising : ℕ → List ℕ → Type 0
Rising before [] = Unit {0}
Rising before (n ∷ ns) = (before < n) × Rising n ns

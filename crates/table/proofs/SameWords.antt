-- The comparison of two rows, word by word.
use mathlib.Core.Path.{◌≡◌, refl}
use mathlib.Core.Bool.{true}
use mathlib.Core.List.{List, [], ◌∷◌}
use Prim.Native.Nat.{ℕ}
use lib.Dec.{eqb}
use borrow.Author.Tests.{eq-eqb, eqb-true}
use Rattle.octets.proofs.JoinedTests.{both}
use Rattle.table.specs.Table.{same_words}

-- words that are the same are equal, and the other way
pub same_equal : (a b : List ℕ) → same_words a b ≡ true → a ≡ b
same_equal [] [] h = refl
same_equal [] (y ∷ ys) h = cc
same_equal (x ∷ xs) [] h = cc
same_equal (x ∷ xs) (y ∷ ys) h =
    let p = both (eqb x y) (same_words xs ys) h in cc (eqb-true x y p.0, same_equal xs ys p.1)

pub same_self : (a : List ℕ) → same_words a a ≡ true
same_self [] = refl
same_self (x ∷ xs) = rw (eq-eqb x x refl) (same_self xs)

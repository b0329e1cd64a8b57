-- What a status of 0 tells: no row of the table holds; and a table above another, or with another last row.
use mathlib.Core.Path.{◌≡◌, refl}
use mathlib.Core.Bool.{Bool, true, false}
use mathlib.Core.List.{List, [], ◌∷◌, ◌++◌}
use Prim.Native.Nat.{ℕ, ◌<◌}
use native.Mathlib.Omega.{arith}
use borrow.Author.Tests.{ltb-true, ne_eqb}
use lib.Dec.{ltb, eqb}
use Rattle.std.specs.Prelude.{if◌then◌else◌}
use Rattle.octets.proofs.JoinedTests.{both}
use Rattle.octets.proofs.Lists.{if_same}
use Rattle.replies.specs.Status.{Line, line, first_of, numbered, NoneHolds}

one_passed : (b : Bool) (n more : ℕ) → 0 < n → (if b then n else more) ≡ 0 → (b ≡ false) × (more ≡ 0)
one_passed true n more p h = absurd (omega arith)
one_passed false n more p h = (refl, h)

pub passed : (ls : List Line) → numbered ls ≡ true → first_of ls ≡ 0 → NoneHolds ls
passed [] k h = tt
passed (l ∷ ls) k h =
    let b = both (ltb 0 l.number) _ k in
    let p = one_passed l.holds l.number (first_of ls) (ltb-true 0 l.number b.0) h in
    (p.0, passed ls b.1 p.1)

-- and the other way: where no row holds, the status is 0
pub none_held : (ls : List Line) → NoneHolds ls → first_of ls ≡ 0
none_held [] h = refl
none_held (l ∷ ls) h = rw h.0 (none_held ls h.1)

-- one table above another
by_row :
    (b : Bool) (n x y z : ℕ) → 0 < n → y ≡ (if eqb x 0 then z else x)
    → (if b then n else y) ≡ (if eqb (if b then n else x) 0 then z else (if b then n else x))
by_row true n x y z p e = rw (ne_eqb n 0 (λ q. omega arith))
by_row false n x y z p e = e

pub first_append : (xs ys : List Line) → numbered xs ≡ true → first_of (xs ++ ys) ≡ (if eqb (first_of xs) 0 then first_of ys else first_of xs)
first_append [] ys k = refl
first_append (l ∷ ls) ys k =
    let b = both (ltb 0 l.number) _ k in
    by_row l.holds l.number (first_of ls) (first_of (ls ++ ys)) (first_of ys) (ltb-true 0 l.number b.0) (first_append ls ys b.1)

-- ---- a last row that holds less often refuses no more

if_zero : (t : Bool) (m x y : ℕ) → (x ≡ 0 → y ≡ 0) → (if t then m else x) ≡ 0 → (if t then m else y) ≡ 0
if_zero true m x y h e = e
if_zero false m x y h e = h e

pub last_row :
    (ls : List Line) (b d : Bool) (m : ℕ) → (b ≡ false → d ≡ false) → first_of (ls ++ line b m ∷ []) ≡ 0 → first_of (ls ++ line d m ∷ []) ≡ 0
last_row [] true d m h e = rw e (if_same d 0)
last_row [] false d m h e = rw (h refl)
last_row (l ∷ ls) b d m h e = if_zero l.holds l.number _ _ (last_row ls b d m h) e

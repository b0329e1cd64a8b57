-- A bit and its word, an identifier and its word, and the tests of them.
use mathlib.Core.Path.{◌≡◌, refl}
use mathlib.Core.Bool.{Bool, true, false, not}
use Prim.Native.Nat.{ℕ, zero, suc, ◌%◌, ◌^◌}
use native.Mathlib.Omega.{arith}
use native.Mathlib.Nat.{mod-eq_of_lt}
use borrow.Author.Tests.{leb-true, eqb-true}
use lib.Dec.{leb, eqb}
use Rattle.octets.specs.Choice.{bit}
use Rattle.octets.proofs.JoinedTests.{both}
use Rattle.desk.specs.Desk.{identifier_maximum}
use Rattle.desk.specs.Words.{place_legal}

pub bit_one : (b : Bool) → eqb (bit b) 1 ≡ b
bit_one true = refl
bit_one false = refl

pub bit_none : (b : Bool) → eqb (bit b) 0 ≡ not b
bit_none true = refl
bit_none false = refl

pub bit_small : (b : Bool) → leb (bit b) 1 ≡ true
bit_small true = refl
bit_small false = refl

pub bit_back : (x : ℕ) → leb x 1 ≡ true → bit (eqb x 1) ≡ x
bit_back zero h = refl
bit_back (suc zero) h = refl
bit_back (suc (suc x)) h = absurd (let l = leb-true (suc (suc x)) 1 h in omega arith)

pub none_not : (x : ℕ) → leb x 1 ≡ true → eqb x 0 ≡ not (eqb x 1)
none_not zero h = refl
none_not (suc zero) h = refl
none_not (suc (suc x)) h = absurd (let l = leb-true (suc (suc x)) 1 h in omega arith)

-- an identifier is all that its word holds
pub identifier_whole : (x : ℕ) → leb x identifier_maximum ≡ true → x % 2 ^ 16 ≡ x
identifier_whole x h = let l = leb-true x identifier_maximum h in mod-eq_of_lt (omega arith)

-- a place with a request, and one without
pub used_place : (x : ℕ) → place_legal true x ≡ true → leb x identifier_maximum ≡ true
used_place x h = (both (leb x identifier_maximum) true h).0

pub free_place : (x : ℕ) → place_legal false x ≡ true → x ≡ 0
free_place x h = eqb-true x 0 (both (leb x identifier_maximum) (eqb x 0) h).1

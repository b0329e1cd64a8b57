-- A status table: rows of a test and a number, in the document's order.
use Rattle.std.specs.Prelude.{◌≡◌, Bool, true, false, ◌&&◌, List, [], ◌∷◌, ℕ, ltb, if◌then◌else◌, Result, Ok, Err}
use Rattle.replies.specs.declared.Refusal.{Refusal}
use Rattle.replies.specs.Numbers.{success, number}

-- a row of the table: "when" and "number"
pub record Line : Type 0 where
  pub holds : Bool
  pub number : ℕ

abbrev pub line : Bool → ℕ → Line
line holds number = record { holds = holds; number = number }

-- 01: "checked in this order". The number of the first row that holds, or 0.
abbrev pub first_of : List Line → ℕ
first_of [] = 0
first_of (l ∷ ls) = if l.holds then l.number else first_of ls

-- a table as code holds it: each test with its refusal, which `number_of` numbers
abbrev pub lines_of : {R : Type 0} → (R → ℕ) → List (Bool × R) → List Line
lines_of number_of [] = []
lines_of number_of (row ∷ rows) = line row.0 (number_of row.1) ∷ lines_of number_of rows

-- what code answers, as a status number: of refusals that `number_of` numbers, and of those of the card
abbrev pub status_by : {R : Type 0} → (R → ℕ) → Result Unit R → ℕ
status_by number_of (Ok _) = success
status_by number_of (Err r) = number_of r

abbrev pub status_no : Result Unit Refusal → ℕ
status_no s = status_by number s

-- no row has the number 0, which stands for success
abbrev pub numbered : List Line → Bool
numbered [] = true
numbered (l ∷ ls) = ltb 0 l.number && numbered ls

-- no row holds
abbrev pub NoneHolds : List Line → Type 0
NoneHolds [] = Unit
NoneHolds (l ∷ ls) = (l.holds ≡ false) × NoneHolds ls

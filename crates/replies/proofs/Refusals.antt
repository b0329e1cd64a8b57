-- A refusal's number is not that of a success.
use mathlib.Core.Path.{◌≡◌, refl, sym}
use native.Mathlib.Omega.{arith}
use borrow.Author.Tests.{ne_eqb}
use lib.Dec.{eqb}
use Rattle.std.specs.Prelude.{Result, Ok, Err}
use Rattle.std.specs.Result.{is_ok}
use Rattle.replies.specs.declared.Refusal.{Refusal}
use Rattle.replies.specs.declared.Refusal.TheVariants.{InvalidOpcode, InvalidField, TooManyRequests, InvalidLogPage, NotSaveable, UnknownSet, TooEarly, TooShort, BadTable, BadSetUp, TickTooLong, BadCommandLength}
use Rattle.replies.specs.Numbers.{number}
use Rattle.replies.specs.Status.{status_no}

pub no_success : (r : Refusal) → number r ≡ 0 → ⊥
no_success InvalidOpcode h = omega arith
no_success InvalidField h = omega arith
no_success TooManyRequests h = omega arith
no_success InvalidLogPage h = omega arith
no_success NotSaveable h = omega arith
no_success UnknownSet h = omega arith
no_success TooEarly h = omega arith
no_success TooShort h = omega arith
no_success BadTable h = omega arith
no_success BadSetUp h = omega arith
no_success TickTooLong h = omega arith
no_success BadCommandLength h = omega arith

-- what an arm of a `match` tells of a status: no proof here needs it, and it stands for other crates
pub passed_no : (s : Result Unit Refusal) (u : Unit) → s ≡ Ok u → status_no s ≡ 0
passed_no s u e = rw e

-- what `is_ok` tells of it
pub ok_is : (s : Result Unit Refusal) → is_ok s ≡ eqb (status_no s) 0
ok_is (Ok u) = refl
ok_is (Err r) = sym (ne_eqb (number r) 0 (no_success r))

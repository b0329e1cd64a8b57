-- What is not over its limit is at most it.
use mathlib.Core.Path.{◌≡◌}
use mathlib.Core.Bool.{false}
use Prim.Native.Nat.{ℕ, ◌≤◌}
use native.Mathlib.Omega.{arith}
use borrow.Author.Tests.{ltb-false, leb-false}
use Rattle.record.specs.declared.Quantity.{Quantity}
use Rattle.record.specs.declared.Quantity.TheVariants.{Reads, Writes, Time}
use Rattle.rules.specs.Rules.{is_over}

pub not_over : (q : Quantity) (most n : ℕ) → is_over q most n ≡ false → n ≤ most
not_over Reads most n e = ltb-false most n e
not_over Writes most n e = ltb-false most n e
not_over Time most n e = let l = leb-false most n e in omega arith

-- The status of two tables, one above the other, from the status of each: the first refuses, or it leaves it to the next.
use mathlib.Core.Path.{◌≡◌, refl, sym}
use mathlib.Core.Bool.{true}
use mathlib.Core.List.{List, [], ◌∷◌, ◌++◌}
use lib.Dec.{eqb}
use borrow.Author.Tests.{ne_eqb}
use Rattle.std.specs.Prelude.{Result, Ok, Err, if◌then◌else◌}
use Rattle.std.specs.Option.{unwrap_or}
use Rattle.std.specs.Result.{result_err}
use Rattle.replies.specs.declared.Refusal.{Refusal}
use Rattle.replies.specs.declared.Refusal.TheVariants.{InvalidField}
use Rattle.replies.specs.Numbers.{number}
use Rattle.replies.specs.Status.{Line, line, first_of, status_no}
use Rattle.replies.proofs.Refusals.{no_success}
use Rattle.replies.proofs.Rows.{first_append}
use Rattle.commands.specs.declared.Command.{Command}
use Rattle.commands.specs.StatusTable.{early_lines, unknown_number}

module _ (c : Command) (ys : List Line) (early : Result Unit Refusal) (e : status_no early ≡ first_of (early_lines c)) where
  above : first_of (early_lines c ++ ys) ≡ (if eqb (status_no early) 0 then first_of ys else status_no early)
  above = rw e (first_append (early_lines c) ys refl)

  pub refused : (r : Refusal) → early ≡ Err r → number r ≡ first_of (early_lines c ++ ys)
  refused r h = let n : eqb (number r) 0 ≡ _ = ne_eqb (number r) 0 (no_success r) in sym (rw (h, n) at above)

  pub passed : (u : Unit) → early ≡ Ok u → first_of ys ≡ first_of (early_lines c ++ ys)
  passed u h = sym (rw h at above)

-- where the next table always refuses
pub unknown :
    (c : Command) (early : Result Unit Refusal) → status_no early ≡ first_of (early_lines c) → (r : Refusal)
    → r ≡ unwrap_or (result_err early) InvalidField → number r ≡ first_of (early_lines c ++ line true unknown_number ∷ [])
unknown c (Ok u) e r h = rw h (passed c (line true unknown_number ∷ []) (Ok u) e u refl)
unknown c (Err x) e r h = rw h (refused c (line true unknown_number ∷ []) (Err x) e x refl)

-- What a status of 0 tells of the rows of the status table, by their names.
use mathlib.Core.Path.{◌≡◌, refl}
use mathlib.Core.Bool.{true, false}
use mathlib.Core.List.{List, [], ◌∷◌, ◌++◌}
use Prim.Native.Nat.{ℕ}
use native.Mathlib.Omega.{arith}
use Rattle.record.specs.declared.State.{State}
use Rattle.replies.specs.Status.{Line, line, first_of, numbered}
use Rattle.replies.proofs.Rows.{passed}
use Rattle.commands.specs.declared.Command.{Command}
use Rattle.commands.specs.declared.Kind.{Kind}
use Rattle.commands.specs.StatusTable.{length_row, opcode_row, choice_row, page_row, save_row, part_row, early_lines, unknown_number, window_wrong, short_line, selects_early, late_lines}

pub record Early (c : Command) (more : List Line) : Type 0 where
  pub length : (length_row c).holds ≡ false
  pub opcode : (opcode_row c).holds ≡ false
  pub choice : (choice_row c).holds ≡ false
  pub page : (page_row c).holds ≡ false
  pub save : (save_row c).holds ≡ false
  pub part : (part_row c).holds ≡ false
  pub later : first_of more ≡ 0

pub early_passed : (c : Command) (more : List Line) → numbered more ≡ true → first_of (early_lines c ++ more) ≡ 0 → Early c more
early_passed c more n z =
    let p = passed (early_lines c ++ more) n z in
    record {
      length = p.0;
      opcode = p.1.0;
      choice = p.1.1.0;
      page = p.1.1.1.0;
      save = p.1.1.1.1.0;
      part = p.1.1.1.1.1.0;
      later = rw (p.0, p.1.0, p.1.1.0, p.1.1.1.0, p.1.1.1.1.0, p.1.1.1.1.1.0) at z;
    }

pub record Late (k : Kind) (c : Command) (given room : ℕ) (s : State) : Type 0 where
  pub window : window_wrong k c s ≡ false
  pub short : (short_line k c given room).holds ≡ false
  pub early : selects_early k c s ≡ false

pub late_passed : (k : Kind) (c : Command) (given room : ℕ) (s : State) → first_of (late_lines k c given room s) ≡ 0 → Late k c given room s
late_passed k c given room s z =
    let p = passed (late_lines k c given room s) refl z in
    record { window = p.0; short = p.1.0; early = p.1.1.0 }

-- a row below them that holds
pub not_past : (c : Command) (more : List Line) → numbered more ≡ true → (first_of more ≡ 0 → ⊥) → first_of (early_lines c ++ more) ≡ 0 → ⊥
not_past c more n h z = h (early_passed c more n z).later

-- a set that is not in the table
pub unknown_not_zero : (c : Command) → first_of (early_lines c ++ line true unknown_number ∷ []) ≡ 0 → ⊥
unknown_not_zero c z = not_past c (line true unknown_number ∷ []) refl (λ y. omega arith) z

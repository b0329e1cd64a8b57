-- What a command that no row refuses is known to have: its data, its room, and a start within its page.
use mathlib.Core.Path.{◌≡◌, refl, sym, ◌∙◌}
use mathlib.Core.Bool.{true, false, not, ◌&&◌, ◌||◌}
use mathlib.Core.List.{[], ◌∷◌, ◌++◌}
use Prim.Native.Nat.{ℕ, ◌%◌, ◌≤◌}
use borrow.Author.Tests.{ltb-false}
use lib.Dec.{ltb, eqb}
use Rattle.octets.proofs.JoinedTests.{left_false, right_false, second_false}
use Rattle.record.specs.declared.State.{State}
use Rattle.replies.specs.Status.{first_of}
use Rattle.replies.proofs.Rows.{passed}
use Rattle.commands.specs.declared.Command.{Command}
use Rattle.commands.specs.declared.Kind.{Kind}
use Rattle.commands.specs.Commands.{dword_size, select, offset}
use Rattle.commands.specs.Shapes.{shape_of, kind_of, needs_in, needs_out}
use Rattle.commands.specs.StatusTable.{part_wrong, part_row, early_lines, short_line, late_lines}
use Rattle.commands.proofs.Passed.{early_passed, late_passed}

-- where a part of a page is asked, and the sixth row does not hold, the part starts within the page
start_within : (k : Kind) (c : Command) → k ≡ kind_of c → (part_row c).holds ≡ false → (shape_of k).part ≡ true → offset c ≤ (shape_of k).page
start_within k c e h p =
    let g : (shape_of k).select && not (eqb (select c) 0) || (shape_of k).part && part_wrong k c ≡ false = rw e h in
    let w = second_false (shape_of k).part (part_wrong k c) p (right_false ((shape_of k).select && not (eqb (select c) 0)) _ g) in
    let m = not (eqb (offset c % dword_size) 0) in
    let f = ltb (shape_of k).page (offset c) in
    ltb-false (shape_of k).page (offset c) (right_false m f (left_false (m || f) _ w))

-- what a status of 0 tells
pub record Fine (k : Kind) (c : Command) (given room : ℕ) : Type 0 where
  pub inward : needs_in k ≤ given
  pub outward : needs_out k c ≤ room
  pub start : (shape_of k).part ≡ true → offset c ≤ (shape_of k).page

fine_by : (k : Kind) (c : Command) (given room : ℕ) → k ≡ kind_of c → (part_row c).holds ≡ false → (short_line k c given room).holds ≡ false → Fine k c given room
fine_by k c given room e p h =
    record {
      inward = ltb-false given (needs_in k) (left_false (ltb given (needs_in k)) _ h);
      outward = ltb-false room (needs_out k c) (right_false (ltb given (needs_in k)) _ h);
      start = start_within k c e p;
    }

-- of a command on a set
pub fine :
    (k : Kind) (c : Command) (given room : ℕ) (s : State) → k ≡ kind_of c
    → first_of (early_lines c ++ late_lines k c given room s) ≡ 0 → Fine k c given room
fine k c given room s e z =
    let n = early_passed c (late_lines k c given room s) refl z in
    fine_by k c given room e n.part (late_passed k c given room s n.later).short

-- of a command that names no set
pub view_fine :
    (k : Kind) (c : Command) (given room s : ℕ) → k ≡ kind_of c → s ≡ first_of (early_lines c ++ short_line k c given room ∷ []) → s ≡ 0
    → Fine k c given room
view_fine k c given room s e es z =
    let n = early_passed c (short_line k c given room ∷ []) refl (sym es ∙ z) in
    fine_by k c given room e n.part (passed (short_line k c given room ∷ []) refl n.later).0

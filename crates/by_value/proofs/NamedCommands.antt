-- Commands that name a set, from the step to the words and the answer buffer.
use mathlib.Core.Path.{◌≡◌, refl, sym, ◌∙◌}
use mathlib.Core.Bool.{Bool, true, false}
use mathlib.Core.List.{List, [], ◌∷◌, ◌++◌}
use Prim.Native.Nat.{ℕ}
use borrow.Author.Tests.{eqb-true, eqb-false}
use lib.Dec.{eqb}
use lib.ListN.{length}
use Rattle.record.specs.declared.Slot.{Slot}
use Rattle.record.specs.declared.Record.{Record}
use Rattle.replies.specs.declared.Reply.{Reply}
use Rattle.replies.specs.Numbers.{bad_table}
use Rattle.replies.specs.Status.{line, first_of}
use Rattle.replies.specs.Answers.{refusing}
use Rattle.commands.proofs.Passed.{unknown_not_zero}
use Rattle.table.specs.declared.Absent.{Absent}
use Rattle.table.specs.declared.Absent.TheVariants.{BadTable, NoSet}
use Rattle.std.specs.Prelude.{Result, Ok, Err}
use Rattle.table.specs.Layout.{record_of}
use Rattle.table.specs.Table.{row, legal_table, enter_in}
use Rattle.table.proofs.LegalTables.{is_bad, is_unknown, is_here}
use Rattle.commands.specs.declared.Command.{Command}
use Rattle.commands.specs.declared.Kind.{Kind}
use Rattle.steps.specs.Items.{Item, The}
use Rattle.commands.specs.Shapes.{named_by}
use Rattle.commands.specs.StatusTable.{early_lines, unknown_number}
use Rattle.steps.specs.Commanded.{named}
use Rattle.steps.specs.Meanings.{meaning}
use Rattle.steps.specs.Words.{entry_no, Answered}
use Rattle.by_value.specs.OnSet.{status_on, OnSet}
use Rattle.steps.proofs.StepOnWords.{step_bad, step_unknown, step_late, step_done}
use Rattle.replies.proofs.Answering.{refused_reply}

-- a table that is not legal
pub answered_bad : (ws : List ℕ) (i : Item) (before : List ℕ) (x : Reply) → legal_table ws ≡ false → x ≡ refusing bad_table → Answered ws i before x ws before
answered_bad ws i before x e ex =
    let d = step_bad ws i e in
    record { table = rw d; reply = rw (d, ex) (refused_reply bad_table before); notice = rw (d, ex) }

module _ (ws : List ℕ) (k : Kind) (c : Command) (given before : List ℕ) (e : Result Slot Absent) (known : e ≡ enter_in ws (named_by k c))
    (i : Item) (m : meaning i ≡ The (named_by k c) (named k c given (length before))) where
  pub named_bad : (x : Reply) → e ≡ Err BadTable → x ≡ refusing bad_table → Answered ws i before x ws before
  named_bad x q ex = answered_bad ws i before x (is_bad ws (named_by k c) (sym known ∙ q)) ex

  pub named_unknown :
      (x : Reply) (s : ℕ) → e ≡ Err NoSet → s ≡ first_of (early_lines c ++ line true unknown_number ∷ []) → x ≡ refusing s → Answered ws i before x ws before
  named_unknown x s q es ex =
      let f = is_unknown ws (named_by k c) (sym known ∙ q) in
      let d = step_unknown ws i (named_by k c) (named k c given (length before)) m f.0 f.1 (unknown_not_zero c) in
      record { table = rw d; reply = rw (d, ex, es) (refused_reply _ before); notice = rw (d, ex) }

  -- the two at once
  pub named_absent :
      (x : Reply) (s : ℕ) (a : Absent) → e ≡ Err a → s ≡ first_of (early_lines c ++ line true unknown_number ∷ []) → x ≡ refusing (entry_no s (Err a))
      → Answered ws i before x ws before
  named_absent x s BadTable q es ex = named_bad x q ex
  named_absent x s NoSet q es ex = named_unknown x s q es ex

  module _ (slot : Slot) (q : e ≡ Ok slot) (x : Reply) (words buffer : List ℕ) (o : OnSet ws slot.0 k c given before x words buffer) where
    rec : Record
    rec = record_of (row ws slot.0)

    by_status : (b : Bool) → eqb (status_on k c (length given) (length before) rec) 0 ≡ b → Answered ws i before x words buffer
    unfolding rec status_on
    by_status true t =
        let f = is_here ws (named_by k c) slot (sym known ∙ q) in
        let d = step_done ws i (named_by k c) (named k c given (length before)) m f.0 slot.0 f.1 (eqb-true _ 0 t) in
        record { table = rw d (rw t at o.table); reply = rw d (rw t at o.reply); notice = rw d (rw t at o.notice) }
    by_status false t =
        let f = is_here ws (named_by k c) slot (sym known ∙ q) in
        let d = step_late ws i (named_by k c) (named k c given (length before)) m f.0 slot.0 f.1 _ refl (eqb-false _ 0 t) in
        record { table = rw d (rw t at o.table); reply = rw d (rw t at o.reply); notice = rw d (rw t at o.notice) }

    pub named_here : Answered ws i before x words buffer
    named_here = by_status _ refl

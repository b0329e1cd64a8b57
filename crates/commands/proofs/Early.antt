-- The rows before the set is looked up, as the code asks them: of the row of the command's kind.
use mathlib.Core.Path.{◌≡◌, refl, sym, ap, ◌∙◌}
use mathlib.Core.Bool.{Bool, true, false, not, ◌&&◌, ◌||◌, and-false}
use mathlib.Core.List.{List, [], ◌∷◌}
use Prim.Native.Nat.{ℕ}
use borrow.Author.Tests.{eq-eqb, ne_eqb}
use lib.Dec.{eqb}
use Rattle.std.specs.Prelude.{if◌then◌else◌}
use Rattle.replies.specs.Numbers.{bad_command_length, invalid_opcode, invalid_field, invalid_log_page, not_saveable}
use Rattle.replies.specs.Status.{Line, line, first_of}
use Rattle.commands.specs.declared.Command.{Command}
use Rattle.commands.specs.declared.Kind.{Kind}
use Rattle.commands.specs.declared.Shape.{Shape}
use Rattle.commands.specs.Commands.{opcode, chosen, save, select}
use Rattle.commands.specs.Shapes.{log_opcode, shape_of, has_opcode, is_choice, has_choice, kind_by, kind_of}
use Rattle.commands.specs.StatusTable.{reads_log, opcode_listed, is_listed, part_wrong, early_lines}
use Rattle.commands.proofs.Listed.{opcode_listed_lem, is_listed_lem}

abbrev pub rows_of : Kind → Command → List Line
rows_of k c =
    line (not c.whole) bad_command_length
    ∷ line (not (has_opcode (opcode c) k)) invalid_opcode
    ∷ line (not (reads_log c) && not (has_opcode (opcode c) k && has_choice (chosen c) k)) invalid_field
    ∷ line (reads_log c && not (has_opcode (opcode c) k && has_choice (chosen c) k)) invalid_log_page
    ∷ line ((shape_of k).save && save c) not_saveable
    ∷ line ((shape_of k).select && not (eqb (select c) 0) || (shape_of k).part && part_wrong k c) invalid_field
    ∷ []

pub early_is : (k : Kind) (c : Command) → k ≡ kind_of c → first_of (rows_of k c) ≡ first_of (early_lines c)
early_is k c e =
    let o : opcode_listed c ≡ has_opcode (opcode c) (kind_by (opcode c) (chosen c)) = opcode_listed_lem (opcode c) (chosen c) in
    let l : is_listed c ≡ has_opcode (opcode c) (kind_by (opcode c) (chosen c)) && has_choice (chosen c) (kind_by (opcode c) (chosen c)) = is_listed_lem (opcode c) (chosen c) in
    rw (e, o, l)

-- a log page and any other choice have a row each, of which one can hold
by_log : (b : Bool) (x y z : ℕ) → (if b then x else y) ≡ (if not b && true then y else (if b && true then x else z))
by_log true x y z = refl
by_log false x y z = refl

-- what each way through the rows answers
module _ (k : Kind) (c : Command) (e : k ≡ kind_of c) (op n : ℕ) (s : Shape) (eo : op ≡ opcode c) (en : n ≡ chosen c) (es : s ≡ shape_of k) (w : not c.whole ≡ false) where
  pub no_opcode : (op ≡ s.opcode → ⊥) → invalid_opcode ≡ first_of (early_lines c)
  no_opcode h =
      let o = ne_eqb (opcode c) (shape_of k).opcode (λ z. h (eo ∙ z ∙ ap (λ (x : Shape). x.opcode) (sym es))) in
      let q : invalid_opcode ≡ first_of (rows_of k c) = rw (w, o) in
      q ∙ early_is k c e

  module _ (h : op ≡ s.opcode) where
    has : has_opcode (opcode c) k ≡ true
    has = eq-eqb (opcode c) (shape_of k).opcode (sym eo ∙ h ∙ ap (λ (x : Shape). x.opcode) es)

    -- whether it is this FID, CNS or page, as the code asks it
    choice_is : (b : Bool) → b ≡ is_choice s.choice n → has_choice (chosen c) k ≡ b
    choice_is b eb = sym (eb ∙ rw (es, en))

    pub not_listed :
        (b : Bool) (r : ℕ) → b ≡ is_choice s.choice n → b ≡ false → r ≡ (if eqb op log_opcode then invalid_log_page else invalid_field)
        → r ≡ first_of (early_lines c)
    not_listed b r eb m er =
        let l : has_choice (chosen c) k ≡ false = choice_is b eb ∙ m in
        let q : (if eqb op log_opcode then invalid_log_page else invalid_field) ≡ first_of (rows_of k c) = rw (eo, w, has, l) (by_log (reads_log c) _ _ _) in
        er ∙ q ∙ early_is k c e

    pub listed_rows :
        (b : Bool) (r : ℕ) → b ≡ is_choice s.choice n → b ≡ true
        → r ≡ first_of (line (s.save && save c) not_saveable ∷ line (s.select && not (eqb (select c) 0) || s.part && part_wrong k c) invalid_field ∷ [])
        → r ≡ first_of (early_lines c)
    listed_rows b r eb m er =
        let l : has_choice (chosen c) k ≡ true = choice_is b eb ∙ m in
        let q : first_of (line (s.save && save c) not_saveable ∷ line (s.select && not (eqb (select c) 0) || s.part && part_wrong k c) invalid_field ∷ []) ≡ first_of (rows_of k c)
        = rw (es, w, has, l, and-false (not (reads_log c)), and-false (reads_log c)) in
        er ∙ q ∙ early_is k c e

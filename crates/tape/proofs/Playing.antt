-- Items of a tape: how long their bodies are, and what commands are.
use mathlib.Core.Path.{◌≡◌, sym, ap, subst, ◌∙◌}
use mathlib.Core.List.{List, []}
use mathlib.Core.Option.{some}
use Prim.Native.Nat.{ℕ, ◌-◌, ◌≤◌}
use lib.ListN.{length, take, drop, length-drop, get_or-eq_default}
use lib.Seq.{take-length, drop-length}
use Rattle.commands.specs.Commands.{command_size}
use Rattle.steps.specs.Items.{Item, command}
use Rattle.tape.specs.Tape.{item_sizes, item_size, command_kind, data_kind, answer_size, item_by, Played}

-- ---- bodies

pub size_none : (kind : ℕ) → 7 ≤ kind → item_size kind ≡ 0
size_none kind h = get_or-eq_default item_sizes 0 h

-- ---- pieces of a body

-- the part from a place to the end
pub rest_all : (body : List ℕ) (n : ℕ) → take (length body - n) (drop n body) ≡ drop n body
rest_all body n = rw (← length-drop n body) (take-length (drop n body))

-- a command without data is all of its body
pub played_command :
    (ws : List ℕ) (body words line : List ℕ) → length body ≡ command_size
    → Played ws (some (command body [] answer_size)) words line → Played ws (some (item_by command_kind body)) words line
played_command ws body words line e p =
    let bytes : take command_size body ≡ body = ap (λ (n : ℕ). take n body) (sym e) ∙ take-length body in
    let none : drop command_size body ≡ [] = ap (λ (n : ℕ). drop n body) (sym e) ∙ drop-length body in
    subst (λ (i : Item). Played ws (some i) words line) (sym (rw (bytes, none))) p

pub played_with_data :
    (ws : List ℕ) (body words line : List ℕ)
    → Played ws (some (command (take command_size body) (take (length body - command_size) (drop command_size body)) answer_size)) words line
    → Played ws (some (item_by data_kind body)) words line
played_with_data ws body words line p =
    subst (λ (l : List ℕ). Played ws (some (command (take command_size body) l answer_size)) words line) (rest_all body command_size) p

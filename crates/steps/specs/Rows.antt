-- 01, "Status numbers (type x 256 + code), checked in this order": for each kind of item its refusals as one list, on the words that
-- are handed in with it.
use Rattle.std.specs.Prelude.{◌≡◌, Bool, true, false, not, ◌&&◌, ◌||◌, List, [], ◌∷◌, ℕ, ltb, eqb, length}
use Rattle.std.proofs.Math.Option.{Option, none, some}
use Rattle.record.specs.declared.Attributes.{Attributes}
use Rattle.record.specs.declared.State.{State}
use Rattle.record.specs.declared.Record.{Record}
use Rattle.record.specs.Legal.{day_ms}
use Rattle.replies.specs.Numbers.{success, request_waits, bad_table, invalid_field, too_early, unknown_set, tick_too_long}
use Rattle.replies.specs.Status.{Line, line, first_of}
use Rattle.table.specs.Table.{records_of, desk_at, legal_table}
use Rattle.commands.specs.Commands.{command_in}
use Rattle.commands.specs.Shapes.{kind_of, is_named, named_by}
use Rattle.commands.specs.StatusTable.{length_row, opcode_row, choice_row, page_row, save_row, part_row, unknown_number, window_wrong, short_line, selects_early, request_line}
use Rattle.octets.specs.Lists.{first}
use Rattle.steps.specs.Card.{has}

-- the set with an identifier, if the words have one
abbrev pub set_in : List ℕ → ℕ → Option Record
set_in ws id = first (has id) (records_of ws)

abbrev pub is_there : Option Record → Bool
is_there none = false
is_there (some r) = true

-- what a row says of the set that is there
abbrev pub of_set : (Attributes → State → Bool) → Option Record → Bool
of_set test none = false
of_set test (some r) = test r.attributes r.state

-- "table not legal, or slice too short"
abbrev pub table_row : List ℕ → Line
table_row ws = line (not (legal_table ws)) bad_table

-- A command: its 64 bytes, its data in, and the length of its answer buffer. The eleven rows of 01:
--   "table not legal, or slice too short", "command not of 64 bytes", "opcode not listed", "FID or CNS not listed",
--   "log page not listed", "Set Features with Save",
--   "Select not 0; offset not a multiple of 4 or greater than page size; over 1,024 dwords",
--   "set not in the table (commands)", "14h while off; window not 1 or 2 (Set)",
--   "data in or answer buffer shorter than needed", "select D from N too early";
-- and 02's: "a fifth gets 0105h"
abbrev pub command_rows : List ℕ → List ℕ → List ℕ → ℕ → List Line
command_rows ws bytes given room =
    let c = command_in bytes in
    let k = kind_of c in
    let set = set_in ws (named_by k c) in
    table_row ws
    ∷ length_row c
    ∷ opcode_row c
    ∷ choice_row c
    ∷ page_row c
    ∷ save_row c
    ∷ part_row c
    ∷ line (is_named k && not (is_there set)) unknown_number
    ∷ line (of_set (λ a s. window_wrong k c s) set) invalid_field
    ∷ short_line k c (length given) room
    ∷ line (of_set (λ a s. selects_early k c s) set) too_early
    ∷ request_line k (length (desk_at ws).waiting)
    ∷ []

-- "Events: bad table 07C3h; unknown set 07C0h"
abbrev pub event_rows : List ℕ → ℕ → List Line
event_rows ws id = table_row ws ∷ line (not (is_there (set_in ws id))) unknown_set ∷ []

-- "tick too long 07C5h"
abbrev pub tick_rows : List ℕ → ℕ → List Line
tick_rows ws t = table_row ws ∷ line (ltb day_ms t) tick_too_long ∷ []

-- The numbers that answer an item which was carried out, and so no refusal has: success, and 02's "07C8h (waiting, no refusal)".
abbrev pub carried_numbers : List ℕ
carried_numbers = success ∷ request_waits ∷ []

abbrev pub is_one_of : ℕ → List ℕ → Bool
is_one_of n [] = false
is_one_of n (m ∷ ms) = eqb n m || is_one_of n ms

-- whether a status is one of them
abbrev pub carried_out : ℕ → Bool
carried_out number = is_one_of number carried_numbers

-- "with success or with the one refusal that document 01 names for that input", and 02: the answered status, by the rows of the item's
-- refusals and the number with which it is carried out
pub record ByRows (rows : List Line) (carried status : ℕ) : Type 0 where
  -- where a row holds, the number of the first that does
  pub refusal : (first_of rows ≡ 0 → ⊥) → status ≡ first_of rows
  -- where none holds, that number
  pub success : first_of rows ≡ 0 → status ≡ carried
  -- so that the status by itself tells which
  pub tells : carried_out status ≡ eqb (first_of rows) 0

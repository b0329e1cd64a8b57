-- 01, "Status numbers .. checked in this order": a row each from "command not of 64 bytes" on, for every command; `command_rows` of
-- crates/steps/specs/Rows.antt has all eleven under each other, and 02's. Which rows look at a command stands in its row of Shapes.antt.
use Rattle.std.specs.Prelude.{Bool, not, ◌&&◌, ◌||◌, List, [], ◌∷◌, ℕ, ◌%◌, ltb, leb, eqb, if◌then◌else◌}
use Rattle.octets.specs.Lists.{any_of}
use Rattle.desk.specs.Desk.{requests_maximum}
use Rattle.record.specs.declared.State.{State}
use Rattle.record.specs.declared.Window.TheVariants.{D, N}
use Rattle.record.specs.Windows.{window_no}
use Rattle.replies.specs.Numbers as numbers
use Rattle.replies.specs.Status.{Line, line}
use Rattle.rules.specs.declared.Cause.{Cause}
use Rattle.rules.specs.declared.Cause.TheVariants.{SelectN}
use Rattle.rules.specs.Changes.{refused_by}
use Rattle.rules.specs.Rules.{is_early}
use Rattle.commands.specs.declared.Command.{Command}
use Rattle.commands.specs.declared.Kind.{Kind}
use Rattle.commands.specs.Commands.{dword_size, opcode, chosen, save, select, window_value, window_cause, dwords, offset}
use Rattle.commands.specs.Shapes.{shape_of, kinds, log_opcode, has_opcode, has_choice, kind_of, needs_in, needs_out}

-- ---- the rows before the set is looked up

-- "command not of 64 bytes"
abbrev pub length_row : Command → Line
length_row c = line (not c.whole) numbers.bad_command_length

-- "opcode not listed"; 02: "Opcode 0Ch and FID 0Bh leave 01's refusals"
abbrev pub opcode_listed : Command → Bool
opcode_listed c = any_of (has_opcode (opcode c)) kinds

abbrev pub opcode_row : Command → Line
opcode_row c = line (not (opcode_listed c)) numbers.invalid_opcode

-- listed with this opcode and this FID, CNS or page
abbrev pub is_listed : Command → Bool
is_listed c = any_of (λ k. has_opcode (opcode c) k && has_choice (chosen c) k) kinds

abbrev pub reads_log : Command → Bool
reads_log c = eqb (opcode c) log_opcode

-- "FID or CNS not listed", and 02, as above
abbrev pub choice_row : Command → Line
choice_row c = line (not (reads_log c) && not (is_listed c)) numbers.invalid_field

-- "log page not listed"
abbrev pub page_row : Command → Line
page_row c = line (reads_log c && not (is_listed c)) numbers.invalid_log_page

-- "Set Features with Save"
abbrev pub save_row : Command → Line
save_row c = line ((shape_of (kind_of c)).save && save c) numbers.not_saveable

-- "over 1,024 dwords"
abbrev pub dwords_maximum : ℕ
dwords_maximum = 1024

-- "offset not a multiple of 4 or greater than page size; over 1,024 dwords"
abbrev pub part_wrong : Kind → Command → Bool
part_wrong k c = not (eqb (offset c % dword_size) 0) || ltb (shape_of k).page (offset c) || ltb dwords_maximum (dwords c)

-- "Select not 0; offset not a multiple of 4 or greater than page size; over 1,024 dwords"
abbrev pub part_row : Command → Line
part_row c =
    line ((shape_of (kind_of c)).select && not (eqb (select c) 0) || (shape_of (kind_of c)).part && part_wrong (kind_of c) c) numbers.invalid_field

abbrev pub early_lines : Command → List Line
early_lines c = length_row c ∷ opcode_row c ∷ choice_row c ∷ page_row c ∷ save_row c ∷ part_row c ∷ []

-- ---- "set not in the table (commands)"

abbrev pub unknown_number : ℕ
unknown_number = numbers.invalid_field

-- ---- the rows after it

-- "14h while off": the table of window changes refuses the command's select. Get Features selects no window, and asks select N's
-- entry: `OffRefuses` of crates/rules/specs/Changes.antt says that it refuses as select D's does.
abbrev pub select_of : Kind → Command → Cause
select_of k c = if (shape_of k).window then window_cause c else SelectN

abbrev pub is_off : Kind → Command → State → Bool
is_off k c s = (shape_of k).on && refused_by s.window (select_of k c)

-- "window not 1 or 2 (Set)"
abbrev pub no_window : Kind → Command → Bool
no_window k c = (shape_of k).window && not (eqb (window_value c) (window_no D) || eqb (window_value c) (window_no N))

-- "14h while off; window not 1 or 2 (Set)"
abbrev pub window_wrong : Kind → Command → State → Bool
window_wrong k c s = is_off k c s || no_window k c

-- "data in or answer buffer shorter than needed"
abbrev pub short_line : Kind → Command → ℕ → ℕ → Line
short_line k c given room = line (ltb given (needs_in k) || ltb room (needs_out k c)) numbers.too_short

-- "select D from N too early"; 02: "07C1h and cases 8 and 9 now speak of the need": `is_early`
abbrev pub selects_early : Kind → Command → State → Bool
selects_early k c s = (shape_of k).window && is_early (window_cause c) s

-- 02: "Up to four requests wait ..; a fifth gets 0105h." So many wait already.
abbrev pub request_line : Kind → ℕ → Line
request_line k waiting = line ((shape_of k).queues && leb requests_maximum waiting) numbers.too_many_requests

abbrev pub late_lines : Kind → Command → ℕ → ℕ → State → List Line
late_lines k c given room s =
    line (window_wrong k c s) numbers.invalid_field
    ∷ short_line k c given room
    ∷ line (selects_early k c s) numbers.too_early
    ∷ []

-- 01, "Replay file and its printout": the file. "One byte of kind, then a body".
use Rattle.std.specs.Prelude.{◌≡◌, Bool, ◌&&◌, List, [], ◌∷◌, ◌++◌, ℕ, ◌+◌, eqb, ltb, leb, length, get_or, take, drop, if◌then◌else◌}
use Rattle.std.proofs.Math.Option.{Option, none, some}
use Rattle.octets.specs.Numbers.{number_at}
use Rattle.pages.specs.Features.{feature_size}
use Rattle.pages.specs.Bodies.{body_size}
use Rattle.commands.specs.Commands.{command_size}
use Rattle.steps.specs.Items.{Item, reads, writes, excursion, tick, command}
use Rattle.steps.specs.Words.{step_words}
use Rattle.tape.specs.Text.{item_line, notice_line}
use Rattle.tape.specs.declared.Next.{Next}
use Rattle.tape.specs.declared.Next.TheVariants.{Whole, Short, Bad, Over}

-- kinds of items: "01h command", "02h command with data", "03h reads and 04h writes", "05h excursion", "06h tick"; the definitions
-- below take an excursion as the kind that is left
abbrev pub command_kind : ℕ
command_kind = 1

abbrev pub data_kind : ℕ
data_kind = 2

abbrev pub reads_kind : ℕ
reads_kind = 3

abbrev pub writes_kind : ℕ
writes_kind = 4

abbrev pub excursion_kind : ℕ
excursion_kind = 5

abbrev pub tick_kind : ℕ
tick_kind = 6

-- how long an item's body is, by its kind; 0 where the kind is none of an item's:
-- "01h command, 64 bytes; 02h command with data, 576; 03h reads and 04h writes, set and count, 4; 05h excursion, 2; 06h tick, 4"
abbrev pub item_sizes : List ℕ
item_sizes = 0 ∷ command_size ∷ (command_size + feature_size) ∷ 4 ∷ 4 ∷ 2 ∷ 4 ∷ []

abbrev pub item_size : ℕ → ℕ
item_size kind = get_or item_sizes kind 0

-- "07h set attributes in the order above, 84"
abbrev pub attributes_kind : ℕ
attributes_kind = 7

abbrev pub attributes_size : ℕ
attributes_size = body_size

-- "The answer buffer has 4,096 bytes."
abbrev pub answer_size : ℕ
answer_size = 4096

abbrev pub media_item : ℕ → ℕ → ℕ → Item
media_item kind set count = if eqb kind reads_kind then reads set count else if eqb kind writes_kind then writes set count else excursion set

-- the item of a kind and a body that is as long as it should be: the kinds below reads are commands, and what follows a command's own
-- bytes is its data
abbrev pub item_by : ℕ → List ℕ → Item
item_by kind body =
    if ltb kind reads_kind then command (take command_size body) (drop command_size body) answer_size
    else if eqb kind tick_kind then tick (number_at body 0 4) answer_size
    else media_item kind (number_at body 0 2) (number_at body 2 2)

abbrev pub is_item : ℕ → List ℕ → Bool
is_item kind body = ltb 0 (item_size kind) && eqb (length body) (item_size kind)

abbrev pub item_in : ℕ → List ℕ → Option Item
item_in kind body = if is_item kind body then some (item_by kind body) else none

-- what an item leaves of the words, and its text; nothing where it is no item. 01: "a line per item"; 02: "replay adds a line", after it:
-- "one just arriving still gets 07C8h first".
abbrev pub words_after : List ℕ → Option Item → List ℕ
words_after ws none = ws
words_after ws (some i) = (step_words ws i).table

abbrev pub line_for : List ℕ → Option Item → List ℕ
line_for ws none = []
line_for ws (some i) = item_line (step_words ws i).answer ++ notice_line (step_words ws i).notice

-- what playing an item promises: every word of the table, and every byte of the line's text
pub record Played (ws : List ℕ) (i : Option Item) (words line : List ℕ) : Type 0 where
  pub table : words ≡ words_after ws i
  pub text : line ≡ line_for ws i

-- ---- what comes next, of the bytes that were read and not yet used; `last` says that the file has no more

-- a kind with a body of so many bytes: whole, cut, or not read yet
abbrev pub next_body : ℕ → ℕ → Bool → Next
next_body size have last = if leb size have then Whole else if last then Bad else Short

-- "Kinds 07h come first and aren't counted as items."
abbrev pub next_set : List ℕ → Bool → Next
next_set [] last = if last then Over else Short
next_set (kind ∷ rest) last = if eqb kind attributes_kind then next_body attributes_size (length rest) last else Over

-- "Unknown kind, a late 07h or a cut body"
abbrev pub next_item : List ℕ → Bool → Next
next_item [] last = if last then Over else Short
next_item (kind ∷ rest) last = if ltb 0 (item_size kind) then next_body (item_size kind) (length rest) last else Bad

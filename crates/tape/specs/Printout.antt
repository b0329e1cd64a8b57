-- 01, "Replay file and its printout": the printout of a whole file, from its bytes to its text.
use Rattle.std.specs.Prelude.{true, List, [], ◌++◌, ℕ, zero, suc, ◌+◌, eqb, length, get_or, drop, replicate, if◌then◌else◌}
use Rattle.std.proofs.Math.Option.{Option}
use Rattle.octets.specs.Octets.{part}
use Rattle.table.specs.Table.{row_start, max_sets}
use Rattle.steps.specs.Items.{Item}
use Rattle.steps.specs.Words.{OutcomeWords}
use Rattle.steps.specs.SetUp.{set_up}
use Rattle.tape.specs.Text.{sets_line, end_line, bad_line}
use Rattle.tape.specs.Tape.{item_size, item_in, attributes_size, words_after, line_for, next_set, next_item}
use Rattle.tape.specs.declared.Next.{Next}
use Rattle.tape.specs.declared.Next.TheVariants.{Whole, Short, Bad, Over}

-- one of four, by what stands next
abbrev pub by_next : {A : Type 0} → Next → A → A → A → A → A
by_next Whole whole short bad over = whole
by_next Short whole short bad over = short
by_next Bad whole short bad over = bad
by_next Over whole short bad over = over

-- ---- the items, after the sets

-- "One byte of kind, then a body": the item at the start of bytes, and how many of them it takes
abbrev pub first_item : List ℕ → Option Item
first_item bytes = item_in (get_or bytes 0 0) (part bytes 1 (item_size (get_or bytes 0 0)))

abbrev pub item_length : List ℕ → ℕ
item_length bytes = 1 + item_size (get_or bytes 0 0)

-- "a line per item ..; then "end N"", and "Unknown kind, a late 07h or a cut body: "bad N" with the number of items done, then stop".
-- N items are done, and these bytes are left. Each item takes a byte at least, so that one turn more than there are bytes is enough.
-- (Nothing is `Short` where the whole file is there.)
abbrev pub items_text : ℕ → List ℕ → ℕ → List ℕ → List ℕ
items_text zero words n bytes = []
items_text (suc turns) words n bytes =
    by_next (next_item bytes true)
    (line_for words (first_item bytes) ++ items_text turns (words_after words (first_item bytes)) (n + 1) (drop (item_length bytes) bytes))
    []
    (bad_line n)
    (end_line n)

-- ---- the sets

abbrev pub set_length : ℕ
set_length = 1 + attributes_size

-- "Output: "sets N SSSS"; on 0000 a line per item ..", "If set-up is refused, only the first line."
abbrev pub set_up_text : ℕ → OutcomeWords → List ℕ → List ℕ
set_up_text n result bytes =
    sets_line n result.answer.status
    ++ (if eqb result.answer.status 0 then items_text (suc (length bytes)) result.table 0 bytes else [])

-- "Kinds 07h come first and aren't counted as items", "a cut 07h prints "bad 0" alone".
-- N bodies are read, and these bytes are left.
abbrev pub sets_text : ℕ → List ℕ → ℕ → List ℕ → List ℕ → List ℕ
sets_text zero words n bodies bytes = []
sets_text (suc turns) words n bodies bytes =
    by_next (next_set bytes true)
    (sets_text turns words (n + 1) (bodies ++ part bytes 1 attributes_size) (drop set_length bytes))
    []
    (bad_line 0)
    (set_up_text n (set_up bodies words) bytes)

-- ---- the whole file

-- on any words that are lent for the table
abbrev pub printout_on : List ℕ → List ℕ → List ℕ
printout_on words file = sets_text (suc (length file)) words 0 [] file

-- on those that the program lends: room for as many sets as a card can have, all zero
abbrev pub printout : List ℕ → List ℕ
printout file = printout_on (replicate (row_start max_sets) 0) file

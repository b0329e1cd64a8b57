-- 02, "Sixty-four sessions": "An Identify answer still holds 31 entries, so the host asks again from the last identifier plus one; show
-- that asking so until a count below 31, or a last identifier of 65,535, gives each set once." Of the step, over any list of items;
-- crates/pages/specs/Asking.antt has what a host reads and gathers. Each is proved under its name, in snake case, in
-- proofs/Asking.antt. The same of calls, one after another, is `GivesEachBack` of Holders.antt.
use Rattle.std.specs.Prelude.{◌≡◌, Bool, true, ◌&&◌, List, [], ◌∷◌, ◌++◌, ℕ, zero, suc, ◌≤◌, eqb, length, if◌then◌else◌}
use Rattle.record.specs.Legal.{number_maximum}
use Rattle.replies.specs.Numbers.{success}
use Rattle.table.specs.Table.{legal_sets, max_sets}
use Rattle.pages.specs.Identify.{identify_size}
use Rattle.pages.specs.Asking.{next_in, is_last, Ask, ask_of, asks_from, through, gathered, EachOnce, asks_most, GivesEach}
use Rattle.commands.specs.declared.Command.{Command}
use Rattle.commands.specs.declared.Kind.{Kind}
use Rattle.commands.specs.Commands.{command_size, command_in, opcode, chosen, asked}
use Rattle.commands.specs.Shapes.{identify_opcode, set_list_cns, has_opcode, has_choice, kind_of}
use Rattle.steps.specs.Items.{Card, Item, reads, writes, excursion, tick, command}
use Rattle.steps.specs.Commanded.{attributes_of}
use Rattle.steps.specs.Card.{answer, step}
use Rattle.steps.specs.Edges.{command_of}

-- ---- which items are asks

-- Identify 04h
abbrev pub is_set_list : Kind → Bool
is_set_list k = has_opcode identify_opcode k && has_choice set_list_cns k

-- the ask that an item is, where it was answered with success: the number from which it asks, and the bytes that came
abbrev pub ask_by : Kind → Command → ℕ → List ℕ → List Ask
ask_by k c status came = if is_set_list k && eqb status success then ask_of (asked c) came ∷ [] else []

abbrev pub ask_in : Item → ℕ → List ℕ → List Ask
ask_in (reads id k) status came = []
ask_in (writes id k) status came = []
ask_in (excursion id) status came = []
ask_in (tick t room) status came = []
ask_in (command bytes given room) status came = ask_by (kind_of (command_in bytes)) (command_in bytes) status came

-- the asks of one host: `mine` tells its items from those of others
abbrev pub asks : (Item → Bool) → Card → List Item → List Ask
asks mine c [] = []
asks mine c (i ∷ is) = (if mine i then ask_in i (answer c i).status (answer c i).bytes else []) ++ asks mine (step c i).card is

-- ---- what they give

-- Of any list of items: where the asks of a host, whatever stands between them, are such that it asks again in this way, they come to an
-- end, and then have given each set once.
abbrev pub AskingGives : Type 0
AskingGives =
    (mine : Item → Bool) (c : Card) (items : List Item) (from : ℕ) → legal_sets 0 c.sets ≡ true → length c.sets ≤ max_sets
    → asks_from from (asks mine c items) ≡ true → GivesEach (attributes_of c.sets) from (asks mine c items)

-- And no ask is refused: a command of 64 bytes with opcode 06h and CNS 04h, and room for the answer, whatever else it says.
pub record AsksList (bytes : List ℕ) (room : ℕ) : Type 0 where
  pub whole : length bytes ≡ command_size
  pub identifies : opcode (command_in bytes) ≡ identify_opcode
  pub lists_sets : chosen (command_in bytes) ≡ set_list_cns
  pub roomy : identify_size ≤ room

abbrev pub AskAnswered : Type 0
AskAnswered = (c : Card) (bytes given : List ℕ) (room : ℕ) → AsksList bytes room → (answer c (command bytes given room)).status ≡ success

-- ---- a host that does so

-- Identify from a number, with room for the answer
abbrev pub identify_from : ℕ → Item
identify_from from = command (command_of identify_opcode set_list_cns from 0) [] identify_size

-- what it sends: an ask, and unless that has the last answer, again "from the last identifier plus one"; so often at most
abbrev pub host_asks : ℕ → Card → ℕ → List Item
host_asks zero c from = []
host_asks (suc n) c from =
    identify_from from
    ∷ (if is_last (answer c (identify_from from)).bytes
    then []
    else host_asks n (step c (identify_from from)).card (next_in (answer c (identify_from from)).bytes))

-- On every legal card it is through after three asks at the latest, and has each set at or above the start once; from 0 or 1, each set.
pub record Gathers (c : Card) (from : ℕ) (items : List Item) : Type 0 where
  pub ended : through (asks (λ i. true) c items) ≡ true
  pub once : EachOnce (attributes_of c.sets) from (gathered (asks (λ i. true) c items))

abbrev pub EachSetOnce : Type 0
EachSetOnce =
    (c : Card) (from : ℕ) → legal_sets 0 c.sets ≡ true → length c.sets ≤ max_sets → from ≤ number_maximum
    → Gathers c from (host_asks asks_most c from)

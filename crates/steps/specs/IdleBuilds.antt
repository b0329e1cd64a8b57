-- 01: "Five idle builds are shut out." Each is refuted of the step itself, so that an idle definition fails too.
-- Each is proved under its name, in snake case, in proofs/IdleRefuted.antt.
use Rattle.std.specs.Prelude.{◌≡◌, true, List, ◌∷◌, map, ℕ, ◌≤◌, ◌<◌, length, get_or}
use Rattle.std.specs.Int.Count.{ones}
use Rattle.octets.specs.Octets.{number_of, part}
use Rattle.octets.specs.Lists.{keep}
use Rattle.replies.specs.Numbers.{success}
use Rattle.record.specs.Parts.{id_of}
use Rattle.table.specs.Table.{legal_sets, max_sets, listed_word}
use Rattle.pages.specs.Aggregate.{list_count, first_listed, listed_size, lowest_one}
use Rattle.commands.specs.declared.Kind.TheVariants.{ReadAggregate}
use Rattle.commands.specs.Commands.{command_in, offset, dwords}
use Rattle.commands.specs.Shapes.{kind_of}
use Rattle.steps.specs.Items.{Card, Item, command}
use Rattle.steps.specs.Card.{refusal_of, answer, step, run}

-- "One that refuses all"
abbrev pub RefusesAll : Type 0
RefusesAll = (c : Card) (i : Item) → (answer c i).status ≡ success → ⊥

abbrev pub NotRefusingAll : Type 0
NotRefusingAll = RefusesAll → ⊥

-- "or answers alike to all"
abbrev pub AnswersAlike : Type 0
AnswersAlike = (c : Card) (i j : Item) → (answer c i).status ≡ (answer c j).status

abbrev pub NotAlike : Type 0
NotAlike = AnswersAlike → ⊥

-- "One that changes nothing"
abbrev pub ChangesNothing : Type 0
ChangesNothing = (c : Card) (i : Item) → (step c i).card.sets ≡ c.sets

abbrev pub NotStill : Type 0
NotStill = ChangesNothing → ⊥

-- "One that acts on the first item only"
abbrev pub FirstOnly : Type 0
FirstOnly = (c : Card) (i : Item) (is : List Item) → (run c (i ∷ is)).sets ≡ (step c i).card.sets

abbrev pub NotFirstOnly : Type 0
NotFirstOnly = FirstOnly → ⊥

-- ---- "One that invents the number of entries breaks 0Bh, where it equals the marks set."

-- how many dwords have the count, and the first entry too
abbrev pub count_dwords : ℕ
count_dwords = 2

abbrev pub entry_dwords : ℕ
entry_dwords = 3

-- a read of page 0Bh from its start, of so many dwords at least, that is carried out on a legal card
pub record ListRead (c : Card) (bytes given : List ℕ) (room least : ℕ) : Type 0 where
  pub legal : legal_sets 0 c.sets ≡ true
  pub few : length c.sets ≤ max_sets
  pub kind : kind_of (command_in bytes) ≡ ReadAggregate
  pub start : offset (command_in bytes) ≡ 0
  pub long : least ≤ dwords (command_in bytes)
  pub carried : refusal_of c (command bytes given room) ≡ 0

-- "7:0 number of entries, then two bytes each", of what such a read hands out
abbrev pub entries_read : Card → Item → ℕ
entries_read c i = number_of (part (answer c i).bytes list_count.at list_count.width)

abbrev pub first_read : Card → Item → ℕ
first_read c i = number_of (part (answer c i).bytes first_listed listed_size)

abbrev pub MarksCounted : Type 0
MarksCounted =
    (c : Card) (bytes given : List ℕ) (room : ℕ) → ListRead c bytes given room count_dwords
    → entries_read c (command bytes given room) ≡ length (keep (λ r. r.notes.listed) c.sets)

-- "The listed marks of all sets are gathered as one word of bits; the count is its ones": of the marks that the card holds
abbrev pub OnesCounted : Type 0
OnesCounted =
    (c : Card) (bytes given : List ℕ) (room : ℕ) → ListRead c bytes given room count_dwords
    → entries_read c (command bytes given room) ≡ ones (listed_word c.sets)

-- "and the next entry its lowest one": the first is the identifier in that slot. (The entries after it go by `NextIsLowest` of
-- crates/pages/specs/Aggregate.antt.)
abbrev pub LowestFirst : Type 0
LowestFirst =
    (c : Card) (bytes given : List ℕ) (room : ℕ) → ListRead c bytes given room entry_dwords → 0 < listed_word c.sets
    → first_read c (command bytes given room) ≡ get_or (map id_of c.sets) (lowest_one (listed_word c.sets)) 0

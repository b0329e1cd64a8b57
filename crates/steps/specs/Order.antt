-- 01's rows are "checked in this order": four inputs to which several rows apply, so that the order is told, and their answers.
use Rattle.std.specs.Prelude.{◌≡◌, List, [], ◌∷◌, ◌++◌, ℕ, ◌+◌, ◌^◌, replicate}
use Rattle.octets.specs.Octets.{bytes_of}
use Rattle.record.specs.declared.Attributes.{Attributes}
use Rattle.replies.specs.Numbers.{bad_table, invalid_field, not_saveable}
use Rattle.desk.specs.Desk.{new_desk}
use Rattle.table.specs.Card.{card_with}
use Rattle.steps.specs.Items.{Card, Item, command}
use Rattle.steps.specs.Card.{answer}
use Rattle.steps.specs.Words.{step_words}
use Rattle.steps.specs.SetUp.{new_record}

-- 01's set 7: "typicals 100 and 50, maximum 1000, high 20, low 5"
abbrev pub seven : Attributes
seven =
    record {
      id = record { 0 = 7 };
      group = record { 0 = 1 };
      random_read_typical = 0;
      optimal_write_size = 0;
      total = record { low = 0; high = 0 };
      unallocated = record { low = 0; high = 0 };
      reads_typical = 100;
      writes_typical = 50;
      time_maximum = 1000;
      minimum_high = 20;
      minimum_low = 5;
    }

-- a card with that set, off
abbrev pub card : Card
card = card_with (new_record seven ∷ []) new_desk

-- Set Features: opcode 09h in byte 0, then from byte 40 on CDW10 and CDW11; no data, no answer buffer
abbrev set_features : ℕ → ℕ → Item
set_features cdw10 cdw11 = command (bytes_of 4 0x09 ++ replicate 36 0 ++ bytes_of 4 cdw10 ++ bytes_of 4 cdw11 ++ replicate 16 0) [] 0

-- of a FID (CDW10 7:0) and a set (CDW11 15:0), without and with Save (CDW10 bit 31)
abbrev set_plain : ℕ → ℕ → Item
set_plain fid set = set_features fid set

abbrev set_saved : ℕ → ℕ → Item
set_saved fid set = set_features (fid + 2 ^ 31) set

pub record Case : Type 0 where
  pub answered : ℕ
  pub expected : ℕ

abbrev case : ℕ → ℕ → Case
case answered expected = record { answered = answered; expected = expected }

unfoldable pub cases : List Case
cases =
    -- no table, and a command of 65 bytes: "table not legal" before "command not of 64 bytes"
    case (step_words [] (command (replicate 65 0) [] 0)).answer.status bad_table
    -- FID 15h with Save: "FID or CNS not listed" before "Set Features with Save"
    ∷ case (answer card (set_saved 0x15 7)).status invalid_field
    -- 13h with Save of set 9, which is not there: "Set Features with Save" before "set not in the table"
    ∷ case (answer card (set_saved 0x13 9)).status not_saveable
    -- 13h of set 9 without its data: "set not in the table" before "data in .. shorter than needed"
    ∷ case (answer card (set_plain 0x13 9)).status invalid_field
    ∷ []

-- a claim holds of each row of a table
abbrev pub Each : {A : Type 0} → (A → Type 0) → List A → Type 0
Each claim [] = Unit {0}
Each claim (x ∷ xs) = claim x × Each claim xs

-- proved as `order` in proofs/Order.antt
abbrev pub Order : Type 0
Order = Each (λ (c : Case). c.answered ≡ c.expected) cases

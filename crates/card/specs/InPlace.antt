-- What an item does to the row of one set, for the functions that do it.
use Rattle.std.specs.Prelude.{◌≡◌, true, Bool, List, ℕ, ◌+◌, ◌≤◌, length}
use Rattle.record.specs.declared.Attributes.{Attributes}
use Rattle.record.specs.declared.State.{State}
use Rattle.record.specs.declared.Effect.{Effect}
use Rattle.record.specs.declared.Record.{Record}
use Rattle.record.specs.Event.{settled, newly_listed}
use Rattle.table.specs.Layout.{words_of, record_of}
use Rattle.table.specs.Table.{row_start, row, put, legal_row}

-- a slot that lies in the table and holds a legal row
pub record LegalAt (ws : List ℕ) (slot : ℕ) : Type 0 where
  pub room : row_start (slot + 1) ≤ length ws
  pub legal : legal_row (row ws slot) ≡ true

-- a record put in the row of a slot, and whether its set was listed by it
pub record Stores (ws : List ℕ) (slot : ℕ) (x : Record) (after : List ℕ) (new : Bool) : Type 0 where
  pub table : after ≡ put ws slot (words_of x)
  pub listed : new ≡ newly_listed (record_of (row ws slot)) x

-- a rule carried out on a record, and on that of a slot
abbrev pub ruled_by : (Attributes → State → Effect) → Record → Record
ruled_by rule r = settled r (rule r.attributes r.state)

abbrev pub ruled_at : (Attributes → State → Effect) → List ℕ → ℕ → Record
ruled_at rule ws slot = ruled_by rule (record_of (row ws slot))

-- the row of a slot after what a rule that is handed over makes of it
pub record Ruled (gives : Attributes → State → Effect → Type 0) (ws : List ℕ) (slot : ℕ) (after : List ℕ) (new : Bool) : Type 0 where
  pub effect : Effect
  pub given : gives (record_of (row ws slot)).attributes (record_of (row ws slot)).state effect
  pub stored : Stores ws slot (settled (record_of (row ws slot)) effect) after new

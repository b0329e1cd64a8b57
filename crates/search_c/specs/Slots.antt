-- What a search found, as a number for C.
use Rattle.std.specs.Prelude.{Option, None, Some, ℕ}
use Rattle.record.specs.declared.Slot.{Slot}
use Rattle.table.specs.Table.{max_sets}

-- the slot, or the number of sets that there can be, which is no slot's
abbrev pub slot_in : Option Slot → ℕ
slot_in (Some slot) = slot.0
slot_in None = max_sets

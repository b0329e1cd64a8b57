-- The record after a tick, for the functions that tick every row.
use Rattle.std.specs.Prelude.{ℕ}
use Rattle.record.specs.declared.Record.{Record}
use Rattle.record.specs.Event.{settled}
use Rattle.rules.specs.Rules.{tick}

abbrev pub tick_one : ℕ → Record → Record
tick_one t r = settled r (tick t r.attributes r.state)

-- The kinds of items by their numbers on the tape, for the functions that take a kind.
use Rattle.std.specs.Prelude.{ℕ}
use Rattle.tape.specs.Tape.{command_kind, data_kind, reads_kind, writes_kind, excursion_kind, tick_kind}
use Rattle.tape.specs.declared.items.Kind.{Kind}
use Rattle.tape.specs.declared.items.Kind.TheVariants.{Command, CommandWithData, Reads, Writes, Excursion, Tick}

abbrev pub kind_number : Kind → ℕ
kind_number Command = command_kind
kind_number CommandWithData = data_kind
kind_number Reads = reads_kind
kind_number Writes = writes_kind
kind_number Excursion = excursion_kind
kind_number Tick = tick_kind

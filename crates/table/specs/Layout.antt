-- The words of one set: one field to a word, in the order of docs/LAYOUT.md.
use Rattle.std.specs.Prelude.{List, [], ◌∷◌, ℕ, ◌%◌, ◌^◌, eqb, get_or, if◌then◌else◌}
use Rattle.record.specs.declared.Window.{Window}
use Rattle.record.specs.declared.Window.TheVariants.{Off, D, N}
use Rattle.record.specs.declared.Attributes.{Attributes}
use Rattle.record.specs.declared.State.{State}
use Rattle.record.specs.declared.Notes.{Notes}
use Rattle.record.specs.declared.Record.{Record}
use Rattle.record.specs.Parts.{config_of, spends, recovers, state_of}
use Rattle.record.specs.Windows.{window_no}
use Rattle.record.specs.Event.{bit, bits_of, events_in}

-- how many words a set takes
abbrev pub row_words : ℕ
row_words = 25

-- where the words begin that items other than Set Features 13h change, and where among them the notes
abbrev pub window_word : ℕ
window_word = 17

abbrev pub notes_word : ℕ
notes_word = 23

-- a record as its words
abbrev pub field_words : Record → List ℕ
field_words r =
    r.attributes.id.0
    ∷ r.attributes.group.0
    ∷ r.attributes.random_read_typical
    ∷ r.attributes.optimal_write_size
    ∷ r.attributes.total.low
    ∷ r.attributes.total.high
    ∷ r.attributes.unallocated.low
    ∷ r.attributes.unallocated.high
    ∷ r.attributes.reads_typical
    ∷ r.attributes.writes_typical
    ∷ r.attributes.time_maximum
    ∷ r.attributes.minimum_high
    ∷ r.attributes.minimum_low
    ∷ bits_of r.state.config.enabled
    ∷ r.state.config.thresholds.reads
    ∷ r.state.config.thresholds.writes
    ∷ r.state.config.thresholds.time
    ∷ window_no r.state.window
    ∷ r.state.spent.reads
    ∷ r.state.spent.writes
    ∷ r.state.spent.time
    ∷ r.state.recovery.time
    ∷ r.state.recovery.need
    ∷ bits_of r.notes.events
    ∷ bit r.notes.listed
    ∷ []

unfoldable pub words_of : Record → List ℕ
words_of r = field_words r

-- the window of a number; any number above 1 gives N, so that for one above 2 the words differ and `legal_row` refuses it
abbrev pub window_in : ℕ → Window
window_in n = if eqb n 0 then Off else if eqb n 1 then D else N

-- the record of a row of words: of each word as much as its field holds
abbrev pub attributes_at : List ℕ → Attributes
attributes_at ws =
    record {
      id = record { 0 = get_or ws 0 0 % 2 ^ 16 };
      group = record { 0 = get_or ws 1 0 % 2 ^ 16 };
      random_read_typical = get_or ws 2 0 % 2 ^ 32;
      optimal_write_size = get_or ws 3 0 % 2 ^ 32;
      total = record { low = get_or ws 4 0; high = get_or ws 5 0 };
      unallocated = record { low = get_or ws 6 0; high = get_or ws 7 0 };
      reads_typical = get_or ws 8 0 % 2 ^ 32;
      writes_typical = get_or ws 9 0 % 2 ^ 32;
      time_maximum = get_or ws 10 0 % 2 ^ 32;
      minimum_high = get_or ws 11 0 % 2 ^ 32;
      minimum_low = get_or ws 12 0 % 2 ^ 32;
    }

abbrev pub state_at : List ℕ → State
state_at ws =
    state_of
    (window_in (get_or ws 17 0))
    (config_of (events_in (get_or ws 13 0)) (get_or ws 14 0) (get_or ws 15 0) (get_or ws 16 0))
    (spends (get_or ws 18 0 % 2 ^ 32) (get_or ws 19 0 % 2 ^ 32) (get_or ws 20 0 % 2 ^ 32))
    (recovers (get_or ws 21 0 % 2 ^ 32) (get_or ws 22 0 % 2 ^ 32))

abbrev pub notes_at : List ℕ → Notes
notes_at ws = record { events = events_in (get_or ws 23 0); listed = eqb (get_or ws 24 0) 1 }

unfoldable pub record_of : List ℕ → Record
record_of ws = record { attributes = attributes_at ws; state = state_at ws; notes = notes_at ws }

-- 01, "Commands": log page 0Ah.
use Rattle.std.specs.Prelude.{List, [], ◌∷◌, ◌++◌, ℕ}
use Rattle.octets.specs.declared.Place.{Place}
use Rattle.octets.specs.Pages.{Field, span, fields_at, place}
use Rattle.record.specs.declared.Quantity.TheVariants.{Reads, Writes, Time}
use Rattle.record.specs.declared.Attributes.{Attributes}
use Rattle.record.specs.declared.State.{State}
use Rattle.record.specs.declared.Record.{Record}
use Rattle.record.specs.Event.{bits_of, estimate}
use Rattle.record.specs.Windows.{window_no}
use Rattle.pages.specs.Capacities.{limits_of}

-- "0Ah, 512 bytes"
abbrev pub latency_size : ℕ
latency_size = 512

-- ---- where each number lies: "0 window (0, 1, 2); 3:2 events; 39:32 reads typical; 47:40 writes typical; 55:48 time maximum;
-- 63:56 minimum high; 71:64 minimum low; 135:128, 143:136, 151:144 the three estimates"
abbrev pub latency_window : Place
latency_window = span 0 1

abbrev pub latency_events : Place
latency_events = span 2 2

abbrev pub latency_reads : Place
latency_reads = span 32 8

abbrev pub latency_writes : Place
latency_writes = span 40 8

abbrev pub latency_time : Place
latency_time = span 48 8

abbrev pub latency_high : Place
latency_high = span 56 8

abbrev pub latency_low : Place
latency_low = span 64 8

abbrev pub latency_reads_left : Place
latency_reads_left = span 128 8

abbrev pub latency_writes_left : Place
latency_writes_left = span 136 8

abbrev pub latency_time_left : Place
latency_time_left = span 144 8

-- as they are put: the window and the events, five limits, three estimates
abbrev pub latency_marks : List Place
latency_marks = latency_window ∷ latency_events ∷ []

abbrev pub latency_limits : List Place
latency_limits = latency_reads ∷ latency_writes ∷ latency_time ∷ latency_high ∷ latency_low ∷ []

abbrev pub latency_estimates : List Place
latency_estimates = latency_reads_left ∷ latency_writes_left ∷ latency_time_left ∷ []

abbrev pub latency_places : List Place
latency_places = latency_marks ++ latency_limits ++ latency_estimates

-- ---- the page made

abbrev pub marks_of : Record → List ℕ
marks_of r = window_no r.state.window ∷ bits_of r.notes.events ∷ []

abbrev pub estimates_of : Attributes → State → List ℕ
estimates_of a s = estimate Reads a s ∷ estimate Writes a s ∷ estimate Time a s ∷ []

abbrev pub latency_values : Record → List ℕ
latency_values r = marks_of r ++ limits_of r.attributes ++ estimates_of r.attributes r.state

abbrev pub latency_fields : Record → List Field
latency_fields r = fields_at latency_places (latency_values r)

-- "the rest zero"
unfoldable pub latency_page : Record → List ℕ
latency_page r = place latency_size (latency_fields r)

-- 01, "Legal table", for one set. The window is none exactly when the mode is off, ENEV and event bits lie within C007h,
-- and there are no unused bits: a record's types leave no other choice.
use Rattle.std.specs.Prelude.{◌≡◌, ℕ, Bool, true, not, ◌&&◌, ◌||◌, leb, ltb, eqb}
use Rattle.record.specs.declared.Capacity.{Capacity}
use Rattle.record.specs.declared.Attributes.{Attributes}
use Rattle.record.specs.declared.Spent.{Spent}
use Rattle.record.specs.declared.Recovery.{Recovery}
use Rattle.record.specs.declared.State.{State}
use Rattle.record.specs.declared.Notes.{Notes}
use Rattle.record.specs.declared.Record.{Record}
use Rattle.record.specs.declared.Effect.{Effect}
use Rattle.record.specs.Windows.{by_window}
use Rattle.record.specs.Event.{some_event, settled}

-- "identifier 1..65535; endurance group 1..65535"
abbrev pub number_maximum : ℕ
number_maximum = 65535

-- "random read typical (4 bytes); optimal write size (4)"
abbrev pub four_bytes_maximum : ℕ
four_bytes_maximum = 4294967295

-- "reads typical and writes typical, each 1..4,294,967,295"
abbrev pub typical_maximum : ℕ
typical_maximum = 4294967295

-- "1..86,400,000 ms each": a day
abbrev pub day_ms : ℕ
day_ms = 86400000

abbrev pub in_range : ℕ → ℕ → Bool
in_range most x = leb 1 x && leb x most

-- "unallocated not above total": by the upper 64 bits, and by the lower where those are equal
abbrev pub not_above : Capacity → Capacity → Bool
not_above x y = ltb x.high y.high || (eqb x.high y.high && leb x.low y.low)

-- what Identify shows of a set: identifier, group, the two sizes, and the capacities
abbrev pub legal_sizes : Attributes → Bool
legal_sizes a =
    in_range number_maximum a.id.0
    && in_range number_maximum a.group.0
    && leb a.random_read_typical four_bytes_maximum
    && leb a.optimal_write_size four_bytes_maximum
    && not_above a.unallocated a.total

-- "statics in range"
abbrev pub legal_attributes : Attributes → Bool
legal_attributes a =
    legal_sizes a
    && in_range typical_maximum a.reads_typical
    && in_range typical_maximum a.writes_typical
    && in_range day_ms a.time_maximum
    && in_range day_ms a.minimum_high
    && in_range day_ms a.minimum_low
    && leb a.minimum_low a.minimum_high

-- "reads and writes at most their typicals and time below maximum"
abbrev pub within_limits : Attributes → Spent → Bool
within_limits a p = leb p.reads a.reads_typical && leb p.writes a.writes_typical && ltb p.time a.time_maximum

-- "all zero outside D"
abbrev pub none_spent : Spent → Bool
none_spent p = eqb p.reads 0 && eqb p.writes 0 && eqb p.time 0

-- 01: "N time at most high", amended by 02: "need from low to high in N, ..; N time at most need"
abbrev pub within_need : Attributes → Recovery → Bool
within_need a r = leb a.minimum_low r.need && leb r.need a.minimum_high && leb r.time r.need

-- 01: "and zero outside N"; and 02 of the need: "else 0"
abbrev pub none_recovered : Recovery → Bool
none_recovered r = eqb r.time 0 && eqb r.need 0

abbrev pub legal_state : Attributes → State → Bool
legal_state a s =
    by_window s.window
    (none_spent s.spent && none_recovered s.recovery)
    (within_limits a s.spent && none_recovered s.recovery)
    (none_spent s.spent && within_need a s.recovery)

-- "listed only if some event bit is set"
abbrev pub legal_notes : Notes → Bool
legal_notes n = not n.listed || some_event n.events

abbrev pub legal_record : Record → Bool
legal_record r = legal_attributes r.attributes && legal_state r.attributes r.state && legal_notes r.notes

-- ---- what every rule keeps

-- from a legal set, a rule leaves a state that is legal
abbrev pub KeepsState : (Attributes → State → Effect) → Type 0
KeepsState rule = (a : Attributes) (s : State) → legal_attributes a ≡ true → legal_state a s ≡ true → legal_state a (rule a s).state ≡ true

-- and, its events settled, a record that is legal
abbrev pub KeepsRecord : (Attributes → State → Effect) → Type 0
KeepsRecord rule = (r : Record) → legal_record r ≡ true → legal_record (settled r (rule r.attributes r.state)) ≡ true

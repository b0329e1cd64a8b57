-- 01, "Estimates" and "Events".
use Rattle.std.specs.Prelude.{ℕ, ◌+◌, ◌*◌, ◌-◌, ◌/◌, ◌%◌, ◌^◌, Bool, true, false, not, ◌&&◌, ◌||◌, ltb, leb, eqb, if◌then◌else◌}
pub use Rattle.octets.specs.Choice.{bit}
use Rattle.record.specs.declared.Attributes.{Attributes}
use Rattle.record.specs.declared.Quantity.{Quantity}
use Rattle.record.specs.declared.Quantity.TheVariants.{Reads, Writes, Time}
use Rattle.record.specs.declared.Events.{Events}
use Rattle.record.specs.declared.Config.{Config}
use Rattle.record.specs.declared.State.{State}
use Rattle.record.specs.declared.Record.{Record}
use Rattle.record.specs.declared.Effect.{Effect}
use Rattle.record.specs.Quantities.{limit, spent_of, threshold, enables, need_met}
use Rattle.record.specs.Windows.{by_window}

-- ---- estimates

-- "In D: typical less count, or maximum less time, floor 0." Of a quantity of which n is spent.
abbrev pub left_of : Quantity → Attributes → ℕ → ℕ
left_of q a n = limit q a - n

-- 01: "In N: 0 until N time equals high, then typical or maximum. Off: 0.", amended by 02: "the estimates in N wait for the need"
abbrev pub estimate : Quantity → Attributes → State → ℕ
estimate q a s =
    by_window s.window
    0
    (left_of q a (spent_of q s.spent))
    (if need_met s.recovery then limit q a else 0)

-- ---- events

-- bits 0, 1, 2, 14 and 15: C007h
abbrev pub events_of : Bool → Bool → Bool → Bool → Bool → Events
events_of i o t x y = record { reads = i; writes = o; time = t; exceeded = x; excursion = y }

abbrev pub no_events : Events
no_events = events_of false false false false false

abbrev pub some_event : Events → Bool
some_event e = e.reads || e.writes || e.time || e.exceeded || e.excursion

-- as 16 bits: on pages, in the table, and in Set Features 13h
abbrev pub bits_of : Events → ℕ
bits_of e = bit e.reads + 2 * bit e.writes + 4 * bit e.time + 0x4000 * bit e.exceeded + 0x8000 * bit e.excursion

-- whether bit k of a number is set
abbrev pub has_bit : ℕ → ℕ → Bool
has_bit k x = eqb (x / 2 ^ k % 2) 1

-- the bits of all events: "C007h"
abbrev pub event_mask : ℕ
event_mask = 0xC007

-- the events of a 16-bit number: "masked with C007h", since the other bits are not looked at
abbrev pub events_in : ℕ → Events
events_in x = events_of (has_bit 0 x) (has_bit 1 x) (has_bit 2 x) (has_bit 14 x) (has_bit 15 x)

-- the warning of one quantity, where b says so
abbrev pub warning : Quantity → Bool → Events
warning Reads b = events_of b false false false false
warning Writes b = events_of false b false false false
warning Time b = events_of false false b false false

-- "A warning .. is set when its estimate goes, by one item, from at or above its threshold to below it while in D,
-- and its ENEV bit is set."
abbrev pub warns : Quantity → Config → ℕ → ℕ → Bool
warns q c before after = enables q c.enabled && leb (threshold q c.thresholds) before && ltb after (threshold q c.thresholds)

-- "Entering D with the estimate already below counts as such a fall."
abbrev pub starts_below : Quantity → Attributes → Config → Bool
starts_below q a c = enables q c.enabled && ltb (limit q a) (threshold q c.thresholds)

abbrev pub entering_d : Attributes → Config → Events
entering_d a c = events_of (starts_below Reads a c) (starts_below Writes a c) (starts_below Time a c) false false

-- "Bit 14 is set on exceeded or time up", "enabled or not": beside the warning that the item reckons first
abbrev pub and_exceeded : Events → Events
and_exceeded e = events_of e.reads e.writes e.time true e.excursion

-- "bit 15 on excursion, enabled or not"
abbrev pub an_excursion : Events
an_excursion = events_of false false false false true

-- ---- the listed mark

-- "if any event of the item was enabled at that time"
abbrev pub any_enabled : Events → Events → Bool
any_enabled happened enabled =
    (happened.reads && enabled.reads) || (happened.writes && enabled.writes) || (happened.time && enabled.time)
    || (happened.exceeded && enabled.exceeded) || (happened.excursion && enabled.excursion)

-- the old events, where they are kept, and the new ones
abbrev pub joined : Bool → Events → Events → Events
joined kept old new =
    events_of
    (kept && old.reads || new.reads)
    (kept && old.writes || new.writes)
    (kept && old.time || new.time)
    (kept && old.exceeded || new.exceeded)
    (kept && old.excursion || new.excursion)

-- The record after an effect: the only place that writes events and the listed mark.
-- "The listed mark is set if any event of the item was enabled at that time. Later changes of ENEV don't touch it."
-- A clearing read "clears that set's events and listed mark".
abbrev pub settled : Record → Effect → Record
settled r e =
    record {
      attributes = r.attributes;
      state = e.state;
      notes = record {
        events = joined (not e.clears) r.notes.events e.happened;
        listed = not e.clears && r.notes.listed || any_enabled e.happened r.state.config.enabled;
      };
    }

-- an effect without event or clearing read, which leaves the notes as they are
abbrev pub is_silent : Effect → Bool
is_silent e = not (some_event e.happened) && not e.clears

-- ---- 02: "When an item lists one or more sets that weren't listed": a set's record before an item, and after it
abbrev pub newly_listed : Record → Record → Bool
newly_listed r x = not r.notes.listed && x.notes.listed

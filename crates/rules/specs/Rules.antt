-- 01, "Window changes": what each item does to one set. A rule sees attributes and state, never events or the listed mark, and only
-- the door of Door.antt makes a window.
use Rattle.std.specs.Prelude.{◌≡◌, ℕ, ◌+◌, ◌-◌, ◌<◌, min, Bool, true, false, not, ◌&&◌, ltb, leb, if◌then◌else◌}
use Rattle.record.specs.declared.Attributes.{Attributes}
use Rattle.record.specs.declared.Window.{Window}
use Rattle.record.specs.declared.Window.TheVariants.{D, N}
use Rattle.rules.specs.declared.Cause.{Cause}
use Rattle.rules.specs.declared.Cause.TheVariants as cause
use Rattle.rules.specs.declared.Cause.TheVariants.{Enable, Disable, Exceeded, TimeUp}
use Rattle.rules.specs.declared.Media.{Media}
use Rattle.rules.specs.declared.Media.TheVariants as media
use Rattle.record.specs.declared.Quantity.{Quantity}
use Rattle.record.specs.declared.Quantity.TheVariants.{Reads, Writes, Time}
use Rattle.record.specs.declared.Config.{Config}
use Rattle.record.specs.declared.State.{State}
use Rattle.record.specs.declared.Effect.{Effect}
use Rattle.record.specs.Parts.{recovers, configured, having_recovered, effect_of}
use Rattle.record.specs.Quantities.{limit, spent_of, threshold, enables, need_met, spending}
use Rattle.record.specs.Windows.{by_window, same_window}
use Rattle.record.specs.Legal.{legal_attributes}
use Rattle.rules.specs.Changes.{moved_by}
use Rattle.rules.specs.Door.{carried_by, going}
use Rattle.record.specs.Event.{left_of, no_events, warning, warns, starts_below, entering_d, and_exceeded, an_excursion}
use Rattle.record.specs.declared.Events.{Events}

-- an item that does no clearing read
abbrev pub noting : State → Events → Effect
noting s e = effect_of s e false

-- nothing changes, nothing happens
abbrev pub still : State → Effect
still s = noting s no_events

-- "counts only in D"
abbrev pub only_in_d : State → Effect → Effect
only_in_d s e = by_window s.window (still s) e (still s)

-- ---- enable and disable

abbrev pub cause_of_mode : Bool → Cause
cause_of_mode true = Enable
cause_of_mode false = Disable

-- "Both enable and disable store ENEV (masked with C007h) and the thresholds. Neither clears events or the listed mark."
abbrev pub configure : Bool → Config → Attributes → State → Effect
configure on c a s = still (configured c (going (cause_of_mode on) a s))

-- ---- select D and select N

-- "D, if time is spent". 01: "Select D needs N time equal to minimum high.", amended by 02: "07C1h and cases 8 and 9 now speak of the
-- need"
abbrev pub is_early : Cause → State → Bool
is_early c s = same_window s.window N && same_window (moved_by s.window c) D && not (need_met s.recovery)

-- what happens on the way into a window: "Entering D with the estimate already below counts as such a fall", of all three
abbrev pub on_entering : Window → Attributes → Config → Events
on_entering w a c = by_window w no_events (entering_d a c) no_events

-- what happens where a cause moves a set from v to w, and nothing where it does not
abbrev pub moving : Window → Window → Events → Events
moving v w e = if same_window v w then no_events else e

abbrev pub selecting : Cause → Attributes → State → Effect
selecting c a s =
    let w = moved_by s.window c in
    noting (going c a s) (moving s.window w (on_entering w a s.config))

-- ---- reads, writes, excursions and ticks

-- "It leaves D if the new count is greater than typical." "In D, time up is when the sum is at or past maximum."
abbrev pub is_over : Quantity → ℕ → ℕ → Bool
is_over Reads most n = ltb most n
is_over Writes most n = ltb most n
is_over Time most n = leb most n

abbrev pub cause_over : Quantity → Cause
cause_over Reads = Exceeded
cause_over Writes = Exceeded
cause_over Time = TimeUp

-- t ms more of N time. 01: "N time stops at high.", amended by 02: "N time stops at the need"
abbrev pub recovering : ℕ → State → State
recovering t s = having_recovered (recovers (min (s.recovery.time + t) s.recovery.need) s.recovery.need) s

-- out of D with n of a quantity, which is over its limit: through the door, and what the cause carries over as N time
unfoldable pub leaving : Quantity → ℕ → Attributes → State → State
leaving q n a s = recovering (carried_by (cause_over q) (n - limit q a)) (going (cause_over q) a s)

-- k more of a quantity in D. "An item that drives the set out of D first reckons the warning with the floored estimate, then leaves",
-- and bit 14 stands beside the warning.
abbrev pub charge : Quantity → ℕ → Attributes → State → Effect
charge q k a s =
    let n = spent_of q s.spent + k in
    let warned = warning q (warns q s.config (left_of q a (spent_of q s.spent)) (left_of q a n)) in
    if is_over q (limit q a) n then noting (leaving q n a s) (and_exceeded warned) else noting (spending q n s) warned

-- "A read or write event of k (0..65,535) counts only in D."
abbrev pub read_event : ℕ → Attributes → State → Effect
read_event k a s = only_in_d s (charge Reads k a s)

abbrev pub write_event : ℕ → Attributes → State → Effect
write_event k a s = only_in_d s (charge Writes k a s)

-- "An excursion counts only in D": elsewhere its entry leads to the window that the set is in, and it stays.
abbrev pub excursion_event : Attributes → State → Effect
excursion_event a s = noting (going cause.Excursion a s) (moving s.window (moved_by s.window cause.Excursion) an_excursion)

-- what the media layer reports of a set
abbrev pub media_rule : Media → Attributes → State → Effect
media_rule (media.Reads k) a s = read_event k a s
media_rule (media.Writes k) a s = write_event k a s
media_rule media.Excursion a s = excursion_event a s

-- "A tick of t (0..86,400,000 ms) goes to every set."
abbrev pub tick : ℕ → Attributes → State → Effect
tick t a s = by_window s.window (still s) (charge Time t a s) (still (recovering t s))

-- ---- a clearing read

-- "Any successful read with Retain 0 clears that set's events and listed mark, after the bytes are taken."
abbrev pub clearing_read : State → Effect
clearing_read s = effect_of s no_events true

-- ---- Laws, each proved under its name, in snake case: those on warnings in proofs/Warnings.antt, the last three
-- in proofs/Leads.antt.

-- "threshold 0 never warns": no estimate is below it
abbrev pub ZeroNeverWarns : Type 0
ZeroNeverWarns =
    (q : Quantity) (a : Attributes) (c : Config) (before after : ℕ) → threshold q c.thresholds ≡ 0
    → (warns q c before after ≡ false) × (starts_below q a c ≡ false)

-- a threshold above typical, or above maximum, warns on each entry to D, if its bit is enabled, and at no charge
abbrev pub AboveWarnsOnEntry : Type 0
AboveWarnsOnEntry =
    (q : Quantity) (a : Attributes) (c : Config) (n after : ℕ) → limit q a < threshold q c.thresholds
    → (starts_below q a c ≡ enables q c.enabled) × (warns q c (left_of q a n) after ≡ false)

-- a charge sets no warning but its own quantity's
abbrev pub OwnWarning : Type 0
OwnWarning = (p q : Quantity) (k : ℕ) (a : Attributes) (s : State) → (p ≡ q → ⊥) → enables p (charge q k a s).happened ≡ false

-- only time up carries N time over: who leaves D by exceeding starts N with none
abbrev pub CarriesNone : Type 0
CarriesNone =
    (q : Quantity) (n : ℕ) (a : Attributes) (s : State) → s.window ≡ D → (cause_over q ≡ TimeUp → ⊥)
    → (leaving q n a s).recovery.time ≡ 0

-- 02: "Time up counts s as maximum.", "N time stops at the need": after time up a legal set has the excess as N time, at most high
abbrev pub TimeUpRecovers : Type 0
TimeUpRecovers =
    (n : ℕ) (a : Attributes) (s : State) → s.window ≡ D → legal_attributes a ≡ true
    → (leaving Time n a s).recovery ≡ recovers (min (n - a.time_maximum) a.minimum_high) a.minimum_high

-- in N the need stays what it was when N began: no media event, tick, select N or clearing read reckons it anew
abbrev pub NeedStays : Type 0
NeedStays =
    (a : Attributes) (s : State) → s.window ≡ N
    → ((m : Media) → (media_rule m a s).state.recovery.need ≡ s.recovery.need)
    × ((t : ℕ) → (tick t a s).state.recovery.need ≡ s.recovery.need)
    × ((selecting cause.SelectN a s).state.recovery.need ≡ s.recovery.need)
    × ((clearing_read s).state.recovery.need ≡ s.recovery.need)

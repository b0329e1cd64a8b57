-- 01, "Window changes": the one door between windows. Nothing else makes a window, and all that hangs on the cause stands here.
use Rattle.std.specs.Prelude.{◌≡◌, ℕ, min, Bool, true, false, not, ◌&&◌, if◌then◌else◌}
use Rattle.record.specs.declared.Attributes.{Attributes}
use Rattle.record.specs.declared.Window.{Window}
use Rattle.record.specs.declared.Window.TheVariants.{D, N}
use Rattle.record.specs.declared.State.{State}
use Rattle.record.specs.Parts.{nothing_spent, recovers, state_of}
use Rattle.record.specs.Windows.{by_window, same_window}
use Rattle.record.specs.Legal.{legal_attributes, legal_state}
use Rattle.rules.specs.declared.Cause.{Cause}
use Rattle.rules.specs.declared.Cause.TheVariants.{Enable, Disable, SelectD, SelectN, Excursion, Exceeded, TimeUp}
use Rattle.rules.specs.Changes.{moved_by}
use Rattle.rules.specs.Need.{need_after}

-- ---- what hangs on the cause

-- "Enabling always starts N afresh with time 0, also from D or N", and disabling leaves nothing of what was
abbrev pub restarts : Cause → Bool
restarts Enable = true
restarts Disable = true
restarts SelectD = false
restarts SelectN = false
restarts Excursion = false
restarts Exceeded = false
restarts TimeUp = false

-- "In D, time up is ..; the excess becomes N time": no other cause carries anything over
abbrev pub carried_by : Cause → ℕ → ℕ
carried_by Enable excess = 0
carried_by Disable excess = 0
carried_by SelectD excess = 0
carried_by SelectN excess = 0
carried_by Excursion excess = 0
carried_by Exceeded excess = 0
carried_by TimeUp excess = excess

-- s of 02's need: how long D has lasted. Of a legal set that is below maximum. Where another record holds more, maximum counts, so that
-- the need of any record is at most the greater of low and high.
abbrev pub time_in_d : Attributes → State → ℕ
time_in_d a s = min s.spent.time a.time_maximum

-- 02: "The need after a window of s ms is ..; after enabling it is high. Time up counts s as maximum." The other two lead to no N.
abbrev pub need_by : Cause → Attributes → ℕ → ℕ
need_by Enable a s = a.minimum_high
need_by Disable a s = 0
need_by SelectD a s = 0
need_by SelectN a s = need_after a s
need_by Excursion a s = need_after a s
need_by Exceeded a s = need_after a s
need_by TimeUp a s = need_after a a.time_maximum

-- the need with which a window starts: "in N, else 0"
abbrev pub need_in : Window → Cause → Attributes → State → ℕ
need_in w c a s = by_window w 0 0 (need_by c a (time_in_d a s))

-- ---- the door

-- a window's start: "Entering D zeroes reads, writes and time"; outside D they are zero, and N starts with no time in it and its need
abbrev pub into : Window → Cause → Attributes → State → State
into w c a s = state_of w s.config nothing_spent (recovers 0 (need_in w c a s))

-- whether a set in window v stays as it is: "Selecting the window already held succeeds and changes nothing: no refill, no restart."
abbrev pub stays : Cause → Window → Bool
stays c v = same_window (moved_by v c) v && not (restarts c)

-- the state after a cause
unfoldable pub going : Cause → Attributes → State → State
going c a s = if stays c s.window then s else into (moved_by s.window c) c a s

-- ---- Laws of the door, proved under their names, in snake case, in proofs/Leads.antt.

-- each cause leads to the window that the table names
abbrev pub Leads : Type 0
Leads = (c : Cause) (a : Attributes) (s : State) → (going c a s).window ≡ moved_by s.window c

-- a set that does not stay has another window's start before it: nothing spent, no time in N, that window's need, which is none outside
-- N, and its configuration as it was
abbrev pub StartsAnew : Type 0
StartsAnew =
    (c : Cause) (a : Attributes) (s : State) → stays c s.window ≡ false
    → ((going c a s).spent ≡ nothing_spent)
    × ((going c a s).recovery ≡ recovers 0 (need_in (moved_by s.window c) c a s))
    × ((going c a s).config ≡ s.config)

-- "Selecting the window already held succeeds and changes nothing: no refill, no restart."
abbrev pub HeldStays : Type 0
HeldStays = (a : Attributes) (s : State) → (s.window ≡ D → going SelectD a s ≡ s) × (s.window ≡ N → going SelectN a s ≡ s)

-- 02: "after enabling it is high", from any window, with no time in N
abbrev pub EnablingNeedsHigh : Type 0
EnablingNeedsHigh = (a : Attributes) (s : State) → (going Enable a s).recovery ≡ recovers 0 a.minimum_high

-- 02: "The need after a window of s ms", whether a legal set leaves D by select N, by an excursion or by exceeding: s is its time in D
abbrev pub LeavingNeeds : Type 0
LeavingNeeds =
    (a : Attributes) (s : State) → s.window ≡ D → legal_state a s ≡ true
    → ((going SelectN a s).recovery.need ≡ need_after a s.spent.time)
    × ((going Excursion a s).recovery.need ≡ need_after a s.spent.time)
    × ((going Exceeded a s).recovery.need ≡ need_after a s.spent.time)

-- 02: "Time up counts s as maximum": then a legal set needs high
abbrev pub TimeUpNeedsHigh : Type 0
TimeUpNeedsHigh = (a : Attributes) (s : State) → s.window ≡ D → legal_attributes a ≡ true → (going TimeUp a s).recovery.need ≡ a.minimum_high

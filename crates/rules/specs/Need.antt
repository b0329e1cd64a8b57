-- 02, "Short windows pay too much": how long N must last after a window. "Document 01 demands minimum high after every window. That
-- was a simplification; high is for a full one".
use Rattle.std.specs.Prelude.{◌≡◌, true, ℕ, ◌+◌, ◌*◌, ◌-◌, ◌/◌, ◌≤◌, ◌<◌}
use Rattle.record.specs.declared.Attributes.{Attributes}
use Rattle.record.specs.Legal.{legal_attributes}

-- a quotient, "rounded up"
abbrev pub up_by : ℕ → ℕ → ℕ
up_by x y = (x + (y - 1)) / y

-- "The need after a window of s ms is low + (high - low) x s / maximum, rounded up"
unfoldable pub need_after : Attributes → ℕ → ℕ
need_after a s = a.minimum_low + up_by ((a.minimum_high - a.minimum_low) * s) a.time_maximum

-- ---- Laws, of every legal set, proved under their names, in snake case, in proofs/Needs.antt.

-- the need lies between low and high, for every s up to maximum
abbrev pub NeedWithin : Type 0
NeedWithin =
    (a : Attributes) (s : ℕ) → legal_attributes a ≡ true → s ≤ a.time_maximum
    → (a.minimum_low ≤ need_after a s) × (need_after a s ≤ a.minimum_high)

-- it never falls as s grows
abbrev pub NeedRises : Type 0
NeedRises = (a : Attributes) (s t : ℕ) → legal_attributes a ≡ true → s ≤ t → need_after a s ≤ need_after a t

-- a window of no time needs low, and "high is for a full one"
abbrev pub NeedEnds : Type 0
NeedEnds =
    (a : Attributes) → legal_attributes a ≡ true
    → (need_after a 0 ≡ a.minimum_low) × (need_after a a.time_maximum ≡ a.minimum_high)

-- "rounded up": what the need has above low, times maximum, is at least (high - low) x s, and less than maximum above it
abbrev pub NeedRounded : Type 0
NeedRounded =
    (a : Attributes) (s : ℕ) → legal_attributes a ≡ true
    → ((a.minimum_high - a.minimum_low) * s ≤ (need_after a s - a.minimum_low) * a.time_maximum)
    × ((need_after a s - a.minimum_low) * a.time_maximum < (a.minimum_high - a.minimum_low) * s + a.time_maximum)

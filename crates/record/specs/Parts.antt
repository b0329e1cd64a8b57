-- 01, "One set's record": its parts, each made anew in one place.
use Rattle.std.specs.Prelude.{ℕ, Bool}
use Rattle.record.specs.declared.Window.{Window}
use Rattle.record.specs.declared.Events.{Events}
use Rattle.record.specs.declared.Config.{Config}
use Rattle.record.specs.declared.Spent.{Spent}
use Rattle.record.specs.declared.Recovery.{Recovery}
use Rattle.record.specs.declared.State.{State}
use Rattle.record.specs.declared.Record.{Record}
use Rattle.record.specs.declared.Effect.{Effect}

-- "identifier 1..65535"
abbrev pub id_of : Record → ℕ
id_of r = r.attributes.id.0

-- ---- the parts of a state: one literal each

-- "ENEV, three 64-bit thresholds": of reads, of writes and of time
abbrev pub config_of : Events → ℕ → ℕ → ℕ → Config
config_of e i o t = record { enabled = e; thresholds = record { reads = i; writes = o; time = t } }

-- "reads, writes and time in the deterministic window (D)"
abbrev pub spends : ℕ → ℕ → ℕ → Spent
spends i o t = record { reads = i; writes = o; time = t }

abbrev pub nothing_spent : Spent
nothing_spent = spends 0 0 0

-- "time in the non-deterministic one (N)"; and 02: "the need", how much of it N must have before D may be selected
abbrev pub recovers : ℕ → ℕ → Recovery
recovers n need = record { time = n; need = need }

abbrev pub no_recovery : Recovery
no_recovery = recovers 0 0

abbrev pub state_of : Window → Config → Spent → Recovery → State
state_of w c p r = record { window = w; config = c; spent = p; recovery = r }

-- ---- a state with one part made anew

abbrev pub configured : Config → State → State
configured c s = state_of s.window c s.spent s.recovery

abbrev pub having_spent : Spent → State → State
having_spent p s = state_of s.window s.config p s.recovery

abbrev pub having_recovered : Recovery → State → State
having_recovered r s = state_of s.window s.config s.spent r

-- ---- an effect: the state after an item, the events that happened, and whether it was a clearing read

abbrev pub effect_of : State → Events → Bool → Effect
effect_of s e b = record { state = s; happened = e; clears = b }

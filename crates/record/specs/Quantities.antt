-- 01, "One set's record", by quantity: its limit, its count, its threshold and its enable bit; and whether the need is met.
use Rattle.std.specs.Prelude.{ℕ, Bool, eqb}
use Rattle.record.specs.declared.Attributes.{Attributes}
use Rattle.record.specs.declared.Quantity.{Quantity}
use Rattle.record.specs.declared.Quantity.TheVariants.{Reads, Writes, Time}
use Rattle.record.specs.declared.Events.{Events}
use Rattle.record.specs.declared.Thresholds.{Thresholds}
use Rattle.record.specs.declared.Spent.{Spent}
use Rattle.record.specs.declared.Recovery.{Recovery}
use Rattle.record.specs.declared.State.{State}
use Rattle.record.specs.Parts.{spends, having_spent}

-- "reads typical and writes typical", "time maximum": how much of a quantity D allows
abbrev pub limit : Quantity → Attributes → ℕ
limit Reads a = a.reads_typical
limit Writes a = a.writes_typical
limit Time a = a.time_maximum

-- "reads, writes and time in the deterministic window (D)"
abbrev pub spent_of : Quantity → Spent → ℕ
spent_of Reads p = p.reads
spent_of Writes p = p.writes
spent_of Time p = p.time

-- "three 64-bit thresholds"
abbrev pub threshold : Quantity → Thresholds → ℕ
threshold Reads t = t.reads
threshold Writes t = t.writes
threshold Time t = t.time

-- "bit 0 reads, 1 writes, 2 time": the warning's bit of ENEV
abbrev pub enables : Quantity → Events → Bool
enables Reads e = e.reads
enables Writes e = e.writes
enables Time e = e.time

-- 01: "N time equal to minimum high", amended by 02: "07C1h and cases 8 and 9 now speak of the need, read from one place."
abbrev pub need_met : Recovery → Bool
need_met r = eqb r.time r.need

-- n of a quantity spent
abbrev pub spends_of : Quantity → ℕ → Spent → Spent
spends_of Reads n p = spends n p.writes p.time
spends_of Writes n p = spends p.reads n p.time
spends_of Time n p = spends p.reads p.writes n

abbrev pub spending : Quantity → ℕ → State → State
spending q n s = having_spent (spends_of q n s.spent) s

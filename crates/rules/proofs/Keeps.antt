-- Every rule keeps a legal set legal.
use mathlib.Core.Path.{◌≡◌, refl, ap}
use mathlib.Core.Bool.{Bool, true, false, ◌&&◌}
use Prim.Native.Nat.{ℕ, ◌+◌, ◌≤◌, min}
use native.Mathlib.Omega.{arith}
use lib.Dec.{ltb, leb}
use borrow.Author.Tests.{le-leb, lt-ltb, leb-false, ltb-false}
use Rattle.std.specs.Prelude.{if◌then◌else◌}
use Rattle.octets.proofs.JoinedTests.{both, together}
use Rattle.record.specs.declared.Attributes.{Attributes}
use Rattle.record.specs.declared.Window.{Window}
use Rattle.record.specs.declared.Window.TheVariants.{Off, D, N}
use Rattle.rules.specs.declared.Cause.{Cause}
use Rattle.rules.specs.declared.Cause.TheVariants.{Enable, Disable, SelectD, SelectN, Excursion, Exceeded, TimeUp}
use Rattle.record.specs.declared.Quantity.{Quantity}
use Rattle.record.specs.declared.Quantity.TheVariants.{Reads, Writes, Time}
use Rattle.record.specs.declared.Config.{Config}
use Rattle.record.specs.declared.State.{State}
use Rattle.record.specs.declared.Effect.{Effect}
use Rattle.record.specs.Quantities.{limit, spent_of, spending}
use Rattle.record.specs.Windows.{by_window, window_no}
use Rattle.rules.specs.Changes.{moved_by}
use Rattle.rules.specs.Need.{need_after}
use Rattle.rules.specs.Door.{time_in_d, need_by, into, stays, going}
use Rattle.rules.specs.Rules.{configure, selecting, cause_of_mode, is_over, cause_over, recovering, leaving, charge, read_event, write_event, excursion_event, tick, clearing_read}
use Rattle.record.specs.Legal.{legal_attributes, none_spent, within_limits, none_recovered, within_need, legal_state, legal_notes, KeepsState, KeepsRecord}
use Rattle.record.proofs.Settling.{notes_kept}
use Rattle.rules.proofs.Needs.{time_positive, low_high, need_within}

-- of three tests that hold together
three : (a b c : Bool) → a && b && c ≡ true → (a ≡ true) × (b ≡ true) × (c ≡ true)
three a b c h = let p = both (a && b) c h in let q = both a b p.0 in (q.0, q.1, p.1)

-- ---- from a state's rule to the record's

pub keeps_record : (rule : Attributes → State → Effect) → KeepsState rule → KeepsRecord rule
keeps_record rule k r h =
    let a = r.attributes in
    let p = three (legal_attributes a) (legal_state a r.state) (legal_notes r.notes) h in
    let e = rule a r.state in
    together _ _ (together _ _ p.0 (k a r.state p.0 p.1)) (notes_kept r e p.2)

-- ---- the door

-- a need that N may have
record Allowed (a : Attributes) (n : ℕ) : Type 0 where
  low : leb a.minimum_low n ≡ true
  high : leb n a.minimum_high ≡ true

allowed_after : (a : Attributes) (s : ℕ) → legal_attributes a ≡ true → s ≤ a.time_maximum → Allowed a (need_after a s)
allowed_after a s h l =
    let w = need_within a s h l in
    record { low = le-leb _ _ w.0; high = le-leb _ _ w.1 }

allowed_high : (a : Attributes) → legal_attributes a ≡ true → Allowed a a.minimum_high
allowed_high a h = record { low = le-leb _ _ (low_high a h); high = le-leb a.minimum_high a.minimum_high (omega arith) }

-- neither disable nor select D leads to N
disable_not_to_n : (w : Window) → moved_by w Disable ≡ N → ⊥
disable_not_to_n Off e = omega (arith, ap window_no e)
disable_not_to_n D e = omega (arith, ap window_no e)
disable_not_to_n N e = omega (arith, ap window_no e)

select_d_not_to_n : (w : Window) → moved_by w SelectD ≡ N → ⊥
select_d_not_to_n Off e = omega (arith, ap window_no e)
select_d_not_to_n D e = omega (arith, ap window_no e)
select_d_not_to_n N e = omega (arith, ap window_no e)

-- every cause that leads to N makes such a need
allowed : (c : Cause) (a : Attributes) (s : State) → legal_attributes a ≡ true → moved_by s.window c ≡ N → Allowed a (need_by c a (time_in_d a s))
allowed Enable a s h e = allowed_high a h
allowed Disable a s h e = absurd (disable_not_to_n s.window e)
allowed SelectD a s h e = absurd (select_d_not_to_n s.window e)
allowed SelectN a s h e = allowed_after a _ h (omega arith)
allowed Excursion a s h e = allowed_after a _ h (omega arith)
allowed Exceeded a s h e = allowed_after a _ h (omega arith)
allowed TimeUp a s h e = allowed_after a _ h (omega arith)

-- every window's start is legal
starts :
    (w : Window) (c : Cause) (a : Attributes) (s : State) → legal_attributes a ≡ true → (w ≡ N → Allowed a (need_by c a (time_in_d a s)))
    → legal_state a (into w c a s) ≡ true
starts Off c a s h n = refl
starts D c a s h n =
    rw (le-leb 0 a.reads_typical (omega arith), le-leb 0 a.writes_typical (omega arith), lt-ltb 0 a.time_maximum (omega (arith, time_positive a h)))
starts N c a s h n =
    let m = n refl in
    rw (m.low, m.high, le-leb 0 (need_by c a (time_in_d a s)) (omega arith))

through : (b : Bool) (a : Attributes) (s t : State) → legal_state a s ≡ true → legal_state a t ≡ true → legal_state a (if b then s else t) ≡ true
through true a s t p q = p
through false a s t p q = q

-- the door keeps a legal set legal, whatever the cause
pub door_keeps : (c : Cause) (a : Attributes) (s : State) → legal_attributes a ≡ true → legal_state a s ≡ true → legal_state a (going c a s) ≡ true
unfolding going
door_keeps c a s h l =
    let w = moved_by s.window c in
    through (stays c s.window) a s (into w c a s) l (starts w c a s h (allowed c a s h))

-- ---- the rules that go through it: enable, disable, select, excursion

pub configure_keeps : (on : Bool) (c : Config) → KeepsState (configure on c)
configure_keeps on c a s h l = door_keeps (cause_of_mode on) a s h l

pub selecting_keeps : (c : Cause) → KeepsState (selecting c)
selecting_keeps c a s h l = door_keeps c a s h l

pub excursion_keeps : KeepsState excursion_event
excursion_keeps a s h l = door_keeps Excursion a s h l

-- ---- what each window does with an item

-- what an effect leaves is legal
abbrev Sound : Attributes → Effect → Type 0
Sound a e = legal_state a e.state ≡ true

by_test : (b : Bool) (a : Attributes) (e f : Effect) → (b ≡ true → Sound a e) → (b ≡ false → Sound a f) → Sound a (if b then e else f)
by_test true a e f p q = p refl
by_test false a e f p q = q refl

by_window_lem : (w : Window) (a : Attributes) (e f g : Effect) → Sound a e → (w ≡ D → Sound a f) → (w ≡ N → Sound a g) → Sound a (by_window w e f g)
by_window_lem Off a e f g p q r = p
by_window_lem D a e f g p q r = q refl
by_window_lem N a e f g p q r = r refl

-- more N time, up to the need
recovering_keeps : (t : ℕ) (a : Attributes) (s : State) → s.window ≡ N → legal_state a s ≡ true → legal_state a (recovering t s) ≡ true
recovering_keeps t a s e l =
    let m : none_spent s.spent && within_need a s.recovery ≡ true = rw e at l in
    let p = both (none_spent s.spent) _ m in
    let n = s.recovery.need in
    let w = three (leb a.minimum_low n) (leb n a.minimum_high) _ p.1 in
    rw (e, p.0, w.0, w.1, le-leb (min (s.recovery.time + t) n) n (omega arith))

-- out of D by exceeded or time up is into N
into_n : (q : Quantity) (a : Attributes) (s : State) → s.window ≡ D → (going (cause_over q) a s).window ≡ N
unfolding going
into_n Reads a s e = rw e
into_n Writes a s e = rw e
into_n Time a s e = rw e

leaving_keeps : (q : Quantity) (n : ℕ) (a : Attributes) (s : State) → s.window ≡ D → legal_attributes a ≡ true → legal_state a s ≡ true → legal_state a (leaving q n a s) ≡ true
unfolding leaving
leaving_keeps q n a s e h l = recovering_keeps _ a (going (cause_over q) a s) (into_n q a s e) (door_keeps (cause_over q) a s h l)

-- what a legal state in D is
pub record InD (a : Attributes) (s : State) : Type 0 where
  reads : leb s.spent.reads a.reads_typical ≡ true
  writes : leb s.spent.writes a.writes_typical ≡ true
  pub time : ltb s.spent.time a.time_maximum ≡ true
  none : none_recovered s.recovery ≡ true

pub in_d_lem : (a : Attributes) (s : State) → s.window ≡ D → legal_state a s ≡ true → InD a s
in_d_lem a s e l =
    let m : within_limits a s.spent && none_recovered s.recovery ≡ true = rw e at l in
    let p = both (within_limits a s.spent) _ m in
    let t = three (leb s.spent.reads a.reads_typical) (leb s.spent.writes a.writes_typical) _ p.0 in
    record { reads = t.0; writes = t.1; time = t.2; none = p.1 }

-- still in D, with n spent that is not over its limit
stays_d : (q : Quantity) (a : Attributes) (s : State) (n : ℕ) → s.window ≡ D → InD a s → is_over q (limit q a) n ≡ false → legal_state a (spending q n s) ≡ true
stays_d Reads a s n e i o = rw (e, le-leb n a.reads_typical (ltb-false _ _ o), i.writes, i.time, i.none)
stays_d Writes a s n e i o = rw (e, i.reads, le-leb n a.writes_typical (ltb-false _ _ o), i.time, i.none)
stays_d Time a s n e i o = rw (e, i.reads, i.writes, lt-ltb n a.time_maximum (leb-false _ _ o), i.none)

charge_keeps : (q : Quantity) (k : ℕ) (a : Attributes) (s : State) → s.window ≡ D → legal_attributes a ≡ true → legal_state a s ≡ true → Sound a (charge q k a s)
charge_keeps q k a s e h l =
    let n = spent_of q s.spent + k in
    by_test (is_over q (limit q a) n) a _ _ (λ o. leaving_keeps q n a s e h l) (λ o. stays_d q a s n e (in_d_lem a s e l) o)

pub read_event_keeps : (k : ℕ) → KeepsState (read_event k)
read_event_keeps k a s h l = by_window_lem s.window a _ _ _ l (λ e. charge_keeps Reads k a s e h l) (λ e. l)

pub write_event_keeps : (k : ℕ) → KeepsState (write_event k)
write_event_keeps k a s h l = by_window_lem s.window a _ _ _ l (λ e. charge_keeps Writes k a s e h l) (λ e. l)

pub tick_keeps : (t : ℕ) → KeepsState (tick t)
tick_keeps t a s h l = by_window_lem s.window a _ _ _ l (λ e. charge_keeps Time t a s e h l) (λ e. recovering_keeps t a s e l)

pub clearing_read_keeps : KeepsState (λ a s. clearing_read s)
clearing_read_keeps a s h l = l

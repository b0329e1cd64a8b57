-- The laws of the door.
use mathlib.Core.Path.{◌≡◌, refl, ap}
use Prim.Native.Nat.{ℕ, ◌+◌, ◌-◌, min}
use mathlib.Core.Bool.{Bool, true, false, not}
use native.Mathlib.Omega.{arith}
use borrow.Author.Tests.{ltb-true}
use Rattle.std.specs.Prelude.{if◌then◌else◌}
use Rattle.octets.proofs.JoinedTests.{and_left}
use Rattle.record.specs.declared.Attributes.{Attributes}
use Rattle.record.specs.declared.Window.{Window}
use Rattle.record.specs.declared.Window.TheVariants.{Off, D, N}
use Rattle.record.specs.declared.Quantity.TheVariants.{Reads, Writes, Time}
use Rattle.record.specs.declared.State.{State}
use Rattle.record.specs.Parts.{recovers}
use Rattle.record.specs.Windows.{same_window}
use Rattle.record.specs.Legal.{legal_state}
use Rattle.rules.specs.declared.Cause.TheVariants.{Enable}
use Rattle.rules.specs.declared.Media.{Media}
use Rattle.rules.specs.declared.Media.TheVariants as media
use Rattle.rules.specs.Changes.{moved_by}
use Rattle.rules.specs.Door.{restarts, time_in_d, into, stays, going, Leads, StartsAnew, HeldStays, EnablingNeedsHigh, LeavingNeeds, TimeUpNeedsHigh}
use Rattle.rules.specs.Rules.{media_rule, leaving, CarriesNone, TimeUpRecovers, NeedStays}
use Rattle.rules.proofs.Needs.{need_ends}
use Rattle.rules.proofs.Keeps.{in_d_lem}

-- windows of one number are one
same_one : (v w : Window) → same_window v w ≡ true → w ≡ v
same_one Off Off h = refl
same_one Off D h = cc
same_one Off N h = cc
same_one D Off h = cc
same_one D D h = refl
same_one D N h = cc
same_one N Off h = cc
same_one N D h = cc
same_one N N h = refl

led : (b : Bool) (w : Window) (s t : State) → (b ≡ true → s.window ≡ w) → t.window ≡ w → (if b then s else t).window ≡ w
led true w s t h e = h refl
led false w s t h e = e

pub leads : Leads
unfolding going
leads c a s =
    let w = moved_by s.window c in
    led (stays c s.window) w s (into w c a s) (λ t. same_one w s.window (and_left (same_window w s.window) (not (restarts c)) t)) refl

pub starts_anew : StartsAnew
unfolding going
starts_anew c a s h = rw h (refl, refl, refl)

pub held_stays : HeldStays
unfolding going
held_stays a s = (λ e. rw e, λ e. rw e)

enabling : (w : Window) (a : Attributes) (s : State) → s.window ≡ w → (going Enable a s).recovery ≡ recovers 0 a.minimum_high
unfolding going
enabling Off a s e = rw e
enabling D a s e = rw e
enabling N a s e = rw e

pub enabling_needs_high : EnablingNeedsHigh
enabling_needs_high a s = enabling s.window a s refl

-- a legal set is in D for less than maximum
time_below : (a : Attributes) (s : State) → s.window ≡ D → legal_state a s ≡ true → time_in_d a s ≡ s.spent.time
time_below a s e l =
    let t = ltb-true s.spent.time a.time_maximum (in_d_lem a s e l).time in
    omega arith

pub leaving_needs : LeavingNeeds
unfolding going
leaving_needs a s e l = let t = time_below a s e l in (rw (e, t), rw (e, t), rw (e, t))

pub time_up_needs_high : TimeUpNeedsHigh
unfolding going
time_up_needs_high a s e h = rw e (need_ends a h).1

pub time_up_recovers : TimeUpRecovers
unfolding leaving going
time_up_recovers n a s e h =
    let high = a.minimum_high in
    let x = n - a.time_maximum in
    let z : 0 + x ≡ x = omega arith in
    rw (e, (need_ends a h).1) (ap (λ (t : ℕ). recovers (min t high) high) z)

pub need_stays : NeedStays
unfolding going
need_stays a s e =
    (λ m. by m, λ t. rw e, rw e, refl)
  where
    by : (m : Media) → (media_rule m a s).state.recovery.need ≡ s.recovery.need
    by (media.Reads k) = rw e
    by (media.Writes k) = rw e
    by media.Excursion = rw e

pub carries_none : CarriesNone
unfolding leaving going
carries_none Reads n a s e h = rw e (omega arith)
carries_none Writes n a s e h = rw e (omega arith)
carries_none Time n a s e h = absurd (h refl)

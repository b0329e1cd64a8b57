-- What 01's words on warnings come to, as specs/Rules.antt says.
use mathlib.Core.Path.{◌≡◌, refl}
use mathlib.Core.Bool.{Bool, true, false, and-false, and-true}
use Prim.Native.Nat.{◌+◌, ◌-◌}
use native.Mathlib.Omega.{arith}
use borrow.Author.Tests.{le-ltb, lt-ltb, lt-leb}
use Rattle.std.specs.Prelude.{if◌then◌else◌}
use Rattle.record.specs.declared.Quantity.{Quantity}
use Rattle.record.specs.declared.Quantity.TheVariants.{Reads, Writes, Time}
use Rattle.record.specs.declared.Effect.{Effect}
use Rattle.record.specs.Quantities.{limit, spent_of, threshold, enables}
use Rattle.record.specs.Event.{left_of, warning, warns, and_exceeded}
use Rattle.rules.specs.Rules.{is_over, ZeroNeverWarns, AboveWarnsOnEntry, OwnWarning}

pub zero_never_warns : ZeroNeverWarns
zero_never_warns q a c before after e =
    (rw (e, le-ltb after 0 (omega arith), and-false), rw (e, le-ltb (limit q a) 0 (omega arith), and-false))

pub above_warns_on_entry : AboveWarnsOnEntry
above_warns_on_entry q a c n after h = (
  rw (lt-ltb (limit q a) (threshold q c.thresholds) h, and-true),
  rw (lt-leb (threshold q c.thresholds) (limit q a - n) (omega arith), and-false),
)

-- one item sets several warnings only by entering D
own_only : (p q : Quantity) → (p ≡ q → ⊥) → (b : Bool) → (enables p (warning q b) ≡ false) × (enables p (and_exceeded (warning q b)) ≡ false)
own_only Reads Reads n b = absurd (n refl)
own_only Reads Writes n b = (refl, refl)
own_only Reads Time n b = (refl, refl)
own_only Writes Reads n b = (refl, refl)
own_only Writes Writes n b = absurd (n refl)
own_only Writes Time n b = (refl, refl)
own_only Time Reads n b = (refl, refl)
own_only Time Writes n b = (refl, refl)
own_only Time Time n b = absurd (n refl)

by_test : (b : Bool) (p : Quantity) (e f : Effect) → enables p e.happened ≡ false → enables p f.happened ≡ false → enables p (if b then e else f).happened ≡ false
by_test true p e f x y = x
by_test false p e f x y = y

pub own_warning : OwnWarning
own_warning p q k a s n =
    let o = own_only p q n (warns q s.config (left_of q a (spent_of q s.spent)) (left_of q a (spent_of q s.spent + k))) in
    by_test (is_over q (limit q a) (spent_of q s.spent + k)) p _ _ o.1 o.0

-- No rule but that of Set Features 13h changes ENEV or a threshold.
use mathlib.Core.Path.{◌≡◌, refl}
use mathlib.Core.Bool.{Bool, true, false}
use Prim.Native.Nat.{ℕ, ◌+◌}
use Rattle.std.specs.Prelude.{if◌then◌else◌}
use Rattle.record.specs.declared.Window.{Window}
use Rattle.record.specs.declared.Window.TheVariants.{Off, D, N}
use Rattle.record.specs.declared.Quantity.{Quantity}
use Rattle.record.specs.declared.Quantity.TheVariants.{Reads, Writes, Time}
use Rattle.record.specs.declared.Attributes.{Attributes}
use Rattle.record.specs.declared.Config.{Config}
use Rattle.record.specs.declared.State.{State}
use Rattle.record.specs.declared.Effect.{Effect}
use Rattle.record.specs.Quantities.{limit, spent_of}
use Rattle.record.specs.Windows.{by_window}
use Rattle.rules.specs.declared.Cause.{Cause}
use Rattle.rules.specs.declared.Cause.TheVariants.{Excursion}
use Rattle.rules.specs.Changes.{moved_by}
use Rattle.rules.specs.Door.{into, stays, going}
use Rattle.rules.specs.Rules.{is_over, leaving, charge, read_event, write_event, excursion_event, tick, selecting, clearing_read}

-- a rule whose effects leave the configuration
abbrev pub KeepsConfig : (Attributes → State → Effect) → Type 0
KeepsConfig rule = (a : Attributes) (s : State) → (rule a s).state.config ≡ s.config

module _ (c : Config) where
  by_window_lem : (w : Window) (e f g : Effect) → e.state.config ≡ c → f.state.config ≡ c → g.state.config ≡ c → (by_window w e f g).state.config ≡ c
  by_window_lem Off e f g p q r = p
  by_window_lem D e f g p q r = q
  by_window_lem N e f g p q r = r

  by_test : (b : Bool) (e f : Effect) → e.state.config ≡ c → f.state.config ≡ c → (if b then e else f).state.config ≡ c
  by_test true e f p q = p
  by_test false e f p q = q

through : (b : Bool) (s t : State) → t.config ≡ s.config → (if b then s else t).config ≡ s.config
through true s t p = refl
through false s t p = p

-- the door leaves it
pub door_stays : (c : Cause) (a : Attributes) (s : State) → (going c a s).config ≡ s.config
unfolding going
door_stays c a s = through (stays c s.window) s (into (moved_by s.window c) c a s) refl

leaving_stays : (q : Quantity) (n : ℕ) (a : Attributes) (s : State) → (leaving q n a s).config ≡ s.config
unfolding leaving
leaving_stays q n a s = door_stays _ a s

charge_stays : (q : Quantity) (k : ℕ) → KeepsConfig (charge q k)
charge_stays q k a s =
    let n = spent_of q s.spent + k in
    by_test s.config (is_over q (limit q a) n) _ _ (leaving_stays q n a s) refl

pub read_stays : (k : ℕ) → KeepsConfig (read_event k)
read_stays k a s = by_window_lem s.config s.window _ _ _ refl (charge_stays Reads k a s) refl

pub write_stays : (k : ℕ) → KeepsConfig (write_event k)
write_stays k a s = by_window_lem s.config s.window _ _ _ refl (charge_stays Writes k a s) refl

pub excursion_stays : KeepsConfig excursion_event
excursion_stays a s = door_stays Excursion a s

pub tick_stays : (t : ℕ) → KeepsConfig (tick t)
tick_stays t a s = by_window_lem s.config s.window _ _ _ refl (charge_stays Time t a s) refl

pub select_stays : (c : Cause) → KeepsConfig (selecting c)
select_stays c a s = door_stays c a s

pub clearing_stays : KeepsConfig (λ a s. clearing_read s)
clearing_stays a s = refl

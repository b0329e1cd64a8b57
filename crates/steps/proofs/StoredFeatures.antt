-- Demand 2: "What Set Features stores, Get Features hands back."
use mathlib.Core.Path.{◌≡◌, refl, sym, ap, subst, ◌∙◌}
use mathlib.Core.Bool.{Bool, true, false, not, ◌&&◌, ◌||◌, false≢true}
use mathlib.Core.List.{List, [], ◌∷◌}
use mathlib.Core.Option.{Option, none, some}
use mathlib.Core.Logic.{⊎_elim}
use Prim.Native.Nat.{ℕ, ◌+◌, ◌≤◌}
use native.Mathlib.Omega.{arith}
use borrow.Author.Tests.{eqb-true, eq-eqb, ltb-false}
use lib.Dec.{eqb, ltb}
use lib.ListN.{length}
use Rattle.std.specs.Prelude.{if◌then◌else◌}
use Rattle.octets.proofs.JoinedTests.{both, left_false, right_false, second_false}
use Rattle.record.specs.declared.Attributes.{Attributes}
use Rattle.record.specs.declared.Window.{Window}
use Rattle.record.specs.declared.Window.TheVariants.{Off, D, N}
use Rattle.record.specs.declared.Quantity.{Quantity}
use Rattle.record.specs.declared.Quantity.TheVariants.{Reads, Writes, Time}
use Rattle.record.specs.declared.State.{State}
use Rattle.record.specs.declared.Record.{Record}
use Rattle.record.specs.declared.Effect.{Effect}
use Rattle.record.specs.Parts.{id_of}
use Rattle.record.specs.Quantities.{limit, spent_of}
use Rattle.record.specs.Event.{bit}
use Rattle.record.specs.Windows.{by_window, window_no}
use Rattle.commands.proofs.Passed.{early_passed, late_passed, unknown_not_zero}
use Rattle.rules.specs.declared.Cause.{Cause}
use Rattle.rules.specs.declared.Cause.TheVariants.{Excursion, Exceeded, TimeUp}
use Rattle.rules.specs.Changes.{moved_by, refused_by}
use Rattle.rules.specs.Door.{going}
use Rattle.rules.specs.Rules as rules
use Rattle.rules.proofs.Leads.{leads}
use Rattle.rules.proofs.Staying.{door_stays}
use Rattle.pages.specs.Features.{feature_size, config_in, config_page, handed_back}
use Rattle.pages.proofs.Back.{data_back}
use Rattle.octets.specs.Lists.{first}
use Rattle.commands.specs.declared.Command.{Command}
use Rattle.commands.specs.declared.Kind.{Kind}
use Rattle.commands.specs.declared.Kind.TheVariants.{SetNotices, SetConfig, SetWindow, GetNotices, GetConfig, GetWindow, ReadLatency, ReadAggregate, EventRequest, Identify}
use Rattle.steps.specs.Items.{Card, Item, reads, writes, excursion, tick, command, One, Meaning, Nobody, Everybody, The}
use Rattle.commands.specs.Commands.{feature_set, enable, window_value, cause_by, window_cause, retain, command_in}
use Rattle.commands.specs.Shapes.{kind_of, needs_out}
use Rattle.commands.specs.StatusTable.{is_off, no_window, late_lines}
use Rattle.steps.specs.Commanded.{mode_no, named, meaning_by, command_meaning}
use Rattle.steps.specs.Meanings.{meaning}
use Rattle.steps.specs.Card.{refusal_at, refusal_one, refusal_by, refusal_of, has, effect_by, effect_on, concerns_by, concerns, touched, after, answer, run}
use Rattle.steps.specs.Demands.{stores13, configures, none_configures, ConfigStored, shown_window, window_of, none_moves, WindowStored}
use Rattle.steps.specs.Rows.{carried_out}
use Rattle.steps.proofs.ExactRefusals.{number_tells, not_refused}
use Rattle.octets.proofs.Lists.{first_map, first_passes}
use Rattle.steps.proofs.CommandIs.{command_is}
use Rattle.steps.proofs.ItemShapes.{bool_cases, touched_own, touched_not, keeps}
use Rattle.steps.proofs.OwnHistory.{has_same}

-- ---- 13h: the mode and the configuration, which no other item changes

-- "enable" as a window tells it
abbrev mode_in : Window → ℕ
mode_in w = by_window w 0 1 1

record Kept (s t : State) : Type 0 where
  mode : mode_no t ≡ mode_no s
  config : t.config ≡ s.config

same : (s : State) → Kept s s
same s = record { mode = refl; config = refl }

then_kept : (s t u : State) → Kept s t → Kept t u → Kept s u
then_kept s t u p q = record { mode = q.mode ∙ p.mode; config = q.config ∙ p.config }

by_test : (b : Bool) (s : State) (e f : Effect) → Kept s e.state → Kept s f.state → Kept s (if b then e else f).state
by_test true s e f p q = p
by_test false s e f p q = q

by_window_lem : (w : Window) (s : State) (e f g : Effect) → Kept s e.state → Kept s f.state → Kept s g.state → Kept s (by_window w e f g).state
by_window_lem Off s e f g p q r = p
by_window_lem D s e f g p q r = q
by_window_lem N s e f g p q r = r

-- the table of window changes: only enable and disable turn the mode on or off
excursion_mode : (w : Window) → mode_in (moved_by w Excursion) ≡ mode_in w
excursion_mode Off = refl
excursion_mode D = refl
excursion_mode N = refl

exceeded_mode : (w : Window) → mode_in (moved_by w Exceeded) ≡ mode_in w
exceeded_mode Off = refl
exceeded_mode D = refl
exceeded_mode N = refl

time_up_mode : (w : Window) → mode_in (moved_by w TimeUp) ≡ mode_in w
time_up_mode Off = refl
time_up_mode D = refl
time_up_mode N = refl

select_mode : (d : Bool) (w : Window) → mode_in (moved_by w (cause_by d)) ≡ mode_in w
select_mode true Off = refl
select_mode true D = refl
select_mode true N = refl
select_mode false Off = refl
select_mode false D = refl
select_mode false N = refl

set_mode : (on : Bool) (w : Window) → mode_in (moved_by w (rules.cause_of_mode on)) ≡ bit on
set_mode true Off = refl
set_mode true D = refl
set_mode true N = refl
set_mode false Off = refl
set_mode false D = refl
set_mode false N = refl

-- so the door keeps both, where the cause keeps the mode
through_door : (c : Cause) (a : Attributes) (s : State) → ((w : Window) → mode_in (moved_by w c) ≡ mode_in w) → Kept s (going c a s)
through_door c a s h = record { mode = ap mode_in (leads c a s) ∙ h s.window; config = door_stays c a s }

over_mode : (q : Quantity) (w : Window) → mode_in (moved_by w (rules.cause_over q)) ≡ mode_in w
over_mode Reads w = exceeded_mode w
over_mode Writes w = exceeded_mode w
over_mode Time w = time_up_mode w

leaves : (q : Quantity) (n : ℕ) (a : Attributes) (s : State) → Kept s (rules.leaving q n a s)
unfolding rules.leaving
leaves q n a s = let k = through_door (rules.cause_over q) a s (over_mode q) in record { mode = k.mode; config = k.config }

charge_kept : (q : Quantity) (k : ℕ) (a : Attributes) (s : State) → Kept s (rules.charge q k a s).state
charge_kept q k a s =
    let n = spent_of q s.spent + k in
    by_test (rules.is_over q (limit q a) n) s _ _ (leaves q n a s) (record { mode = refl; config = refl })

select_kept : (d : Bool) (a : Attributes) (s : State) → Kept s (rules.selecting (cause_by d) a s).state
select_kept d a s = through_door (cause_by d) a s (select_mode d)

-- each item: what it does to set id, where it is no Set Features 13h of that set
abbrev Mild : ℕ → Meaning → Type 0
Mild id (Nobody v) = Unit {0}
Mild id (Everybody e) = (a : Attributes) (s : State) → Kept s (e.rule a s).state
Mild id (The named o) = eqb named id ≡ true → (a : Attributes) (s : State) → Kept s (o.rule a s).state

by_kind : (id : ℕ) (k : Kind) (c : Command) (given : List ℕ) (room : ℕ) → stores13 k && eqb (feature_set c) id ≡ false → Mild id (meaning_by k c given room)
by_kind id SetNotices c given room h = tt
by_kind id SetConfig c given room h = λ e. absurd (let z : ◌≡◌ {A = ℕ} 0 1 = cc in omega arith)
by_kind id SetWindow c given room h = λ e a s. select_kept (eqb (window_value c) 1) a s
by_kind id GetNotices c given room h = tt
by_kind id GetConfig c given room h = λ e a s. same s
by_kind id GetWindow c given room h = λ e a s. same s
by_kind id ReadLatency c given room h = λ e a s. by_test (retain c) s _ _ (same s) (same s)
by_kind id ReadAggregate c given room h = tt
by_kind id EventRequest c given room h = tt
by_kind id Identify c given room h = tt

command_mild : (id : ℕ) (bytes given : List ℕ) (room : ℕ) → configures id (command bytes given room) ≡ false → Mild id (command_meaning bytes given room)
unfolding command_meaning
command_mild id bytes given room h = by_kind id (kind_of (command_in bytes)) (command_in bytes) given room h

mild : (id : ℕ) (i : Item) → configures id i ≡ false → Mild id (meaning i)
unfolding meaning
mild id (reads named k) h = λ e a s. by_window_lem s.window s _ _ _ (same s) (charge_kept Reads k a s) (same s)
mild id (writes named k) h = λ e a s. by_window_lem s.window s _ _ _ (same s) (charge_kept Writes k a s) (same s)
mild id (excursion named) h = λ e a s. through_door Excursion a s excursion_mode
mild id (tick t room) h = λ a s. by_window_lem s.window s _ _ _ (same s) (charge_kept Time t a s) (record { mode = refl; config = refl })
mild id (command bytes given room) h = command_mild id bytes given room h

effect_mild : (id n : ℕ) (m : Meaning) → Mild id m → concerns_by m n id ≡ true → (a : Attributes) (s : State) → Kept s (effect_by m a s).state
effect_mild id n (Nobody v) k e a s = same s
effect_mild id n (Everybody v) k e a s = k a s
effect_mild id n (The named o) k e a s = by_test (eqb (refusal_at o a s) 0) s _ _ (k e a s) (same s)

touched_mild : (n : ℕ) (i : Item) (r : Record) → configures (id_of r) i ≡ false → Kept r.state (touched n i r).state
unfolding effect_on concerns
touched_mild n i r h =
    ⊎_elim
    (λ e. rw (touched_own n i r e) (effect_mild (id_of r) n (meaning i) (mild (id_of r) i h) e r.attributes r.state))
    (λ e. rw (touched_not n i r e) (same r.state))
    (bool_cases (concerns n (id_of r) i))

-- an item that is refused leaves every set of the card as it is
still_by : (m : Meaning) (c : Card) (r : Record) → first (has (id_of r)) c.sets ≡ some r → eqb (refusal_by m c) 0 ≡ false
    → concerns_by m (length c.sets) (id_of r) ≡ true → Kept r.state (effect_by m r.attributes r.state).state
still_by (Nobody v) c r f z e = same r.state
still_by (Everybody a) c r f z e = absurd (false≢true (sym z ∙ e))
still_by (The named o) c r f z e =
    let q : refusal_one o (first (has named) c.sets) ≡ refusal_at o r.attributes r.state = rw (eqb-true named (id_of r) e, f) in
    rw (rw q at z) (same r.state)

refused_mild : (c : Card) (i : Item) (r : Record) → first (has (id_of r)) c.sets ≡ some r → eqb (refusal_of c i) 0 ≡ false → Kept r.state (touched (length c.sets) i r).state
unfolding refusal_of effect_on concerns
refused_mild c i r f z =
    let n = length c.sets in
    ⊎_elim
    (λ e. rw (touched_own n i r e) (still_by (meaning i) c r f z e))
    (λ e. rw (touched_not n i r e) (same r.state))
    (bool_cases (concerns n (id_of r) i))

-- what is no Set Features 13h of the set, or is refused
unstored : (c : Card) (i : Item) (r : Record) → first (has (id_of r)) c.sets ≡ some r → configures (id_of r) i && eqb (refusal_of c i) 0 ≡ false → Kept r.state (touched (length c.sets) i r).state
unstored c i r f h =
    ⊎_elim
    (λ e. refused_mild c i r f (second_false (configures (id_of r) i) _ e h))
    (λ e. touched_mild (length c.sets) i r e)
    (bool_cases (configures (id_of r) i))

not_true : (b : Bool) → not b ≡ true → b ≡ false
not_true true e = cc
not_true false e = refl

-- the set later on
record Later (c : Card) (id : ℕ) (s : State) : Type 0 where
  found : Record
  there : first (has id) c.sets ≡ some found
  kept : Kept s found.state

later : (is : List Item) (c : Card) (id : ℕ) (r : Record) → first (has id) c.sets ≡ some r → id_of r ≡ id
    → none_configures c id is ≡ true → Later (run c is) id r.state
later [] c id r f e h = record { found = r; there = f; kept = same r.state }
later (i ∷ is) c id r f e h =
    let n = length c.sets in
    let b = both (not (configures id i && carried_out (answer c i).status)) _ h in
    let g : configures id i && eqb (refusal_of c i) 0 ≡ false = rw (← number_tells c i) (not_true (configures id i && carried_out (answer c i).status) b.0) in
    let f' : first (has id) (after c i).sets ≡ some (touched n i r) = first_map (touched n i) (has id) (has_same n id i) c.sets ∙ rw f in
    let k = unstored c i r (subst (λ (x : ℕ). first (has x) c.sets ≡ some r) (sym e) f)
    (subst (λ (x : ℕ). configures x i && eqb (refusal_of c i) 0 ≡ false) (sym e) g) in
    let l = later is (after c i) id (touched n i r) f' (keeps n i r ∙ e) b.1 in
    record { found = l.found; there = l.there; kept = then_kept r.state (touched n i r).state l.found.state k l.kept }

-- ---- a command that names a set and succeeds

-- its set is in the table
record Found (x : Option Record) (o : One) : Type 0 where
  found : Record
  there : x ≡ some found
  passes : refusal_at o found.attributes found.state ≡ 0

found_by : (k : Kind) (c : Command) (given : List ℕ) (room : ℕ) (x : Option Record) → refusal_one (named k c given room) x ≡ 0 → Found x (named k c given room)
found_by k c given room none h = absurd (unknown_not_zero c h)
found_by k c given room (some r) h = record { found = r; there = refl; passes = h }

module _ (i : Item) (id : ℕ) (o : One) (m : meaning i ≡ The id o) (c : Card) where
  status_is : refusal_of c i ≡ refusal_one o (first (has id) c.sets)
  unfolding refusal_of
  status_is = rw m

  module _ (r : Record) (f : first (has id) c.sets ≡ some r) where
    has_id : id_of r ≡ id
    has_id = eqb-true (id_of r) id (first_passes (has id) c.sets r f)

    -- what it answers
    done_is : refusal_of c i ≡ 0 → answer c i ≡ o.done r
    unfolding answer
    done_is h = rw (m, f, rw f at (sym status_is ∙ h))

    -- and what it leaves
    concerns_it : (n : ℕ) → concerns n (id_of r) i ≡ true
    unfolding concerns
    concerns_it n = rw m (eq-eqb id (id_of r) (sym has_id))

    effect_is : refusal_at o r.attributes r.state ≡ 0 → effect_on i r.attributes r.state ≡ o.rule r.attributes r.state
    unfolding effect_on
    effect_is h = rw (m, h)

    left_is : refusal_at o r.attributes r.state ≡ 0 → (touched (length c.sets) i r).state ≡ (o.rule r.attributes r.state).state
    left_is h = ap (λ (x : Record). x.state) (touched_own (length c.sets) i r (concerns_it (length c.sets))) ∙ ap (λ (x : Effect). x.state) (effect_is h)

    left_there : first (has id) (after c i).sets ≡ some (touched (length c.sets) i r)
    left_there = first_map (touched (length c.sets) i) (has id) (has_same (length c.sets) id i) c.sets ∙ rw f

-- "data in .. shorter than needed": a Set Features 13h that passes has all its data
whole_data :
    (c : Command) (given : List ℕ) (room : ℕ) (a : Attributes) (s : State) → refusal_at (named SetConfig c given room) a s ≡ 0 → feature_size ≤ length given
whole_data c given room a s h =
    let p = early_passed c (late_lines SetConfig c (length given) room s) refl h in
    let o = (late_passed SetConfig c (length given) room s p.later).short in
    ltb-false (length given) feature_size (left_false (ltb (length given) feature_size) (ltb room (needs_out SetConfig c)) o)

pub config_stored : ConfigStored
config_stored c bytes given room is bytes' given' room' each k a h k' q a' =
    let z = not_refused c (command bytes given room) a in
    let z' = not_refused (run c (command bytes given room ∷ is)) (command bytes' given' room') a' in
    let C = command_in bytes in
    let id = feature_set C in
    let i = command bytes given room in
    let o = named SetConfig C given room in
    let m = command_is bytes given room SetConfig k in
    let x = found_by SetConfig C given room (first (has id) c.sets) (sym (status_is i id o m c) ∙ z) in
    let r = x.found in
    let t = touched (length c.sets) i r in
    let s = left_is i id o m c r x.there x.passes in
    let l = later is (after c i) id t (left_there i id o m c r x.there) (keeps (length c.sets) i r ∙ has_id i id o m c r x.there) h in
    let d = done_is (command bytes' given' room') (feature_set (command_in bytes')) (named GetConfig (command_in bytes') given' room')
    (command_is bytes' given' room' GetConfig k') (run c (i ∷ is)) l.found (rw q l.there) z' in
    let mode : mode_no l.found.state ≡ bit (enable C)
    = l.kept.mode ∙ ap mode_no s ∙ ap mode_in (leads (rules.cause_of_mode (enable C)) r.attributes r.state) ∙ set_mode (enable C) r.state.window in
    let config : l.found.state.config ≡ config_in given = l.kept.config ∙ ap (λ (y : State). y.config) s in
    let back : config_page (config_in given) ≡ handed_back given = data_back given each (whole_data C given room r.attributes r.state x.passes) in
    d ∙ rw (mode, config, back)

-- ---- 14h: the window, as long as nothing moves it

unmoved : (is : List Item) (c : Card) (id : ℕ) → none_moves c id is ≡ true → window_of (run c is) id ≡ window_of c id
unmoved [] c id h = refl
unmoved (i ∷ is) c id h =
    let b = both (eqb (window_of (after c i) id) (window_of c id)) _ h in
    unmoved is (after c i) id b.1 ∙ eqb-true _ _ b.0

-- "14h while off; window not 1 or 2 (Set)": a select that passes asks for a window of a set that is on
one_or_two : (v : ℕ) (a b : Bool) → eqb v 1 ≡ a → eqb v 2 ≡ b → not (a || b) ≡ false → (if a then 1 else 2) ≡ v
one_or_two v true b e f h = sym (eqb-true v 1 e)
one_or_two v false true e f h = sym (eqb-true v 2 f)
one_or_two v false false e f h = cc

-- and leaves that window
moved_window : (d : Bool) (w : Window) → refused_by w (cause_by d) ≡ false → window_no (moved_by w (cause_by d)) ≡ if d then 1 else 2
moved_window true Off h = cc
moved_window false Off h = cc
moved_window true D h = refl
moved_window false D h = refl
moved_window true N h = refl
moved_window false N h = refl

selected_window : (d : Bool) (a : Attributes) (s : State) → refused_by s.window (cause_by d) ≡ false → window_no (rules.selecting (cause_by d) a s).state.window ≡ if d then 1 else 2
selected_window d a s h = ap window_no (leads (cause_by d) a s) ∙ moved_window d s.window h

asked_window :
    (c : Command) (given : List ℕ) (room : ℕ) (a : Attributes) (s : State) → refusal_at (named SetWindow c given room) a s ≡ 0
    → window_no (rules.selecting (window_cause c) a s).state.window ≡ window_value c
asked_window c given room a s h =
    let p = early_passed c (late_lines SetWindow c (length given) room s) refl h in
    let o = (late_passed SetWindow c (length given) room s p.later).window in
    selected_window (eqb (window_value c) 1) a s (left_false (is_off SetWindow c s) (no_window SetWindow c) o)
    ∙ one_or_two (window_value c) (eqb (window_value c) 1) (eqb (window_value c) 2) refl refl (right_false (is_off SetWindow c s) (no_window SetWindow c) o)

pub window_stored : WindowStored
window_stored c bytes given room is bytes' given' room' k a h k' q a' =
    let z = not_refused c (command bytes given room) a in
    let z' = not_refused (run c (command bytes given room ∷ is)) (command bytes' given' room') a' in
    let C = command_in bytes in
    let id = feature_set C in
    let i = command bytes given room in
    let o = named SetWindow C given room in
    let m = command_is bytes given room SetWindow k in
    let x = found_by SetWindow C given room (first (has id) c.sets) (sym (status_is i id o m c) ∙ z) in
    let r = x.found in
    let t = touched (length c.sets) i r in
    let s = left_is i id o m c r x.there x.passes in
    let C' = command_in bytes' in
    let o' = named GetWindow C' given' room' in
    let m' = command_is bytes' given' room' GetWindow k' in
    let y = found_by GetWindow C' given' room' (first (has (feature_set C')) (run c (i ∷ is)).sets) (sym (status_is (command bytes' given' room') (feature_set C') o' m' (run c (i ∷ is))) ∙ z') in
    let d = done_is (command bytes' given' room') (feature_set C') o' m' (run c (i ∷ is)) y.found y.there z' in
    let there : first (has id) (run c (i ∷ is)).sets ≡ some y.found = subst (λ (x : ℕ). first (has x) (run c (i ∷ is)).sets ≡ some y.found) q y.there in
    let asked : window_no t.state.window ≡ window_value C = ap (λ (v : State). window_no v.window) s ∙ asked_window C given room r.attributes r.state x.passes in
    let window : window_no y.found.state.window ≡ window_value C
    = sym (ap shown_window there) ∙ unmoved is (after c i) id h ∙ ap shown_window (left_there i id o m c r x.there) ∙ asked in
    d ∙ rw window

-- A call that has what it needs uses some of its piece or comes to a later stage: its first turn does, and later ones take nothing back.
use mathlib.Core.Path.{◌≡◌, refl, ap}
use mathlib.Core.Bool.{Bool, true, false}
use mathlib.Core.List.{List, [], ◌∷◌}
use Prim.Native.Nat.{ℕ, zero, suc, ◌+◌, ◌-◌, ◌≤◌, ◌<◌}
use native.Mathlib.Omega.{arith}
use borrow.Author.Tests.{le-ltb, leb-false}
use lib.Dec.{ltb, leb, eqb, lit≤}
use lib.ListN.{length, drop}
use Rattle.std.specs.Prelude.{if◌then◌else◌}
use Rattle.tape.specs.Tape.{item_size, attributes_kind, attributes_size, next_body, next_set, next_item}
use Rattle.steps.specs.SetUp.{first_bodies, set_up}
use Rattle.tape.specs.Pieces.{Turn, set_turn, item_turn, turn_at, line_room, Player, player, stopped, moved, advanced, turns, most_turns, anew, stages_left, longest_item, MovesOn}
use Rattle.tape.specs.declared.Next.{Next}
use Rattle.tape.specs.declared.Next.TheVariants.{Whole, Short, Bad, Over}
use Rattle.tape.specs.declared.Stage.{Stage}
use Rattle.tape.specs.declared.Stage.TheVariants.{Sets, Items, Ended}
use Rattle.tape.specs.declared.Progress.{Progress}
use Rattle.tape.proofs.Playing.{size_none}
use Rattle.tape.proofs.Turns.{bad_apart, over_apart}

-- ---- more bytes are wanted only where the file may have more, and what is there is shorter than an item

pub record Wanted (have : ℕ) (last : Bool) (size : ℕ) : Type 0 where
  pub more : last ≡ false
  pub less : have < size

short_body : (here last : Bool) → (if here then Whole else (if last then Bad else Short)) ≡ Short → (here ≡ false) × (last ≡ false)
short_body true last e = let z : ◌≡◌ {A = ℕ} 0 1 = cc in absurd (omega arith)
short_body false true e = let z : ◌≡◌ {A = ℕ} 0 1 = cc in absurd (omega arith)
short_body false false e = (refl, refl)

short_next : (size have : ℕ) (last : Bool) → next_body size have last ≡ Short → Wanted have last size
short_next size have last e =
    let s = short_body (leb size have) last e in
    record { more = s.1; less = leb-false size have s.0 }

short_if : (is : Bool) (size have : ℕ) (last : Bool) (other : Next) → (other ≡ Short → ⊥) → (if is then next_body size have last else other) ≡ Short → Wanted have last size
short_if true size have last other n e = short_next size have last e
short_if false size have last other n e = absurd (n e)

short_none : (last : Bool) (size : ℕ) → 0 < size → (if last then Over else Short) ≡ Short → Wanted 0 last size
short_none true size h e = let z : ◌≡◌ {A = ℕ} 0 1 = cc in absurd (omega arith)
short_none false size h e = record { more = refl; less = h }

size_most : (kind : ℕ) → item_size kind < longest_item
size_most zero = lit≤ tt
size_most (suc zero) = lit≤ tt
size_most (suc (suc zero)) = lit≤ tt
size_most (suc (suc (suc zero))) = lit≤ tt
size_most (suc (suc (suc (suc zero)))) = lit≤ tt
size_most (suc (suc (suc (suc (suc zero))))) = lit≤ tt
size_most (suc (suc (suc (suc (suc (suc zero)))))) = lit≤ tt
size_most (suc (suc (suc (suc (suc (suc (suc k))))))) = omega (arith, size_none (suc (suc (suc (suc (suc (suc (suc k))))))) (omega arith))

short_set : (left : List ℕ) (last : Bool) → next_set left last ≡ Short → Wanted (length left) last longest_item
short_set [] last e = short_none last longest_item (lit≤ tt) e
short_set (k ∷ ks) last e =
    let w = short_if (eqb k attributes_kind) attributes_size (length ks) last Over over_apart e in
    record { more = w.more; less = omega (arith, w.less) }

short_item : (left : List ℕ) (last : Bool) → next_item left last ≡ Short → Wanted (length left) last longest_item
short_item [] last e = short_none last longest_item (lit≤ tt) e
short_item (k ∷ ks) last e =
    let w = short_if (ltb 0 (item_size k)) (item_size k) (length ks) last Bad bad_apart e in
    record { more = w.more; less = omega (arith, w.less, size_most k) }

-- ---- a turn

abbrev Moves : Stage → Turn → Type 0
Moves stage t = stages_left t.stage < stages_left stage + t.used

-- no turn goes back to an earlier stage
abbrev Onward : Stage → Turn → Type 0
Onward stage t = stages_left t.stage ≤ stages_left stage

items_or_ended : (granted : Bool) → stages_left (if granted then Items else Ended) ≤ 1
items_or_ended true = omega arith
items_or_ended false = omega arith

module _ (n : ℕ) (words bodies left : List ℕ) where
  set_moves : (next : Next) → (next ≡ Short → ⊥) → Moves Sets (set_turn next n words bodies left)
  set_moves Whole h = omega arith
  set_moves Short h = absurd (h refl)
  set_moves Bad h = omega arith
  set_moves Over h = omega (arith, items_or_ended (eqb (set_up (first_bodies bodies n) words).answer.status 0))

  set_onward : (next : Next) → Onward Sets (set_turn next n words bodies left)
  set_onward Whole = omega arith
  set_onward Short = omega arith
  set_onward Bad = omega arith
  set_onward Over = omega (arith, items_or_ended (eqb (set_up (first_bodies bodies n) words).answer.status 0))

  item_moves : (next : Next) → (next ≡ Short → ⊥) → Moves Items (item_turn next n words bodies left)
  item_moves Whole h = omega arith
  item_moves Short h = absurd (h refl)
  item_moves Bad h = omega arith
  item_moves Over h = omega arith

  item_onward : (next : Next) → Onward Items (item_turn next n words bodies left)
  item_onward Whole = omega arith
  item_onward Short = omega arith
  item_onward Bad = omega arith
  item_onward Over = omega arith

  turn_moves : (stage : Stage) (last : Bool) → (stage ≡ Ended → ⊥) → (last ≡ false → longest_item ≤ length left) → Moves stage (turn_at stage n words bodies left last)
  turn_moves Sets last s h = set_moves (next_set left last) (λ e. let w = short_set left last e in omega (arith, w.less, h w.more))
  turn_moves Items last s h = item_moves (next_item left last) (λ e. let w = short_item left last e in omega (arith, w.less, h w.more))
  turn_moves Ended last s h = absurd (s refl)

  turn_onward : (stage : Stage) (last : Bool) → Onward stage (turn_at stage n words bodies left last)
  turn_onward Sets last = set_onward (next_set left last)
  turn_onward Items last = item_onward (next_item left last)
  turn_onward Ended last = omega arith

-- ---- later turns

pub record Grown (g h : Player) : Type 0 where
  pub used : g.at.used ≤ h.at.used
  pub stage : stages_left h.at.stage ≤ stages_left g.at.stage

grown_none : (g h : Player) → g.at.used ≡ h.at.used → g.at.stage ≡ h.at.stage → Grown g h
grown_none g h u s = record { used = omega arith; stage = rw s (omega arith) }

grown_if : (b : Bool) (g h i : Player) → Grown g h → Grown g i → Grown g (if b then h else i)
grown_if true g h i p q = p
grown_if false g h i p q = q

grown_advanced : (piece : List ℕ) (last : Bool) (g : Player) → Grown g (advanced piece last g)
unfolding advanced
grown_advanced piece last g =
    let left = drop g.at.used piece in
    let t = turn_at g.at.stage g.at.count g.words g.bodies left last in
    grown_if (ltb (length g.out - g.at.len) line_room) g (stopped g) (moved g t) (grown_none g (stopped g) refl refl)
    (record { used = omega arith; stage = turn_onward g.at.count g.words g.bodies left g.at.stage last })

grown_turns : (k : ℕ) (piece : List ℕ) (last : Bool) (g : Player) → Grown g (turns k piece last g)
unfolding turns
grown_turns zero piece last g = grown_none g g refl refl
grown_turns (suc k) piece last g =
    let a = grown_advanced piece last g in
    let t = grown_turns k piece last (advanced piece last g) in
    grown_if (advanced piece last g).at.going g _ _ (record { used = omega (arith, a.used, t.used); stage = omega (arith, a.stage, t.stage) }) a

grown_first : (k : ℕ) (piece : List ℕ) (last : Bool) (g : Player) → 0 < k → Grown (advanced piece last g) (turns k piece last g)
unfolding turns
grown_first zero piece last g h = absurd (omega arith)
grown_first (suc k) piece last g h =
    let a = advanced piece last g in
    grown_if a.at.going a _ _ (grown_turns k piece last a) (grown_none a a refl refl)

-- ---- a call

first_moves :
    (p : Progress) (words bodies out piece : List ℕ) (last : Bool) → (p.stage ≡ Ended → ⊥) → line_room ≤ length out → (last ≡ false → longest_item ≤ length piece)
    → let g = advanced piece last (player (anew p) words bodies out) in stages_left g.at.stage < stages_left p.stage + g.at.used
unfolding advanced
first_moves p words bodies out piece last s room h =
    let m = turn_moves p.count words bodies piece p.stage last s h in
    rw (le-ltb (length out - 0) line_room (omega arith)) (omega (arith, m))

pub moves_on : MovesOn
moves_on p words₀ bodies₀ out₀ piece last r words bodies out c s room h =
    let g = player (anew p) words₀ bodies₀ out₀ in
    let f = first_moves p words₀ bodies₀ out₀ piece last s room h in
    let t = grown_first most_turns piece last g (lit≤ tt) in
    let u : r.used ≡ (turns most_turns piece last g).at.used = ap (λ (x : Player). x.at.used) c.played in
    let l : stages_left r.stage ≡ stages_left (turns most_turns piece last g).at.stage = ap (λ (x : Player). stages_left x.at.stage) c.played in
    omega (arith, f, t.used, t.stage)

-- What the shapes of a meaning give: the only laws on `meaning`. No item is looked at.
use mathlib.Core.Path.{◌≡◌, refl, ap}
use mathlib.Core.Bool.{Bool, true, false}
use mathlib.Core.Logic.{◌⊎◌, inl, inr, ⊎_elim}
use Prim.Native.Nat.{ℕ, ◌*◌, ◌≤◌}
use native.Mathlib.Omega.{arith}
use native.Mathlib.Nat.{mul-le-mul_left}
use lib.Dec.{eqb, ltb}
use borrow.Author.Tests.{ltb-false, le-ltb, eqb-true, eq-eqb}
use Rattle.record.specs.declared.Record.{Record}
use Rattle.record.specs.Parts.{id_of}
use Rattle.octets.specs.Lists.{first}
use Rattle.steps.specs.Items.{Card, Item, All, Meaning, Nobody, Everybody, The}
use Rattle.steps.specs.Meanings.{meaning}
use Rattle.steps.specs.Card.{refusal_all, has, names, names_by, concerns, concerns_by, touched, ruled, answer, answer_by, refusal_by, refusal_of, sets_after, desk_by, desk_on, at_desk}
use Rattle.desk.specs.Desk.{Desk}
use Rattle.desk.proofs.Sending.{told_if}
use Rattle.table.specs.Table.{newly}
use Rattle.replies.proofs.Rows.{last_row}

pub bool_cases : (b : Bool) → (b ≡ true) ⊎ (b ≡ false)
bool_cases true = inl refl
bool_cases false = inr refl

-- an item that names a concerns the sets that have a
named_by : (m : Meaning) (a n id : ℕ) → names_by m a ≡ true → concerns_by m n id ≡ eqb a id
named_by (Nobody v) a n id e = cc
named_by (Everybody v) a n id e = cc
named_by (The b o) a n id e = ap (λ x. eqb x id) (eqb-true b a e)

pub named : (i : Item) (a n id : ℕ) → names a i ≡ true → concerns n id i ≡ eqb a id
unfolding names concerns
named i a n id e = named_by (meaning i) a n id e

pub unnamed : (i : Item) (n id : ℕ) → concerns n id i ≡ false → names id i ≡ false
unnamed i n id e = ⊎_elim (λ t. cc (named i id n id t, eq-eqb id id refl)) (λ f. f) (bool_cases (names id i))

-- and its answer rests on what the look-up of a gives
answer_by_lem :
    (m : Meaning) (a : ℕ) (c d : Card) → names_by m a ≡ true → first (has a) c.sets ≡ first (has a) d.sets → answer_by m c ≡ answer_by m d
answer_by_lem (Nobody v) a c d e h = cc
answer_by_lem (Everybody v) a c d e h = cc
answer_by_lem (The b o) a c d e h = rw (eqb-true b a e, h)

pub answers : (i : Item) (a : ℕ) (c d : Card) → names a i ≡ true → first (has a) c.sets ≡ first (has a) d.sets → answer c i ≡ answer d i
unfolding names answer
answers i a c d e h = answer_by_lem (meaning i) a c d e h

-- and so does its refusal
refusal_by_lem :
    (m : Meaning) (a : ℕ) (c d : Card) → names_by m a ≡ true → first (has a) c.sets ≡ first (has a) d.sets → refusal_by m c ≡ refusal_by m d
refusal_by_lem (Nobody v) a c d e h = cc
refusal_by_lem (Everybody v) a c d e h = cc
refusal_by_lem (The b o) a c d e h = rw (eqb-true b a e, h)

pub refusals : (i : Item) (a : ℕ) (c d : Card) → names a i ≡ true → first (has a) c.sets ≡ first (has a) d.sets → refusal_of c i ≡ refusal_of d i
unfolding names refusal_of
refusals i a c d e h = refusal_by_lem (meaning i) a c d e h

-- it does nothing to the desk by itself
desk_by_lem : (m : Meaning) (a : ℕ) (d : Desk) → names_by m a ≡ true → desk_by m d ≡ d
desk_by_lem (Nobody v) a d e = cc
desk_by_lem (Everybody v) a d e = refl
desk_by_lem (The b o) a d e = refl

pub told_named :
    (i : Item) (a : ℕ) (c : Card) → names a i ≡ true → at_desk c i ≡ told_if (eqb (refusal_of c i) 0) (newly c.sets (sets_after c i)) c.desk
unfolding names desk_on at_desk
told_named i a c e = rw (desk_by_lem (meaning i) a c.desk e)

-- an item that concerns a set of n concerns it on a card of one, where less room is asked for
less : (each room n : ℕ) → 1 ≤ n → ltb room (each * n) ≡ false → ltb room (each * 1) ≡ false
less each room n h e = le-ltb room (each * 1) (omega (arith, mul-le-mul_left each h, ltb-false room (each * n) e))

pub fewer_all : (a : All) (n : ℕ) → 1 ≤ n → refusal_all a n ≡ 0 → refusal_all a 1 ≡ 0
fewer_all a n h e = last_row a.early _ _ _ (less a.each a.room n h) e

fewer_by : (m : Meaning) (n id : ℕ) → 1 ≤ n → concerns_by m n id ≡ true → concerns_by m 1 id ≡ true
fewer_by (Nobody v) n id h e = e
fewer_by (Everybody a) n id h e = eq-eqb _ _ (fewer_all a n h (eqb-true _ _ e))
fewer_by (The a o) n id h e = e

pub fewer : (i : Item) (n id : ℕ) → 1 ≤ n → concerns n id i ≡ true → concerns 1 id i ≡ true
unfolding concerns
fewer i n id h e = fewer_by (meaning i) n id h e

-- ---- one set

module _ (n : ℕ) (i : Item) (r : Record) where
  pub touched_own : concerns n (id_of r) i ≡ true → touched n i r ≡ ruled i r
  unfolding touched
  touched_own e = rw e

  pub touched_not : concerns n (id_of r) i ≡ false → touched n i r ≡ r
  unfolding touched
  touched_not e = rw e

  pub keeps : id_of (touched n i r) ≡ id_of r
  keeps = ⊎_elim (λ e. rw (touched_own e)) (λ e. rw (touched_not e)) (bool_cases (concerns n (id_of r) i))

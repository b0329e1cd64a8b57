-- A refused item changes nothing; any other that names a set changes its slot and no other.
use mathlib.Core.Path.{◌≡◌, refl, sym, ap, ◌∙◌}
use mathlib.Core.Bool.{true, false, ◌&&◌, or-false}
use mathlib.Core.List.{List, [], ◌∷◌, map}
use mathlib.Core.Option.{some}
use mathlib.Core.Logic.{⊎_elim}
use Prim.Native.Nat.{ℕ, zero, suc, ◌<◌}
use native.Mathlib.Omega.{arith}
use borrow.Author.Tests.{eqb-true, eq-eqb, ne_eqb, ltb-true}
use lib.Dec.{eqb, ltb}
use lib.ListN.{length, set}
use Rattle.octets.proofs.JoinedTests.{both}
use Rattle.record.specs.declared.Record.{Record}
use Rattle.record.specs.Parts.{id_of}
use Rattle.record.specs.Event.{settled}
use Rattle.record.specs.Legal.{legal_record}
use Rattle.replies.specs.Answers.{refused}
use Rattle.rules.specs.Rules.{still}
use Rattle.table.specs.Table.{legal_sets}
use Rattle.octets.specs.Lists.{nth, first}
use Rattle.steps.specs.Items.{Card, Item, Meaning, Nobody, Everybody, The}
use Rattle.steps.specs.Meanings.{meaning}
use Rattle.steps.specs.Card.{effect_by, effect_on, ruled, concerns_by, refusal_by, refusal_of, concerns, touched, after, has, answer, names}
use Rattle.octets.proofs.Lists.{map_fixed}
use Rattle.steps.proofs.ItemShapes.{bool_cases, named, touched_own, touched_not}

-- ---- identifiers that rise

pub record Ordered (before : ℕ) (r : Record) (rs : List Record) : Type 0 where
  pub legal : legal_record r ≡ true
  pub above : before < id_of r
  pub rest : legal_sets (id_of r) rs ≡ true

pub ordered : (p : ℕ) (r : Record) (rs : List Record) → legal_sets p (r ∷ rs) ≡ true → Ordered p r rs
ordered p r rs h =
    let q = both (legal_record r && ltb p (id_of r)) _ h in
    let s = both (legal_record r) _ q.0 in
    record { legal = s.0; above = ltb-true p (id_of r) s.1; rest = q.1 }

pub above : (p k : ℕ) (rs : List Record) (r : Record) → legal_sets p rs ≡ true → nth k rs ≡ some r → p < id_of r
above p k [] r h e = absurd (let z : ◌≡◌ {A = ℕ} 0 1 = cc in omega arith)
above p zero (x ∷ rs) r h e = let q : x ≡ r = cc in rw q at (ordered p x rs h).above
above p (suc k) (x ∷ rs) r h e = let o = ordered p x rs h in omega (arith, above (id_of x) k rs r o.rest e)

pub found : (p k : ℕ) (rs : List Record) (r : Record) → legal_sets p rs ≡ true → nth k rs ≡ some r → first (has (id_of r)) rs ≡ some r
found p k [] r h e = e
found p zero (x ∷ rs) r h e = let q : x ≡ r = cc in rw (q, eq-eqb (id_of r) (id_of r) refl)
found p (suc k) (x ∷ rs) r h e =
    let o = ordered p x rs h in
    rw (ne_eqb (id_of x) (id_of r) (λ z. omega (arith, above (id_of x) k rs r o.rest e))) (found (id_of x) k rs r o.rest e)

-- ---- a refusal

settled_still : (r : Record) → settled r (still r.state) ≡ r
settled_still r = simp or-false

still_by :
    (m : Meaning) (c : Card) (r : Record) → eqb (refusal_by m c) 0 ≡ false → concerns_by m (length c.sets) (id_of r) ≡ true
    → first (has (id_of r)) c.sets ≡ some r → effect_by m r.attributes r.state ≡ still r.state
still_by (Nobody v) c r s e f = refl
still_by (Everybody a) c r s e f = cc
still_by (The a o) c r s e f = rw (rw (eqb-true a (id_of r) e, f) at s)

refused_still :
    (c : Card) (i : Item) (r : Record) → eqb (refusal_of c i) 0 ≡ false → first (has (id_of r)) c.sets ≡ some r
    → touched (length c.sets) i r ≡ r
unfolding effect_on refusal_of concerns
refused_still c i r s f =
    let n = length c.sets in
    ⊎_elim
    (λ t. touched_own n i r t ∙ ap (settled r) (still_by (meaning i) c r s t f) ∙ settled_still r)
    (λ t. touched_not n i r t)
    (bool_cases (concerns n (id_of r) i))

pub refused_answer : (c : Card) (i : Item) → eqb (refusal_of c i) 0 ≡ false → answer c i ≡ refused (refusal_of c i)
unfolding answer refusal_of
refused_answer c i s = rw s

-- a refused item changes no set
pub refused_sets : (c : Card) (i : Item) → legal_sets 0 c.sets ≡ true → eqb (refusal_of c i) 0 ≡ false → (after c i).sets ≡ c.sets
refused_sets c i h s = map_fixed _ c.sets (λ k r e. refused_still c i r s (found 0 k c.sets r h e))

-- ---- an item that names a set

one_slot :
    (f : Record → Record) (p k : ℕ) (rs : List Record) (r : Record) → legal_sets p rs ≡ true → nth k rs ≡ some r
    → ((y : Record) → (id_of y ≡ id_of r → ⊥) → f y ≡ y) → map f rs ≡ set rs k (f r)
one_slot f p k [] r h e g = refl
one_slot f p zero (y ∷ rs) r h e g =
    let q : y ≡ r = cc in
    let o = ordered p y rs h in
    cc (map_fixed f rs (λ j z t. g z (λ u. omega (arith, above (id_of y) j rs z o.rest t, ap id_of q))))
one_slot f p (suc k) (y ∷ rs) r h e g =
    let o = ordered p y rs h in
    cc (g y (λ u. omega (arith, above (id_of y) k rs r o.rest e)), one_slot f (id_of y) k rs r o.rest e g)

pub at_slot :
    (c : Card) (i : Item) (k : ℕ) (r : Record) → legal_sets 0 c.sets ≡ true → nth k c.sets ≡ some r → names (id_of r) i ≡ true
    → (after c i).sets ≡ set c.sets k (ruled i r)
at_slot c i k r h e q =
    let n = length c.sets in
    let own : touched n i r ≡ ruled i r = touched_own n i r (named i (id_of r) n (id_of r) q ∙ eq-eqb (id_of r) (id_of r) refl) in
    rw (← own) (one_slot (touched n i) 0 k c.sets r h e (λ y o. touched_not n i y (named i (id_of r) n (id_of y) q ∙ ne_eqb (id_of r) (id_of y) (λ z. o (sym z)))))

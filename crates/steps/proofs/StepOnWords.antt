-- From the step to the words: what an item leaves of a lent table, by what the search for its set finds.
use mathlib.Core.Path.{◌≡◌, refl, sym, ap, ◌∙◌}
use mathlib.Core.Bool.{true, false}
use mathlib.Core.List.{List, [], ◌∷◌, map}
use mathlib.Core.Option.{Option, none, some}
use mathlib.Core.Logic.{⊎_elim}
use Prim.Native.Nat.{ℕ, zero, suc, ◌+◌, ◌≤◌, ◌<◌}
use native.Mathlib.Omega.{arith}
use native.Mathlib.Nat.{zero-add}
use borrow.Author.Tests.{eqb-true, eq-eqb, ne_eqb}
use lib.Dec.{eqb}
use lib.ListN.{length}
use Rattle.record.specs.declared.Record.{Record}
use Rattle.record.specs.Parts.{id_of}
use Rattle.record.specs.Event.{settled, newly_listed}
use Rattle.desk.specs.Desk.{Told, settle}
use Rattle.replies.specs.Numbers.{bad_table}
use Rattle.std.specs.Prelude as prelude
use Rattle.std.specs.Prelude.{None, Some}
use Rattle.record.specs.declared.Slot.{Slot}
use Rattle.table.specs.Layout.{words_of, record_of}
use Rattle.table.specs.Table.{count, desk_at, with_desk, row_start, row, put, rows_from, records_of, legal_table, find_from, find_in, written}
use Rattle.table.proofs.LegalTables.{legal_known, length_records, sets_known}
use Rattle.table.proofs.Written.{written_own, written_one}
use Rattle.octets.specs.Lists.{nth, first}
use Rattle.steps.specs.Items.{Item, One, The}
use Rattle.steps.specs.Meanings.{meaning}
use Rattle.steps.specs.Card.{refusal_at, unknown_at, refusal_one, refusal_of, effect_on, ruled, has, names, at_desk, after, answer}
use Rattle.steps.specs.Words.{card_of, unchanged, step_words}
use Rattle.steps.proofs.ItemShapes.{bool_cases}
use Rattle.steps.proofs.Slots.{found, refused_answer, refused_sets, at_slot}
use Rattle.steps.proofs.AtDesk.{at_refused, told_at}

-- ---- where a search ends

pub record Hit (id slot j : ℕ) (rs : List Record) : Type 0 where
  pub k : ℕ
  pub at : j ≡ slot + k
  pub below : k < length rs
  pub r : Record
  pub there : nth k rs ≡ some r
  pub same : id_of r ≡ id

abbrev slot_at : ℕ → prelude.Option Slot
slot_at k = Some (record { 0 = k })

slot_no : prelude.Option Slot → ℕ
slot_no (Some s) = s.0
slot_no None = 0

same_slot : (i j : ℕ) → slot_at i ≡ slot_at j → i ≡ j
unfolding slot_no
same_slot i j e = ap slot_no e

not_slot : (j : ℕ) → None ≡ slot_at j → ⊥
not_slot j e = let z : ◌≡◌ {A = ℕ} 0 1 = cc in omega arith

pub hit : (id slot j : ℕ) (rs : List Record) → find_from id slot rs ≡ slot_at j → Hit id slot j rs
hit id slot j [] e = absurd (not_slot j e)
hit id slot j (r ∷ rs) e =
    ⊎_elim
    (λ t. record { k = 0; at = let q = same_slot slot j (rw t at e) in omega arith; below = omega arith; r = r; there = refl; same = eqb-true (id_of r) id t })
    (λ t.
    let h = hit id (suc slot) j rs (rw t at e) in
    record { k = suc h.k; at = omega (arith, h.at); below = omega (arith, h.below); r = h.r; there = h.there; same = h.same })
    (bool_cases (eqb (id_of r) id))

slot_not : (j : ℕ) → slot_at j ≡ None → ⊥
slot_not j e = not_slot j (sym e)

pub miss : (id slot : ℕ) (rs : List Record) → find_from id slot rs ≡ None → first (has id) rs ≡ none
miss id slot [] e = refl
miss id slot (r ∷ rs) e =
    ⊎_elim
    (λ t. absurd (slot_not slot (rw t at e)))
    (λ t. rw t (miss id (suc slot) rs (rw t at e)))
    (bool_cases (eqb (id_of r) id))

-- ---- the rows of a table are its records

nth_rows : (ws : List ℕ) (j k m : ℕ) → k < m → nth k (map record_of (rows_from ws j m)) ≡ some (record_of (row ws (j + k)))
nth_rows ws j k zero h = absurd (omega arith)
nth_rows ws j zero (suc m) h = let e : j + 0 ≡ j = omega arith in rw e
nth_rows ws j (suc k) (suc m) h = let e : j + suc k ≡ suc j + k = omega arith in rw e (nth_rows ws (suc j) k m (omega arith))

pub record_at_lem : (ws : List ℕ) (k : ℕ) → k < count ws → nth k (records_of ws) ≡ some (record_of (row ws k))
unfolding records_of
record_at_lem ws k h = nth_rows ws 0 k (count ws) h ∙ ap (λ (i : ℕ). some (record_of (row ws i))) (zero-add k)

-- the slot that a search finds is one of the table's, and holds the set
pub record Here (ws : List ℕ) (id k : ℕ) : Type 0 where
  pub below : k < count ws
  pub room : row_start (k + 1) ≤ length ws
  pub same : id_of (record_of (row ws k)) ≡ id
  pub look : first (has id) (records_of ws) ≡ some (record_of (row ws k))

pub here : (ws : List ℕ) (id k : ℕ) → legal_table ws ≡ true → find_in ws id ≡ Some (record { 0 = k }) → Here ws id k
unfolding find_in
here ws id k e f =
    let l = legal_known ws e in
    let h = hit id 0 k (records_of ws) f in
    let q : k ≡ h.k = omega (arith, h.at) in
    let b : k < count ws = omega (arith, h.below, length_records ws) in
    let t : nth k (records_of ws) ≡ some h.r = ap (λ (i : ℕ). nth i (records_of ws)) q ∙ h.there in
    let r : h.r ≡ record_of (row ws k) = cc (record_at_lem ws k b, t) in
    let s : id_of (record_of (row ws k)) ≡ id = sym (ap id_of r) ∙ h.same in
    record {
      below = b;
      room = omega (arith, l.room);
      same = s;
      look = ap (λ (x : ℕ). first (has x) (records_of ws)) (sym s) ∙ found 0 k (records_of ws) (record_of (row ws k)) (sets_known ws l) (record_at_lem ws k b);
    }

-- ---- the step on words

pub step_bad : (ws : List ℕ) (i : Item) → legal_table ws ≡ false → step_words ws i ≡ unchanged ws bad_table
unfolding step_words
step_bad ws i e = rw e

pub step_legal :
    (ws : List ℕ) (i : Item) → legal_table ws ≡ true
    → step_words ws i ≡ record { table = written ws (after (card_of ws) i); answer = answer (card_of ws) i; notice = (at_desk (card_of ws) i).notice }
unfolding step_words
step_legal ws i e = rw e

-- a refusal leaves the words as they were
pub step_refused :
    (ws : List ℕ) (i : Item) (s : ℕ) → legal_table ws ≡ true → refusal_of (card_of ws) i ≡ s → (s ≡ 0 → ⊥)
    → step_words ws i ≡ unchanged ws s
step_refused ws i s e q n =
    let l = legal_known ws e in
    let z : eqb (refusal_of (card_of ws) i) 0 ≡ false = ne_eqb _ _ (λ t. n (sym q ∙ t)) in
    step_legal ws i e
    ∙ rw (refused_sets (card_of ws) i (sets_known ws l) z, at_refused (card_of ws) i z, written_own ws l, refused_answer (card_of ws) i z, q)

-- ---- an item that names a set

module _ (ws : List ℕ) (i : Item) (id : ℕ) (o : One) (m : meaning i ≡ The id o) (e : legal_table ws ≡ true) where
  status_is : (x : Option Record) → first (has id) (records_of ws) ≡ x → refusal_of (card_of ws) i ≡ refusal_one o x
  unfolding refusal_of
  status_is x f = rw (m, f)

  -- no set has its identifier
  pub step_unknown : find_in ws id ≡ None → (unknown_at o ≡ 0 → ⊥) → step_words ws i ≡ unchanged ws (unknown_at o)
  unfolding find_in
  step_unknown f n = step_refused ws i (unknown_at o) e (status_is none (miss id 0 (records_of ws) f)) n

  module _ (k : ℕ) (f : find_in ws id ≡ Some (record { 0 = k })) where
    it : Here ws id k
    it = here ws id k e f

    names_it : names (id_of (record_of (row ws k))) i ≡ true
    unfolding names
    names_it = rw m (eq-eqb id _ (sym it.same))

    -- refused by what it asks of the set
    pub step_late : (s : ℕ) → refusal_at o (record_of (row ws k)).attributes (record_of (row ws k)).state ≡ s → (s ≡ 0 → ⊥) → step_words ws i ≡ unchanged ws s
    step_late s q n = step_refused ws i s e (status_is _ it.look ∙ q) n

    effect_is : refusal_at o (record_of (row ws k)).attributes (record_of (row ws k)).state ≡ 0
        → ruled i (record_of (row ws k)) ≡ settled (record_of (row ws k)) (o.rule (record_of (row ws k)).attributes (record_of (row ws k)).state)
    unfolding effect_on
    effect_is z = rw (m, z)

    answer_is : refusal_at o (record_of (row ws k)).attributes (record_of (row ws k)).state ≡ 0 → answer (card_of ws) i ≡ o.done (record_of (row ws k))
    unfolding answer
    answer_is z = rw (m, it.look, z)

    -- the record after it, and the desk: whether its set was listed by it
    abbrev ruled_to : Record
    ruled_to = settled (record_of (row ws k)) (o.rule (record_of (row ws k)).attributes (record_of (row ws k)).state)

    abbrev told_to : Told
    told_to = settle (newly_listed (record_of (row ws k)) ruled_to) (desk_at ws)

    told_is : refusal_at o (record_of (row ws k)).attributes (record_of (row ws k)).state ≡ 0 → at_desk (card_of ws) i ≡ told_to
    told_is z =
        let l = legal_known ws e in
        told_at (card_of ws) i k (record_of (row ws k)) (sets_known ws l) (record_at_lem ws k it.below) names_it (status_is _ it.look ∙ z)
        ∙ ap (λ (x : Record). settle (newly_listed (record_of (row ws k)) x) (desk_at ws)) (effect_is z)

    -- carried out: its slot holds the record after the rule, the desk what that made of it, and nothing else changes
    pub step_done :
        refusal_at o (record_of (row ws k)).attributes (record_of (row ws k)).state ≡ 0
        → step_words ws i ≡ record { table = with_desk (put ws k (words_of ruled_to)) told_to.desk; answer = o.done (record_of (row ws k)); notice = told_to.notice }
    step_done z =
        let l = legal_known ws e in
        let r = record_of (row ws k) in
        step_legal ws i e
        ∙ rw (
          written_one ws l (after (card_of ws) i) k (ruled i r) (at_slot (card_of ws) i k r (sets_known ws l) (record_at_lem ws k it.below) names_it) it.below,
          told_is z,
          effect_is z,
          answer_is z,
        )

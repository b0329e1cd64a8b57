-- What a refused call leaves; and how firm each statement is: any two outcomes that it allows coincide.
use mathlib.Core.Path.{◌≡◌, sym, ap, ◌∙◌}
use mathlib.Core.Bool.{true, false, false≢true}
use mathlib.Core.List.{List}
use Prim.Native.Nat.{ℕ}
use native.Mathlib.Omega.{arith}
use borrow.Author.Tests.{eq-eqb}
use Rattle.record.specs.Event.{bit}
use Rattle.steps.specs.Items.{Item}
use Rattle.steps.specs.Rows.{carried_out}
use Rattle.steps.specs.Words.{OutcomeWords, step_words}
use Rattle.steps.proofs.OnWords.{refused_words}
use Rattle.steps.proofs.ExactRefusals.{number_tells_words, set_up_refused, set_up_answers}
use Rattle.steps.specs.Demands.{refusal_words}
use Rattle.region.specs.Region.{table_in, table_out}
use Rattle.region.proofs.Words.{own_region}
use Rattle.card_c.specs.Demands.{RefusedSetUp, RefusedItem, OneSetUp, OneItem}

-- success is a number of an item that was carried out
not_success : (number : ℕ) → carried_out number ≡ false → number ≡ 0 → ⊥
not_success number h z = let y : ◌≡◌ {A = ℕ} 1 0 = ap bit (sym (ap carried_out z) ∙ h) in omega arith

pub refused_set_up : RefusedSetUp
refused_set_up bodies region after number each e n =
    let ws = table_in region in
    let d = set_up_refused bodies ws (λ z. not_success number n (e.status ∙ set_up_answers bodies ws ∙ z)) in
    e.table ∙ ap (λ (x : OutcomeWords). table_out region x.table) d ∙ own_region region each

-- nor is that of an item that no row refuses another
not_carried : (ws : List ℕ) (i : Item) (number : ℕ) → number ≡ (step_words ws i).answer.status → carried_out number ≡ false → refusal_words ws i ≡ 0 → ⊥
not_carried ws i number e n z =
    let t : carried_out number ≡ true = ap carried_out e ∙ number_tells_words ws i ∙ eq-eqb (refusal_words ws i) 0 z in
    false≢true (sym n ∙ t)

pub refused_item : RefusedItem
refused_item region i before reply₀ number after buffer said each e n =
    let ws = table_in region in
    let d = refused_words ws i (not_carried ws i number e.status n) in (
      e.table ∙ ap (λ (x : OutcomeWords). table_out region x.table) d ∙ own_region region each,
      rw d at e.answer,
      rw d at e.reply,
    )

-- ---- firmness

pub one_set_up : OneSetUp
one_set_up bodies region v w s t h k = (h.table ∙ sym k.table, h.status ∙ sym k.status)

pub one_item : OneItem
one_item region i before reply₀ s t v w x y p q h k =
    (h.status ∙ sym k.status, h.table ∙ sym k.table, h.answer ∙ sym k.answer, h.reply ∙ sym k.reply)

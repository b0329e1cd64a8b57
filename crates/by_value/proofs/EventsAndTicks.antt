-- Media events and ticks, from the step to the words.
use mathlib.Core.Path.{◌≡◌, refl, sym, ap, ◌∙◌}
use mathlib.Core.Bool.{Bool, true, false}
use mathlib.Core.List.{List, [], ◌∷◌, map}
use Prim.Native.Nat.{ℕ, ◌+◌, ◌≤◌, ◌<◌}
use native.Mathlib.Omega.{arith}
use native.Mathlib.Nat.{zero-mul}
use borrow.Author.Tests.{lt-ltb, le-ltb}
use lib.ListN.{length, length-map}
use Rattle.record.specs.declared.Slot.{Slot}
use Rattle.record.specs.declared.Record.{Record}
use Rattle.record.specs.Parts.{id_of}
use Rattle.record.specs.Event.{settled, newly_listed}
use Rattle.record.specs.Legal.{day_ms}
use Rattle.replies.specs.Numbers.{bad_table, unknown_set, tick_too_long}
use Rattle.replies.specs.Answers.{Notice, granted, refusing, done, beside_of}
use Rattle.replies.specs.declared.Reply.{Reply}
use Rattle.desk.specs.Desk.{settle}
use Rattle.table.specs.declared.Absent.{Absent}
use Rattle.table.specs.declared.Absent.TheVariants.{BadTable, NoSet}
use Rattle.std.specs.Prelude.{Result, Ok, Err}
use Rattle.table.specs.Layout.{words_of, record_of}
use Rattle.table.specs.Table.{count, row_start, row, put, records_of, desk_at, Tells, legal_table, enter_in, written_rows, newly}
use Rattle.table.proofs.LegalTables.{legal_known, length_records, is_bad, is_unknown, is_here}
use Rattle.table.proofs.Written.{header_stays}
use Rattle.rules.specs.declared.Media.{Media}
use Rattle.rules.specs.Rules.{media_rule}
use Rattle.steps.specs.Items.{Item, tick, item_of}
use Rattle.steps.specs.Meanings.{event, ticked, meaning}
use Rattle.by_value.specs.Ticks.{tick_one}
use Rattle.steps.specs.Card.{refusal_all, refusal_of, concerns, touched, sets_after, effect_on, at_desk, after, answer}
use Rattle.steps.specs.Words.{card_of, unchanged, step_words, entry_no, Answered}
use Rattle.octets.specs.Lists.{join}
use Rattle.octets.proofs.Lists.{map_same}
use Rattle.steps.proofs.ItemShapes.{touched_own}
use Rattle.replies.proofs.Answering.{refused_reply, waits_reply}
use Rattle.steps.proofs.NamedItems.{meaning_media}
use Rattle.steps.proofs.AtDesk.{told_all}
use Rattle.steps.proofs.StepOnWords.{step_bad, step_legal, step_refused, step_unknown, step_done, here}
use Rattle.by_value.proofs.Told.{told_put, told_rows}

-- ---- what an item answers that has no data: a refusal, or a success

module _ (ws : List ℕ) (i : Item) (before : List ℕ) where
  pub turned_down : (s : ℕ) (x : Reply) → step_words ws i ≡ unchanged ws s → x ≡ refusing s → Answered ws i before x ws before
  turned_down s x d ex = record { table = rw d; reply = rw (d, ex) (refused_reply s before); notice = rw (d, ex) }

  -- with the notice that goes beside it
  pub carried :
      (vs : List ℕ) (n : Notice) (y x : Reply) → vs ≡ (step_words ws i).table → (step_words ws i).answer ≡ granted 0 []
      → n ≡ (step_words ws i).notice → y ≡ done → x ≡ beside_of y n → Answered ws i before x vs before
  carried vs n y x ev ea en ey ex = record { table = ev; reply = rw (ea, ex, ey) (waits_reply 0 before n); notice = rw ex en }

  pub bad : (x : Reply) → legal_table ws ≡ false → x ≡ refusing bad_table → Answered ws i before x ws before
  bad x e ex = turned_down bad_table x (step_bad ws i e) ex

-- the slot that an item enters by
pub entered : (ws : List ℕ) (id : ℕ) (e : Result Slot Absent) (s : Slot) → e ≡ enter_in ws id → e ≡ Ok s → row_start (s.0 + 1) ≤ length ws
entered ws id e s known q = let f = is_here ws id s (sym known ∙ q) in (here ws id s.0 f.0 f.1).room

module _ (ws : List ℕ) (id : ℕ) (m : Media) (e : Result Slot Absent) (known : e ≡ enter_in ws id) (x : Reply) where
  pub event_bad : e ≡ Err BadTable → x ≡ refusing bad_table → Answered ws (item_of id m) [] x ws []
  event_bad q ex = bad ws (item_of id m) [] x (is_bad ws id (sym known ∙ q)) ex

  pub event_unknown : e ≡ Err NoSet → x ≡ refusing unknown_set → Answered ws (item_of id m) [] x ws []
  event_unknown q ex =
      let f = is_unknown ws id (sym known ∙ q) in
      turned_down ws (item_of id m) [] unknown_set x (step_unknown ws (item_of id m) id (event (media_rule m)) (meaning_media id m) f.0 f.1 (λ z. omega arith)) ex

  -- the two at once
  pub event_absent : (a : Absent) → e ≡ Err a → x ≡ refusing (entry_no unknown_set (Err a)) → Answered ws (item_of id m) [] x ws []
  event_absent BadTable q ex = event_bad q ex
  event_absent NoSet q ex = event_unknown q ex

  module _ (s : Slot) (q : e ≡ Ok s) where
    -- the record that was loaded, the record that the rule made of it, and the table that has it; then the desk is told
    pub event_here :
        (r y : Record) (us vs : List ℕ) (new : Bool) (n : Notice) (z : Reply) → r ≡ record_of (row ws s.0)
        → y ≡ settled r (media_rule m r.attributes r.state) → us ≡ put ws s.0 (words_of y) → new ≡ newly_listed r y
        → Tells us (settle new (desk_at us)) vs n → z ≡ done → x ≡ beside_of z n → Answered ws (item_of id m) [] x vs []
    event_here r y us vs new n z er ey eu en t ez ex =
        let f = is_here ws id s (sym known ∙ q) in
        let d = step_done ws (item_of id m) id (event (media_rule m)) (meaning_media id m) f.0 s.0 f.1 refl in
        let h = rw (ey, er) at (told_put ws us vs new n t s.0 r y eu en) in
        carried ws (item_of id m) [] vs n z x (rw d h.desk) (rw d) (rw d h.sent) ez ex

-- ---- ticks

-- a tick of at most a day is refused on no card
tick_status : (t room n : ℕ) → t ≤ day_ms → refusal_all (ticked t room) n ≡ 0
tick_status t room n h = rw (le-ltb day_ms t h, zero-mul n, le-ltb room 0 (omega arith))

tick_concerns : (t room n id : ℕ) → t ≤ day_ms → concerns n id (tick t room) ≡ true
unfolding concerns meaning
tick_concerns t room n id h = rw (tick_status t room n h)

tick_touches : (t room n : ℕ) → t ≤ day_ms → (r : Record) → touched n (tick t room) r ≡ tick_one t r
unfolding effect_on meaning
tick_touches t room n h r = touched_own n (tick t room) r (tick_concerns t room n (id_of r) h)

-- no set hands out data
no_data : (t room : ℕ) (rs : List Record) → join (map (ticked t room).part rs) ≡ []
no_data t room [] = refl
no_data t room (r ∷ rs) = no_data t room rs

module _ (ws : List ℕ) (t : ℕ) (before : List ℕ) (x : Reply) (e : legal_table ws ≡ true) where
  pub tick_long : day_ms < t → x ≡ refusing tick_too_long → Answered ws (tick t (length before)) before x ws before
  unfolding refusal_of meaning
  tick_long h ex = turned_down ws (tick t (length before)) before tick_too_long x (step_refused ws (tick t (length before)) tick_too_long e (rw (lt-ltb day_ms t h)) (λ z. omega arith)) ex

  tick_answer : t ≤ day_ms → answer (card_of ws) (tick t (length before)) ≡ granted 0 []
  unfolding answer meaning
  tick_answer h = rw (tick_status t (length before) (length (records_of ws)) h, no_data t (length before) (records_of ws))

  -- the rows that were stored, and then the desk told of them
  module _ (h : t ≤ day_ms) (us vs : List ℕ) (new : Bool) (n : Notice) (eu : us ≡ written_rows ws (map (tick_one t) (records_of ws)))
      (en : new ≡ newly (records_of ws) (map (tick_one t) (records_of ws))) (told : Tells us (settle new (desk_at us)) vs n) where
    ticked_sets : sets_after (card_of ws) (tick t (length before)) ≡ map (tick_one t) (records_of ws)
    ticked_sets = map_same _ _ (tick_touches t (length before) (length (records_of ws)) h) (records_of ws)

    tick_carried : refusal_of (card_of ws) (tick t (length before)) ≡ 0
    unfolding refusal_of meaning
    tick_carried = tick_status t (length before) (length (records_of ws)) h

    tick_told : at_desk (card_of ws) (tick t (length before)) ≡ settle (newly (records_of ws) (map (tick_one t) (records_of ws))) (desk_at ws)
    unfolding meaning
    tick_told =
        told_all (tick t (length before)) (ticked t (length before)) refl (card_of ws) tick_carried
        ∙ ap (λ (rs : List Record). settle (newly (records_of ws) rs) (desk_at ws)) ticked_sets

    pub tick_done : (y : Reply) → y ≡ done → x ≡ beside_of y n → Answered ws (tick t (length before)) before x vs before
    tick_done y ey ex =
        let i = tick t (length before) in
        let r = step_legal ws i e in
        let many : length (after (card_of ws) i).sets ≡ count ws = simp length-map (length_records ws) in
        let d = told_rows ws us vs new n told (records_of ws) (map (tick_one t) (records_of ws)) eu en in
        carried ws i before vs n y x
        (rw (r, header_stays ws (legal_known ws e) (after (card_of ws) i) many, tick_told, ticked_sets) d.desk)
        (rw r (tick_answer h))
        (rw (r, tick_told) d.sent) ey ex

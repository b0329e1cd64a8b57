-- Demand 3 of any holder whose calls go by the step: a history of calls is a run of the step on its words.
use mathlib.Core.Path.{◌≡◌, refl, sym, ap, ap₂, subst, ◌∙◌}
use mathlib.Core.Bool.{Bool, true, not, ◌&&◌, ◌||◌}
use mathlib.Core.List.{List, [], ◌∷◌, ◌++◌, map, map-map, map-append}
use mathlib.Core.Logic.{⊎_elim}
use Prim.Native.Nat.{ℕ, suc, ◌≤◌}
use native.Mathlib.Omega.{arith}
use lib.Dec.{eqb}
use lib.ListN.{length, length-map, length-append}
use Rattle.octets.specs.Lists.{nth, beside}
use Rattle.octets.proofs.JoinedTests.{both, together}
use Rattle.record.specs.declared.Attributes.{Attributes}
use Rattle.record.specs.declared.Record.{Record}
use Rattle.record.specs.Parts.{id_of}
use Rattle.replies.specs.Numbers.{success}
use Rattle.replies.specs.Answers.{Notice, Answer, told_of}
use Rattle.std.specs.Prelude.{None, if◌then◌else◌}
use Rattle.desk.specs.Desk.{Desk, waits}
use Rattle.table.specs.Card.{Card}
use Rattle.table.specs.Table.{records_of, legal_sets, legal_table, listed_marks, newly, max_sets}
use Rattle.table.proofs.LegalTables.{legal_known, desk_there, sets_known, length_records}
use Rattle.table.proofs.Desks.{desk_legal_lem}
use Rattle.table.proofs.Written.{length_written}
use Rattle.steps.specs.Items.{Item, command}
use Rattle.steps.specs.Card.{names, answer, step, run, notices}
use Rattle.steps.specs.Rows.{carried_out}
use Rattle.steps.specs.Words.{card_of, step_words}
use Rattle.steps.specs.Demands.{configures, none_configures, window_of, none_moves, run_words, trace_words, told_words}
use Rattle.steps.specs.Notices.{legal_card, accepted_by, accepted, reads_listed, lifts, none_lifts, lists_some, turns_notices, none_turns}
use Rattle.steps.specs.Holders.{Holder, Called, History, last, items, lents, backs, shown, shown_with, naming, StaysLegal, OwnRecords, OwnAnswersBack, AggregateBack, NeverLost, SwapsBack, none_done, none_moved, ConfigBack, WindowBack, NoticesBack, all_hear, notices_told, accepted_calls, lifts_call, none_lift_calls, lists_some_call, desk_held, InTurnBack, SentBack, ElseBack, HeardBack, ServedBack, WokenBack, OneBack, asks_of, GivesEachBack, AskAnsweredBack, Demanded, Steps}
use Rattle.pages.specs.Asking.{Ask}
use Rattle.steps.specs.Commanded.{attributes_of}
use Rattle.steps.specs.Asking.{ask_in}
use Rattle.pages.proofs.Asking.{Answers, gives_each}
use Rattle.steps.proofs.Asking.{attributes_kept, sets_ordered, ask_reads, both_answered, mine_answered, ask_answered}
use Rattle.steps.proofs.ItemShapes.{bool_cases}
use Rattle.steps.proofs.KeptLegal.{step_keeps, step_back}
use Rattle.steps.proofs.AtDesk.{notice_small}
use Rattle.steps.proofs.ExactRefusals.{not_refused}
use Rattle.steps.proofs.OwnHistory.{by_rules, own_answers, in_order, stays_listed}
use Rattle.commands.specs.Commands.{command_in, feature_set}
use Rattle.steps.proofs.AggregateLog.{aggregate_log}
use Rattle.steps.proofs.StoredFeatures.{config_stored, window_stored}
use Rattle.steps.proofs.OnWords.{words_run, words_trace, words_swap, answer_words, notice_words}
use Rattle.steps.proofs.Notices.{in_turn, sent_only, held_else, no_listing_unheard, served_at_once, woken, one_at_most, notices_stored}

module _ (H : Holder) (S : Steps H) where
  -- ---- a history is a run

  module _ (h : H.Held) (c : Called H) (cs : List (Called H)) (e : legal_table (H.words h) ≡ true) (u : History H h (c ∷ cs)) where
    next : H.words c.held ≡ (step_words (H.words h) (H.item c.lent)).table
    next = S.words_after h c.lent c.back c.held e u.0

    legal_next : legal_table (H.words c.held) ≡ true
    legal_next = rw next (step_keeps (H.words h) (H.item c.lent) e)

  ran : (h : H.Held) (cs : List (Called H)) → legal_table (H.words h) ≡ true → History H h cs → H.words (last H h cs) ≡ run_words (H.words h) (items H cs)
  ran h [] e u = refl
  ran h (c ∷ cs) e u =
      ran c.held cs (legal_next h c cs e u) u.1 ∙ ap (λ (ws : List ℕ). run_words ws (items H cs)) (next h c cs e u)

  told_back :
      (h : H.Held) (cs : List (Called H)) → legal_table (H.words h) ≡ true → History H h cs
      → backs H cs ≡ shown_with H (lents H cs) (trace_words (H.words h) (items H cs)) (told_words (H.words h) (items H cs))
  told_back h [] e u = refl
  told_back h (c ∷ cs) e u =
      let vs = (step_words (H.words h) (H.item c.lent)).table in
      let ih : backs H cs ≡ shown_with H (lents H cs) (trace_words vs (items H cs)) (told_words vs (items H cs))
      = told_back c.held cs (legal_next h c cs e u) u.1 ∙ ap (λ (ws : List ℕ). shown_with H (lents H cs) (trace_words ws (items H cs)) (told_words ws (items H cs))) (next h c cs e u) in
      λ i. S.said h c.lent c.back c.held u.0 i ∷ ih i

  -- what is held after some calls is what was held, with the run's words
  ended :
      (cs : List (Called H)) (h : H.Held) (c : Called H) → legal_table (H.words h) ≡ true → History H h (c ∷ cs)
      → last H h (c ∷ cs) ≡ H.with_words h (run_words (H.words h) (items H (c ∷ cs)))
  ended [] h c e u = S.after h c.lent c.back c.held e u.0
  ended (d ∷ cs) h c e u =
      let ws = (step_words (H.words h) (H.item c.lent)).table in
      let vs = run_words ws (items H (d ∷ cs)) in
      let l = step_keeps (H.words h) (H.item c.lent) e in
      let long : length ws ≡ length vs = sym (ap length (words_run ws (items H (d ∷ cs)) l).words ∙ length_written ws _) in
      ended cs c.held d (legal_next h c (d ∷ cs) e u) u.1
      ∙ ap (λ (x : List ℕ). H.with_words c.held (run_words x (items H (d ∷ cs)))) (next h c (d ∷ cs) e u)
      ∙ ap (λ (x : H.Held). H.with_words x vs) (S.after h c.lent c.back c.held e u.0)
      ∙ S.put_over h ws vs long

  -- ---- the clauses

  pub stays_legal : StaysLegal H
  stays_legal h cs e u = rw (ran h cs e u) (words_run (H.words h) (items H cs) e).legal

  sets_after_lem : (h : H.Held) (cs : List (Called H)) → legal_table (H.words h) ≡ true → History H h cs → records_of (H.words (last H h cs)) ≡ (run (card_of (H.words h)) (items H cs)).sets
  sets_after_lem h cs e u = ap records_of (ran h cs e u) ∙ ap (λ (c : Card). c.sets) (words_run (H.words h) (items H cs) e).card

  pub own_records : OwnRecords H
  own_records h cs k r e u f = ap (nth k) (sets_after_lem h cs e u) ∙ by_rules (card_of (H.words h)) (items H cs) k r f

  -- what a call hands back, its notice left out
  left_out : (h : H.Held) (c : Called H) → H.Call h c.lent c.back c.held → H.without c.back ≡ H.shows c.lent (step_words (H.words h) (H.item c.lent)).answer None
  left_out h c u = ap H.without (S.said h c.lent c.back c.held u) ∙ S.left_out c.lent _ _

  -- the calls that name a set hand back the answers that stand beside their items
  named_back :
      (id : ℕ) (h : H.Held) (cs : List (Called H)) → legal_table (H.words h) ≡ true → History H h cs
      → map H.without (backs H (naming H id cs)) ≡ shown H (lents H (naming H id cs)) (beside (names id) (items H cs) (trace_words (H.words h) (items H cs)))
  named_back id h [] e u = refl
  named_back id h (c ∷ cs) e u =
      let ih : map H.without (backs H (naming H id cs)) ≡ shown H (lents H (naming H id cs)) (beside (names id) (items H cs) (trace_words (step_words (H.words h) (H.item c.lent)).table (items H cs)))
      = rw (next h c cs e u) at (named_back id c.held cs (legal_next h c cs e u) u.1) in
      let plain : H.without c.back ≡ H.shows c.lent (step_words (H.words h) (H.item c.lent)).answer None = left_out h c u.0 in
      ⊎_elim
      (λ q. rw q (λ i. plain i ∷ ih i))
      (λ q. rw q ih)
      (bool_cases (names id (H.item c.lent)))

  pub own_answers_back : OwnAnswersBack H
  own_answers_back h cs k r e u f =
      let ws = H.words h in
      named_back (id_of r) h cs e u
      ∙ ap (λ (t : List Answer). shown H (lents H (naming H (id_of r) cs)) (beside (names (id_of r)) (items H cs) t)) (words_trace ws (items H cs) e)
      ∙ ap (shown H (lents H (naming H (id_of r) cs))) (own_answers (card_of ws) (items H cs) k r (sets_known ws (legal_known ws e)) f)

  pub aggregate_back : AggregateBack H
  aggregate_back h cs d bytes given room e u p m k z =
      let ws = H.words h in
      let i = command bytes given room in
      let l = stays_legal h cs e u in
      let a : (step_words (H.words (last H h cs)) (H.item d.lent)).answer ≡ answer (run (card_of ws) (items H cs)) i
      = ap (λ (x : Item). (step_words (H.words (last H h cs)) x).answer) m ∙ answer_words (H.words (last H h cs)) i l
      ∙ ap (λ (c : Card). answer c i) (ap card_of (ran h cs e u) ∙ (words_run ws (items H cs) e).card) in
      let b = S.said (last H h cs) d.lent d.back d.held p in
      let s : (answer (run (card_of ws) (items H cs)) i).status ≡ 0 = ap (λ (x : Answer). x.status) (sym a) ∙ sym (S.told d.lent _ _) ∙ sym (ap H.status b) ∙ z in (
        left_out (last H h cs) d p
            ∙ ap (λ (x : Answer). H.shows d.lent x None) (a ∙ aggregate_log (card_of ws) (items H cs) bytes given room k (not_refused (run (card_of ws) (items H cs)) i s)),
        in_order (card_of ws) (items H cs) (sets_known ws (legal_known ws e)),
      )

  pub never_lost : NeverLost H
  never_lost h cs k r e u f l n =
      ap (λ (rs : List Record). nth k (listed_marks rs)) (sets_after_lem h cs e u) ∙ stays_listed (card_of (H.words h)) (items H cs) k r f l n

  -- ---- two neighbours in each other's place

  shown_append :
      (ls ms : List H.Lent) (xs ys : List Answer) (ns os : List Notice) → length ls ≡ length xs → length ls ≡ length ns
      → shown_with H (ls ++ ms) (xs ++ ys) (ns ++ os) ≡ shown_with H ls xs ns ++ shown_with H ms ys os
  shown_append [] ms [] ys [] os e f = refl
  shown_append [] ms [] ys (n ∷ ns) os e f = absurd (omega arith)
  shown_append [] ms (x ∷ xs) ys ns os e f = absurd (omega arith)
  shown_append (l ∷ ls) ms [] ys ns os e f = absurd (omega arith)
  shown_append (l ∷ ls) ms (x ∷ xs) ys [] os e f = absurd (omega arith)
  shown_append (l ∷ ls) ms (x ∷ xs) ys (n ∷ ns) os e f = ap (λ (t : List H.Back). H.shows l x n ∷ t) (shown_append ls ms xs ys ns os (omega arith) (omega arith))

  length_trace : (is : List Item) (ws : List ℕ) → length (trace_words ws is) ≡ length is
  length_trace [] ws = refl
  length_trace (i ∷ is) ws = ap suc (length_trace is (step_words ws i).table)

  length_told : (is : List Item) (ws : List ℕ) → length (told_words ws is) ≡ length is
  length_told [] ws = refl
  length_told (i ∷ is) ws = ap suc (length_told is (step_words ws i).table)

  items_lent : (cs : List (Called H)) → items H cs ≡ map H.item (lents H cs)
  items_lent cs = sym (map-map H.item (λ (c : Called H). c.lent) cs)

  ended_any :
      (cs : List (Called H)) (h : H.Held) → 1 ≤ length cs → legal_table (H.words h) ≡ true → History H h cs
      → last H h cs ≡ H.with_words h (run_words (H.words h) (items H cs))
  ended_any [] h l e u = absurd (omega arith)
  ended_any (c ∷ cs) h l e u = ended cs h c e u

  module _ (h : H.Held) (cs : List (Called H)) (before : List H.Lent) (i j : H.Lent) (later : List H.Lent) (e : legal_table (H.words h) ≡ true) (u : History H h cs) (ec : lents H cs ≡ before ++ i ∷ j ∷ later) where
    lent_items : items H cs ≡ map H.item before ++ H.item i ∷ H.item j ∷ map H.item later
    lent_items = items_lent cs ∙ ap (map H.item) ec ∙ map-append H.item before (i ∷ j ∷ later)

    not_none : 1 ≤ length cs
    not_none =
        let n : length cs ≡ length (before ++ i ∷ j ∷ later) = rw length-map at (ap length ec) in
        omega (arith, n, length-append before (i ∷ j ∷ later))

    held_after : last H h cs ≡ H.with_words h (run_words (H.words h) (map H.item before ++ H.item i ∷ H.item j ∷ map H.item later))
    held_after = ended_any cs h not_none e u ∙ ap (λ (is : List Item). H.with_words h (run_words (H.words h) is)) lent_items

    handed :
        (xs : List Answer) (x y : Answer) (zs : List Answer) (ns : List Notice) (n m : Notice) (os : List Notice)
        → length before ≡ length xs → length before ≡ length ns
        → trace_words (H.words h) (map H.item before ++ H.item i ∷ H.item j ∷ map H.item later) ≡ xs ++ x ∷ y ∷ zs
        → told_words (H.words h) (map H.item before ++ H.item i ∷ H.item j ∷ map H.item later) ≡ ns ++ n ∷ m ∷ os
        → backs H cs ≡ shown_with H before xs ns ++ H.shows i x n ∷ H.shows j y m ∷ shown_with H later zs os
    handed xs x y zs ns n m os many told t o =
        told_back h cs e u
        ∙ ap (λ (ls : List H.Lent). shown_with H ls (trace_words (H.words h) (items H cs)) (told_words (H.words h) (items H cs))) ec
        ∙ ap (λ (is : List Item). shown_with H (before ++ i ∷ j ∷ later) (trace_words (H.words h) is) (told_words (H.words h) is)) lent_items
        ∙ ap₂ (λ (ans : List Answer) (bs : List Notice). shown_with H (before ++ i ∷ j ∷ later) ans bs) t o
        ∙ shown_append before (i ∷ j ∷ later) xs (x ∷ y ∷ zs) ns (n ∷ m ∷ os) many told

  pub swaps_back : SwapsBack H
  swaps_back h cs ds before i j later a b e u v ec ed p q n =
      let ws = H.words h in
      let bs = map H.item before in
      let ls = map H.item later in
      let w = words_swap ws bs (H.item i) (H.item j) ls a b e p q n in
      let many : length before ≡ length (trace_words ws bs) = sym (rw length-map at (length_trace bs ws)) in
      let told : length before ≡ length (told_words ws bs) = sym (rw length-map at (length_told bs ws)) in (
        held_after h cs before i j later e u ec ∙ ap (H.with_words h) w.same_words ∙ sym (held_after h ds before j i later e v ed),
        record {
          before = shown_with H before (trace_words ws bs) (told_words ws bs);
          one = (step_words (run_words ws bs) (H.item i)).answer;
          other = (step_words (run_words ws bs) (H.item j)).answer;
          later = shown_with H later (trace_words (run_words ws (bs ++ H.item i ∷ H.item j ∷ [])) ls) (told_words (run_words ws (bs ++ H.item i ∷ H.item j ∷ [])) ls);
          beside_one = _;
          then_other = _;
          beside_other = _;
          then_one = _;
          first_way = handed h cs before i j later e u ec _ _ _ _ _ _ _ _ many told w.one_way w.told_one_way;
          second_way = handed h ds before j i later e v ed _ _ _ _ _ _ _ _ many told w.other_way w.told_other_way;
          same_notices = w.same_notices;
        },
      )

  -- ---- what features store

  -- the card after some calls is the run's, and the answer to one more
  card_after : (h : H.Held) (cs : List (Called H)) → legal_table (H.words h) ≡ true → History H h cs → card_of (H.words (last H h cs)) ≡ run (card_of (H.words h)) (items H cs)
  card_after h cs e u = ap card_of (ran h cs e u) ∙ (words_run (H.words h) (items H cs) e).card

  -- the answer to one more call, and its notice
  said_after :
      (h : H.Held) (cs : List (Called H)) (d : Called H) → legal_table (H.words h) ≡ true → History H h cs → H.Call (last H h cs) d.lent d.back d.held
      → let C = run (card_of (H.words h)) (items H cs) in d.back ≡ H.shows d.lent (answer C (H.item d.lent)) (step C (H.item d.lent)).notice
  said_after h cs d e u p =
      let l = stays_legal h cs e u in
      S.said (last H h cs) d.lent d.back d.held p
      ∙ ap₂ (H.shows d.lent)
      (answer_words (H.words (last H h cs)) (H.item d.lent) l ∙ ap (λ (c : Card). answer c (H.item d.lent)) (card_after h cs e u))
      (notice_words (H.words (last H h cs)) (H.item d.lent) l ∙ ap (λ (c : Card). (step c (H.item d.lent)).notice) (card_after h cs e u))

  -- so its status is the answer's
  told_status : (d : Called H) (a : Answer) (n : Notice) → d.back ≡ H.shows d.lent a n → a.status ≡ H.status d.back
  told_status d a n b = sym (S.told d.lent a n) ∙ sym (ap H.status b)

  -- one call by itself
  module _ (h : H.Held) (c : Called H) (e : legal_table (H.words h) ≡ true) (u : H.Call h c.lent c.back c.held) where
    status_one : (answer (card_of (H.words h)) (H.item c.lent)).status ≡ H.status c.back
    status_one = told_status c _ _ (said_after h [] c e tt u)

    card_one : card_of (H.words c.held) ≡ (step (card_of (H.words h)) (H.item c.lent)).card
    card_one = ap card_of (S.words_after h c.lent c.back c.held e u) ∙ step_back (H.words h) (H.item c.lent) e

    notice_one : H.hears c.lent ≡ true → H.notice c.back ≡ (step (card_of (H.words h)) (H.item c.lent)).notice
    notice_one r =
        ap H.notice (said_after h [] c e tt u)
        ∙ S.heard c.lent _ _ r (notice_small (card_of (H.words h)) (H.item c.lent) (desk_legal_lem (H.words h) (desk_there (H.words h) (legal_known (H.words h) e))))

  none_configures_lem :
      (id : ℕ) (h : H.Held) (cs : List (Called H)) → legal_table (H.words h) ≡ true → History H h cs → none_done H (configures id) cs ≡ true
      → none_configures (card_of (H.words h)) id (items H cs) ≡ true
  none_configures_lem id h [] e u n = refl
  none_configures_lem id h (c ∷ cs) e u n =
      let i = H.item c.lent in
      let C = card_of (H.words h) in
      let p = both (not (configures id i && carried_out (H.status c.back))) _ n in
      together (not (configures id i && carried_out (answer C i).status)) (none_configures (step C i).card id (items H cs))
      (subst (λ (x : ℕ). not (configures id i && carried_out x) ≡ true) (sym (status_one h c e u.0)) p.0)
      (subst (λ (x : Card). none_configures x id (items H cs) ≡ true) (card_one h c e u.0) (none_configures_lem id c.held cs (legal_next h c cs e u) u.1 p.1))

  none_moves_lem :
      (id : ℕ) (h : H.Held) (cs : List (Called H)) → legal_table (H.words h) ≡ true → History H h cs → none_moved H id h cs ≡ true
      → none_moves (card_of (H.words h)) id (items H cs) ≡ true
  none_moves_lem id h [] e u n = refl
  none_moves_lem id h (c ∷ cs) e u n =
      let i = H.item c.lent in
      let C = card_of (H.words h) in
      let p = both (eqb (window_of (card_of (H.words c.held)) id) (window_of C id)) _ n in
      let k : card_of (H.words c.held) ≡ (step C i).card = card_one h c e u.0 in
      together (eqb (window_of (step C i).card id) (window_of C id)) (none_moves (step C i).card id (items H cs))
      (subst (λ (x : Card). eqb (window_of x id) (window_of C id) ≡ true) k p.0)
      (subst (λ (x : Card). none_moves x id (items H cs) ≡ true) k (none_moves_lem id c.held cs (legal_next h c cs e u) u.1 p.1))

  -- what a first call leaves and answers, and what the last one answers, where the items are commands
  module _ (h : H.Held) (c : Called H) (cs : List (Called H)) (d : Called H) (i j : Item) (e : legal_table (H.words h) ≡ true) (u : History H h (c ∷ cs)) (p : H.Call (last H h (c ∷ cs)) d.lent d.back d.held) (mi : H.item c.lent ≡ i) (mj : H.item d.lent ≡ j) (zi : H.status c.back ≡ 0) (zj : H.status d.back ≡ 0) where
    done_first : (answer (card_of (H.words h)) i).status ≡ 0
    done_first = ap (λ (x : Item). (answer (card_of (H.words h)) x).status) (sym mi) ∙ status_one h c e u.0 ∙ zi

    after_first : card_of (H.words c.held) ≡ (step (card_of (H.words h)) i).card
    after_first = card_one h c e u.0 ∙ ap (λ (x : Item). (step (card_of (H.words h)) x).card) mi

    last_card : Card
    last_card = run (card_of (H.words h)) (i ∷ items H cs)

    said_last : d.back ≡ H.shows d.lent (answer last_card j) (step last_card j).notice
    unfolding last_card
    said_last =
        said_after h (c ∷ cs) d e u p
        ∙ ap (λ (x : Item). let C = run (card_of (H.words h)) (x ∷ items H cs) in H.shows d.lent (answer C (H.item d.lent)) (step C (H.item d.lent)).notice) mi
        ∙ ap (λ (x : Item). let C = run (card_of (H.words h)) (i ∷ items H cs) in H.shows d.lent (answer C x) (step C x).notice) mj

    back_last : H.without d.back ≡ H.shows d.lent (answer (run (card_of (H.words h)) (i ∷ items H cs)) j) None
    unfolding last_card
    back_last = ap H.without said_last ∙ S.left_out d.lent _ _

    done_last : (answer (run (card_of (H.words h)) (i ∷ items H cs)) j).status ≡ 0
    unfolding last_card
    done_last = told_status d _ _ said_last ∙ zj

  pub config_handed : ConfigBack H
  config_handed h c cs d bytes given room bytes' given' room' e u p mi each ki zi n mj kj q zj =
      let i = command bytes given room in
      let j = command bytes' given' room' in
      let none = subst (λ (x : Card). none_configures x (feature_set (command_in bytes)) (items H cs) ≡ true) (after_first h c cs d i j e u p mi mj zi zj) (none_configures_lem (feature_set (command_in bytes)) c.held cs (legal_next h c cs e u) u.1 n) in
      back_last h c cs d i j e u p mi mj zi zj
      ∙ ap (λ (x : Answer). H.shows d.lent x None)
      (config_stored (card_of (H.words h)) bytes given room (items H cs) bytes' given' room' each ki (done_first h c cs d i j e u p mi mj zi zj) none kj q (done_last h c cs d i j e u p mi mj zi zj))

  pub window_handed : WindowBack H
  window_handed h c cs d bytes given room bytes' given' room' e u p mi ki zi n mj kj q zj =
      let i = command bytes given room in
      let j = command bytes' given' room' in
      let none = subst (λ (x : Card). none_moves x (feature_set (command_in bytes)) (items H cs) ≡ true) (after_first h c cs d i j e u p mi mj zi zj) (none_moves_lem (feature_set (command_in bytes)) c.held cs (legal_next h c cs e u) u.1 n) in
      back_last h c cs d i j e u p mi mj zi zj
      ∙ ap (λ (x : Answer). H.shows d.lent x None)
      (window_stored (card_of (H.words h)) bytes given room (items H cs) bytes' given' room' ki (done_first h c cs d i j e u p mi mj zi zj) none kj q (done_last h c cs d i j e u p mi mj zi zj))

  none_turns_lem :
      (h : H.Held) (cs : List (Called H)) → legal_table (H.words h) ≡ true → History H h cs → none_done H turns_notices cs ≡ true
      → none_turns (card_of (H.words h)) (items H cs) ≡ true
  none_turns_lem h [] e u n = refl
  none_turns_lem h (c ∷ cs) e u n =
      let i = H.item c.lent in
      let C = card_of (H.words h) in
      let p = both (not (turns_notices i && carried_out (H.status c.back))) _ n in
      together (not (turns_notices i && carried_out (answer C i).status)) (none_turns (step C i).card (items H cs))
      (subst (λ (x : ℕ). not (turns_notices i && carried_out x) ≡ true) (sym (status_one h c e u.0)) p.0)
      (subst (λ (x : Card). none_turns x (items H cs) ≡ true) (card_one h c e u.0) (none_turns_lem c.held cs (legal_next h c cs e u) u.1 p.1))

  pub notices_handed : NoticesBack H
  notices_handed h c cs d bytes given room bytes' given' room' e u p mi ki zi n mj kj zj =
      let i = command bytes given room in
      let j = command bytes' given' room' in
      let none = subst (λ (x : Card). none_turns x (items H cs) ≡ true) (after_first h c cs d i j e u p mi mj zi zj) (none_turns_lem c.held cs (legal_next h c cs e u) u.1 n) in
      back_last h c cs d i j e u p mi mj zi zj
      ∙ ap (λ (x : Answer). H.shows d.lent x None)
      (notices_stored (card_of (H.words h)) bytes given room (items H cs) bytes' given' room' ki (done_first h c cs d i j e u p mi mj zi zj) none kj (done_last h c cs d i j e u p mi mj zi zj))

  -- ---- notices: what the calls told, lifted and listed is what the items of the card did

  told_notices : (h : H.Held) (cs : List (Called H)) → legal_table (H.words h) ≡ true → History H h cs → all_hear H cs ≡ true → notices_told H cs ≡ notices (card_of (H.words h)) (items H cs)
  told_notices h [] e u r = refl
  told_notices h (c ∷ cs) e u r =
      let p = both (H.hears c.lent) (all_hear H cs) r in
      let ih = told_notices c.held cs (legal_next h c cs e u) u.1 p.1 ∙ ap (λ (x : Card). notices x (items H cs)) (card_one h c e u.0) in
      ap₂ (λ (n : Notice) (ns : List ℕ). told_of n ++ ns) (notice_one h c e u.0 p.0) ih

  accepted_calls_lem : (h : H.Held) (cs : List (Called H)) → legal_table (H.words h) ≡ true → History H h cs → accepted_calls H cs ≡ accepted (card_of (H.words h)) (items H cs)
  accepted_calls_lem h [] e u = refl
  accepted_calls_lem h (c ∷ cs) e u =
      let ih = accepted_calls_lem c.held cs (legal_next h c cs e u) u.1 ∙ ap (λ (x : Card). accepted x (items H cs)) (card_one h c e u.0) in
      ap₂ (λ (n : ℕ) (ns : List ℕ). accepted_by (H.item c.lent) n ++ ns) (sym (status_one h c e u.0)) ih

  lifts_one : (h : H.Held) (c : Called H) → legal_table (H.words h) ≡ true → H.Call h c.lent c.back c.held → lifts_call H c ≡ lifts (card_of (H.words h)) (H.item c.lent)
  lifts_one h c e u = ap (λ (n : ℕ). reads_listed (H.item c.lent) && eqb n success) (sym (status_one h c e u))

  none_lift : (h : H.Held) (cs : List (Called H)) → legal_table (H.words h) ≡ true → History H h cs → none_lift_calls H cs ≡ none_lifts (card_of (H.words h)) (items H cs)
  none_lift h [] e u = refl
  none_lift h (c ∷ cs) e u =
      let ih = none_lift c.held cs (legal_next h c cs e u) u.1 ∙ ap (λ (x : Card). none_lifts x (items H cs)) (card_one h c e u.0) in
      ap₂ (λ (a b : Bool). not a && b) (lifts_one h c e u.0) ih

  lists_some_lem : (h : H.Held) (cs : List (Called H)) → legal_table (H.words h) ≡ true → History H h cs → lists_some_call H h cs ≡ lists_some (card_of (H.words h)) (items H cs)
  lists_some_lem h [] e u = refl
  lists_some_lem h (c ∷ cs) e u =
      let k = card_one h c e u.0 in
      let ih = lists_some_lem c.held cs (legal_next h c cs e u) u.1 ∙ ap (λ (x : Card). lists_some x (items H cs)) k in
      ap₂ (λ (a b : Bool). a || b) (ap (λ (x : Card). newly (records_of (H.words h)) x.sets) k) ih

  legal_held : (h : H.Held) → legal_table (H.words h) ≡ true → legal_card (card_of (H.words h)) ≡ true
  legal_held h e =
      let l = legal_known (H.words h) e in
      together (legal_sets 0 (records_of (H.words h))) _ (sets_known (H.words h) l) (desk_legal_lem (H.words h) (desk_there (H.words h) l))

  desk_after : (h : H.Held) (cs : List (Called H)) → legal_table (H.words h) ≡ true → History H h cs → desk_held H (last H h cs) ≡ (run (card_of (H.words h)) (items H cs)).desk
  desk_after h cs e u = ap (λ (c : Card). c.desk) (card_after h cs e u)

  pub in_turn_back : InTurnBack H
  in_turn_back h cs e u r =
      ap₂ ◌++◌ (told_notices h cs e u r) (ap (λ (d : Desk). d.waiting) (desk_after h cs e u))
      ∙ in_turn (card_of (H.words h)) (items H cs) ∙ ap ((desk_held H h).waiting ++◌) (sym (accepted_calls_lem h cs e u))

  pub sent_back : SentBack H
  sent_back h c id e u r n =
      rw (card_one h c e u, lifts_one h c e u) (sent_only (card_of (H.words h)) (H.item c.lent) id (sym (notice_one h c e u r) ∙ n))

  pub else_back : ElseBack H
  else_back h c e u r n =
      rw (card_one h c e u, lifts_one h c e u) (held_else (card_of (H.words h)) (H.item c.lent) (legal_held h e) (sym (notice_one h c e u r) ∙ n))

  pub heard_back : HeardBack H
  heard_back h cs e u r l s =
      rw (told_notices h cs e u r, desk_after h cs e u)
      (no_listing_unheard (card_of (H.words h)) (items H cs) (legal_held h e) (sym (none_lift h cs e u) ∙ l) (sym (lists_some_lem h cs e u) ∙ s))

  pub served_back : ServedBack H
  served_back h c e u r f l n =
      rw (ap (λ (x : Card). x.desk) (card_one h c e u))
      (served_at_once (card_of (H.words h)) (H.item c.lent) (legal_held h e) f (sym (lifts_one h c e u) ∙ l) (sym (notice_one h c e u r) ∙ n))

  pub woken_back : WokenBack H
  woken_back h cs e u r m l s o w z =
      let d = desk_after h cs e u in
      woken (card_of (H.words h)) (items H cs) (legal_held h e) m (sym (none_lift h cs e u) ∙ l) (sym (lists_some_lem h cs e u) ∙ s)
      (sym (ap (λ (x : Desk). x.on) d) ∙ o) (sym (ap (λ (x : Desk). waits x.waiting) d) ∙ w) (sym (told_notices h cs e u r) ∙ z)

  pub one_back : OneBack H
  one_back h cs e u r l =
      rw (told_notices h cs e u r) (one_at_most (card_of (H.words h)) (items H cs) (legal_held h e) (sym (none_lift h cs e u) ∙ l))

  -- asking again: of each call, what is read off its bytes is its answer's, and no call changes a set's attributes
  attributes_next : (h : H.Held) (c : Called H) (cs : List (Called H)) → legal_table (H.words h) ≡ true → History H h (c ∷ cs)
      → attributes_of (records_of (H.words c.held)) ≡ attributes_of (records_of (H.words h))
  attributes_next h c cs e u = ap (λ (x : Card). attributes_of x.sets) (card_one h c e u.0) ∙ attributes_kept (card_of (H.words h)) (H.item c.lent)

  ask_back : (h : H.Held) (c : Called H) → legal_table (H.words h) ≡ true → H.Call h c.lent c.back c.held
      → Answers (attributes_of (records_of (H.words h))) (ask_in (H.item c.lent) (H.status c.back) (H.came c.back))
  ask_back h c e u =
      let a : (step_words (H.words h) (H.item c.lent)).answer ≡ answer (card_of (H.words h)) (H.item c.lent) = answer_words (H.words h) (H.item c.lent) e in
      let s : H.status c.back ≡ (answer (card_of (H.words h)) (H.item c.lent)).status = ap H.status (S.said h c.lent c.back c.held u) ∙ S.told c.lent _ _ ∙ ap (λ (x : Answer). x.status) a in
      rw s
      (ask_reads (card_of (H.words h)) (H.item c.lent) (H.came c.back) (rw a at (S.seen h c.lent c.back c.held u)))

  asks_back : (all : List Attributes) (mine : H.Lent → Bool) (h : H.Held) (cs : List (Called H)) → legal_table (H.words h) ≡ true → History H h cs
      → attributes_of (records_of (H.words h)) ≡ all → Answers all (asks_of H mine cs)
  asks_back all mine h [] e u q = tt
  asks_back all mine h (c ∷ cs) e u q =
      let own : List Ask = ask_in (H.item c.lent) (H.status c.back) (H.came c.back) in
      both_answered all (if mine c.lent then own else []) (asks_of H mine cs)
      (mine_answered all (mine c.lent) own (rw q at (ask_back h c e u.0)))
      (asks_back all mine c.held cs (legal_next h c cs e u) u.1 (attributes_next h c cs e u ∙ q))

  pub gives_each_back : GivesEachBack H
  gives_each_back mine h cs from e u t =
      let l = legal_known (H.words h) e in
      let few : length (attributes_of (records_of (H.words h))) ≤ max_sets = simp length-map (omega (arith, length_records (H.words h), l.few)) in
      gives_each (attributes_of (records_of (H.words h))) (sets_ordered 0 (records_of (H.words h)) (sets_known (H.words h) l)) from (asks_of H mine cs) few t
      (asks_back (attributes_of (records_of (H.words h))) mine h cs e u refl)

  pub ask_answered_back : AskAnsweredBack H
  ask_answered_back h c bytes given room e u i a =
      ap H.status (S.said h c.lent c.back c.held u) ∙ S.told c.lent _ _
      ∙ ap (λ (x : Item). (step_words (H.words h) x).answer.status) i
      ∙ ap (λ (x : Answer). x.status) (answer_words (H.words h) (command bytes given room) e)
      ∙ ask_answered (card_of (H.words h)) bytes given room a

  pub demanded : Demanded H
  demanded =
      record {
        stays_legal = stays_legal;
        own_records = own_records;
        own_answers_back = own_answers_back;
        aggregate_back = aggregate_back;
        never_lost = never_lost;
        swaps_back = swaps_back;
        config_handed = config_handed;
        window_handed = window_handed;
        notices_handed = notices_handed;
        in_turn_back = in_turn_back;
        sent_back = sent_back;
        else_back = else_back;
        heard_back = heard_back;
        served_back = served_back;
        woken_back = woken_back;
        one_back = one_back;
        gives_each_back = gives_each_back;
        ask_answered_back = ask_answered_back;
      }

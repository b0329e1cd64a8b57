-- From the step to the words: a lent table that is handed from item to item, and what a refusal leaves of it.
use mathlib.Core.Path.{◌≡◌, refl, sym, ap, ◌∙◌}
use mathlib.Core.Bool.{true}
use mathlib.Core.List.{List, [], ◌∷◌, ◌++◌, append-nil}
use mathlib.Core.Logic.{⊎_elim}
use Prim.Native.Nat.{ℕ, suc}
use native.Mathlib.Omega.{arith}
use borrow.Author.Tests.{ne_eqb}
use lib.ListN.{length}
use lib.Seq.{sets}
use Rattle.octets.proofs.Runs.{sets_over}
use Rattle.record.specs.declared.Record.{Record}
use Rattle.table.specs.Layout.{words_of}
use Rattle.table.specs.Card.{header}
use Rattle.table.specs.Table.{row_start, put, legal_table, written_from, written_rows, written}
use Rattle.table.proofs.Records.{length_words}
use Rattle.table.proofs.LegalTables.{legal_known, desk_there}
use Rattle.table.proofs.Desks.{sets_before, desk_legal_lem}
use Rattle.replies.specs.Answers.{told_of}
use Rattle.table.proofs.Written.{written_own}
use Rattle.steps.specs.Items.{Card, Item}
use Rattle.steps.specs.Card.{refusal_of, after, answer, step, run, trace, notices}
use Rattle.steps.specs.Words.{card_of, step_words}
use Rattle.steps.specs.Demands.{Refused, RefusedWords, run_words, trace_words, told_words, WordsRun, WordsTrace, WordsNotices, WordsSwap}
use Rattle.steps.proofs.ItemShapes.{bool_cases}
use Rattle.steps.proofs.Slots.{refused_answer, refused_sets}
use Rattle.steps.proofs.StepOnWords.{step_bad, step_legal, step_refused}
use Rattle.steps.proofs.KeptLegal.{step_keeps, step_back}
use Rattle.steps.proofs.OwnHistory.{length_run, swap, swap_within}
use Rattle.steps.proofs.AtDesk.{at_refused, run_legal}

pub refused : Refused
refused c i h n = let s = ne_eqb (refusal_of c i) 0 n in rw (refused_answer c i s, refused_sets c i h s, at_refused c i s)

pub refused_words : RefusedWords
refused_words ws i n =
    ⊎_elim
    (λ e. rw e (step_refused ws i (refusal_of (card_of ws) i) e refl (rw e at n)))
    (λ e. rw e (step_bad ws i e))
    (bool_cases (legal_table ws))

-- ---- records written over others

written_twice :
    (ws : List ℕ) (j : ℕ) (rs ss : List Record) → length rs ≡ length ss → written_from (written_from ws j rs) j ss ≡ written_from ws j ss
written_twice ws j [] [] e = refl
written_twice ws j [] (s ∷ ss) e = absurd (omega arith)
written_twice ws j (r ∷ rs) [] e = absurd (omega arith)
written_twice ws j (r ∷ rs) (s ∷ ss) e =
    ap
    (λ (x : List ℕ). written_from x (suc j) ss)
    (sets_before (put ws j (words_of r)) (row_start j) (suc j) (words_of s) rs (omega (arith, length_words s))
    ∙ ap (λ (x : List ℕ). written_from x (suc j) rs) (sets_over (words_of r) (words_of s) ws (row_start j) (length_words r ∙ sym (length_words s))))
    ∙ written_twice (put ws j (words_of s)) (suc j) rs ss (omega arith)

written_over : (ws : List ℕ) (c d : Card) → length c.sets ≡ length d.sets → written (written ws c) d ≡ written ws d
unfolding written written_rows
written_over ws c d e =
    ap
    (λ (x : List ℕ). written_from x 0 d.sets)
    (sets_before (sets ws 0 (header c)) 0 0 (header d) c.sets (omega arith)
    ∙ ap (λ (x : List ℕ). written_from x 0 c.sets) (sets_over (header c) (header d) ws 0 refl))
    ∙ written_twice (sets ws 0 (header d)) 0 c.sets d.sets e

-- ---- many items

table_words : (ws : List ℕ) (i : Item) → legal_table ws ≡ true → (step_words ws i).table ≡ written ws (after (card_of ws) i)
table_words ws i e = rw (step_legal ws i e)

pub answer_words : (ws : List ℕ) (i : Item) → legal_table ws ≡ true → (step_words ws i).answer ≡ answer (card_of ws) i
answer_words ws i e = rw (step_legal ws i e)

pub words_run : WordsRun
words_run ws [] e = record { legal = e; card = refl; words = sym (written_own ws (legal_known ws e)) }
words_run ws (i ∷ is) e =
    let r = words_run (step_words ws i).table is (step_keeps ws i e) in
    record {
      legal = r.legal;
      card = r.card ∙ ap (λ (c : Card). run c is) (step_back ws i e);
      words =
          r.words ∙ rw (step_back ws i e, table_words ws i e)
          (written_over ws (after (card_of ws) i) (run (after (card_of ws) i) is) (sym (length_run is (after (card_of ws) i))));
    }

pub notice_words : (ws : List ℕ) (i : Item) → legal_table ws ≡ true → (step_words ws i).notice ≡ (step (card_of ws) i).notice
notice_words ws i e = rw (step_legal ws i e)

pub words_trace : WordsTrace
words_trace ws [] e = refl
words_trace ws (i ∷ is) e = cc (answer_words ws i e, step_back ws i e, words_trace (step_words ws i).table is (step_keeps ws i e))

pub words_notices : WordsNotices
words_notices ws [] e = refl
words_notices ws (i ∷ is) e = cc (notice_words ws i e, step_back ws i e, words_notices (step_words ws i).table is (step_keeps ws i e))

-- what comes after other items
run_words_append : (ws : List ℕ) (is js : List Item) → run_words ws (is ++ js) ≡ run_words (run_words ws is) js
run_words_append ws [] js = refl
run_words_append ws (i ∷ is) js = run_words_append (step_words ws i).table is js

told_append : (ws : List ℕ) (is js : List Item) → told_words ws (is ++ js) ≡ told_words ws is ++ told_words (run_words ws is) js
told_append ws [] js = refl
told_append ws (i ∷ is) js = ap ((step_words ws i).notice ∷◌) (told_append (step_words ws i).table is js)

-- the answers to an item and to a list of items that come after others
module _ (ws : List ℕ) (before : List Item) (e : legal_table ws ≡ true) where
  answer_later : (i : Item) → (step_words (run_words ws before) i).answer ≡ answer (run (card_of ws) before) i
  answer_later i =
      let r = words_run ws before e in
      answer_words (run_words ws before) i r.legal ∙ ap (λ (c : Card). answer c i) r.card

  trace_later : (later : List Item) → trace_words (run_words ws before) later ≡ trace (run (card_of ws) before) later
  trace_later later =
      let r = words_run ws before e in
      words_trace (run_words ws before) later r.legal ∙ ap (λ (c : Card). trace c later) r.card

  -- the notices of two items, one after the other
  two_notices : (i j : Item)
      → told_of (step_words (run_words ws before) i).notice ++ told_of (step_words (step_words (run_words ws before) i).table j).notice
      ≡ notices (run (card_of ws) before) (i ∷ j ∷ [])
  two_notices i j =
      let r = words_run ws before e in
      let vs = run_words ws before in
      let one : (step_words vs i).notice ≡ (step (run (card_of ws) before) i).notice = notice_words vs i r.legal ∙ ap (λ (c : Card). (step c i).notice) r.card in
      let two : (step_words (step_words vs i).table j).notice ≡ (step (step (run (card_of ws) before) i).card j).notice
      = notice_words (step_words vs i).table j (step_keeps vs i r.legal)
      ∙ ap (λ (c : Card). (step c j).notice) (step_back vs i r.legal ∙ ap (λ (c : Card). (step c i).card) r.card) in
      rw (one, two, append-nil)

pub words_swap : WordsSwap
words_swap ws before i j later a b e p q h =
    let d = desk_legal_lem ws (desk_there ws (legal_known ws e)) in
    let w = swap_within (card_of ws) before i j later a b d p q h in
    let ij = before ++ i ∷ j ∷ later in
    let ji = before ++ j ∷ i ∷ later in
    let two = swap (run (card_of ws) before) i j a b (run_legal before (card_of ws) d) p q h in
    let middle : run_words ws (before ++ j ∷ i ∷ []) ≡ run_words ws (before ++ i ∷ j ∷ [])
    = (words_run ws (before ++ j ∷ i ∷ []) e).words
    ∙ ap (written ws) (sym (swap_within (card_of ws) before i j [] a b d p q h).same_card) ∙ sym (words_run ws (before ++ i ∷ j ∷ []) e).words in
    record {
      same_words = (words_run ws ij e).words ∙ ap (written ws) w.same_card ∙ sym (words_run ws ji e).words;
      one_way =
          words_trace ws ij e ∙ w.one_way
          ∙ cc (words_trace ws before e, answer_later ws before e i, answer_later ws before e j, trace_later ws (before ++ i ∷ j ∷ []) e later);
      other_way =
          words_trace ws ji e ∙ w.other_way
          ∙ cc (words_trace ws before e, answer_later ws before e i, answer_later ws before e j, trace_later ws (before ++ i ∷ j ∷ []) e later);
      told_one_way = told_append ws before (i ∷ j ∷ later) ∙ rw (run_words_append ws before (i ∷ j ∷ []));
      told_other_way = told_append ws before (j ∷ i ∷ later) ∙ rw (← middle, run_words_append ws before (j ∷ i ∷ []));
      same_notices = two_notices ws before e i j ∙ two.same_notices ∙ sym (two_notices ws before e j i);
    }

-- Words past the table: no item and no set-up reads or writes them, as specs/PastTheTable.antt says.
use mathlib.Core.Path.{◌≡◌, refl, ap, ◌∙◌}
use mathlib.Core.Bool.{Bool, true, false}
use mathlib.Core.List.{List, ◌++◌}
use mathlib.Core.Logic.{⊎_elim}
use Prim.Native.Nat.{ℕ, ◌≤◌}
use native.Mathlib.Omega.{arith}
use borrow.Author.Tests.{eqb-true, le-ltb, leb-true}
use lib.Dec.{eqb, leb}
use lib.ListN.{length, length-map, length-append}
use Rattle.std.specs.Prelude.{if◌then◌else◌}
use Rattle.octets.proofs.JoinedTests.{both}
use Rattle.record.specs.Legal.{in_range}
use Rattle.replies.specs.Numbers.{bad_table}
use Rattle.table.specs.Table.{count, row_start, sized, legal_table, written, max_sets}
use Rattle.table.proofs.LegalTables.{length_records}
use Rattle.table.proofs.Written.{length_written, written_rest}
use Rattle.table.proofs.PastTheTable.{written_past, card_past, legal_past}
use Rattle.steps.specs.Items.{Card, Item}
use Rattle.steps.specs.Card.{at_desk, after, answer}
use Rattle.steps.specs.Words.{OutcomeWords, card_of, unchanged, step_words}
use Rattle.steps.specs.SetUp.{bodies, new_card, set_up_status, new_table, set_up}
use Rattle.steps.specs.PastTheTable.{past, beside, NotRead, SetUpNotRead, NotWritten, SetUpNotWritten}
use Rattle.steps.proofs.ItemShapes.{bool_cases}
use Rattle.steps.proofs.StepOnWords.{step_bad, step_legal}
use Rattle.steps.proofs.NewSets.{well, new_length, new_fits, done, not_done}
use Rattle.steps.proofs.KeptLegal.{fits_again}

unsized : (ws : List ℕ) → sized ws ≡ false → legal_table ws ≡ false
unfolding legal_table
unsized ws h = rw h

-- where the header is wrong, or the words are too few, there is no table
pub step_unsized : (ws : List ℕ) (i : Item) → sized ws ≡ false → step_words ws i ≡ unchanged ws bad_table
step_unsized ws i h = step_bad ws i (unsized ws h)

module _ (more ws : List ℕ) where
  module _ (room : row_start (count ws) ≤ length ws) (i : Item) where
    abbrev stepped : Card → OutcomeWords
    stepped c = record { table = written (ws ++ more) (after c i); answer = answer c i; notice = (at_desk c i).notice }

    legal_beside : legal_table ws ≡ true → step_words (ws ++ more) i ≡ beside (step_words ws i) more
    legal_beside e =
        let as_many : length (after (card_of ws) i).sets ≡ count ws = simp length-map (length_records ws) in
        step_legal (ws ++ more) i (legal_past more ws room ∙ e)
        ∙ ap stepped (card_past more ws room)
        ∙ rw (step_legal ws i e, written_past more ws (after (card_of ws) i) (rw as_many room))

    step_past : step_words (ws ++ more) i ≡ beside (step_words ws i) more
    step_past =
        ⊎_elim
        legal_beside
        (λ e. step_bad (ws ++ more) i (legal_past more ws room ∙ e) ∙ rw (step_bad ws i e))
        (bool_cases (legal_table ws))

  -- set-up, where the words have room for its sets, if they are not too many
  module _ (bytes : List ℕ) (room : bodies bytes ≤ max_sets → row_start (bodies bytes) ≤ length ws) where
    lines_same : (b : Bool) → in_range max_sets (bodies bytes) ≡ b → set_up_status bytes (length (ws ++ more)) ≡ set_up_status bytes (length ws)
    unfolding set_up_status
    lines_same true e =
        let few : bodies bytes ≤ max_sets = leb-true (bodies bytes) max_sets (both (leb 1 (bodies bytes)) _ e).1 in
        let here : row_start (bodies bytes) ≤ length ws = room few in
        let there : row_start (bodies bytes) ≤ length (ws ++ more) = omega (arith, length-append ws more) in
        rw (le-ltb (length ws) (row_start (bodies bytes)) here, le-ltb (length (ws ++ more)) (row_start (bodies bytes)) there)
    lines_same false e = rw e

    status_same : set_up_status bytes (length (ws ++ more)) ≡ set_up_status bytes (length ws)
    status_same = lines_same (in_range max_sets (bodies bytes)) refl

    table_past : set_up_status bytes (length ws) ≡ 0 → new_table bytes (ws ++ more) ≡ new_table bytes ws ++ more
    table_past z =
        let w = well bytes (length ws) _ refl z in written_past more ws (new_card bytes) (rw (new_length bytes) w.room)

    by_status :
        (s : ℕ) (b : Bool) → set_up_status bytes (length ws) ≡ s → eqb s 0 ≡ b
        → (if b then done bytes (ws ++ more) else not_done (ws ++ more) s) ≡ beside (if b then done bytes ws else not_done ws s) more
    by_status s true e q = rw (table_past (e ∙ eqb-true s 0 q))
    by_status s false e q = refl

    set_up_past : set_up bytes (ws ++ more) ≡ beside (set_up bytes ws) more
    unfolding set_up
    set_up_past = rw status_same (by_status (set_up_status bytes (length ws)) (eqb (set_up_status bytes (length ws)) 0) refl refl)

pub not_read : NotRead
not_read more ws room i = step_past more ws room i

pub set_up_not_read : SetUpNotRead
set_up_not_read more ws bytes room = set_up_past more ws bytes room

-- ---- no call makes the table longer or shorter

pub length_step : (ws : List ℕ) (i : Item) → length (step_words ws i).table ≡ length ws
length_step ws i =
    ⊎_elim
    (λ e. rw (step_legal ws i e) (length_written ws (after (card_of ws) i)))
    (λ e. rw (step_bad ws i e))
    (bool_cases (legal_table ws))

pub length_set_up : (bytes ws : List ℕ) → length (set_up bytes ws).table ≡ length ws
unfolding set_up
length_set_up bytes ws = by (eqb (set_up_status bytes (length ws)) 0)
  where
    by : (b : Bool) → length (if b then done bytes ws else not_done ws (set_up_status bytes (length ws))).table ≡ length ws
    by true = length_written ws (new_card bytes)
    by false = refl

-- ---- nor writes past it

step_rest : (ws : List ℕ) (i : Item) → legal_table ws ≡ true → past (count ws) (written ws (after (card_of ws) i)) ≡ past (count ws) ws
step_rest ws i e =
    let n : length (after (card_of ws) i).sets ≡ count ws = simp length-map (length_records ws) in
    rw n at (written_rest ws (after (card_of ws) i) (fits_again ws i e))

pub not_written : NotWritten
not_written ws i =
    record {
      rest = ⊎_elim (λ e. rw (step_legal ws i e) (step_rest ws i e)) (λ e. rw (step_bad ws i e)) (bool_cases (legal_table ws));
      long = length_step ws i;
    }

new_rest :
    (bytes ws : List ℕ) (s : ℕ) (b : Bool) → s ≡ set_up_status bytes (length ws) → eqb s 0 ≡ b
    → past (bodies bytes) (if b then done bytes ws else not_done ws s).table ≡ past (bodies bytes) ws
new_rest bytes ws s true e q =
    rw (new_length bytes) at (written_rest ws (new_card bytes) (new_fits bytes ws (well bytes (length ws) s e (eqb-true s 0 q))))
new_rest bytes ws s false e q = refl

rest_set_up : (bytes ws : List ℕ) → past (bodies bytes) (set_up bytes ws).table ≡ past (bodies bytes) ws
unfolding set_up
rest_set_up bytes ws = new_rest bytes ws _ (eqb (set_up_status bytes (length ws)) 0) refl refl

pub set_up_not_written : SetUpNotWritten
set_up_not_written bytes ws = record { rest = rest_set_up bytes ws; long = length_set_up bytes ws }

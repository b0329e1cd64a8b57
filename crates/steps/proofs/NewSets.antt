-- Set-up: what a status of 0 tells, and that what set-up leaves is a legal table of the new sets.
use mathlib.Core.Path.{◌≡◌, refl, sym, ap, ◌∙◌}
use mathlib.Core.Bool.{Bool, true, false, and-false}
use mathlib.Core.List.{List, [], ◌∷◌, ◌++◌, map}
use Prim.Native.Nat.{ℕ, zero, suc, ◌+◌, ◌*◌, ◌≤◌, ◌<◌, min}
use native.Mathlib.Omega.{arith}
use borrow.Author.Tests.{eqb-true, eqb-false, not-false, leb-true, ltb-false, lt-leb}
use lib.Dec.{eqb, leb}
use lib.ListN.{length}
use lib.Seq.{sets, length-sets}
use Rattle.std.specs.Prelude.{if◌then◌else◌, None}
use Rattle.octets.proofs.JoinedTests.{both}
use Rattle.octets.proofs.Runs.{take_through}
use Rattle.record.specs.Legal.{in_range}
use Rattle.replies.specs.Numbers.{bad_set_up}
use Rattle.replies.proofs.Rows.{passed}
use Rattle.table.specs.Card.{layout_number, header}
use Rattle.table.specs.Table.{row_start, legal_sets, legal_table, max_sets}
use Rattle.table.proofs.Written.{Fitting, written_back, written_legal}
use Rattle.pages.specs.Bodies.{body_size}
use Rattle.replies.specs.Answers.{granted}
use Rattle.desk.specs.Desk.{new_desk}
use Rattle.desk.specs.Words.{desk_words}
use Rattle.steps.specs.Words.{OutcomeWords, card_of, unchanged}
use Rattle.steps.specs.SetUp.{new_record, attributes_from, bodies, first_bodies, new_sets, new_card, set_up_lines, set_up_status, new_table, set_up}

-- ---- the status

-- what a status of 0 tells
pub record Well (bytes : List ℕ) (words : ℕ) : Type 0 where
  pub range : in_range max_sets (bodies bytes) ≡ true
  pub some : 1 ≤ bodies bytes
  pub legal : legal_sets 0 (new_sets bytes) ≡ true
  pub room : row_start (bodies bytes) ≤ words
  pub whole : bodies bytes * body_size ≤ length bytes

pub well : (bytes : List ℕ) (words s : ℕ) → s ≡ set_up_status bytes words → s ≡ 0 → Well bytes words
unfolding set_up_status
well bytes words s e z =
    let n = passed (set_up_lines bytes words) refl (sym e ∙ z) in
    let r : in_range max_sets (bodies bytes) ≡ true = not-false _ n.0 in
    record {
      range = r;
      some = leb-true 1 (bodies bytes) (both (leb 1 (bodies bytes)) _ r).0;
      legal = not-false _ n.1.1.0;
      room = ltb-false words (row_start (bodies bytes)) n.1.1.1.0;
      whole = omega arith;
    }

-- ---- set-up's table is legal, and holds the new sets

as_many : (bytes : List ℕ) (at n : ℕ) → length (map new_record (attributes_from bytes at n)) ≡ n
as_many bytes at zero = refl
as_many bytes at (suc n) = ap suc (as_many bytes (at + body_size) n)

pub new_length : (bytes : List ℕ) → length (new_sets bytes) ≡ bodies bytes
unfolding new_sets
new_length bytes = as_many bytes 0 (bodies bytes)

pub new_header : (bytes : List ℕ) → layout_number ∷ bodies bytes ∷ desk_words new_desk ≡ header (new_card bytes)
new_header bytes = ap (λ (n : ℕ). layout_number ∷ n ∷ desk_words new_desk) (sym (new_length bytes))

module _ (bytes ws : List ℕ) (w : Well bytes (length ws)) where
  pub new_fits : Fitting ws (new_card bytes)
  new_fits = record { range = rw (new_length bytes) w.range; legal = w.legal; room = rw (new_length bytes) w.room; desk = refl }

  pub new_legal_table : legal_table (new_table bytes ws) ≡ true
  new_legal_table = written_legal ws (new_card bytes) new_fits

  pub new_table_back : card_of (new_table bytes ws) ≡ new_card bytes
  new_table_back = written_back ws (new_card bytes) new_fits

abbrev pub done : List ℕ → List ℕ → OutcomeWords
done bytes ws = record { table = new_table bytes ws; answer = granted 0 []; notice = None }

abbrev pub not_done : List ℕ → ℕ → OutcomeWords
not_done ws s = unchanged ws s

by_status :
    (bytes ws : List ℕ) (s : ℕ) (b : Bool) → s ≡ set_up_status bytes (length ws) → eqb s 0 ≡ b
    → (if b then done bytes ws else not_done ws s).answer.status ≡ 0 → (legal_table (if b then done bytes ws else not_done ws s).table ≡ true) × (card_of (if b then done bytes ws else not_done ws s).table ≡ new_card bytes)
by_status bytes ws s true e q h = let w = well bytes (length ws) s e (eqb-true s 0 q) in (new_legal_table bytes ws w, new_table_back bytes ws w)
by_status bytes ws s false e q h = absurd (eqb-false s 0 q h)

-- set-up that succeeds leaves a legal table that holds the new sets
pub legal_set_up : (bytes ws : List ℕ) → (set_up bytes ws).answer.status ≡ 0 → (legal_table (set_up bytes ws).table ≡ true) × (card_of (set_up bytes ws).table ≡ new_card bytes)
unfolding set_up
legal_set_up bytes ws h = by_status bytes ws _ (eqb (set_up_status bytes (length ws)) 0) refl refl h

-- ---- what set-up leaves where it succeeds, and why

granted_by :
    (bytes ws : List ℕ) (s : ℕ) (b : Bool) → eqb s 0 ≡ b → (if b then done bytes ws else not_done ws s).answer.status ≡ 0
    → (s ≡ 0) × ((if b then done bytes ws else not_done ws s).table ≡ new_table bytes ws)
granted_by bytes ws s true q h = (eqb-true s 0 q, refl)
granted_by bytes ws s false q h = absurd (eqb-false s 0 q h)

pub granted_table : (bytes ws : List ℕ) → (set_up bytes ws).answer.status ≡ 0 → (set_up_status bytes (length ws) ≡ 0) × ((set_up bytes ws).table ≡ new_table bytes ws)
unfolding set_up
granted_table bytes ws h = granted_by bytes ws _ (eqb (set_up_status bytes (length ws)) 0) refl h

-- ---- more sets than a table may have are refused, however many more

status_many : (bytes : List ℕ) (words : ℕ) → max_sets < bodies bytes → set_up_status bytes words ≡ bad_set_up
unfolding set_up_status
status_many bytes words h = rw (lt-leb (bodies bytes) max_sets h, and-false)

pub refused_many : (bytes ws : List ℕ) → max_sets < bodies bytes → set_up bytes ws ≡ unchanged ws bad_set_up
unfolding set_up
refused_many bytes ws h = rw (status_many bytes (length ws) h)

-- ---- bodies that are kept until set-up: one more, where there is room

pub first_more :
    (bytes body : List ℕ) (i : ℕ) → length body ≡ body_size → i < bodies bytes
    → first_bodies (sets bytes (i * body_size) body) (suc i) ≡ first_bodies bytes i ++ body
first_more bytes body i e h =
    let after : min (suc i) (bodies bytes) * body_size ≡ i * body_size + body_size = omega arith in
    let before : min i (bodies bytes) * body_size ≡ i * body_size = omega arith in
    rw (length-sets bytes (i * body_size) body, after, before) (take_through body bytes (i * body_size) body_size e (omega arith))

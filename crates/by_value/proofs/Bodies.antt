-- Set-up, from its bodies to the table: a turn of its loops, and what its functions leave.
use mathlib.Core.Path.{◌≡◌, refl, sym, ap, ◌∙◌}
use mathlib.Core.Bool.{Bool, true, false, ◌&&◌, and-true}
use mathlib.Core.List.{List, [], ◌∷◌, map}
use Prim.Native.Nat.{ℕ, suc, ◌+◌, ◌-◌, ◌≤◌, ◌<◌}
use native.Mathlib.Omega.{arith}
use native.Mathlib.Nat.{sub-zero}
use native.Mathlib.Numerals.{add-one}
use borrow.Author.Tests.{ne_eqb, eq-eqb}
use lib.Dec.{ltb}
use lib.ListN.{length}
use lib.Seq.{sets, length-sets}
use Rattle.octets.proofs.JoinedTests.{both}
use Rattle.record.specs.declared.Attributes.{Attributes}
use Rattle.record.specs.declared.Record.{Record}
use Rattle.record.specs.Legal.{legal_attributes, legal_record}
use Rattle.desk.specs.Desk.{new_desk}
use Rattle.desk.specs.Words.{desk_words}
use Rattle.table.specs.Layout.{words_of}
use Rattle.table.specs.Card.{layout_number}
use Rattle.table.specs.Table.{put, legal_sets, written_from, written_rows, written}
use Rattle.pages.specs.Bodies.{body_size, attributes_in, kept_of}
use Rattle.pages.proofs.Back.{kept_whole}
use Rattle.steps.specs.SetUp.{new_record, attributes_from, bodies, new_sets, set_up_status, new_table, set_up, SetUp}
use Rattle.steps.proofs.NewSets.{new_header}
use Rattle.by_value.specs.SetUp.{follows_of, kept_record}

module _ (bytes : List ℕ) (n i at : ℕ) where
  pub bodies_none : n ≤ i → attributes_from bytes at (n - i) ≡ []
  bodies_none h = let e : n - i ≡ 0 = omega arith in rw e

  pub bodies_more : i < n → attributes_from bytes at (n - i) ≡ attributes_in bytes at ∷ attributes_from bytes (at + body_size) (n - (i + 1))
  bodies_more h = let e : n - i ≡ suc (n - (i + 1)) = omega arith in rw e

-- a new set is legal exactly where its attributes are
new_legal : (a : Attributes) → legal_record (new_record a) ≡ legal_attributes a
new_legal a = rw (and-true, and-true)

-- ---- the bodies are held against 01

abbrev pub legal_from : ℕ → List Attributes → Bool
legal_from before list = legal_sets before (map new_record list)

module _ (bytes : List ℕ) (n i at before : ℕ) (goal : Bool) (inv : legal_from before (attributes_from bytes at (n - i)) ≡ goal) where
  module _ (s : Bool) (h : i < n) (es : s ≡ follows_of before (attributes_in bytes at)) where
    turn : s && legal_from (attributes_in bytes at).id.0 (attributes_from bytes (at + body_size) (n - (i + 1))) ≡ goal
    turn = rw (es, ← new_legal (attributes_in bytes at)) (rw (bodies_more bytes n i at h) at inv)

    pub legal_stop : s ≡ false → false ≡ goal
    legal_stop e = rw e at turn

    pub legal_again : (id : ℕ) → id ≡ (attributes_in bytes at).id.0 → s ≡ true → legal_from id (attributes_from bytes (at + body_size) (n - (i + 1))) ≡ goal
    legal_again id ei e = rw ei (rw e at turn)

-- ---- the rows are written

abbrev pub rows_left : List ℕ → List ℕ → ℕ → ℕ → ℕ → List ℕ
rows_left ws bytes n i at = written_from ws i (map kept_record (attributes_from bytes at (n - i)))

pub rows_start : (ws bytes : List ℕ) (n : ℕ) → rows_left ws bytes n 0 0 ≡ written_rows ws (map kept_record (attributes_from bytes 0 n))
unfolding written_rows
rows_start ws bytes n = rw sub-zero

pub rows_end : (ws bytes : List ℕ) (n i at : ℕ) → n ≤ i → rows_left ws bytes n i at ≡ ws
rows_end ws bytes n i at h = rw (bodies_none bytes n i at h)

pub rows_again :
    (ws bytes : List ℕ) (n i at : ℕ) (goal : List ℕ) → rows_left ws bytes n i at ≡ goal → i < n → (a : Attributes) (r : Record) (vs : List ℕ)
    → a ≡ kept_of (attributes_in bytes at) → r ≡ new_record a → vs ≡ put ws i (words_of r) → rows_left vs bytes n (i + 1) (at + body_size) ≡ goal
rows_again ws bytes n i at goal inv h a r vs ea er ev =
    rw (ev, er, ea, add-one) (rw (bodies_more bytes n i at h, add-one) at inv)

-- of bodies that are legal all is kept
pub kept_sets : (p : ℕ) (list : List Attributes) → legal_from p list ≡ true → map kept_record list ≡ map new_record list
kept_sets p [] h = refl
kept_sets p (a ∷ list) h =
    let q = both (legal_record (new_record a) && ltb p a.id.0) _ h in
    let l : legal_attributes a ≡ true = sym (new_legal a) ∙ (both (legal_record (new_record a)) _ q.0).0 in
    λ i. new_record (kept_whole a l i) ∷ kept_sets a.id.0 list q.1 i

-- ---- what set-up promises

module _ (bytes ws : List ℕ) (s : ℕ) (e : s ≡ set_up_status bytes (length ws)) where
  pub set_up_refused : (s ≡ 0 → ⊥) → SetUp bytes ws ws s
  unfolding set_up
  set_up_refused n = record { table = rw (← e, ne_eqb s 0 n); status = rw (← e, ne_eqb s 0 n) }

  pub set_up_done : s ≡ 0 → (vs : List ℕ) → vs ≡ new_table bytes ws → SetUp bytes ws vs s
  unfolding set_up
  set_up_done z vs h = record { table = rw (← e, eq-eqb s 0 z) h; status = rw (← e, eq-eqb s 0 z) z }

pub headed_length : (bytes ws us : List ℕ) → us ≡ sets ws 0 (layout_number ∷ bodies bytes ∷ desk_words new_desk) → length us ≡ length ws
headed_length bytes ws us e = ap length e ∙ length-sets ws 0 (layout_number ∷ bodies bytes ∷ desk_words new_desk)

-- the header and then the rows make it
pub headed_rows :
    (bytes ws us vs : List ℕ) → legal_sets 0 (new_sets bytes) ≡ true → us ≡ sets ws 0 (layout_number ∷ bodies bytes ∷ desk_words new_desk)
    → vs ≡ written_rows us (map kept_record (attributes_from bytes 0 (bodies bytes))) → vs ≡ new_table bytes ws
unfolding written new_sets
headed_rows bytes ws us vs h eu ev =
    ev ∙ ap (written_rows us) (kept_sets 0 (attributes_from bytes 0 (bodies bytes)) h)
    ∙ ap (λ (x : List ℕ). written_rows x (new_sets bytes)) (eu ∙ ap (sets ws 0) (new_header bytes))

-- Writing records back: what a legal table holds then, what the words past it hold, and what is read back.
use mathlib.Core.Path.{◌≡◌, refl, sym, ap, ap₂, ◌∙◌}
use mathlib.Core.Bool.{true, ◌&&◌}
use mathlib.Core.List.{List, [], ◌∷◌, map}
use Prim.Native.Nat.{ℕ, zero, suc, ◌+◌, ◌-◌, ◌≤◌, ◌<◌}
use native.Mathlib.Omega.{arith}
use native.Mathlib.Nat.{zero-add, add-zero}
use native.Mathlib.Numerals.{add-one}
use borrow.Author.Tests.{le-leb}
use lib.Dec.{ltb, leb}
use lib.ListN.{length, set, get_or, drop, length-set}
use lib.Seq.{sets, length-sets, set-get_or, get_or-set_same, get_or-set_other}
use Rattle.octets.proofs.JoinedTests.{both, together}
use mathlib.Core.Logic.{inl}
use Rattle.octets.proofs.Runs.{drop_sets, get_d_sets}
use Rattle.desk.specs.Desk.{legal_desk}
use Rattle.desk.specs.Words.{desk_words, desk_in, desk_legal}
use Rattle.desk.proofs.LegalDesks.{legal_desks}
use Rattle.record.specs.declared.Record.{Record}
use Rattle.record.specs.Legal.{in_range, legal_record}
use Rattle.record.specs.Parts.{id_of}
use Rattle.table.specs.Layout.{words_of, record_of}
use Rattle.table.specs.Card.{Card, card_with, layout_number, header_words, desk_start, header}
use Rattle.table.specs.Table.{layout, count, desk_part, desk_at, with_desk, row_start, row, put, rows_from, rows, records_of, card_of, legal_sets, sized, legal_table, Legal, written_from, written_rows, written, max_sets}
use Rattle.table.proofs.Records.{Row, length_words, record_back}
use Rattle.table.proofs.Slots.{put_self, length_put, header_put, rest_put, row_same, row_other, rows_other}
use Rattle.table.proofs.LegalTables.{desk_there, slot_known, length_records, rows_of_sets}
use Rattle.table.proofs.Desks.{desk_stays, rows_apart, desk_from, desk_held_lem}
use Rattle.table.proofs.Turns.{later, later_none, later_more, later_all}

-- ---- records written where they came from, and one of them changed

-- each of m slots from j on holds the words of its own record
abbrev Own : List ℕ → ℕ → ℕ → Type 0
Own ws j m = (i : ℕ) → j ≤ i → i < j + m → Row (row ws i)

pub put_own : (ws : List ℕ) (j : ℕ) → row_start (suc j) ≤ length ws → Row (row ws j) → put ws j (words_of (record_of (row ws j))) ≡ ws
put_own ws j h r = rw (← r.words) (put_self ws j h)

own_written : (ws : List ℕ) (j m : ℕ) → row_start (j + m) ≤ length ws → Own ws j m → written_from ws j (map record_of (rows_from ws j m)) ≡ ws
own_written ws j zero h o = refl
own_written ws j (suc m) h o =
    ap (λ (l : List ℕ). written_from l (suc j) (map record_of (rows_from ws (suc j) m))) (put_own ws j (omega arith) (o j (omega arith) (omega arith)))
    ∙ own_written ws (suc j) m (omega arith) (λ i p q. o i (omega arith) (omega arith))

one_written :
    (ws : List ℕ) (j k m : ℕ) (r : Record) → k < m → row_start (j + m) ≤ length ws → Own ws j m
    → written_from ws j (set (map record_of (rows_from ws j m)) k r) ≡ put ws (j + k) (words_of r)
one_written ws j k zero r l h o = absurd (omega arith)
one_written ws j zero (suc m) r l h o =
    let a = words_of r in
    let w = length_words r in
    ap (λ (x : List (List ℕ)). written_from (put ws j a) (suc j) (map record_of x)) (sym (rows_other ws j a w (suc j) m (omega arith)))
    ∙ own_written (put ws j a) (suc j) m (omega (arith, length_put ws j a w)) (λ i p q. rw (row_other ws j a w i (λ z. omega arith)) (o i (omega arith) (omega arith)))
    ∙ ap (λ (i : ℕ). put ws i a) (sym (add-zero j))
one_written ws j (suc k) (suc m) r l h o =
    ap (λ (x : List ℕ). written_from x (suc j) (set (map record_of (rows_from ws (suc j) m)) k r)) (put_own ws j (omega arith) (o j (omega arith) (omega arith)))
    ∙ one_written ws (suc j) k m r (omega arith) (omega arith) (λ i p q. o i (omega arith) (omega arith))
    ∙ ap (λ (i : ℕ). put ws i (words_of r)) (omega arith)

own_all : (ws : List ℕ) → Legal ws → Own ws 0 (count ws)
own_all ws l i p q = slot_known ws l i (omega arith)

-- a card with as many sets leaves the header of a legal table as it is, but for the desk
pub header_stays : (ws : List ℕ) → Legal ws → (c : Card) → length c.sets ≡ count ws → written ws c ≡ with_desk (written_rows ws c.sets) c.desk
unfolding written with_desk
header_stays ws l c e =
    ap (λ (v : List ℕ). written_rows (sets v desk_start (desk_words c.desk)) c.sets)
    (ap₂ (λ (a b : ℕ). set (set ws 0 a) 1 b) (sym l.known) e ∙ ap (λ (v : List ℕ). set v 1 (count ws)) (set-get_or ws 0 0) ∙ set-get_or ws 1 0)
    ∙ rows_apart ws c.desk c.sets

-- its own rows, and one of them changed
rows_own : (ws : List ℕ) → Legal ws → written_rows ws (records_of ws) ≡ ws
unfolding written_rows records_of
rows_own ws l = own_written ws 0 (count ws) (rw (zero-add (count ws)) l.room) (own_all ws l)

rows_one : (ws : List ℕ) → Legal ws → (k : ℕ) (r : Record) → k < count ws → written_rows ws (set (records_of ws) k r) ≡ put ws k (words_of r)
unfolding written_rows records_of
rows_one ws l k r h =
    one_written ws 0 k (count ws) r h (rw (zero-add (count ws)) l.room) (own_all ws l) ∙ ap (λ (i : ℕ). put ws i (words_of r)) (zero-add k)

-- a legal table's own sets, written back with a desk, are the table with that desk
pub written_desk : (ws : List ℕ) → Legal ws → (c : Card) → c.sets ≡ records_of ws → written ws c ≡ with_desk ws c.desk
written_desk ws l c e =
    header_stays ws l c (ap length e ∙ length_records ws) ∙ ap (λ (v : List ℕ). with_desk v c.desk) (ap (written_rows ws) e ∙ rows_own ws l)

-- and its own card changes nothing
pub written_own : (ws : List ℕ) → Legal ws → written ws (card_of ws) ≡ ws
written_own ws l = written_desk ws l (card_of ws) refl ∙ desk_stays ws (desk_there ws l)

-- with one of its sets changed, it is the table with that slot put, and the desk
pub written_one : (ws : List ℕ) → Legal ws → (c : Card) (k : ℕ) (r : Record) → c.sets ≡ set (records_of ws) k r → k < count ws
    → written ws c ≡ with_desk (put ws k (words_of r)) c.desk
written_one ws l c k r e h =
    header_stays ws l c (ap length e ∙ length-set (records_of ws) k r ∙ length_records ws)
    ∙ ap (λ (v : List ℕ). with_desk v c.desk) (ap (written_rows ws) e ∙ rows_one ws l k r h)

-- ---- a rule on every set: a turn of the loop

-- what is left to do from slot i on
abbrev pub left_to_do : (Record → Record) → List ℕ → ℕ → ℕ → List ℕ
left_to_do f ws n i = written_from ws i (map f (later ws n i))

pub all_start : (f : Record → Record) (ws : List ℕ) (n : ℕ) → n ≡ count ws → left_to_do f ws n 0 ≡ written_rows ws (map f (records_of ws))
unfolding written_rows
all_start f ws n e = ap (λ (rs : List Record). written_from ws 0 (map f rs)) (later_all ws n e)

pub all_end : (f : Record → Record) (ws : List ℕ) (n i : ℕ) → n ≤ i → left_to_do f ws n i ≡ ws
all_end f ws n i h = rw (later_none ws n i h)

pub all_turn : (f : Record → Record) (ws : List ℕ) (n i : ℕ) → i < n → left_to_do f (put ws i (words_of (f (record_of (row ws i))))) n (i + 1) ≡ left_to_do f ws n i
all_turn f ws n i h =
    let r = f (record_of (row ws i)) in
    rw (later_more ws n i h, add-one, rows_other ws i (words_of r) (length_words r) (suc i) (n - suc i) (omega arith))

-- the record that was loaded, the record that the rule made of it, and the table that has it
pub all_again :
    (f : Record → Record) (ws : List ℕ) (n i : ℕ) (goal : List ℕ) → left_to_do f ws n i ≡ goal → i < n → (r x : Record) (vs : List ℕ)
    → r ≡ record_of (row ws i) → x ≡ f r → vs ≡ put ws i (words_of x) → left_to_do f vs n (i + 1) ≡ goal
all_again f ws n i goal inv h r x vs er ex ev = rw (ev, ex, er) (all_turn f ws n i h ∙ inv)

-- ---- what is read back

from_length : (ws : List ℕ) (j : ℕ) (rs : List Record) → length (written_from ws j rs) ≡ length ws
from_length ws j [] = refl
from_length ws j (r ∷ rs) = from_length (put ws j (words_of r)) (suc j) rs ∙ length_put ws j (words_of r) (length_words r)

pub length_rows_written : (ws : List ℕ) (rs : List Record) → length (written_rows ws rs) ≡ length ws
unfolding written_rows
length_rows_written ws rs = from_length ws 0 rs

pub length_written : (ws : List ℕ) (c : Card) → length (written ws c) ≡ length ws
unfolding written
length_written ws c = length_rows_written (sets ws 0 (header c)) c.sets ∙ length-sets ws 0 (header c)

from_header : (ws : List ℕ) (j : ℕ) (rs : List Record) (k : ℕ) → k < header_words → get_or (written_from ws j rs) k 0 ≡ get_or ws k 0
from_header ws j [] k h = refl
from_header ws j (r ∷ rs) k h = from_header (put ws j (words_of r)) (suc j) rs k h ∙ header_put ws j (words_of r) (length_words r) k h

from_rest : (ws : List ℕ) (j n : ℕ) (rs : List Record) → j + length rs ≤ n → drop (row_start n) (written_from ws j rs) ≡ drop (row_start n) ws
from_rest ws j n [] h = refl
from_rest ws j n (r ∷ rs) h =
    from_rest (put ws j (words_of r)) (suc j) n rs (omega arith) ∙ rest_put ws j (words_of r) (length_words r) n (omega arith)

below : (ws : List ℕ) (j i : ℕ) (rs : List Record) → i < j → row (written_from ws j rs) i ≡ row ws i
below ws j i [] h = refl
below ws j i (r ∷ rs) h =
    below (put ws j (words_of r)) (suc j) i rs (omega arith) ∙ row_other ws j (words_of r) (length_words r) i (λ e. omega arith)

from_rows : (ws : List ℕ) (j : ℕ) (rs : List Record) → row_start (j + length rs) ≤ length ws → rows_from (written_from ws j rs) j (length rs) ≡ map words_of rs
from_rows ws j [] h = refl
from_rows ws j (r ∷ rs) h =
    let a = words_of r in
    let w = length_words r in
    ap₂ ◌∷◌
    (below (put ws j a) (suc j) j rs (omega arith) ∙ row_same ws j a w (omega arith))
    (from_rows (put ws j a) (suc j) rs (omega (arith, length_put ws j a w)))

records_back : (p : ℕ) (rs : List Record) → legal_sets p rs ≡ true → map record_of (map words_of rs) ≡ rs
records_back p [] h = refl
records_back p (r ∷ rs) h =
    let q = both (legal_record r && ltb p (id_of r)) _ h in
    ap₂ ◌∷◌ (record_back r (both (legal_record r) _ q.0).0) (records_back (id_of r) rs q.1)

-- a card that these words have room for: some sets, not too many, legal and rising
pub record Fitting (ws : List ℕ) (c : Card) : Type 0 where
  pub range : in_range max_sets (length c.sets) ≡ true
  pub legal : legal_sets 0 c.sets ≡ true
  pub room : row_start (length c.sets) ≤ length ws
  pub desk : legal_desk c.desk ≡ true

-- it is read back, the table is legal, and the words past it are as they were
module _ (ws : List ℕ) (c : Card) (f : Fitting ws c) where
  headed : List ℕ
  headed = sets ws 0 (header c)

  headed_long : length headed ≡ length ws
  unfolding headed
  headed_long = length-sets ws 0 (header c)

  headed_layout : layout headed ≡ layout_number
  unfolding headed
  headed_layout =
      get_d_sets (desk_words c.desk) (set (set ws 0 layout_number) 1 (length c.sets)) desk_start 0 (inl (omega arith))
      ∙ get_or-set_other (set ws 0 layout_number) 1 0 (length c.sets) 0 (λ e. omega arith) ∙ get_or-set_same ws 0 layout_number 0 (omega (arith, f.room))

  headed_count : count headed ≡ length c.sets
  unfolding headed
  headed_count =
      get_d_sets (desk_words c.desk) (set (set ws 0 layout_number) 1 (length c.sets)) desk_start 1 (inl (omega arith))
      ∙ get_or-set_same (set ws 0 layout_number) 1 (length c.sets) 0 (omega (arith, f.room, length-set ws 0 layout_number))

  headed_desk : desk_part headed ≡ desk_words c.desk
  unfolding headed
  headed_desk =
      let v = set (set ws 0 layout_number) 1 (length c.sets) in
      let n : length v ≡ length ws = length-set (set ws 0 layout_number) 1 (length c.sets) ∙ length-set ws 0 layout_number in
      desk_held_lem v c.desk (omega (arith, f.room, n))

  written_layout : layout (written ws c) ≡ layout_number
  unfolding written written_rows headed
  written_layout = from_header headed 0 c.sets 0 (omega arith) ∙ headed_layout

  written_count : count (written ws c) ≡ length c.sets
  unfolding written written_rows headed
  written_count = from_header headed 0 c.sets 1 (omega arith) ∙ headed_count

  written_rows_lem : rows (written ws c) ≡ map words_of c.sets
  unfolding written written_rows headed
  written_rows_lem = rw written_count (from_rows headed 0 c.sets (omega (arith, f.room, headed_long)))

  desk_back : desk_part (written ws c) ≡ desk_words c.desk
  unfolding written written_rows headed
  desk_back = desk_from headed 0 c.sets ∙ headed_desk

  records_read : records_of (written ws c) ≡ c.sets
  unfolding records_of
  records_read = ap (map record_of) written_rows_lem ∙ records_back 0 c.sets f.legal

  desk_read : desk_at (written ws c) ≡ c.desk
  unfolding desk_at
  desk_read = ap desk_in desk_back ∙ (legal_desks c.desk f.desk).back

  pub written_back : card_of (written ws c) ≡ c
  written_back = ap₂ card_with records_read desk_read

  pub written_legal : legal_table (written ws c) ≡ true
  unfolding legal_table
  written_legal =
      together (sized (written ws c) && desk_legal (desk_part (written ws c))) _
      (together (sized (written ws c)) _
      (rw (written_layout, written_count, length_written ws c, f.range) (le-leb _ _ f.room))
      (ap desk_legal desk_back ∙ (legal_desks c.desk f.desk).legal))
      (rw written_rows_lem (rows_of_sets 0 c.sets f.legal))

  pub written_rest : drop (row_start (length c.sets)) (written ws c) ≡ drop (row_start (length c.sets)) ws
  unfolding written written_rows
  written_rest =
      from_rest (sets ws 0 (header c)) 0 (length c.sets) c.sets (omega arith) ∙ drop_sets (header c) ws 0 (row_start (length c.sets)) (omega arith)

-- as many sets as a legal table has, legal and rising, fit there with a legal desk
pub fitting : (ws : List ℕ) → Legal ws → (c : Card) → length c.sets ≡ count ws → legal_sets 0 c.sets ≡ true → legal_desk c.desk ≡ true → Fitting ws c
fitting ws l c e h d =
    record {
      range = rw e (together (leb 1 (count ws)) _ (le-leb _ _ l.some) (le-leb _ _ l.few));
      legal = h;
      room = rw e l.room;
      desk = d;
    }

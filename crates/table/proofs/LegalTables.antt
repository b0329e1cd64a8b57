-- What a legal table gives: its size, and of each slot a legal row.
use mathlib.Core.Path.{◌≡◌, refl, sym}
use mathlib.Core.Bool.{Bool, true, false, ◌&&◌, and-false}
use mathlib.Core.List.{List, [], ◌∷◌, map}
use Prim.Native.Nat.{ℕ, zero, suc, ◌≤◌, ◌<◌}
use native.Mathlib.Omega.{arith}
use native.Mathlib.Nat.{not-suc-le-zero}
use borrow.Author.Tests.{leb-true, eqb-true, lt-leb}
use lib.Dec.{ltb, leb, eqb}
use lib.ListN.{length, get_or, length-map, length-take, length-drop}
use Rattle.octets.proofs.JoinedTests.{both}
use Rattle.record.specs.declared.Record.{Record}
use Rattle.record.specs.Legal.{in_range, legal_record}
use Rattle.std.specs.Prelude.{if◌then◌else◌, is_some, Option, None, Some, Result, Ok, Err}
use Rattle.std.specs.Option.{ok_or}
use Rattle.record.specs.declared.Slot.{Slot}
use Rattle.table.specs.declared.Absent.{Absent}
use Rattle.table.specs.declared.Absent.TheVariants.{BadTable, NoSet}
use Rattle.table.specs.Layout.{words_of, record_of}
use Rattle.record.specs.Parts.{id_of}
use Rattle.desk.specs.Words.{desk_legal, WordsOfDesk}
use Rattle.desk.proofs.LegalDesks.{legal_words}
use Rattle.table.specs.Card.{layout_number, header_words}
use Rattle.table.specs.Table.{layout, count, desk_part, DeskThere, row_start, row, rows, records_of, legal_row, legal_after, legal_rows, legal_sets, room_for, sized, extent_of, legal_table, Legal, find_in, entry_of, enter_in, max_sets}
use Rattle.table.proofs.Records.{Row, row_of, words_legal_lem, record_back}
use Rattle.table.proofs.Slots.{row_at, length_rows}

pub record Sized (ws : List ℕ) : Type 0 where
  pub known : layout ws ≡ layout_number
  pub some : 1 ≤ count ws
  pub few : count ws ≤ max_sets
  pub room : row_start (count ws) ≤ length ws

pub sized_known : (ws : List ℕ) → sized ws ≡ true → Sized ws
sized_known ws h =
    let l = both (eqb (layout ws) layout_number) _ h in
    let p = both (in_range max_sets (count ws)) _ l.1 in
    let q = both (leb 1 (count ws)) _ p.0 in
    record { known = eqb-true _ _ l.0; some = leb-true _ _ q.0; few = leb-true _ _ q.1; room = leb-true _ _ p.1 }

-- how the code finds it out
pub some_extent : (n room : ℕ) → is_some (extent_of n room) ≡ room_for n room
some_extent n room = by (room_for n room)
  where
    by : (b : Bool) → is_some (if b then Some (row_start n) else None) ≡ b
    by true = refl
    by false = refl

pub sized_short : (ws : List ℕ) → length ws < header_words → sized ws ≡ false
sized_short ws h = rw (lt-leb (row_start (count ws)) (length ws) (omega arith), and-false, and-false)

pub legal_known : (ws : List ℕ) → legal_table ws ≡ true → Legal ws
unfolding legal_table
legal_known ws h =
    let p = both (sized ws && desk_legal (desk_part ws)) _ h in
    let q = both (sized ws) _ p.0 in
    let s = sized_known ws q.0 in
    record { known = s.known; some = s.some; few = s.few; room = s.room; desk = q.1; legal = h }

pub desk_there : (ws : List ℕ) → Legal ws → DeskThere ws
desk_there ws l = record { room = omega (arith, l.room); legal = l.desk }

-- the words of its desk
pub desk_words_lem : (ws : List ℕ) → DeskThere ws → WordsOfDesk (desk_part ws)
desk_words_lem ws t = legal_words (desk_part ws) (simp (length-take, length-drop) (omega (arith, t.room))) t.legal

pub rows_known : (ws : List ℕ) → Legal ws → legal_rows 0 (rows ws) ≡ true
unfolding legal_table
rows_known ws l = (both (sized ws && desk_legal (desk_part ws)) _ l.legal).1

legal_at : (p k : ℕ) (rs : List (List ℕ)) → legal_rows p rs ≡ true → k < length rs → legal_row (get_or rs k []) ≡ true
legal_at p k [] h l = absurd (not-suc-le-zero l)
legal_at p zero (a ∷ rs) h l = (both (legal_row a) _ (both (legal_after p a) _ h).0).0
legal_at p (suc k) (a ∷ rs) h l = legal_at (id_of (record_of a)) k rs (both (legal_after p a) _ h).1 (omega arith)

-- each slot of a legal table holds a legal row: the words of a legal record
pub slot_legal : (ws : List ℕ) → Legal ws → (k : ℕ) → k < count ws → legal_row (row ws k) ≡ true
slot_legal ws l k h = rw (row_at ws k h) at (legal_at 0 k (rows ws) (rows_known ws l) (omega (arith, length_rows ws 0 (count ws))))

pub slot_known : (ws : List ℕ) → Legal ws → (k : ℕ) → k < count ws → Row (row ws k)
slot_known ws l k h = row_of (row ws k) (slot_legal ws l k h)

-- there are as many records as the header says
pub length_records : (ws : List ℕ) → length (records_of ws) ≡ count ws
unfolding records_of
length_records ws = simp length-map (length_rows ws 0 (count ws))

-- ---- legality of rows is that of their records

sets_of_rows : (p : ℕ) (rs : List (List ℕ)) → legal_rows p rs ≡ true → legal_sets p (map record_of rs) ≡ true
sets_of_rows p [] h = refl
sets_of_rows p (a ∷ rs) h =
    let q = both (legal_after p a) _ h in
    let s = both (legal_row a) _ q.0 in
    rw ((row_of a s.0).legal, s.1) (sets_of_rows (id_of (record_of a)) rs q.1)

pub rows_of_sets : (p : ℕ) (rs : List Record) → legal_sets p rs ≡ true → legal_rows p (map words_of rs) ≡ true
rows_of_sets p [] h = refl
rows_of_sets p (r ∷ rs) h =
    let q = both (legal_record r && ltb p (id_of r)) _ h in
    let s = both (legal_record r) _ q.0 in
    rw (words_legal_lem r s.0, record_back r s.0, s.1) (rows_of_sets (id_of r) rs q.1)

pub sets_known : (ws : List ℕ) → Legal ws → legal_sets 0 (records_of ws) ≡ true
unfolding records_of
sets_known ws l = sets_of_rows 0 (rows ws) (rows_known ws l)

-- ---- the way into an item

module _ (ws : List ℕ) (id : ℕ) where
  pub enter_bad : legal_table ws ≡ false → Err BadTable ≡ enter_in ws id
  unfolding enter_in
  enter_bad e = rw e

  pub enter_found : (f : Option Slot) → legal_table ws ≡ true → f ≡ find_in ws id → entry_of f ≡ enter_in ws id
  unfolding enter_in
  enter_found f e q = rw (e, q)

pub ok_or_entry : (f : Option Slot) → ok_or f NoSet ≡ entry_of f
ok_or_entry (Some s) = refl
ok_or_entry None = refl

-- what each way in tells
bad_here : (s : Slot) → ◌≡◌ {A = Result Slot Absent} (Err BadTable) (Ok s) → ⊥
bad_here s e = let z : ◌≡◌ {A = ℕ} 0 1 = cc in omega arith

bad_unknown : ◌≡◌ {A = Result Slot Absent} (Err BadTable) (Err NoSet) → ⊥
bad_unknown e = let z : ◌≡◌ {A = ℕ} 0 1 = cc in omega arith

unknown_here : (s : Slot) → ◌≡◌ {A = Result Slot Absent} (Err NoSet) (Ok s) → ⊥
unknown_here s e = let z : ◌≡◌ {A = ℕ} 0 1 = cc in omega arith

opened_bad : (b : Bool) (f : Option Slot) → (if b then entry_of f else Err BadTable) ≡ Err BadTable → b ≡ false
opened_bad true (Some s) e = absurd (bad_here s (sym e))
opened_bad true None e = absurd (bad_unknown (sym e))
opened_bad false f e = refl

opened_unknown : (b : Bool) (f : Option Slot) → (if b then entry_of f else Err BadTable) ≡ Err NoSet → (b ≡ true) × (f ≡ None)
opened_unknown true (Some s) e = absurd (unknown_here s (sym e))
opened_unknown true None e = (refl, refl)
opened_unknown false f e = absurd (bad_unknown e)

opened_here : (b : Bool) (f : Option Slot) (s : Slot) → (if b then entry_of f else Err BadTable) ≡ Ok s → (b ≡ true) × (f ≡ Some s)
opened_here true (Some t) s e = (refl, cc)
opened_here true None s e = absurd (unknown_here s e)
opened_here false f s e = absurd (bad_here s e)

module _ (ws : List ℕ) (id : ℕ) where
  pub is_bad : enter_in ws id ≡ Err BadTable → legal_table ws ≡ false
  unfolding enter_in
  is_bad e = opened_bad (legal_table ws) (find_in ws id) e

  pub is_unknown : enter_in ws id ≡ Err NoSet → (legal_table ws ≡ true) × (find_in ws id ≡ None)
  unfolding enter_in
  is_unknown e = opened_unknown (legal_table ws) (find_in ws id) e

  pub is_here : (s : Slot) → enter_in ws id ≡ Ok s → (legal_table ws ≡ true) × (find_in ws id ≡ Some s)
  unfolding enter_in
  is_here s e = opened_here (legal_table ws) (find_in ws id) s e

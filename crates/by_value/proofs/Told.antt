-- The desk told at an item's end, after the records that the item changed were stored: rows leave it alone, so it is told of its own words.
use mathlib.Core.Path.{◌≡◌, sym, ap, ◌∙◌}
use mathlib.Core.Bool.{Bool, false, ◌||◌, or-false, or_assoc}
use mathlib.Core.List.{List, map}
use Prim.Native.Nat.{ℕ, suc, ◌+◌, ◌-◌, ◌≤◌, ◌<◌}
use native.Mathlib.Omega.{arith}
use native.Mathlib.Numerals.{add-one}
use Rattle.record.specs.declared.Slot.{Slot}
use Rattle.record.specs.declared.Record.{Record}
use Rattle.record.specs.Event.{newly_listed}
use Rattle.replies.specs.Answers.{Notice}
use Rattle.desk.specs.Desk.{settle}
use Rattle.desk.specs.Words.{desk_legal}
use Rattle.table.specs.declared.Absent.{Absent}
use Rattle.std.specs.Prelude.{Result, Ok}
use Rattle.table.specs.Layout.{words_of, record_of}
use Rattle.table.specs.Table.{count, row, put, records_of, desk_part, desk_at, DeskThere, Tells, enter_in, written_rows, newly}
use Rattle.table.proofs.Records.{length_words}
use Rattle.table.proofs.Slots.{rows_other}
use Rattle.table.proofs.LegalTables.{legal_known, desk_there, is_here}
use Rattle.table.proofs.Turns.{later, later_none, later_more, later_all}
use Rattle.table.proofs.Desks.{desk_from, there_put, same_desk, desk_at_put}
use Rattle.table.proofs.Written.{length_rows_written}

-- ---- the desk is there

-- of an item that names a set, which was found
pub entered_desk : (ws : List ℕ) (id : ℕ) (e : Result Slot Absent) (s : Slot) → e ≡ enter_in ws id → e ≡ Ok s → DeskThere ws
entered_desk ws id e s known q = desk_there ws (legal_known ws (is_here ws id s (sym known ∙ q)).0)

-- with its record stored
pub stored_desk : (ws : List ℕ) (k : ℕ) (x : Record) (us : List ℕ) → us ≡ put ws k (words_of x) → DeskThere ws → DeskThere us
stored_desk ws k x us e t = rw e (there_put ws k (words_of x) (length_words x) t)

-- and with all records stored
rows_part : (ws : List ℕ) (rs : List Record) → desk_part (written_rows ws rs) ≡ desk_part ws
unfolding written_rows
rows_part ws rs = desk_from ws 0 rs

pub rows_desk : (ws : List ℕ) (rs : List Record) (us : List ℕ) → us ≡ written_rows ws rs → DeskThere ws → DeskThere us
rows_desk ws rs us e t =
    rw e (record { room = omega (arith, length_rows_written ws rs, t.room); legal = ap desk_legal (rows_part ws rs) ∙ t.legal })

-- ---- what it is told

module _ (ws us vs : List ℕ) (new : Bool) (n : Notice) (t : Tells us (settle new (desk_at us)) vs n) where
  -- of the one record that was stored
  pub told_put :
      (k : ℕ) (r x : Record) → us ≡ put ws k (words_of x) → new ≡ newly_listed r x
      → Tells (put ws k (words_of x)) (settle (newly_listed r x) (desk_at ws)) vs n
  told_put k r x eu en = rw (eu, en, desk_at_put ws k (words_of x) (length_words x)) at t

  -- of all records
  pub told_rows :
      (rs xs : List Record) → us ≡ written_rows ws xs → new ≡ newly rs xs
      → Tells (written_rows ws xs) (settle (newly rs xs) (desk_at ws)) vs n
  told_rows rs xs eu en = rw (eu, en, same_desk ws (written_rows ws xs) (rows_part ws xs)) at t

-- ---- whether some set was listed, asked of one record after the other: a turn of the loop

-- what was found before slot i, and what is left to ask from there on
abbrev pub listing : (Record → Record) → List ℕ → ℕ → ℕ → Bool → Bool
listing f ws n i new = new || newly (later ws n i) (map f (later ws n i))

pub listing_start : (f : Record → Record) (ws : List ℕ) (n : ℕ) → n ≡ count ws → listing f ws n 0 false ≡ newly (records_of ws) (map f (records_of ws))
listing_start f ws n e = rw (later_all ws n e)

pub listing_end : (f : Record → Record) (ws : List ℕ) (n i : ℕ) (new goal : Bool) → listing f ws n i new ≡ goal → n ≤ i → new ≡ goal
listing_end f ws n i new goal inv h = sym (or-false new) ∙ (rw (later_none ws n i h) at inv)

-- the rows after a slot whose record was stored
later_stays : (ws : List ℕ) (n i : ℕ) (x : Record) → later (put ws i (words_of x)) n (i + 1) ≡ later ws n (i + 1)
later_stays ws n i x = rw (add-one, rows_other ws i (words_of x) (length_words x) (suc i) (n - suc i) (omega arith))

-- the record that was loaded, the record that the rule made of it, whether that listed its set, and the table that has it
pub listing_again :
    (f : Record → Record) (ws : List ℕ) (n i : ℕ) (new goal : Bool) → listing f ws n i new ≡ goal → i < n → (r x : Record) (found : Bool) (vs : List ℕ)
    → r ≡ record_of (row ws i) → x ≡ f r → found ≡ newly_listed r x → vs ≡ put ws i (words_of x) → listing f vs n (i + 1) (new || found) ≡ goal
listing_again f ws n i new goal inv h r x found vs er ex ef ev =
    let q : listing f ws n (i + 1) (new || newly_listed (record_of (row ws i)) (f (record_of (row ws i)))) ≡ goal
    = or_assoc new _ _ ∙ (rw (later_more ws n i h) at inv) in
    rw (ev, later_stays ws n i x, ef, ex, er) q

-- A legal row and its record determine each other.
use mathlib.Core.Path.{◌≡◌, refl, ◌∙◌}
use mathlib.Core.Bool.{Bool, true, false}
use mathlib.Core.List.{List}
use Prim.Native.Nat.{ℕ}
use lib.Dec.{eqb}
use lib.ListN.{length}
use Rattle.octets.proofs.JoinedTests.{both, together}
use Rattle.record.specs.declared.Window.{Window}
use Rattle.record.specs.declared.Window.TheVariants.{Off, D, N}
use Rattle.record.specs.declared.Record.{Record}
use Rattle.record.specs.Windows.{window_no}
use Rattle.record.specs.Event.{bit}
use Rattle.record.specs.Legal.{legal_record}
use Rattle.record.proofs.EventBits.{events_back}
use Rattle.table.specs.Layout.{row_words, words_of, window_in, record_of}
use Rattle.table.specs.Table.{same_words, legal_row}
use Rattle.table.proofs.SameWords.{same_equal, same_self}
use Rattle.table.proofs.HeldWords.{words_of_record, held}

pub length_words : (r : Record) → length (words_of r) ≡ row_words
unfolding words_of
length_words r = refl

window_back : (w : Window) → window_in (window_no w) ≡ w
window_back Off = refl
window_back D = refl
window_back N = refl

bit_back : (b : Bool) → eqb (bit b) 1 ≡ b
bit_back true = refl
bit_back false = refl

-- a legal record is read back from its words
pub record_back : (r : Record) → legal_record r ≡ true → record_of (words_of r) ≡ r
unfolding words_of record_of
record_back r h =
    let f = held (words_of r) (words_of_record r ∙ h) in
    rw (f.id, f.group, f.random, f.optimal, f.reads_typical, f.writes_typical, f.time_maximum, f.high, f.low, f.reads, f.writes, f.time, f.recovery, f.need, window_back r.state.window, events_back r.state.config.enabled, events_back r.notes.events, bit_back r.notes.listed)

-- what a legal row is
pub record Row (a : List ℕ) : Type 0 where
  pub words : a ≡ words_of (record_of a)
  pub legal : legal_record (record_of a) ≡ true

pub row_of : (a : List ℕ) → legal_row a ≡ true → Row a
unfolding legal_row
row_of a h =
    let p = both (same_words a (words_of (record_of a))) _ h in
    record { words = same_equal a (words_of (record_of a)) p.0; legal = p.1 }

-- the words of a legal record are a legal row
pub words_legal_lem : (r : Record) → legal_record r ≡ true → legal_row (words_of r) ≡ true
unfolding legal_row
words_legal_lem r h =
    let e = record_back r h in
    together (same_words (words_of r) (words_of (record_of (words_of r)))) _ (rw e (same_self (words_of r))) (rw e h)

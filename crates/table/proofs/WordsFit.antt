-- What is written into a table of words are words: numbers below 2^64.
use mathlib.Core.Path.{◌≡◌}
use mathlib.Core.Bool.{Bool, true, false}
use mathlib.Core.List.{List, [], ◌∷◌, map}
use Prim.Native.Nat.{ℕ, zero, suc, ◌%◌, ◌^◌, ◌≤◌, ◌<◌}
use native.Mathlib.Omega.{arith}
use native.Mathlib.Nat.{mod-lt}
use borrow.Author.Tests.{leb-true}
use lib.Dec.{lit<, leb}
use lib.ListN.{length, get_or}
use lib.Seq.{sets}
use Rattle.octets.specs.Words.{AllWords}
use Rattle.octets.proofs.Below.{Each, each_below, sets_below, part_below}
use Rattle.desk.specs.Words.{desk_words}
use Rattle.desk.specs.Desk.{Desk, requests_maximum, identifier_maximum, all_identifiers, legal_desk}
use Rattle.desk.proofs.LegalDesks.{fine}
use Rattle.octets.proofs.JoinedTests.{both}
use Rattle.record.specs.declared.Events.{Events}
use Rattle.record.specs.declared.Window.{Window}
use Rattle.record.specs.declared.Window.TheVariants.{Off, D, N}
use Rattle.record.specs.declared.Record.{Record}
use Rattle.record.specs.Parts.{id_of}
use Rattle.record.specs.Windows.{window_no}
use Rattle.record.specs.Event.{bit, bits_of}
use Rattle.record.specs.Legal.{legal_record}
use Rattle.table.specs.Layout.{row_words, words_of, record_of}
use Rattle.table.specs.Card.{Card, header}
use Rattle.table.specs.Table.{count, row_start, row, rows_from, put, records_of, legal_row, legal_after, legal_rows, legal_table, written_from, written_rows, written}
use Rattle.table.proofs.HeldWords.{words_of_record, held}
use Rattle.table.proofs.Records.{row_of}
use Rattle.table.proofs.LegalTables.{legal_known, rows_known}

-- what legality does not bound: the capacities and the thresholds
pub record Fits (r : Record) : Type 0 where
  pub total_low : r.attributes.total.low < 2 ^ 64
  pub total_high : r.attributes.total.high < 2 ^ 64
  pub unallocated_low : r.attributes.unallocated.low < 2 ^ 64
  pub unallocated_high : r.attributes.unallocated.high < 2 ^ 64
  pub reads : r.state.config.thresholds.reads < 2 ^ 64
  pub writes : r.state.config.thresholds.writes < 2 ^ 64
  pub time : r.state.config.thresholds.time < 2 ^ 64

-- of a record whose words are words
pub fits_of : (r : Record) → AllWords (words_of r) → Fits r
unfolding words_of
fits_of r each =
    record {
      total_low = each 4;
      total_high = each 5;
      unallocated_low = each 6;
      unallocated_high = each 7;
      reads = each 14;
      writes = each 15;
      time = each 16;
    }

bit_small : (b : Bool) → bit b ≤ 1
bit_small true = omega arith
bit_small false = omega arith

bits_small : (e : Events) → bits_of e < 2 ^ 64
bits_small e =
    omega (arith, bit_small e.reads, bit_small e.writes, bit_small e.time, bit_small e.exceeded, bit_small e.excursion)

window_small : (w : Window) → window_no w < 2 ^ 64
window_small Off = omega arith
window_small D = omega arith
window_small N = omega arith

mark_small : (b : Bool) → bit b < 2 ^ 64
mark_small b = omega (arith, bit_small b)

short : (x : ℕ) → x % 2 ^ 16 ≡ x → x < 2 ^ 64
short x e = let l : x % 2 ^ 16 < 2 ^ 16 = mod-lt x (omega arith) in omega (arith, l, e)

narrow : (x : ℕ) → x % 2 ^ 32 ≡ x → x < 2 ^ 64
narrow x e = let l : x % 2 ^ 32 < 2 ^ 32 = mod-lt x (omega arith) in omega (arith, l, e)

-- the words of a legal record are words
pub words_fit : (r : Record) → legal_record r ≡ true → Fits r → AllWords (words_of r)
unfolding words_of
words_fit r l f =
    let h = held (words_of r) (rw (words_of_record r) l) in
    each_below (2 ^ 64) (lit< tt) (words_of r) (
      short _ h.id,
      (
        short _ h.group,
        (
          narrow _ h.random,
          (
            narrow _ h.optimal,
            (
              f.total_low,
              (
                f.total_high,
                (
                  f.unallocated_low,
                  (
                    f.unallocated_high,
                    (
                      narrow _ h.reads_typical,
                      (
                        narrow _ h.writes_typical,
                        (
                          narrow _ h.time_maximum,
                          (
                            narrow _ h.high,
                            (
                              narrow _ h.low,
                              (
                                bits_small r.state.config.enabled,
                                (
                                  f.reads,
                                  (
                                    f.writes,
                                    (
                                      f.time,
                                      (
                                        window_small r.state.window,
                                        (
                                          narrow _ h.reads,
                                          (
                                            narrow _ h.writes,
                                            (
                                              narrow _ h.time,
                                              (
                                                narrow _ h.recovery,
                                                (narrow _ h.need, (bits_small r.notes.events, (mark_small r.notes.listed, tt))),
                                              ),
                                            ),
                                          ),
                                        ),
                                      ),
                                    ),
                                  ),
                                ),
                              ),
                            ),
                          ),
                        ),
                      ),
                    ),
                  ),
                ),
              ),
            ),
          ),
        ),
      ),
    )

-- ---- the records of a table of words

abbrev pub AllFit : List Record → Type 0
AllFit [] = Unit {0}
AllFit (r ∷ rs) = AllWords (words_of r) × AllFit rs

rows_fit : (ws : List ℕ) → AllWords ws → (p slot n : ℕ) → legal_rows p (rows_from ws slot n) ≡ true → AllFit (map record_of (rows_from ws slot n))
rows_fit ws each p slot zero h = tt
rows_fit ws each p slot (suc n) h =
    let a = row ws slot in
    let q = both (legal_after p a) _ h in
    let own = (row_of a (both (legal_row a) _ q.0).0).words in
    (rw (← own) (part_below (2 ^ 64) (lit< tt) ws (row_start slot) row_words each), rows_fit ws each (id_of (record_of a)) (suc slot) n q.1)

pub records_fit : (ws : List ℕ) → legal_table ws ≡ true → AllWords ws → AllFit (records_of ws)
unfolding records_of
records_fit ws e each = rows_fit ws each 0 0 (count ws) (rows_known ws (legal_known ws e))

-- ---- written into a table

from_fit : (ws : List ℕ) (j : ℕ) (rs : List Record) → AllWords ws → AllFit rs → AllWords (written_from ws j rs)
from_fit ws j [] each fit = each
from_fit ws j (r ∷ rs) each fit = from_fit (put ws j (words_of r)) (suc j) rs (sets_below (2 ^ 64) (words_of r) ws (row_start j) fit.0 each) fit.1

-- an identifier is a word, and so is what stands where there is none
id_small : (ids : List ℕ) (k : ℕ) → all_identifiers ids ≡ true → get_or ids k 0 < 2 ^ 64
id_small [] k h = lit< tt
id_small (x ∷ xs) zero h = let l = leb-true x identifier_maximum (both (leb x identifier_maximum) (all_identifiers xs) h).0 in omega arith
id_small (x ∷ xs) (suc k) h = id_small xs k (both (leb x identifier_maximum) (all_identifiers xs) h).1

desk_each : (d : Desk) → legal_desk d ≡ true → Each (2 ^ 64) (desk_words d)
desk_each d h =
    let f = fine d h in
    let n : length d.waiting < 2 ^ 64 = let l = leb-true (length d.waiting) requests_maximum f.few in omega arith in
    let id : (k : ℕ) → get_or d.waiting k 0 < 2 ^ 64 = λ k. id_small d.waiting k f.ids in
    (mark_small d.on, (mark_small d.masked, (mark_small d.flag, (n, (id 0, (id 1, (id 2, (id 3, tt))))))))

pub desk_fit : (d : Desk) → legal_desk d ≡ true → AllWords (desk_words d)
desk_fit d h = each_below (2 ^ 64) (lit< tt) (desk_words d) (desk_each d h)

header_fit : (c : Card) → length c.sets < 2 ^ 64 → legal_desk c.desk ≡ true → Each (2 ^ 64) (header c)
header_fit c few h =
    (lit< tt, (few, desk_each c.desk h))

pub written_fit : (ws : List ℕ) (c : Card) → AllWords ws → length c.sets < 2 ^ 64 → AllFit c.sets → legal_desk c.desk ≡ true → AllWords (written ws c)
unfolding written written_rows
written_fit ws c each few fit h =
    from_fit (sets ws 0 (header c)) 0 c.sets
    (sets_below (2 ^ 64) (header c) ws 0 (each_below (2 ^ 64) (lit< tt) (header c) (header_fit c few h)) each) fit

-- The words of a region: a run of them, a row of them, and a row put back.
use mathlib.Core.Path.{◌≡◌, ap, ◌∙◌}
use mathlib.Core.List.{List}
use Prim.Native.Nat.{ℕ, ◌+◌, ◌*◌, ◌/◌, ◌≤◌}
use native.Mathlib.Omega.{arith}
use lib.ListN.{length}
use lib.Seq.{sets}
use Rattle.octets.specs.Octets.{part, AllBytes}
use Rattle.octets.specs.Words.{word_size, AllWords, words_from, put_words}
use Rattle.octets.proofs.CellWords.{length_all, all_fit, part_all, run_all, own_all, all_back}
use Rattle.table.specs.Layout.{row_words}
use Rattle.table.specs.Table.{Tells, row_start, row, put}
use Rattle.replies.specs.Answers.{Notice}
use Rattle.desk.specs.Desk.{Told}
use Rattle.region.specs.Region.{table_in, table_out, TellsAt}

-- ---- reading

pub length_in : (b : List ℕ) → length (table_in b) ≡ length b / word_size
length_in = length_all

pub words_in : (b : List ℕ) → AllBytes b → AllWords (table_in b)
words_in = all_fit

-- a run of words from one of them on
pub part_in : (b : List ℕ) (k n from : ℕ) → k + n ≤ length b / word_size → from ≡ k * word_size → words_from b from n ≡ part (table_in b) k n
part_in = part_all

pub row_in : (b : List ℕ) (slot from : ℕ) → row_start (slot + 1) ≤ length b / word_size → from ≡ row_start slot * word_size
    → words_from b from row_words ≡ row (table_in b) slot
row_in b slot from h e = part_in b (row_start slot) row_words from (omega arith) e

-- ---- writing

-- a run of words put from one of them on
pub run_out : (b xs : List ℕ) (k from : ℕ) → AllBytes b → k + length xs ≤ length b / word_size → from ≡ k * word_size → put_words b from xs ≡ table_out b (sets (table_in b) k xs)
run_out = run_all

pub row_out : (b xs : List ℕ) (slot from : ℕ) → AllBytes b → length xs ≡ row_words → row_start (slot + 1) ≤ length b / word_size → from ≡ row_start slot * word_size
    → put_words b from xs ≡ table_out b (put (table_in b) slot xs)
row_out b xs slot from each n h e = run_out b xs (row_start slot) from each (omega (arith, n)) e

-- a region's own words, put back
pub own_region : (b : List ℕ) → AllBytes b → table_out b (table_in b) ≡ b
own_region = own_all

-- other words, put there and read again: as many as the region has, and each a word
pub table_back : (b ws : List ℕ) → length ws ≡ length b / word_size → AllWords ws → table_in (table_out b ws) ≡ ws
table_back = all_back

-- ---- the desk

pub tells_at : (b : List ℕ) (t : Told) (vs after : List ℕ) (n : Notice) → Tells (table_in b) t vs n → after ≡ table_out b vs → TellsAt b t after n
tells_at b t vs after n h e = record { desk = e ∙ ap (table_out b) h.desk; sent = h.sent }

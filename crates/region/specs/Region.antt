-- 01: "there the table passes as its words' little-endian bytes"
use Rattle.std.specs.Prelude.{◌≡◌, List, ℕ, ◌/◌, length}
use Rattle.octets.specs.Words.{word_size, words_from, put_words}
use Rattle.replies.specs.Answers.{Notice}
use Rattle.desk.specs.Desk.{Told}
use Rattle.record.specs.declared.Record.{Record}
use Rattle.table.specs.Layout.{words_of, record_of}
use Rattle.table.specs.Table.{with_desk, row, put}

-- the words of a region: of a length that is no multiple of 8 the whole words count, and the rest is past the table
abbrev pub table_in : List ℕ → List ℕ
table_in region = words_from region 0 (length region / word_size)

-- the region with other words in their place
abbrev pub table_out : List ℕ → List ℕ → List ℕ
table_out region ws = put_words region 0 ws

-- ---- one slot

-- the record there, and the region with another one there
abbrev pub record_at : List ℕ → ℕ → Record
record_at region slot = record_of (row (table_in region) slot)

abbrev pub with_record : List ℕ → ℕ → Record → List ℕ
with_record region slot r = table_out region (put (table_in region) slot (words_of r))

-- ---- the desk

-- the desk after an item, in its place, and the notice that goes out
pub record TellsAt (region : List ℕ) (t : Told) (after : List ℕ) (notice : Notice) : Type 0 where
  pub desk : after ≡ table_out region (with_desk (table_in region) t.desk)
  pub sent : notice ≡ t.notice

-- A region that was written in place: it holds its new words, and past the last whole word the bytes that it held. So what the
-- functions of `table` promise of its words and of its rest is all there is to know of it.
use mathlib.Core.Path.{◌≡◌, ap, ◌∙◌}
use mathlib.Core.List.{List}
use Prim.Native.Nat.{ℕ, ◌*◌, ◌/◌}
use lib.ListN.{length, drop}
use Rattle.octets.specs.Octets.{AllBytes}
use Rattle.octets.specs.Words.{word_size}
use Rattle.octets.proofs.CellWords.{all_out}
use Rattle.replies.specs.Answers.{Notice}
use Rattle.desk.specs.Desk.{Told}
use Rattle.record.specs.declared.Record.{Record}
use Rattle.table.specs.Layout.{words_of}
use Rattle.table.specs.Table.{put, Tells}
use Rattle.region.specs.Region.{table_in, table_out, with_record, TellsAt}
use Rattle.region.proofs.Words.{tells_at}

module _
    (old new : List ℕ) (each : AllBytes new) (long : length new ≡ length old)
    (past : drop (length new / word_size * word_size) new ≡ drop (length old / word_size * word_size) old) where
  pub table_back : new ≡ table_out old (table_in new)
  table_back = all_out old new each long past

  -- with words that are known
  pub words_stored : (ws : List ℕ) → table_in new ≡ ws → new ≡ table_out old ws
  words_stored ws e = table_back ∙ ap (table_out old) e

  -- with a record in a slot
  pub record_stored : (slot : ℕ) (r : Record) → table_in new ≡ put (table_in old) slot (words_of r) → new ≡ with_record old slot r
  record_stored slot r e = words_stored _ e

  -- with the desk told
  pub told_stored : (t : Told) (n : Notice) → Tells (table_in old) t (table_in new) n → TellsAt old t new n
  told_stored t n h = tells_at old t (table_in new) new n h table_back

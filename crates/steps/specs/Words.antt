-- The step on the lent words.
use Rattle.std.specs.Prelude.{◌≡◌, List, ℕ, ◌≤◌, length, if◌then◌else◌, None, Result, Ok, Err}
use Rattle.replies.specs.Numbers.{success, bad_table}
use Rattle.replies.specs.declared.Reply.{Reply}
use Rattle.replies.specs.Answers.{Notice, Answer, refused, told_no, to_no, Replied}
use Rattle.record.specs.declared.Slot.{Slot}
use Rattle.table.specs.declared.Absent.{Absent}
use Rattle.table.specs.declared.Absent.TheVariants.{BadTable, NoSet}
use Rattle.table.specs.Table.{legal_table, written}
pub use Rattle.table.specs.Table.{card_of}
use Rattle.steps.specs.Items.{Item}
use Rattle.steps.specs.Card.{step}

-- the words afterwards, the answer, and the notice that may go beside it
pub record OutcomeWords : Type 0 where
  pub table : List ℕ
  pub answer : Answer
  pub notice : Notice

-- nothing changed, and a refusal
abbrev pub unchanged : List ℕ → ℕ → OutcomeWords
unchanged ws status = record { table = ws; answer = refused status; notice = None }

-- 01: "table not legal, or slice too short": 07C3h, and nothing changed. Else the card's step, written back.
unfoldable pub step_words : List ℕ → Item → OutcomeWords
step_words ws i =
    if legal_table ws
    then record { table = written ws (step (card_of ws) i).card; answer = (step (card_of ws) i).answer; notice = (step (card_of ws) i).notice }
    else unchanged ws bad_table

-- "table not legal" and "set not in the table", as the way in to an item tells them: the number for each case, where the item's own is
-- that of a set which is not there, and 0 where it is
abbrev pub entry_no : ℕ → Result Slot Absent → ℕ
entry_no unknown (Err BadTable) = bad_table
entry_no unknown (Err NoSet) = unknown
entry_no unknown (Ok slot) = success

-- What every item promises: the words that it leaves, its reply (status, dword 0, length of data, and the notice beside them, whose own
-- dword 0 is `notice_no` of it), and every byte of the answer buffer. A media event has no buffer: [] before and after.
pub record Answered (ws : List ℕ) (i : Item) (before : List ℕ) (r : Reply) (words buffer : List ℕ) : Type 0 where
  pub table : words ≡ (step_words ws i).table
  pub reply : Replied (step_words ws i).answer before r buffer
  pub notice : r.notice ≡ (step_words ws i).notice

-- The same where the written part is handed back: the buffer itself is lent on with it, so nothing can be said of the bytes after it.
-- The notice is handed on as two numbers: whether there is one, and the identifier of its request.
pub record Handed (ws : List ℕ) (i : Item) (room : ℕ) (words : List ℕ) (status dword told to : ℕ) (part : List ℕ) : Type 0 where
  pub table : words ≡ (step_words ws i).table
  pub status_is : status ≡ (step_words ws i).answer.status
  pub dword_is : dword ≡ (step_words ws i).answer.dword
  pub told_is : told ≡ told_no (step_words ws i).notice
  pub to_is : to ≡ to_no (step_words ws i).notice
  pub part_is : part ≡ (step_words ws i).answer.bytes
  pub within : length part ≤ room

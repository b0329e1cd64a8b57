-- 01, of the table's words: "words past it are neither read nor written".
-- Each is proved under its name, in snake case, in proofs/PastWords.antt.
use Rattle.std.specs.Prelude.{◌≡◌, List, ◌++◌, ℕ, ◌≤◌, length, drop}
use Rattle.table.specs.Table.{count, row_start, max_sets}
use Rattle.steps.specs.Items.{Item}
use Rattle.steps.specs.Words.{OutcomeWords, step_words}
use Rattle.steps.specs.SetUp.{bodies, set_up}

-- the words past a table of n sets
abbrev pub past : ℕ → List ℕ → List ℕ
past n ws = drop (row_start n) ws

-- ---- "nor written": they are as before, and as many

-- after any item, on any words: past as many sets as the header says. (Where the table is not legal, `RefusedWords` says that no
-- word at all is written.)
pub record Unwritten (ws : List ℕ) (i : Item) : Type 0 where
  pub rest : past (count ws) (step_words ws i).table ≡ past (count ws) ws
  pub long : length (step_words ws i).table ≡ length ws

abbrev pub NotWritten : Type 0
NotWritten = (ws : List ℕ) (i : Item) → Unwritten ws i

-- after set-up: past as many sets as there are bodies
pub record UnwrittenNew (bytes ws : List ℕ) : Type 0 where
  pub rest : past (bodies bytes) (set_up bytes ws).table ≡ past (bodies bytes) ws
  pub long : length (set_up bytes ws).table ≡ length ws

abbrev pub SetUpNotWritten : Type 0
SetUpNotWritten = (bytes ws : List ℕ) → UnwrittenNew bytes ws

-- ---- "neither read": whatever stands there, the answer and the table's words are the same

-- a result, and words past it
abbrev pub beside : OutcomeWords → List ℕ → OutcomeWords
beside r more = record { table = r.table ++ more; answer = r.answer; notice = r.notice }

-- any item, where the words have room for as many sets as the header says. (Where they have not, the table is refused: `step_unsized`
-- of proofs/PastWords.antt.)
abbrev pub NotRead : Type 0
NotRead = (more ws : List ℕ) → row_start (count ws) ≤ length ws → (i : Item) → step_words (ws ++ more) i ≡ beside (step_words ws i) more

-- set-up, where the words have room for its sets, if they are not too many
abbrev pub SetUpNotRead : Type 0
SetUpNotRead =
    (more ws bytes : List ℕ) → (bodies bytes ≤ max_sets → row_start (bodies bytes) ≤ length ws) → set_up bytes (ws ++ more) ≡ beside (set_up bytes ws) more

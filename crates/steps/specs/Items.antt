-- Items, and the three shapes that an item's meaning can have.
use Rattle.std.specs.Prelude.{ℕ, List}
use Rattle.octets.specs.Octets.{AllBytes}
use Rattle.record.specs.declared.Attributes.{Attributes}
use Rattle.record.specs.declared.State.{State}
use Rattle.record.specs.declared.Record.{Record}
use Rattle.record.specs.declared.Effect.{Effect}
use Rattle.replies.specs.Status.{Line}
use Rattle.rules.specs.declared.Media.{Media}
use Rattle.rules.specs.declared.Media.TheVariants.{Reads, Writes, Excursion}
pub use Rattle.table.specs.Card.{Card}
use Rattle.desk.specs.Desk.{Desk}
use Rattle.replies.specs.Answers.{Answer}

-- what may be handed in: media events; ticks, each with the length of its answer buffer; and commands, each with its data in and the
-- length of its answer buffer ("The length of a lent buffer is part of its item.")
pub data Item : Type 0 where
  reads : (id k : ℕ) → Item
  writes : (id k : ℕ) → Item
  excursion : (id : ℕ) → Item
  tick : (t room : ℕ) → Item
  command : (bytes given : List ℕ) (room : ℕ) → Item

-- what is lent as bytes holds bytes, as its type says: an item's data in
abbrev pub GivenBytes : Item → Type 0
GivenBytes (reads id k) = Unit {0}
GivenBytes (writes id k) = Unit {0}
GivenBytes (excursion id) = Unit {0}
GivenBytes (tick t room) = Unit {0}
GivenBytes (command bytes given room) = AllBytes given

-- what the media layer reports of a set, as an item
abbrev pub item_of : ℕ → Media → Item
item_of id (Reads k) = reads id k
item_of id (Writes k) = writes id k
item_of id Excursion = excursion id

-- An item that names a set: the refusals before the look-up, the number for a set that is not in the table, the refusals
-- that look at the set; then what it does to the set, and what it answers.
-- A rule sees a set's attributes and state, never its events and its listed mark; an answer may show all.
pub record One : Type 0 where
  pub early : List Line
  pub unknown : ℕ
  pub late : Attributes → State → List Line
  pub rule : Attributes → State → Effect
  pub done : Record → Answer

-- An item that goes to every set: its refusals, the last for want of room, so much for each set; what it does to each set,
-- and the data that each adds to the answer.
pub record All : Type 0 where
  pub early : List Line
  pub each : ℕ
  pub room : ℕ
  pub rule : Attributes → State → Effect
  pub part : Record → List ℕ

-- A view of the card: an item that names no set and changes none, though it may change the desk. It has its refusals; what it does to the desk, if it is carried out; and an answer made from the
-- card before it.
pub record View : Type 0 where
  pub early : Card → List Line
  pub desk : Desk → Desk
  pub done : Card → Answer

pub data Meaning : Type 0 where
  Nobody : View → Meaning
  Everybody : All → Meaning
  The : ℕ → One → Meaning

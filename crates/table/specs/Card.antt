-- What the whole card keeps, and the words of a table that hold it apart from the sets' own: the header.
use Rattle.std.specs.Prelude.{List, ◌∷◌, ℕ, length}
use Rattle.desk.specs.Desk.{Desk}
use Rattle.desk.specs.Words.{desk_words}
use Rattle.record.specs.declared.Record.{Record}

-- the sets; and 02's desk: whether notices are on and masked, the flag, and the requests that wait
pub record Card : Type 0 where
  pub sets : List Record
  pub desk : Desk

abbrev pub card_with : List Record → Desk → Card
card_with sets desk = record { sets = sets; desk = desk }

-- The number of this layout, which stands in front, so that a table that another version of the library wrote is refused and not
-- misread. Every change of the layout raises it. It is always above 65,535: older tables had their number of sets in this
-- word, and no number of sets is ever taken for it.
abbrev pub layout_number : ℕ
layout_number = 65539

-- the header's words: the number of the layout, that of the sets, and from there on the desk's, `desk_size` of them
abbrev pub header_words : ℕ
header_words = 10

abbrev pub desk_start : ℕ
desk_start = 2

abbrev pub header : Card → List ℕ
header c = layout_number ∷ length c.sets ∷ desk_words c.desk

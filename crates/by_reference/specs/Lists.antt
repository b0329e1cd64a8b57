-- 01: "Set-up takes a lent list of attribute records; the core first takes the 84-byte bodies below."
use Rattle.std.specs.Prelude.{◌≡◌, List, [], ◌∷◌, ◌++◌, map, ℕ, ◌<◌, length}
use Rattle.record.specs.declared.Attributes.{Attributes}
use Rattle.table.specs.Table.{max_sets}
use Rattle.replies.specs.Numbers.{bad_set_up}
use Rattle.pages.specs.Bodies.{body, AllSized}
use Rattle.steps.specs.SetUp.{new_record, new_sets, SetUp}

-- the bodies of a list, one after another
abbrev pub bodies_of : List Attributes → List ℕ
bodies_of [] = []
bodies_of (a ∷ list) = body a ++ bodies_of list

-- ---- Two laws, each proved under its name, in snake case, in proofs/OfList.antt.

-- "Set-up takes a lent list of attribute records": the sets that it makes have the list's own attributes, and nothing is lost in a
-- body, for numbers that fit their fields, as those of the types u16, u32 and u64 do.
abbrev pub TheirOwn : Type 0
TheirOwn = (list : List Attributes) → AllSized list → new_sets (bodies_of list) ≡ map new_record list

-- "number of sets .. wrong 07C4h", "nothing written", and 02: "Set-up refuses 65 with 07C4h.": of a list that is too long, though not all
-- of its bodies are made
abbrev pub TooMany : Type 0
TooMany =
    (list : List Attributes) (ws after : List ℕ) (number : ℕ) → max_sets < length list → SetUp (bodies_of list) ws after number
    → (number ≡ bad_set_up) × (after ≡ ws)

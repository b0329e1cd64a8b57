-- A body held against the one before it, and the record that is made of it, for the functions that go over all bodies.
use Rattle.std.specs.Prelude.{Bool, ◌&&◌, ℕ, ltb}
use Rattle.record.specs.declared.Attributes.{Attributes}
use Rattle.record.specs.declared.Record.{Record}
use Rattle.record.specs.Legal.{legal_attributes}
use Rattle.pages.specs.Bodies.{kept_of}
use Rattle.steps.specs.SetUp.{new_record}

-- attributes in range, the identifier above the one before
abbrev pub follows_of : ℕ → Attributes → Bool
follows_of before a = legal_attributes a && ltb before a.id.0

-- a new set's record, of what code keeps of the attributes
abbrev pub kept_record : Attributes → Record
kept_record a = new_record (kept_of a)

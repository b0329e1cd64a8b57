-- 01, "Commands", and 02, "Sixty-four sessions": Identify 04h, the NVM Set List.
use Rattle.std.specs.Prelude.{◌≡◌, Bool, List, [], ◌∷◌, ◌++◌, ℕ, ◌+◌, ◌*◌, leb, length, take, if◌then◌else◌}
use Rattle.octets.specs.declared.Place.{Place}
use Rattle.octets.specs.Pages.{Field, span, fields_at, places_from, puts, place}
use Rattle.record.specs.declared.Attributes.{Attributes}
use Rattle.pages.specs.Capacities.{halves, halves_of, names_of}

-- "Identify 04h, 4,096 bytes"
abbrev pub identify_size : ℕ
identify_size = 4096

-- "entries of 128 bytes"
abbrev pub entry_size : ℕ
entry_size = 128

-- "from byte 128"
abbrev pub first_entry : ℕ
first_entry = 128

-- 02: "An Identify answer still holds 31 entries": as many as the page has room for
abbrev pub identify_entries : ℕ
identify_entries = 31

-- ---- the sets shown

-- a set before others, where it is shown
abbrev pub shown_if : Bool → Attributes → List Attributes → List Attributes
shown_if show a others = if show then a ∷ others else others

-- "sets with identifier at or above CDW11 15:0"
abbrev pub shown : ℕ → List Attributes → List Attributes
shown from [] = []
shown from (a ∷ others) = shown_if (leb from a.id.0) a (shown from others)

-- 01: "sets with identifier at or above CDW11 15:0", amended by 02: "An Identify answer still holds 31 entries": of those the first
abbrev pub in_one_answer : ℕ → List Attributes → List Attributes
in_one_answer from sets = take identify_entries (shown from sets)

-- ---- the page

-- where each number of an entry lies: "Entry: 1:0 identifier, 3:2 group, 11:8 random read typical, 15:12 optimal write size,
-- 31:16 total, 47:32 unallocated"
abbrev pub entry_id : Place
entry_id = span 0 2

abbrev pub entry_group : Place
entry_group = span 2 2

abbrev pub entry_random_read : Place
entry_random_read = span 8 4

abbrev pub entry_optimal_write : Place
entry_optimal_write = span 12 4

abbrev pub entry_total : Place
entry_total = span 16 16

abbrev pub entry_unallocated : Place
entry_unallocated = span 32 16

-- as they are put: four numbers, two capacities
abbrev pub entry_names : List Place
entry_names = entry_id ∷ entry_group ∷ entry_random_read ∷ entry_optimal_write ∷ []

abbrev pub entry_places : List Place
entry_places = entry_names ++ halves entry_total ++ halves entry_unallocated

abbrev pub entry_values : Attributes → List ℕ
entry_values a = names_of a ++ halves_of a.total ++ halves_of a.unallocated

-- the entry that starts at a place
abbrev pub entry_fields : ℕ → Attributes → List Field
entry_fields to a = fields_at (places_from to entry_places) (entry_values a)

-- an entry by itself
abbrev pub entry_page : Attributes → List ℕ
entry_page a = place entry_size (entry_fields 0 a)

-- the entries of sets, packed from a place
abbrev pub entries_at : ℕ → List Attributes → List Field
entries_at to [] = []
entries_at to (a ∷ others) = entry_fields to a ++ entries_at (to + entry_size) others

-- "byte 0 count; entries of 128 bytes from byte 128": the count of this answer's entries, not of all sets at or above
abbrev pub identify_count : Place
identify_count = span 0 1

abbrev pub identify_fields : List Attributes → List Field
identify_fields sets = fields_at (identify_count ∷ []) (length sets ∷ []) ++ entries_at first_entry sets

-- "rest zero"
unfoldable pub identify_page : ℕ → List Attributes → List ℕ
identify_page from sets = place identify_size (identify_fields (in_one_answer from sets))

-- ---- one set at a time

-- a set, if it is to be shown, put on a page at a place: the page after it, and the next place
pub record Shows (from : ℕ) (a : Attributes) (page : List ℕ) (to : ℕ) (after : List ℕ) (next : ℕ) : Type 0 where
  pub entry : after ≡ puts page (entries_at to (shown from (a ∷ [])))
  pub place : next ≡ to + entry_size * length (shown from (a ∷ []))

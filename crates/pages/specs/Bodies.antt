-- 01, "One set's record": a set's attributes as the 84 bytes that set-up takes.
use Rattle.std.specs.Prelude.{List, [], ◌∷◌, ◌++◌, ℕ, ◌%◌, ◌^◌, ◌<◌}
use Rattle.octets.specs.declared.Place.{Place}
use Rattle.octets.specs.Pages.{Field, span, fields_at, read_at, place}
use Rattle.record.specs.declared.Attributes.{Attributes}
use Rattle.pages.specs.Capacities.{halves, halves_of, capacity_in, names_of, limits_of}

-- "07h set attributes in the order above, 84"
abbrev pub body_size : ℕ
body_size = 84

-- ---- where each number lies

-- "identifier ..; endurance group ..; random read typical (4 bytes); optimal write size (4); total and unallocated
-- capacity (16 each ..); reads typical and writes typical ..; time maximum, minimum high and minimum low .. These last
-- five take 8 bytes each."
abbrev pub body_id : Place
body_id = span 0 2

abbrev pub body_group : Place
body_group = span 2 2

abbrev pub body_random_read : Place
body_random_read = span 4 4

abbrev pub body_optimal_write : Place
body_optimal_write = span 8 4

abbrev pub body_total : Place
body_total = span 12 16

abbrev pub body_unallocated : Place
body_unallocated = span 28 16

abbrev pub body_reads : Place
body_reads = span 44 8

abbrev pub body_writes : Place
body_writes = span 52 8

abbrev pub body_time : Place
body_time = span 60 8

abbrev pub body_high : Place
body_high = span 68 8

abbrev pub body_low : Place
body_low = span 76 8

-- as they are put: four numbers, two capacities, five limits
abbrev pub body_names : List Place
body_names = body_id ∷ body_group ∷ body_random_read ∷ body_optimal_write ∷ []

abbrev pub body_limits : List Place
body_limits = body_reads ∷ body_writes ∷ body_time ∷ body_high ∷ body_low ∷ []

abbrev pub body_places : List Place
body_places = body_names ++ halves body_total ++ halves body_unallocated ++ body_limits

-- ---- a body made

abbrev pub body_values : Attributes → List ℕ
body_values a = names_of a ++ halves_of a.total ++ halves_of a.unallocated ++ limits_of a

abbrev pub body_fields : Attributes → List Field
body_fields a = fields_at body_places (body_values a)

unfoldable pub body : Attributes → List ℕ
body a = place body_size (body_fields a)

-- ---- a body read

-- the attributes of the body that starts at a place
abbrev pub attributes_in : List ℕ → ℕ → Attributes
attributes_in bytes at =
    record {
      id = record { 0 = read_at bytes at body_id };
      group = record { 0 = read_at bytes at body_group };
      random_read_typical = read_at bytes at body_random_read;
      optimal_write_size = read_at bytes at body_optimal_write;
      total = capacity_in bytes at body_total;
      unallocated = capacity_in bytes at body_unallocated;
      reads_typical = read_at bytes at body_reads;
      writes_typical = read_at bytes at body_writes;
      time_maximum = read_at bytes at body_time;
      minimum_high = read_at bytes at body_high;
      minimum_low = read_at bytes at body_low;
    }

-- What code keeps of them. "These last five take 8 bytes each", and their ranges lie within four: attributes in range are kept whole
-- (`kept_whole` in proofs/Back.antt), and no others make a set.
abbrev pub kept_of : Attributes → Attributes
kept_of a =
    record {
      id = a.id;
      group = a.group;
      random_read_typical = a.random_read_typical;
      optimal_write_size = a.optimal_write_size;
      total = a.total;
      unallocated = a.unallocated;
      reads_typical = a.reads_typical % 2 ^ 32;
      writes_typical = a.writes_typical % 2 ^ 32;
      time_maximum = a.time_maximum % 2 ^ 32;
      minimum_high = a.minimum_high % 2 ^ 32;
      minimum_low = a.minimum_low % 2 ^ 32;
    }

-- the attributes whose numbers fit their widths: those of every record that code holds
pub record Sized (a : Attributes) : Type 0 where
  pub id : a.id.0 < 2 ^ 16
  pub group : a.group.0 < 2 ^ 16
  pub random_read_typical : a.random_read_typical < 2 ^ 32
  pub optimal_write_size : a.optimal_write_size < 2 ^ 32
  pub total_low : a.total.low < 2 ^ 64
  pub total_high : a.total.high < 2 ^ 64
  pub unallocated_low : a.unallocated.low < 2 ^ 64
  pub unallocated_high : a.unallocated.high < 2 ^ 64
  pub reads_typical : a.reads_typical < 2 ^ 32
  pub writes_typical : a.writes_typical < 2 ^ 32
  pub time_maximum : a.time_maximum < 2 ^ 32
  pub minimum_high : a.minimum_high < 2 ^ 32
  pub minimum_low : a.minimum_low < 2 ^ 32

abbrev pub AllSized : List Attributes → Type 0
AllSized [] = Unit
AllSized (a ∷ others) = Sized a × AllSized others

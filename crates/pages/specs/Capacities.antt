-- A capacity, which is two numbers; and the numbers of attributes in the order of every page.
use Rattle.std.specs.Prelude.{List, [], ◌∷◌, ℕ, ◌+◌}
use Rattle.octets.specs.declared.Place.{Place}
use Rattle.octets.specs.Pages.{span, read_at}
use Rattle.record.specs.declared.Capacity.{Capacity}
use Rattle.record.specs.declared.Attributes.{Attributes}

-- 01: "capacity (16 each ..)": its lower 64 bits first, "All numbers little-endian."
abbrev pub low_half : Place → Place
low_half p = span p.at 8

abbrev pub high_half : Place → Place
high_half p = span (p.at + 8) 8

abbrev pub halves : Place → List Place
halves p = low_half p ∷ high_half p ∷ []

abbrev pub halves_of : Capacity → List ℕ
halves_of c = c.low ∷ c.high ∷ []

abbrev pub capacity_in : List ℕ → ℕ → Place → Capacity
capacity_in bytes from p = record { low = read_at bytes from (low_half p); high = read_at bytes from (high_half p) }

-- ---- the numbers of attributes, as pages show them

abbrev pub names_of : Attributes → List ℕ
names_of a = a.id.0 ∷ a.group.0 ∷ a.random_read_typical ∷ a.optimal_write_size ∷ []

abbrev pub limits_of : Attributes → List ℕ
limits_of a = a.reads_typical ∷ a.writes_typical ∷ a.time_maximum ∷ a.minimum_high ∷ a.minimum_low ∷ []

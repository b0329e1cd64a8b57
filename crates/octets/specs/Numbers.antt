-- A number read from bytes.
use Rattle.std.specs.Prelude.{List, ℕ}
use Rattle.octets.specs.Octets.{number_of, part}

-- the number of `width` bytes at a place
abbrev pub number_at : List ℕ → ℕ → ℕ → ℕ
number_at bytes at width = number_of (part bytes at width)

-- A page as a table of fields: a page of zeros with numbers put at their places.
use Rattle.std.specs.Prelude.{Bool, ◌&&◌, List, [], ◌∷◌, ℕ, ◌+◌, ◌^◌, ◌<◌, ◌≤◌, leb, replicate}
use Rattle.std.proofs.lemmas.List.Edits.{sets}
use Rattle.octets.specs.Octets.{bytes_of, number_of, part}
use Rattle.octets.specs.declared.Place.{Place}

-- a number of `width` bytes at a place of a page
pub record Field : Type 0 where
  pub at : ℕ
  pub width : ℕ
  pub value : ℕ

abbrev pub field : ℕ → ℕ → ℕ → Field
field at width value = record { at = at; width = width; value = value }

-- ---- where a number lies, apart from the number: one list for the writer and the reader of a page

abbrev pub span : ℕ → ℕ → Place
span at width = record { at = at; width = width }

-- numbers at places, in order
abbrev pub fields_at : List Place → List ℕ → List Field
fields_at [] vs = []
fields_at (p ∷ ps) [] = []
fields_at (p ∷ ps) (v ∷ vs) = field p.at p.width v ∷ fields_at ps vs

-- the places of what starts at `from`
abbrev pub places_from : ℕ → List Place → List Place
places_from from [] = []
places_from from (p ∷ ps) = span (from + p.at) p.width ∷ places_from from ps

-- the number at a place of what starts at `from`
abbrev pub read_at : List ℕ → ℕ → Place → ℕ
read_at bytes from p = number_of (part bytes (from + p.at) p.width)

-- ---- a page made

-- fields put on a page, in order
abbrev pub puts : List ℕ → List Field → List ℕ
puts page [] = page
puts page (f ∷ fs) = puts (sets page f.at (bytes_of f.width f.value)) fs

-- 01: "the rest zero". A page of `size` zeros with its fields put in order.
unfoldable pub place : ℕ → List Field → List ℕ
place size fs = puts (replicate size 0) fs

-- each field starts at or after `from` and the end of the one before it, and the last ends within the page
abbrev pub tidy : ℕ → ℕ → List Field → Bool
tidy from size [] = leb from size
tidy from size (f ∷ fs) = leb from f.at && tidy (f.at + f.width) size fs

-- each place of what starts at `from` ends within the page
abbrev pub Within : ℕ → ℕ → List Place → Type 0
Within size from [] = Unit
Within size from (p ∷ ps) = (from + p.at + p.width ≤ size) × Within size from ps

-- ---- reading a page back

-- the numbers that stand on a page at the places of fields
abbrev pub readings : List ℕ → List Field → List ℕ
readings page [] = []
readings page (f ∷ fs) = number_of (part page f.at f.width) ∷ readings page fs

abbrev pub values : List Field → List ℕ
values [] = []
values (f ∷ fs) = f.value ∷ values fs

-- each value fits its width
abbrev pub Fit : List Field → Type 0
Fit [] = Unit
Fit (f ∷ fs) = (f.value < 256 ^ f.width) × Fit fs

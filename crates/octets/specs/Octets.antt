-- Numbers as bytes, and parts of a list of them.
use Rattle.std.specs.Prelude.{List, [], ◌∷◌, ℕ, zero, suc, ◌+◌, ◌*◌, ◌/◌, ◌%◌, ◌<◌, get_or, take, drop}

-- 01: "All numbers little-endian." The lowest `width` bytes of a number, lowest first.
abbrev pub bytes_of : ℕ → ℕ → List ℕ
bytes_of zero v = []
bytes_of (suc width) v = v % 256 ∷ bytes_of width (v / 256)

-- the number that bytes make, lowest first
abbrev pub number_of : List ℕ → ℕ
number_of [] = 0
number_of (b ∷ bs) = number_of bs * 256 + b

-- each element of a list is below a number
abbrev pub AllBelow : ℕ → List ℕ → Type 0
AllBelow most l = (i : ℕ) → get_or l i 0 < most

-- each is a byte, as in any lent slice of them
abbrev pub AllBytes : List ℕ → Type 0
AllBytes l = AllBelow 256 l

-- n elements of a list from place `at`, as many as there are
abbrev pub part : List ℕ → ℕ → ℕ → List ℕ
part l at n = take n (drop at l)

-- 01: "Bytes past the page are zero." n elements of a list from place `at`, zeros past its end.
abbrev pub padded : List ℕ → ℕ → ℕ → List ℕ
padded l at zero = []
padded l at (suc n) = get_or l at 0 ∷ padded l (suc at) n

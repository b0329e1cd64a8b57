-- Words of 64 bits as bytes, one after another: 01, "its words' little-endian bytes".
use Rattle.std.specs.Prelude.{◌≡◌, refl, List, [], ◌∷◌, ℕ, zero, suc, ◌+◌, ◌/◌, ◌^◌, ◌≤◌, length}
use Rattle.std.proofs.Common.{ap, arith}
use Rattle.std.proofs.lemmas.List.Edits.{sets}
use Rattle.octets.specs.Octets.{bytes_of, number_of, part, AllBelow}

-- a word's bytes
abbrev pub word_size : ℕ
word_size = 8

-- each element of a list is a word, as in any lent slice of them
abbrev pub AllWords : List ℕ → Type 0
AllWords l = AllBelow (2 ^ 64) l

-- n words from a place on
abbrev pub words_from : List ℕ → ℕ → ℕ → List ℕ
words_from bytes at zero = []
words_from bytes at (suc n) = number_of (part bytes at word_size) ∷ words_from bytes (at + word_size) n

-- they are n, and so at most as many as there are bytes
pub length_words : (bytes : List ℕ) (at n : ℕ) → length (words_from bytes at n) ≡ n
length_words bytes at zero = refl
length_words bytes at (suc n) = ap suc (length_words bytes (at + word_size) n)

pub words_few : (bytes : List ℕ) → length (words_from bytes 0 (length bytes / word_size)) ≤ length bytes
words_few bytes = omega (arith, length_words bytes 0 (length bytes / word_size))

-- the bytes with words put from a place on
abbrev pub put_words : List ℕ → ℕ → List ℕ → List ℕ
put_words bytes at [] = bytes
put_words bytes at (w ∷ ws) = put_words (sets bytes at (bytes_of word_size w)) (at + word_size) ws

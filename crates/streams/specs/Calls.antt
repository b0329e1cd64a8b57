-- A call and its answer as bytes.
use Rattle.std.specs.Prelude.{List, [], ◌∷◌, ◌++◌, ℕ, get_or, None, Some}
use Rattle.std.specs.declared.option.Option.{Option}
use Rattle.octets.specs.Octets.{bytes_of}
use Rattle.octets.specs.Words.{word_size}
use Rattle.streams.specs.declared.Kind.{Kind}
use Rattle.streams.specs.declared.Kind.TheVariants.{Command, Reads, Writes, Excursion, Tick, SetUp, CommandPart}

-- how many bytes a head has
abbrev pub head_size : ℕ
head_size = 16

-- what a call is of, by the number of its kind: those of a replay file, of which two are commands, and 08h
abbrev pub kinds : List (Option Kind)
kinds =
    None ∷ Some Command ∷ Some Command ∷ Some Reads ∷ Some Writes ∷ Some Excursion ∷ Some Tick ∷ Some SetUp ∷ Some CommandPart ∷ []

abbrev pub kind_of : ℕ → Option Kind
kind_of n = get_or kinds n None

-- words' bytes, one word after another
abbrev pub word_bytes : List ℕ → List ℕ
word_bytes [] = []
word_bytes (w ∷ ws) = bytes_of word_size w ++ word_bytes ws

-- what is written before the words and the answer buffer: status, whether a notice goes beside it, dword 0, length, identifier
abbrev pub reply_bytes : (status told dword len to : ℕ) → List ℕ
reply_bytes status told dword len to = bytes_of 2 status ++ bytes_of 2 told ++ bytes_of 4 dword ++ bytes_of 4 len ++ bytes_of 2 to

-- 01, "Replay file and its printout": the lines, as the bytes of their text.
use Rattle.std.specs.Prelude.{◌≡◌, List, [], ◌∷◌, ◌++◌, ℕ, zero, suc, ◌+◌, ◌/◌, ◌%◌, ◌≤◌, ltb, length, if◌then◌else◌, None, Some}
use Prim.Native.Char.{code}
use Prim.Native.String.{String}
use Prim.Native.String as string
use Rattle.std.proofs.lemmas.List.Edits.{sets}
use Rattle.replies.specs.Answers.{Notice, Answer, notice_dword}

-- a text's signs, by their numbers
abbrev pub signs : String → List ℕ
signs string.[] = []
signs (string.◌∷◌ c cs) = code c ∷ signs cs

abbrev pub space : ℕ
space = 32

abbrev pub newline : ℕ
newline = 10

-- a line with no text on it yet
abbrev pub no_text : List ℕ
no_text = []

-- ---- numbers

-- the sign of 0, and what is added to 10 to give that of A
abbrev pub zero_sign : ℕ
zero_sign = 48

abbrev pub letter_base : ℕ
letter_base = 55

-- a digit below 16, in upper case
abbrev pub digit_of : ℕ → ℕ
digit_of d = if ltb d 10 then zero_sign + d else letter_base + d

-- the last digits of a number, as many as `width`, the highest first
abbrev pub digits_of : ℕ → ℕ → ℕ → List ℕ
digits_of base zero v = []
digits_of base (suc width) v = digits_of base width (v / base) ++ digit_of (v % base) ∷ []

abbrev pub hex_of : ℕ → ℕ → List ℕ
hex_of width v = digits_of 16 width v

-- "N is decimal": as many digits as it takes, here of a number below 10 ^ (most + 1)
abbrev pub places_below : ℕ → ℕ → ℕ
places_below zero n = 1
places_below (suc most) n = if ltb n 10 then 1 else suc (places_below most (n / 10))

-- a 64-bit number has at most 20
unfoldable pub places : ℕ → ℕ
places n = places_below 19 n

abbrev pub decimal_of : ℕ → List ℕ
decimal_of n = digits_of 10 (places n) n

-- data, two digits a byte
abbrev pub data_hex : List ℕ → List ℕ
data_hex [] = []
data_hex (b ∷ bs) = hex_of 2 b ++ data_hex bs

-- ---- the lines

-- four digits of a status number, as in "SSSS"; eight of a dword
abbrev pub status_digits : ℕ
status_digits = 4

abbrev pub identifier_digits : ℕ
identifier_digits = 4

abbrev pub dword_digits : ℕ
dword_digits = 8

-- "sets N SSSS"
abbrev pub sets_line : ℕ → ℕ → List ℕ
sets_line n status = signs "sets " ++ decimal_of n ++ (space ∷ []) ++ hex_of status_digits status ++ newline ∷ []

-- "end N", "bad N"
abbrev pub end_line : ℕ → List ℕ
end_line n = signs "end " ++ decimal_of n ++ newline ∷ []

abbrev pub bad_line : ℕ → List ℕ
bad_line n = signs "bad " ++ decimal_of n ++ newline ∷ []

-- "a line per item of status, dword 0 and, if given, data, all upper-case hex"
abbrev pub data_text : List ℕ → List ℕ
data_text [] = []
data_text (b ∷ bs) = (space ∷ []) ++ data_hex (b ∷ bs)

abbrev pub item_line : Answer → List ℕ
item_line a = hex_of status_digits a.status ++ (space ∷ []) ++ hex_of dword_digits a.dword ++ data_text a.bytes ++ newline ∷ []

-- 02: "replay adds a line: identifier, dword 0"
abbrev pub told_line : ℕ → List ℕ
told_line id = hex_of identifier_digits id ++ (space ∷ []) ++ hex_of dword_digits notice_dword ++ newline ∷ []

abbrev pub notice_line : Notice → List ℕ
notice_line None = []
notice_line (Some id) = told_line id

-- room for it
abbrev pub notice_room : ℕ
notice_room = identifier_digits + 1 + dword_digits + 1

-- text put into bytes at a place: the bytes afterwards, and the place after it, which lies within them
pub record Put (before : List ℕ) (at : ℕ) (text after : List ℕ) (next : ℕ) : Type 0 where
  pub bytes : after ≡ sets before at text
  pub place : next ≡ at + length text
  pub within : next ≤ length after

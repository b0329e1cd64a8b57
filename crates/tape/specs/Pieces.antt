-- A tape that is read piece by piece: what a call with one piece does, and that the texts of the calls, joined, are the printout.
use Rattle.std.specs.Prelude.{◌≡◌, Bool, true, false, List, [], ◌∷◌, ◌++◌, map, ℕ, zero, suc, ◌+◌, ◌*◌, ◌-◌, ◌^◌, ◌≤◌, ◌<◌, eqb, ltb, length, take, drop, if◌then◌else◌}
use Rattle.std.proofs.lemmas.List.Edits.{sets}
use Rattle.octets.specs.Lists.{join}
use Rattle.octets.specs.Octets.{part}
use Rattle.table.specs.Table.{max_sets}
use Rattle.pages.specs.Features.{feature_size}
use Rattle.pages.specs.Bodies.{body_size}
use Rattle.commands.specs.Commands.{command_size}
use Rattle.steps.specs.Words.{OutcomeWords}
use Rattle.steps.specs.SetUp.{with_body, first_bodies, set_up}
use Rattle.tape.specs.Text.{status_digits, dword_digits, notice_room, sets_line, end_line, bad_line}
use Rattle.tape.specs.Tape.{attributes_size, answer_size, words_after, line_for, next_set, next_item}
use Rattle.tape.specs.Printout.{first_item, item_length, set_length, printout_on}
use Rattle.tape.specs.declared.Next.{Next}
use Rattle.tape.specs.declared.Next.TheVariants.{Whole, Short, Bad, Over}
use Rattle.tape.specs.declared.Stage.{Stage}
use Rattle.tape.specs.declared.Stage.TheVariants.{Sets, Items, Ended}
use Rattle.tape.specs.declared.Progress.{Progress}

-- ---- what is kept from call to call

-- how far the tape is, with so many sets read or items done; what a call has used of its piece and written to its buffer; and
-- whether it can go on with what it has
abbrev pub progress : Stage → ℕ → ℕ → ℕ → Bool → Progress
progress stage count used len going = record { stage = stage; count = count; used = used; len = len; going = going }

abbrev pub at_start : Progress
at_start = progress Sets 0 0 0 true

-- Room for the bodies of the sets, until set-up is done: one more than a card can have sets is enough to have it refused.
abbrev pub most_bodies : ℕ
most_bodies = suc max_sets

abbrev pub bodies_room : ℕ
bodies_room = most_bodies * body_size

-- N is kept in 64 bits, and no file has so many items.
abbrev pub most_counted : ℕ
most_counted = 2 ^ 64 - 1

abbrev pub one_more : ℕ → ℕ
one_more n = if ltb n most_counted then n + 1 else n

-- ---- one turn, on the bytes that are left of a piece; `last` says that the file has no more

-- what it leaves, how many bytes it uses, the text that it gives, and whether another may follow
pub record Turn : Type 0 where
  pub stage : Stage
  pub count : ℕ
  pub used : ℕ
  pub going : Bool
  pub words : List ℕ
  pub bodies : List ℕ
  pub text : List ℕ

abbrev turn : Stage → ℕ → ℕ → Bool → List ℕ → List ℕ → List ℕ → Turn
turn stage count used going words bodies text =
    record { stage = stage; count = count; used = used; going = going; words = words; bodies = bodies; text = text }

-- "If set-up is refused, only the first line."
abbrev pub set_up_turn : ℕ → OutcomeWords → List ℕ → Turn
set_up_turn n result bodies =
    let granted = eqb result.answer.status 0 in
    turn (if granted then Items else Ended) 0 0 granted result.table bodies (sets_line n result.answer.status)

-- "Kinds 07h come first": a body is kept, more bytes are wanted, "a cut 07h prints "bad 0" alone", or the sets are set up
abbrev pub set_turn : Next → ℕ → List ℕ → List ℕ → List ℕ → Turn
set_turn Whole n words bodies left = turn Sets (one_more n) set_length true words (with_body bodies n (part left 1 attributes_size)) []
set_turn Short n words bodies left = turn Sets n 0 false words bodies []
set_turn Bad n words bodies left = turn Ended n 0 false words bodies (bad_line 0)
set_turn Over n words bodies left = set_up_turn n (set_up (first_bodies bodies n) words) bodies

-- an item is played, more bytes are wanted, "bad N", or "end N"
abbrev pub item_turn : Next → ℕ → List ℕ → List ℕ → List ℕ → Turn
item_turn Whole n words bodies left =
    turn Items (one_more n) (item_length left) true (words_after words (first_item left)) bodies (line_for words (first_item left))
item_turn Short n words bodies left = turn Items n 0 false words bodies []
item_turn Bad n words bodies left = turn Ended n 0 false words bodies (bad_line n)
item_turn Over n words bodies left = turn Ended n 0 false words bodies (end_line n)

-- by where the tape is; one that has ended stays so
abbrev pub turn_at : Stage → ℕ → List ℕ → List ℕ → List ℕ → Bool → Turn
turn_at Sets n words bodies left last = set_turn (next_set left last) n words bodies left
turn_at Items n words bodies left last = item_turn (next_item left last) n words bodies left
turn_at Ended n words bodies left last = turn Ended n 0 false words bodies []

-- ---- a call: turns one after another, each line after the one before, until the tape has ended, more bytes are wanted, or the
-- longest line might have no room

-- the longest line: status, dword 0, as much data as the answer buffer holds, what stands between and after them, and a notice's line
abbrev pub line_room : ℕ
line_room = status_digits + 1 + dword_digits + 1 + 2 * answer_size + 1 + notice_room

-- what a line shows: the text that is written on it, for which there is room
pub record ShowsText (line shown : List ℕ) : Type 0 where
  pub text : shown ≡ line
  pub room : length line ≤ line_room

-- a call stops after so many turns too, so that it ends whatever it is lent
abbrev pub most_turns : ℕ
most_turns = 65536

-- a tape while it is played
pub record Player : Type 0 where
  pub at : Progress
  pub words : List ℕ
  pub bodies : List ℕ
  pub out : List ℕ

abbrev pub player : Progress → List ℕ → List ℕ → List ℕ → Player
player at words bodies out = record { at = at; words = words; bodies = bodies; out = out }

-- for want of room
abbrev pub stopped : Player → Player
stopped g = player (progress g.at.stage g.at.count g.at.used g.at.len false) g.words g.bodies g.out

-- by a turn, whose line is put after the text so far
abbrev pub moved : Player → Turn → Player
moved g t =
    player (progress t.stage t.count (g.at.used + t.used) (g.at.len + length t.text) t.going) t.words t.bodies
    (sets g.out g.at.len t.text)

-- one turn more, if the longest line has room
unfoldable pub advanced : List ℕ → Bool → Player → Player
advanced piece last g =
    if ltb (length g.out - g.at.len) line_room
    then stopped g
    else moved g (turn_at g.at.stage g.at.count g.words g.bodies (drop g.at.used piece) last)

-- at most k turns
unfoldable pub turns : ℕ → List ℕ → Bool → Player → Player
turns zero piece last g = g
turns (suc k) piece last g = if (advanced piece last g).at.going then turns k piece last (advanced piece last g) else advanced piece last g

-- from the start of a piece and of the buffer
abbrev pub anew : Progress → Progress
anew p = progress p.stage p.count 0 0 true

-- What a call promises: how far the tape is, every word of the table, every byte of the bodies and of the buffer; how much of the
-- piece is used, and that the text lies in the buffer.
pub record PlayedOn (p : Progress) (words₀ bodies₀ out₀ piece : List ℕ) (last : Bool) (r : Progress) (words bodies out : List ℕ) : Type 0 where
  pub played : player r words bodies out ≡ turns most_turns piece last (player (anew p) words₀ bodies₀ out₀)
  pub used_within : r.used ≤ length piece
  pub text_within : r.len ≤ length out

-- ---- calls one after another

-- a call that was made: the bytes that were read for it, and those of the file that are still to come; whether it was told that
-- there are none; its buffer; and what it left
pub record Call : Type 0 where
  pub new : List ℕ
  pub later : List ℕ
  pub last : Bool
  pub before : List ℕ
  pub at : Progress
  pub words : List ℕ
  pub bodies : List ℕ
  pub out : List ℕ

-- Any pieces of a file: each call has what the one before left of its piece, and then the bytes that were read since. It is told
-- `last` only where no byte is to come.
abbrev pub Calls : Progress → List ℕ → List ℕ → List ℕ → List ℕ → List Call → Type 0
Calls p words bodies left coming [] = Unit {0}
Calls p words bodies left coming (c ∷ cs) =
    (coming ≡ c.new ++ c.later) × (c.last ≡ true → c.later ≡ [])
    × PlayedOn p words bodies c.before (left ++ c.new) c.last c.at c.words c.bodies c.out
    × Calls c.at c.words c.bodies (drop c.at.used (left ++ c.new)) c.later cs

-- how far the tape is after them
abbrev pub at_end : Progress → List Call → Progress
at_end p [] = p
at_end p (c ∷ cs) = at_end c.at cs

-- what they have written
abbrev pub text_of : Call → List ℕ
text_of c = take c.at.len c.out

-- "Output": whatever the pieces are in which a file is read, their texts, joined, are its printout once the tape has ended. (A file has
-- fewer than 2 ^ 64 bytes. The bodies are lent as so many bytes, whatever they hold.) Proved as `printed` in proofs/Printed.antt.
abbrev pub Printed : Type 0
Printed =
    (words bodies file : List ℕ) (cs : List Call) → length bodies ≡ bodies_room → length file < 2 ^ 64
    → Calls at_start words bodies [] file cs → (at_end at_start cs).stage ≡ Ended → join (map text_of cs) ≡ printout_on words file

-- And the tape ends: a call with room for the longest line that is told `last`, or has as many bytes as the longest item, uses some of
-- them or comes to a later stage. So of such calls there are at most two more than the file has bytes. Proved as `moves_on` in
-- proofs/MovesOn.antt.

abbrev pub stages_left : Stage → ℕ
stages_left Sets = 2
stages_left Items = 1
stages_left Ended = 0

-- a kind, and a command with its data
abbrev pub longest_item : ℕ
longest_item = 1 + command_size + feature_size

abbrev pub MovesOn : Type 0
MovesOn =
    (p : Progress) (words₀ bodies₀ out₀ piece : List ℕ) (last : Bool) (r : Progress) (words bodies out : List ℕ)
    → PlayedOn p words₀ bodies₀ out₀ piece last r words bodies out → (p.stage ≡ Ended → ⊥) → line_room ≤ length out₀
    → (last ≡ false → longest_item ≤ length piece) → stages_left r.stage < stages_left p.stage + r.used

-- 01, "How firm each public statement is": "Any two outcomes allowed by one statement are shown to coincide".
-- Each is proved under its name, in snake case, in proofs/Firm.antt.
use Rattle.std.specs.Prelude.{◌≡◌, Bool, List, ℕ}
use Rattle.std.proofs.Math.Option.{Option}
use Rattle.steps.specs.Items.{Item}
use Rattle.tape.specs.Text.{Put}
use Rattle.tape.specs.Tape.{Played}
use Rattle.tape.specs.Pieces.{ShowsText, PlayedOn}
use Rattle.tape.specs.declared.Progress.{Progress}

-- a line's text that is put into a buffer: every byte, and where it ends
abbrev pub OneLine : Type 0
OneLine = (before : List ℕ) (at : ℕ) (text v w : List ℕ) (m n : ℕ) → Put before at text v m → Put before at text w n → (v ≡ w) × (m ≡ n)

-- what is shown of a line: every byte of its text, and so its length
abbrev pub OneShown : Type 0
OneShown = (line v w : List ℕ) → ShowsText line v → ShowsText line w → v ≡ w

-- an item that is played: every word of the table, and every byte of the line, and so its length
abbrev pub OnePlay : Type 0
OnePlay = (ws : List ℕ) (i : Option Item) (v w x y : List ℕ) → Played ws i v x → Played ws i w y → (v ≡ w) × (x ≡ y)

-- a piece that is played: how far the tape is, every word of the table, and every byte of the bodies and of the buffer
abbrev pub OnePiece : Type 0
OnePiece =
    (p : Progress) (words₀ bodies₀ out₀ piece : List ℕ) (last : Bool) (q r : Progress) (v w x y m n : List ℕ)
    → PlayedOn p words₀ bodies₀ out₀ piece last q v x m → PlayedOn p words₀ bodies₀ out₀ piece last r w y n
    → (q ≡ r) × (v ≡ w) × (x ≡ y) × (m ≡ n)

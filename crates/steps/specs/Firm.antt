-- 01, "How firm each public statement is": "Any two outcomes allowed by one statement are shown to coincide".
-- Each is proved under its name, in snake case, in proofs/FirmPromises.antt.
use Rattle.std.specs.Prelude.{◌≡◌, List, ℕ}
use Rattle.replies.specs.declared.Reply.{Reply}
use Rattle.steps.specs.Items.{Item}
use Rattle.steps.specs.Words.{Answered, Handed}
use Rattle.steps.specs.SetUp.{SetUp}

-- set-up: the words and the number
abbrev pub OneSetUp : Type 0
OneSetUp = (bytes ws v w : List ℕ) (s t : ℕ) → SetUp bytes ws v s → SetUp bytes ws w t → (v ≡ w) × (s ≡ t)

-- every item: the words, the reply with the notice beside it, and every byte of the answer buffer
abbrev pub OneAnswer : Type 0
OneAnswer =
    (ws : List ℕ) (i : Item) (before : List ℕ) (r q : Reply) (v w x y : List ℕ) → Answered ws i before r v x → Answered ws i before q w y
    → (v ≡ w) × (r ≡ q) × (x ≡ y)

-- commands that hand back the written part: the words, status, dword 0, the notice and the part. "exceptions are listed in docs/": the bytes
-- after the part (docs/PROMISES.md)
abbrev pub OneHanded : Type 0
OneHanded =
    (ws : List ℕ) (i : Item) (room : ℕ) (v w : List ℕ) (s t d e m n x y : ℕ) (p q : List ℕ) → Handed ws i room v s d m x p
    → Handed ws i room w t e n y q → (v ≡ w) × (s ≡ t) × (d ≡ e) × (m ≡ n) × (x ≡ y) × (p ≡ q)

-- 02, "Wake the host": what the whole card keeps beside its sets, so that a host need not poll page 0Bh. Nothing here knows of sets.
use Rattle.std.specs.Prelude.{Bool, true, false, not, ◌&&◌, ◌||◌, List, [], ◌∷◌, ◌++◌, ℕ, leb, length, None, Some}
use Rattle.replies.specs.Answers.{Notice}

-- whether notices are on (feature 0Bh, bit 12) and whether they are masked; the "one flag" that remembers a notice; and the
-- identifiers of the requests that wait, the oldest first
pub record Desk : Type 0 where
  pub on : Bool
  pub masked : Bool
  pub flag : Bool
  pub waiting : List ℕ

abbrev pub desk_of : Bool → Bool → Bool → List ℕ → Desk
desk_of on masked flag waiting = record { on = on; masked = masked; flag = flag; waiting = waiting }

-- "start off and empty"
abbrev pub new_desk : Desk
new_desk = desk_of false false false []

-- ---- what a command does to it

-- "Up to four requests wait, oldest served first": one that arrives comes last
abbrev pub queued : ℕ → Desk → Desk
queued id d = desk_of d.on d.masked d.flag (d.waiting ++ id ∷ [])

-- "feature 0Bh bit 12"
abbrev pub turned : Bool → Desk → Desk
turned on d = desk_of on d.masked d.flag d.waiting

-- "A successful read of 0Bh with Retain 0 lifts the mask and drops the flag"
abbrev pub lifted : Desk → Desk
lifted d = desk_of d.on false false d.waiting

-- ---- notices

abbrev pub waits : List ℕ → Bool
waits [] = false
waits (id ∷ ids) = true

-- "notices are on, none is masked and a request waits"
abbrev pub ready : Desk → Bool
ready d = d.on && not d.masked && waits d.waiting

-- the desk afterwards, and the notice that goes out
pub record Told : Type 0 where
  pub desk : Desk
  pub notice : Notice

-- nothing is sent
abbrev pub quiet : Desk → Told
quiet d = record { desk = d; notice = None }

-- "that request completes .., and further notices are masked": the oldest of those that wait, where there is something to tell
abbrev pub send_by : Bool → Desk → List ℕ → Told
send_by false d waiting = quiet d
send_by true d [] = quiet d
send_by true d (id ∷ ids) = record { desk = desk_of d.on true false ids; notice = Some id }

abbrev pub send : Desk → Told
send d = send_by (d.flag && d.on && not d.masked) d d.waiting

-- "If a notice can't be sent, one flag remembers it."
abbrev pub raised_by : Bool → Desk → Desk
raised_by new d = desk_of d.on d.masked (d.flag || new) d.waiting

-- "When an item lists one or more sets that weren't listed, notices are on, none is masked and a request waits, that request completes ..
-- If a notice can't be sent, one flag remembers it. It is served as soon as notices are on, none is masked and a request waits":
-- what is to be told is raised as the flag, and sent at once if it can be. The one place that sends.
abbrev pub settle : Bool → Desk → Told
settle new d = send (raised_by new d)

-- ---- legality

-- "Up to four requests wait"
abbrev pub requests_maximum : ℕ
requests_maximum = 4

-- an identifier has 16 bits
abbrev pub identifier_maximum : ℕ
identifier_maximum = 0xFFFF

abbrev pub all_identifiers : List ℕ → Bool
all_identifiers [] = true
all_identifiers (id ∷ ids) = leb id identifier_maximum && all_identifiers ids

-- "Legal: at most four waiting, and no flag that could be served at once."
abbrev pub legal_desk : Desk → Bool
legal_desk d = leb (length d.waiting) requests_maximum && all_identifiers d.waiting && not (d.flag && ready d)

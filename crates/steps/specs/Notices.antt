-- 02, "Wake the host": what is promised of notices, over any list of items. Told by items, answers, notices and the card before and
-- after: by nothing that the step reckons on its way.
-- Each is proved under its name, in snake case, in proofs/Notices.antt; the two that are refuted, and the table of
-- cases, in proofs/NoticeCases.antt. The same of calls, one after another, is in Holders.antt.
use Rattle.std.specs.Prelude.{◌≡◌, Bool, true, false, not, ◌&&◌, ◌||◌, List, [], ◌∷◌, ◌++◌, ◌⊎◌, ℕ, ◌≤◌, eqb, length, if◌then◌else◌, None, Some}
use Rattle.replies.specs.Numbers.{success, request_waits}
use Rattle.replies.specs.Answers.{granted}
use Rattle.desk.specs.Desk.{Desk, waits, ready, legal_desk}
use Rattle.table.specs.Card.{Card}
use Rattle.table.specs.Table.{legal_sets, newly}
use Rattle.commands.specs.declared.Command.{Command}
use Rattle.commands.specs.declared.Kind.{Kind}
use Rattle.commands.specs.declared.Kind.TheVariants.{SetNotices, GetNotices}
use Rattle.commands.specs.Commands.{command_in, retain, identifier, turns_on}
use Rattle.commands.specs.Shapes.{log_opcode, set_opcode, notices_fid, aggregate_page_no, shape_of, has_opcode, has_choice, kind_of}
use Rattle.steps.specs.Items.{Item, reads, writes, excursion, tick, command}
use Rattle.steps.specs.Commanded.{notices_no}
use Rattle.steps.specs.Card.{answer, step, run, notices}
use Rattle.steps.specs.Rows.{carried_out}

-- ---- "Legal: at most four waiting, and no flag that could be served at once."

abbrev pub legal_card : Card → Bool
legal_card c = legal_sets 0 c.sets && legal_desk c.desk

abbrev pub CardKept : Type 0
CardKept = (c : Card) (items : List Item) → legal_card c ≡ true → legal_card (run c items) ≡ true

-- ---- which items these are

-- the identifier of a request
abbrev pub request_of : Kind → Command → List ℕ
request_of k c = if (shape_of k).queues then identifier c ∷ [] else []

abbrev pub request_in : Item → List ℕ
request_in (reads id k) = []
request_in (writes id k) = []
request_in (excursion id) = []
request_in (tick t room) = []
request_in (command bytes given room) = request_of (kind_of (command_in bytes)) (command_in bytes)

-- "read of 0Bh with Retain 0"
abbrev pub lifts_by : Kind → Command → Bool
lifts_by k c = has_opcode log_opcode k && has_choice aggregate_page_no k && not (retain c)

abbrev pub reads_listed : Item → Bool
reads_listed (reads id k) = false
reads_listed (writes id k) = false
reads_listed (excursion id) = false
reads_listed (tick t room) = false
reads_listed (command bytes given room) = lifts_by (kind_of (command_in bytes)) (command_in bytes)

-- Set Features 0Bh
abbrev pub turns_by : Kind → Bool
turns_by k = has_opcode set_opcode k && has_choice notices_fid k

abbrev pub turns_notices : Item → Bool
turns_notices (reads id k) = false
turns_notices (writes id k) = false
turns_notices (excursion id) = false
turns_notices (tick t room) = false
turns_notices (command bytes given room) = turns_by (kind_of (command_in bytes))

-- ---- "Up to four requests wait, oldest served first, each answered 07C8h": each is completed once at most, in the order in which
-- they came. The identifiers of all notices, and then of the requests that still wait, are those that waited at the start, and then
-- those of the requests that were answered 07C8h.

-- what one item adds, by the number that it was answered with
abbrev pub accepted_by : Item → ℕ → List ℕ
accepted_by i status = if eqb status request_waits then request_in i else []

abbrev pub accepted : Card → List Item → List ℕ
accepted c [] = []
accepted c (i ∷ is) = accepted_by i (step c i).answer.status ++ accepted (step c i).card is

abbrev pub InTurn : Type 0
InTurn = (c : Card) (items : List Item) → notices c items ++ (run c items).desk.waiting ≡ c.desk.waiting ++ accepted c items

-- ---- "When an item lists one or more sets that weren't listed": the marks before and after it

abbrev pub lists : Card → Item → Bool
lists c i = newly c.sets (step c i).card.sets

-- "A successful read of 0Bh with Retain 0"
abbrev pub lifts : Card → Item → Bool
lifts c i = reads_listed i && eqb (step c i).answer.status success

-- ---- what one item does. It sends one notice at most, by the type of an outcome.

-- Where it sends one: it listed a set, or the flag was up; notices are on and were not masked. "that request completes .., and further
-- notices are masked", and the flag is down. (Which request that is: `InTurn`. Dword 0 is `notice_dword`, wherever one is shown.)
pub record Sends (before after : Card) (lifted : Bool) : Type 0 where
  pub why : before.desk.flag || newly before.sets after.sets ≡ true
  pub on : after.desk.on ≡ true
  pub unmasked : before.desk.masked ≡ false
  pub masks : after.desk.masked ≡ true
  pub drops : after.desk.flag ≡ false
  pub no_read : lifted ≡ false

abbrev pub SentOnly : Type 0
SentOnly = (c : Card) (i : Item) (id : ℕ) → (step c i).notice ≡ Some id → Sends c (step c i).card (lifts c i)

-- Where it sends none: "If a notice can't be sent, one flag remembers it." "A successful read of 0Bh with Retain 0 lifts the mask and
-- drops the flag".
pub record Holds (before after : Card) (lifted : Bool) : Type 0 where
  pub masked : after.desk.masked ≡ not lifted && before.desk.masked
  pub flag : after.desk.flag ≡ not lifted && before.desk.flag || newly before.sets after.sets

abbrev pub HeldElse : Type 0
HeldElse = (c : Card) (i : Item) → legal_card c ≡ true → (step c i).notice ≡ None → Holds c (step c i).card (lifts c i)

-- ---- no listing unheard

-- none of these items is such a read
abbrev pub none_lifts : Card → List Item → Bool
none_lifts c [] = true
none_lifts c (i ∷ is) = not (lifts c i) && none_lifts (step c i).card is

-- one of these items listed a set
abbrev pub lists_some : Card → List Item → Bool
lists_some c [] = false
lists_some c (i ∷ is) = lists c i || lists_some (step c i).card is

-- a notice went out and further ones are masked, or the flag is up
abbrev pub Heard : List ℕ → Desk → Type 0
Heard sent d = ((sent ≡ [] → ⊥) × (d.masked ≡ true)) ⊎ (d.flag ≡ true)

-- From any legal card, as it is at the start or after such a read: if an item listed a set and no such read came since, then a notice went
-- out since and further ones are masked, or the flag is up.
abbrev pub NoListingUnheard : Type 0
NoListingUnheard =
    (c : Card) (since : List Item) → legal_card c ≡ true → none_lifts c since ≡ true → lists_some c since ≡ true
    → Heard (notices c since) (run c since).desk

-- "It is served as soon as notices are on, none is masked and a request waits": an item, but for such a read, after which a flag
-- that was up is not served, leaves it up, and a desk where it could not be served.
abbrev pub Unserved : Desk → Type 0
Unserved d = (d.flag ≡ true) × (ready d ≡ false)

abbrev pub ServedAtOnce : Type 0
ServedAtOnce =
    (c : Card) (i : Item) → legal_card c ≡ true → c.desk.flag ≡ true → lifts c i ≡ false → (step c i).notice ≡ None
    → Unserved (step c i).card.desk

-- So what the host relies on: from a legal card with no mask (as set-up leaves it, and every such read), if an item listed a set,
-- and notices are on and a request waits now, then a notice went out since.
abbrev pub Woken : Type 0
Woken =
    (c : Card) (since : List Item) → legal_card c ≡ true → c.desk.masked ≡ false → none_lifts c since ≡ true
    → lists_some c since ≡ true → (run c since).desk.on ≡ true → waits (run c since).desk.waiting ≡ true → notices c since ≡ [] → ⊥

-- "and further notices are masked": one at most between two such reads, and none under a mask
abbrev pub OneAtMost : Type 0
OneAtMost =
    (c : Card) (since : List Item) → legal_card c ≡ true → none_lifts c since ≡ true
    → (length (notices c since) ≤ 1) × (c.desk.masked ≡ true → notices c since ≡ [])

-- ---- demand 2 of feature 0Bh: "What Set Features stores, Get Features hands back."

-- no Set Features 0Bh of a history is carried out
abbrev pub none_turns : Card → List Item → Bool
none_turns c [] = true
none_turns c (i ∷ is) = not (turns_notices i && carried_out (answer c i).status) && none_turns (step c i).card is

-- "start off": no other item turns them on or off
abbrev pub OnlySetTurns : Type 0
OnlySetTurns =
    (c : Card) (items : List Item) → none_turns c items ≡ true → (run c items).desk.on ≡ c.desk.on

abbrev pub NoticesStored : Type 0
NoticesStored =
    (c : Card) (bytes given : List ℕ) (room : ℕ) (items : List Item) (bytes' given' : List ℕ) (room' : ℕ)
    → kind_of (command_in bytes) ≡ SetNotices → (answer c (command bytes given room)).status ≡ success
    → none_turns (step c (command bytes given room)).card items ≡ true → kind_of (command_in bytes') ≡ GetNotices
    → (answer (run c (command bytes given room ∷ items)) (command bytes' given' room')).status ≡ success
    → answer (run c (command bytes given room ∷ items)) (command bytes' given' room') ≡ granted (notices_no (turns_on (command_in bytes))) []

-- ---- what the laws cannot do without

-- From a desk with a flag that could be served, swapping two items that name different sets may change the flag.
abbrev pub SwapAsks : Type 0
SwapAsks =
    ((c : Card) → (run c (excursion 7 ∷ reads 8 1 ∷ [])).desk ≡ (run c (reads 8 1 ∷ excursion 7 ∷ [])).desk) → ⊥

-- "swapping may move one to the other item": the notice of an item may change with the one before it.
abbrev pub NoticesMove : Type 0
NoticesMove = ((c : Card) (i j : Item) → (step c i).notice ≡ (step (step c j).card i).notice) → ⊥

-- What is promised of the step: demand 1 as laws for all items; demand 3 over any list of items; and of demand 2, that features
-- hand back what they store.
-- Each is proved under its name, in snake case, but for `carried_out_lem`, since a definition has the plain name: demand 1 in
-- proofs/ExactRefusals.antt and proofs/OnWords.antt, what features store in proofs/StoredFeatures.antt, demand 3 in
-- proofs/NamedItems.antt, proofs/OwnHistory.antt and proofs/AggregateLog.antt, and what holds of the lent words in proofs/OnWords.antt
-- and proofs/WordsStay.antt.
-- But for page 0Bh, the features and which items name a set nothing here looks at a single item: an item names one set (`The`), goes
-- to every set (`Everybody`) or to none (`Nobody`).
use Rattle.std.specs.Prelude.{◌≡◌, Bool, true, false, not, ◌&&◌, ◌||◌, List, [], ◌∷◌, ◌++◌, map, ℕ, ◌*◌, eqb, length, if◌then◌else◌, None}
use Rattle.std.proofs.Math.Option.{Option, none, some}
use Rattle.octets.specs.Octets.{AllBytes, padded}
use Rattle.octets.specs.Words.{AllWords}
use Rattle.record.specs.declared.Attributes.{Attributes}
use Rattle.record.specs.declared.State.{State}
use Rattle.record.specs.declared.Record.{Record}
use Rattle.record.specs.Parts.{id_of}
use Rattle.record.specs.Event.{bit, any_enabled}
use Rattle.record.specs.Windows.{window_no}
use Rattle.replies.specs.Numbers.{success, request_waits, bad_table}
use Rattle.replies.specs.Answers.{Notice, Answer, granted, refused, refusing, told_of}
use Rattle.replies.specs.declared.Reply.{Reply}
use Rattle.desk.specs.Desk.{new_desk, legal_desk}
use Rattle.table.specs.Card.{card_with}
use Rattle.table.specs.Table.{legal_sets, legal_table, written, listed_marks}
use Rattle.pages.specs.Features.{handed_back}
use Rattle.pages.specs.Aggregate.{picked, aggregate_page}
use Rattle.octets.specs.Lists.{nth, first, keep, beside, join, Rising}
use Rattle.steps.specs.Items.{Card, Item, reads, writes, excursion, tick, command, GivenBytes, item_of, All, View, Meaning, Nobody, Everybody, The}
use Rattle.commands.specs.declared.Kind.{Kind}
use Rattle.commands.specs.declared.Kind.TheVariants.{SetConfig, SetWindow, GetConfig, GetWindow, ReadAggregate}
use Rattle.commands.specs.Commands.{dword_size, command_in, feature_set, enable, window_value, offset, dwords}
use Rattle.commands.specs.Shapes.{shape_of, set_opcode, config_fid, has_opcode, has_choice, kind_of, is_named, named_by}
use Rattle.steps.specs.Meanings.{meaning}
use Rattle.steps.specs.Card.{effect_on, ruled, refusal_of, has, names, answer, step, run, trace, notices}
use Rattle.steps.specs.Words.{card_of, unchanged, step_words, Answered, Handed}
use Rattle.rules.specs.declared.Media.{Media}
use Rattle.steps.specs.Rows.{ByRows, carried_out, command_rows, event_rows, tick_rows}
use Rattle.steps.specs.SetUp.{set_up_lines, set_up_status, new_card, set_up}

-- ==== demand 1: "with success or with the one refusal that document 01 names for that input"

-- "A refused call gives dword 0 as zero and no data, and changes no byte of the table": on the card, no set and nothing of the desk; and
-- no notice goes beside it
abbrev pub Refused : Type 0
Refused =
    (c : Card) (i : Item) → legal_sets 0 c.sets ≡ true → (refusal_of c i ≡ 0 → ⊥)
    → step c i ≡ record { card = c; answer = refused (refusal_of c i); notice = None }

-- and on the lent words, "however damaged": the refusal of an item that is handed in with them
abbrev pub refusal_words : List ℕ → Item → ℕ
refusal_words ws i = if legal_table ws then refusal_of (card_of ws) i else bad_table

abbrev pub RefusedWords : Type 0
RefusedWords =
    (ws : List ℕ) (i : Item) → (refusal_words ws i ≡ 0 → ⊥) → step_words ws i ≡ unchanged ws (refusal_words ws i)

-- a command that is not refused answers with success; one that queues, 02: "each answered 07C8h (waiting, no refusal)"
abbrev pub carried_command : Kind → ℕ
carried_command k = if (shape_of k).queues then request_waits else success

-- and every other item with success
abbrev pub carried_status : Item → ℕ
carried_status (reads id k) = success
carried_status (writes id k) = success
carried_status (excursion id) = success
carried_status (tick t room) = success
carried_status (command bytes given room) = carried_command (kind_of (command_in bytes))

abbrev pub CarriedOut : Type 0
CarriedOut = (c : Card) (i : Item) → refusal_of c i ≡ 0 → (answer c i).status ≡ carried_status i

-- so that the number alone tells whether it was carried out
abbrev pub NumberTells : Type 0
NumberTells = (c : Card) (i : Item) → carried_out (answer c i).status ≡ eqb (refusal_of c i) 0

-- "the one refusal that document 01 names for that input", exactly then: on any words, by the rows of 01 and 02 for commands, media
-- events, ticks
abbrev pub Exactly : Type 0
Exactly =
    (ws bytes given : List ℕ) (room : ℕ)
    → ByRows (command_rows ws bytes given room) (carried_command (kind_of (command_in bytes))) (step_words ws (command bytes given room)).answer.status

abbrev pub ExactlyEvents : Type 0
ExactlyEvents = (ws : List ℕ) (id : ℕ) (m : Media) → ByRows (event_rows ws id) success (step_words ws (item_of id m)).answer.status

abbrev pub ExactlyTicks : Type 0
ExactlyTicks = (ws : List ℕ) (t room : ℕ) → ByRows (tick_rows ws t) success (step_words ws (tick t room)).answer.status

-- "or of the answer buffer": what an item that is refused leaves of it
abbrev pub RefusedBuffer : Type 0
RefusedBuffer =
    (ws : List ℕ) (i : Item) (before : List ℕ) (r : Reply) (words buffer : List ℕ) → (refusal_words ws i ≡ 0 → ⊥)
    → Answered ws i before r words buffer → (r ≡ refusing (refusal_words ws i)) × (words ≡ ws) × (buffer ≡ before)

-- of the call that hands back the written part: no part
abbrev pub RefusedHanded : Type 0
RefusedHanded =
    (ws : List ℕ) (i : Item) (room : ℕ) (words : List ℕ) (status dword told to : ℕ) (part : List ℕ) → (refusal_words ws i ≡ 0 → ⊥)
    → Handed ws i room words status dword told to part
    → (status ≡ refusal_words ws i) × (dword ≡ 0) × (told ≡ 0) × (to ≡ 0) × (part ≡ []) × (words ≡ ws)

-- the same of set-up, which is no item; and what it leaves where it succeeds
abbrev pub SetUpExactly : Type 0
SetUpExactly = (bytes ws : List ℕ) → ByRows (set_up_lines bytes (length ws)) success (set_up bytes ws).answer.status

abbrev pub SetUpRefused : Type 0
SetUpRefused =
    (bytes ws : List ℕ) → (set_up_status bytes (length ws) ≡ 0 → ⊥)
    → set_up bytes ws ≡ unchanged ws (set_up_status bytes (length ws))

abbrev pub SetUpLegal : Type 0
SetUpLegal =
    (bytes ws : List ℕ) → (set_up bytes ws).answer.status ≡ 0
    → (legal_table (set_up bytes ws).table ≡ true) × (card_of (set_up bytes ws).table ≡ new_card bytes)

-- ==== demand 3: "Start from any legal table and take any sequence of items, refused ones included, with no new set-up in it."
-- Where a legal table is needed, `legal_sets` says so. A set is the record in a slot, which keeps its place.

-- ---- "For each set, its record and the answers to items naming it are those reached under demand 2's rules by that set alone,
-- from its starting record and the items naming it and the ticks, in their order."

-- "that set alone": the card that holds just this set, on which no request waits (02: "Demand 3 leaves notices out")
abbrev pub alone : Record → Card
alone r = card_with (r ∷ []) new_desk

-- "the items naming it and the ticks, in their order". A tick goes to every set, unless it is refused; its status goes by the
-- number of sets and not by what they hold, so that the starting card tells it.
abbrev pub to_all_by : Meaning → Bool
to_all_by (Nobody v) = false
to_all_by (Everybody a) = true
to_all_by (The named o) = false

unfoldable pub to_all : Item → Bool
to_all i = to_all_by (meaning i)

-- which items these are: "The items that name a set are events other than ticks, feature commands and reads of 0Ah; Identify and
-- 0Bh name none.", and 02: "Opcode 0Ch and FID 0Bh .. name no set"
abbrev pub names_in : ℕ → Item → Bool
names_in id (reads named k) = eqb named id
names_in id (writes named k) = eqb named id
names_in id (excursion named) = eqb named id
names_in id (tick t room) = false
names_in id (command bytes given room) =
    is_named (kind_of (command_in bytes)) && eqb (named_by (kind_of (command_in bytes)) (command_in bytes)) id

abbrev pub is_tick : Item → Bool
is_tick (reads named k) = false
is_tick (writes named k) = false
is_tick (excursion named) = false
is_tick (tick t room) = true
is_tick (command bytes given room) = false

abbrev pub NamedItems : Type 0
NamedItems = (id : ℕ) (i : Item) → (names id i ≡ names_in id i) × (to_all i ≡ is_tick i)

abbrev pub owns : Card → ℕ → Item → Bool
owns c id i = names id i || to_all i && eqb (refusal_of c i) 0

abbrev pub own : Card → Record → List Item → List Item
own c r items = keep (owns c (id_of r)) items

-- its record
abbrev pub OwnRecord : Type 0
OwnRecord =
    (c : Card) (items : List Item) (k : ℕ) (r : Record) → nth k c.sets ≡ some r
    → nth k (run c items).sets ≡ nth 0 (run (alone r) (own c r items)).sets

-- "under demand 2's rules": the rules of those items, one after the other
abbrev pub lived : Record → List Item → Record
lived r [] = r
lived r (i ∷ is) = lived (ruled i r) is

abbrev pub ByRules : Type 0
ByRules =
    (c : Card) (items : List Item) (k : ℕ) (r : Record) → nth k c.sets ≡ some r
    → nth k (run c items).sets ≡ some (lived r (own c r items))

-- "the answers to items naming it"
abbrev pub OwnAnswers : Type 0
OwnAnswers =
    (c : Card) (items : List Item) (k : ℕ) (r : Record) → legal_sets 0 c.sets ≡ true → nth k c.sets ≡ some r
    → beside (names (id_of r)) items (trace c items) ≡ beside (names (id_of r)) (own c r items) (trace (alone r) (own c r items))

-- The data of an item that goes to every set, if it is carried out: what each set alone would hand out, joined.
-- (Today no such item hands out data.)
abbrev pub Joined : Type 0
Joined =
    (c : Card) (items : List Item) (i : Item) (a : All) → meaning i ≡ Everybody a → (answer (run c items) i).status ≡ 0
    → (answer (run c items) i).bytes ≡ join (map (λ r. (answer (run (alone r) (own c r items)) i).bytes) c.sets)

-- no item of a list passes a test
abbrev pub none_of : (Item → Bool) → List Item → Bool
none_of p [] = true
none_of p (i ∷ is) = not (p i) && none_of p is

-- ---- "The aggregate log then lists, rising, exactly the sets whose own history holds an event that was enabled when it
-- happened, or a listing at the start, with no successful clearing read since."
-- The history is told by a set's attributes and state. The listed mark is asked for at the start only.

-- "an event that was enabled when it happened": by the enable bits that the item met
abbrev pub raises : Item → Attributes → State → Bool
raises i a s = any_enabled (effect_on i a s).happened s.config.enabled

-- "no successful clearing read"
abbrev pub none_cleared : Attributes → State → List Item → Bool
none_cleared a s [] = true
none_cleared a s (i ∷ is) = not (effect_on i a s).clears && none_cleared a (effect_on i a s).state is

-- an enabled event, and no successful clearing read since
abbrev pub raised : Attributes → State → List Item → Bool
raised a s [] = false
raised a s (i ∷ is) =
    let later = (effect_on i a s).state in
    (raises i a s && none_cleared a later is) || raised a later is

-- that, "or a listing at the start, with no successful clearing read since"
abbrev pub pending : Record → List Item → Bool
pending r items = (r.notes.listed && none_cleared r.attributes r.state items) || raised r.attributes r.state items

-- the sets of which this holds
abbrev pub pending_ids : Card → List Item → List ℕ
pending_ids c items = map id_of (keep (λ r. pending r (own c r items)) c.sets)

-- "exactly the sets"
abbrev pub Listed : Type 0
Listed = (c : Card) (items : List Item) → map id_of (keep (λ r. r.notes.listed) (run c items).sets) ≡ pending_ids c items

-- So the listing of one set is never lost to another: a set that is listed stays so, whatever items come that do not name it.
abbrev pub StaysListed : Type 0
StaysListed =
    (c : Card) (items : List Item) (k : ℕ) (r : Record) → nth k c.sets ≡ some r → r.notes.listed ≡ true
    → none_of (names (id_of r)) items ≡ true → nth k (listed_marks (run c items).sets) ≡ some true

-- the same of the identifiers that page 0Bh is made of
abbrev pub PickedIds : Type 0
PickedIds = (c : Card) (items : List Item) → picked (map id_of (run c items).sets) (listed_marks (run c items).sets) ≡ pending_ids c items

-- "The aggregate log then lists": any item that answers with a page of those identifiers lists these sets
abbrev pub Aggregate : Type 0
Aggregate =
    (c : Card) (items : List Item) (i : Item) (v : View) (page : List ℕ → Answer) → meaning i ≡ Nobody v
    → ((d : Card) → v.done d ≡ page (picked (map id_of d.sets) (listed_marks d.sets))) → refusal_of (run c items) i ≡ 0
    → answer (run c items) i ≡ page (pending_ids c items)

-- page 0Bh: every read of it that is carried out
abbrev pub AggregateLog : Type 0
AggregateLog =
    (c : Card) (items : List Item) (bytes given : List ℕ) (room : ℕ) → kind_of (command_in bytes) ≡ ReadAggregate
    → refusal_of (run c items) (command bytes given room) ≡ 0
    → answer (run c items) (command bytes given room)
    ≡ granted 0 (padded (aggregate_page (pending_ids c items)) (offset (command_in bytes)) (dwords (command_in bytes) * dword_size))

-- "rising"
abbrev pub InOrder : Type 0
InOrder = (c : Card) (items : List Item) → legal_sets 0 c.sets ≡ true → Rising 0 (pending_ids c items)

-- ---- "So two neighbouring items that name different sets may change places, and no record and no answer changes with them."

-- 02: "Demand 3 leaves notices out: swapping may move one to the other item." So all of the card is the same, the desk too, and so is
-- the list of notices; only which of the two items has one beside it may change.
pub record Swapped (c : Card) (i j : Item) : Type 0 where
  pub same_card : run c (i ∷ j ∷ []) ≡ run c (j ∷ i ∷ [])
  pub same_first : answer c i ≡ answer (step c j).card i
  pub same_second : answer (step c i).card j ≡ answer c j
  pub same_notices : notices c (i ∷ j ∷ []) ≡ notices c (j ∷ i ∷ [])

-- from a desk with no flag that could be served: without that the flag itself may differ (`SwapAsks` of Notices.antt)
abbrev pub Swap : Type 0
Swap =
    (c : Card) (i j : Item) (a b : ℕ) → legal_desk c.desk ≡ true → names a i ≡ true → names b j ≡ true → (a ≡ b → ⊥) → Swapped c i j

-- Inside any history: the same card afterwards, the same answers before, the two items' own answers with them, and the same
-- answers later, of the items that name no set too; and the same notices.
pub record SwappedWithin (c : Card) (before : List Item) (i j : Item) (later : List Item) : Type 0 where
  pub same_card : run c (before ++ i ∷ j ∷ later) ≡ run c (before ++ j ∷ i ∷ later)
  pub one_way :
      trace c (before ++ i ∷ j ∷ later)
      ≡ trace c before ++ answer (run c before) i ∷ answer (run c before) j ∷ trace (run c (before ++ i ∷ j ∷ [])) later
  pub other_way :
      trace c (before ++ j ∷ i ∷ later)
      ≡ trace c before ++ answer (run c before) j ∷ answer (run c before) i ∷ trace (run c (before ++ i ∷ j ∷ [])) later
  pub same_notices : notices c (before ++ i ∷ j ∷ later) ≡ notices c (before ++ j ∷ i ∷ later)

abbrev pub SwapWithin : Type 0
SwapWithin =
    (c : Card) (before : List Item) (i j : Item) (later : List Item) (a b : ℕ) → legal_desk c.desk ≡ true → names a i ≡ true
    → names b j ≡ true → (a ≡ b → ⊥) → SwappedWithin c before i j later

-- ==== demand 2: "What Set Features stores, Get Features hands back."

-- ---- 13h

abbrev pub stores13 : Kind → Bool
stores13 k = has_opcode set_opcode k && has_choice config_fid k

-- a Set Features 13h that names a set
abbrev pub configures : ℕ → Item → Bool
configures id (reads named k) = false
configures id (writes named k) = false
configures id (excursion named) = false
configures id (tick t room) = false
configures id (command bytes given room) = stores13 (kind_of (command_in bytes)) && eqb (feature_set (command_in bytes)) id

-- no such item of a history is carried out
abbrev pub none_configures : Card → ℕ → List Item → Bool
none_configures c id [] = true
none_configures c id (i ∷ is) = not (configures id i && carried_out (answer c i).status) && none_configures (step c i).card id is

-- "Get returns enable with the 512 bytes": those of the last Set Features 13h of the set that was carried out, whatever other items
-- came between, refused ones too. From data in to data out, byte by byte (`handed_back` of crates/pages/specs/Features.antt): the
-- thresholds' bytes as they went in, ENEV's masked, the rest zero.
abbrev pub ConfigStored : Type 0
ConfigStored =
    (c : Card) (bytes given : List ℕ) (room : ℕ) (items : List Item) (bytes' given' : List ℕ) (room' : ℕ)
    → AllBytes given → kind_of (command_in bytes) ≡ SetConfig → (answer c (command bytes given room)).status ≡ success
    → none_configures (step c (command bytes given room)).card (feature_set (command_in bytes)) items ≡ true
    → kind_of (command_in bytes') ≡ GetConfig → feature_set (command_in bytes') ≡ feature_set (command_in bytes)
    → (answer (run c (command bytes given room ∷ items)) (command bytes' given' room')).status ≡ success
    → answer (run c (command bytes given room ∷ items)) (command bytes' given' room')
    ≡ granted (bit (enable (command_in bytes))) (handed_back given)

-- ---- 14h

-- a set's window by its number, where there is a set
abbrev pub shown_window : Option Record → ℕ
shown_window none = 0
shown_window (some r) = window_no r.state.window

-- that of the set with an identifier
abbrev pub window_of : Card → ℕ → ℕ
window_of c id = shown_window (first (has id) c.sets)

-- no item of a history moves the set to another window
abbrev pub none_moves : Card → ℕ → List Item → Bool
none_moves c id [] = true
none_moves c id (i ∷ is) = eqb (window_of (step c i).card id) (window_of c id) && none_moves (step c i).card id is

-- "or the window, in dword 0": that of the last Set Features 14h, as long as nothing moves the window, whatever else comes
abbrev pub WindowStored : Type 0
WindowStored =
    (c : Card) (bytes given : List ℕ) (room : ℕ) (items : List Item) (bytes' given' : List ℕ) (room' : ℕ)
    → kind_of (command_in bytes) ≡ SetWindow → (answer c (command bytes given room)).status ≡ success
    → none_moves (step c (command bytes given room)).card (feature_set (command_in bytes)) items ≡ true
    → kind_of (command_in bytes') ≡ GetWindow → feature_set (command_in bytes') ≡ feature_set (command_in bytes)
    → (answer (run c (command bytes given room ∷ items)) (command bytes' given' room')).status ≡ success
    → answer (run c (command bytes given room ∷ items)) (command bytes' given' room')
    ≡ granted (window_value (command_in bytes)) []

-- ==== from the step to the words: a lent table that is handed from item to item runs as the card that it holds. (The demands of calls
-- on it, one after another, are in Holders.antt.)

abbrev pub run_words : List ℕ → List Item → List ℕ
run_words ws [] = ws
run_words ws (i ∷ is) = run_words (step_words ws i).table is

abbrev pub trace_words : List ℕ → List Item → List Answer
trace_words ws [] = []
trace_words ws (i ∷ is) = (step_words ws i).answer ∷ trace_words (step_words ws i).table is

-- the notices, one for each item
abbrev pub told : Card → List Item → List Notice
told c [] = []
told c (i ∷ is) = (step c i).notice ∷ told (step c i).card is

abbrev pub told_words : List ℕ → List Item → List Notice
told_words ws [] = []
told_words ws (i ∷ is) = (step_words ws i).notice ∷ told_words (step_words ws i).table is

-- a table of words stays one, where the data in of its items is bytes
abbrev pub WordsStay : Type 0
WordsStay = (ws : List ℕ) (i : Item) → legal_table ws ≡ true → AllWords ws → GivenBytes i → AllWords (step_words ws i).table

-- a legal table stays legal, holds the sets of the card's run, and has no other word changed
pub record RanWords (ws : List ℕ) (items : List Item) : Type 0 where
  pub legal : legal_table (run_words ws items) ≡ true
  pub card : card_of (run_words ws items) ≡ run (card_of ws) items
  pub words : run_words ws items ≡ written ws (run (card_of ws) items)

abbrev pub WordsRun : Type 0
WordsRun = (ws : List ℕ) (items : List Item) → legal_table ws ≡ true → RanWords ws items

-- and the answers are the card's, and so are the notices
abbrev pub WordsTrace : Type 0
WordsTrace = (ws : List ℕ) (items : List Item) → legal_table ws ≡ true → trace_words ws items ≡ trace (card_of ws) items

abbrev pub WordsNotices : Type 0
WordsNotices = (ws : List ℕ) (items : List Item) → legal_table ws ≡ true → told_words ws items ≡ told (card_of ws) items

-- So on the words too, "two neighbouring items that name different sets may change places": not one word changes with them. The notices
-- before and after the two are the same, and those of the two, in their order.
pub record SwappedWords (ws : List ℕ) (before : List Item) (i j : Item) (later : List Item) : Type 0 where
  pub same_words : run_words ws (before ++ i ∷ j ∷ later) ≡ run_words ws (before ++ j ∷ i ∷ later)
  pub one_way :
      trace_words ws (before ++ i ∷ j ∷ later)
      ≡ trace_words ws before ++ (step_words (run_words ws before) i).answer ∷ (step_words (run_words ws before) j).answer
      ∷ trace_words (run_words ws (before ++ i ∷ j ∷ [])) later
  pub other_way :
      trace_words ws (before ++ j ∷ i ∷ later)
      ≡ trace_words ws before ++ (step_words (run_words ws before) j).answer ∷ (step_words (run_words ws before) i).answer
      ∷ trace_words (run_words ws (before ++ i ∷ j ∷ [])) later
  pub told_one_way :
      told_words ws (before ++ i ∷ j ∷ later)
      ≡ told_words ws before ++ (step_words (run_words ws before) i).notice ∷ (step_words (step_words (run_words ws before) i).table j).notice
      ∷ told_words (run_words ws (before ++ i ∷ j ∷ [])) later
  pub told_other_way :
      told_words ws (before ++ j ∷ i ∷ later)
      ≡ told_words ws before ++ (step_words (run_words ws before) j).notice ∷ (step_words (step_words (run_words ws before) j).table i).notice
      ∷ told_words (run_words ws (before ++ i ∷ j ∷ [])) later
  pub same_notices :
      told_of (step_words (run_words ws before) i).notice ++ told_of (step_words (step_words (run_words ws before) i).table j).notice
      ≡ told_of (step_words (run_words ws before) j).notice ++ told_of (step_words (step_words (run_words ws before) j).table i).notice

abbrev pub WordsSwap : Type 0
WordsSwap =
    (ws : List ℕ) (before : List Item) (i j : Item) (later : List Item) (a b : ℕ) → legal_table ws ≡ true → names a i ≡ true
    → names b j ≡ true → (a ≡ b → ⊥) → SwappedWords ws before i j later

-- Demand 3, "hands back", and what 02 promises of notices and of asking Identify again, at the place where users call: said once, of
-- anything that holds a card and takes items, and of any calls to it, one after another. What is supposed of a call is only what its function promises; no run of the
-- step stands in a hypothesis.
use Rattle.std.specs.Prelude.{◌≡◌, Bool, true, false, not, ◌&&◌, ◌||◌, List, [], ◌∷◌, ◌++◌, map, ℕ, ◌+◌, ◌*◌, ◌≤◌, eqb, length, if◌then◌else◌, None, Some}
use Rattle.std.proofs.Math.Option.{some}
use Rattle.std.proofs.lemmas.List.Edits.{sets}
use Rattle.octets.specs.Octets.{AllBytes, part, padded}
use Rattle.octets.specs.Lists.{nth, keep, beside, Rising}
use Rattle.record.specs.declared.Record.{Record}
use Rattle.record.specs.Parts.{id_of}
use Rattle.record.specs.Event.{bit}
use Rattle.replies.specs.Numbers.{success}
use Rattle.replies.specs.Answers.{Notice, Answer, granted, replying, beside_of, told_of, told_no, to_no, notice_of}
use Rattle.replies.specs.declared.Reply.{Reply}
use Rattle.desk.specs.Desk.{Desk, waits, identifier_maximum}
use Rattle.table.specs.Table.{records_of, desk_at, legal_table, listed_marks, newly}
use Rattle.pages.specs.Features.{handed_back}
use Rattle.pages.specs.Aggregate.{aggregate_page}
use Rattle.pages.specs.Asking.{Ask, asks_from, GivesEach}
use Rattle.commands.specs.declared.Kind.TheVariants.{SetNotices, SetConfig, SetWindow, GetNotices, GetConfig, GetWindow, ReadAggregate}
use Rattle.commands.specs.Commands.{dword_size, command_in, feature_set, enable, window_value, offset, dwords, turns_on}
use Rattle.commands.specs.Shapes.{kind_of}
use Rattle.steps.specs.Items.{Item, command}
use Rattle.steps.specs.Commanded.{attributes_of, notices_no}
use Rattle.steps.specs.Card.{names, trace}
use Rattle.steps.specs.Rows.{carried_out}
use Rattle.steps.specs.Words.{card_of, step_words, Answered, Handed}
use Rattle.steps.specs.Demands.{alone, own, lived, pending_ids, none_of, configures, window_of}
use Rattle.steps.specs.Asking.{ask_in, AsksList}
use Rattle.steps.specs.Notices.{accepted_by, reads_listed, turns_notices, Sends, Holds, Heard, Unserved}

-- What holds a card and takes items.
pub record Holder : Type 1 where
  -- what it holds from call to call, what a call is lent, and what the call hands back
  pub Held : Type 0
  pub Lent : Type 0
  pub Back : Type 0
  -- the words that hold the card, and what is held with other words in their place
  pub words : Held → List ℕ
  pub with_words : Held → List ℕ → Held
  -- the item that a call is, how an answer to it is handed back with the notice beside it, and the status number in that
  pub item : Lent → Item
  pub shows : Lent → Answer → Notice → Back
  pub status : Back → ℕ
  -- the bytes in it, of which the answer's data are the first
  pub came : Back → List ℕ
  -- what is handed back, the notice left out
  pub without : Back → Back
  -- the notice in it, where what was lent has room to tell of one
  pub notice : Back → Notice
  pub hears : Lent → Bool
  -- what is promised of a call, from what was held before it to what is held after
  pub Call : Held → Lent → Back → Held → Type 0

-- a call that was made: what it was lent, what it handed back, and what was held after it
pub record Called (H : Holder) : Type 0 where
  pub lent : H.Lent
  pub back : H.Back
  pub held : H.Held

-- "any sequence of items, refused ones included": calls that were made, each on what the one before has left
abbrev pub History : (H : Holder) → H.Held → List (Called H) → Type 0
History H h [] = Unit {0}
History H h (c ∷ cs) = H.Call h c.lent c.back c.held × History H c.held cs

-- what is held after them
abbrev pub last : (H : Holder) → H.Held → List (Called H) → H.Held
last H h [] = h
last H h (c ∷ cs) = last H c.held cs

abbrev pub items : (H : Holder) → List (Called H) → List Item
items H cs = map (λ (c : Called H). H.item c.lent) cs

abbrev pub lents : (H : Holder) → List (Called H) → List H.Lent
lents H cs = map (λ (c : Called H). c.lent) cs

abbrev pub backs : (H : Holder) → List (Called H) → List H.Back
backs H cs = map (λ (c : Called H). c.back) cs

-- how answers are handed back, one to each call, with no notice beside them; and with one each
abbrev pub shown : (H : Holder) → List H.Lent → List Answer → List H.Back
shown H [] answers = []
shown H (l ∷ ls) [] = []
shown H (l ∷ ls) (a ∷ answers) = H.shows l a None ∷ shown H ls answers

abbrev pub shown_with : (H : Holder) → List H.Lent → List Answer → List Notice → List H.Back
shown_with H [] answers notices = []
shown_with H (l ∷ ls) [] notices = []
shown_with H (l ∷ ls) (a ∷ answers) [] = []
shown_with H (l ∷ ls) (a ∷ answers) (n ∷ notices) = H.shows l a n ∷ shown_with H ls answers notices

-- the calls that name a set
abbrev pub naming : (H : Holder) → ℕ → List (Called H) → List (Called H)
naming H id cs = keep (λ (c : Called H). names id (H.item c.lent)) cs

-- What is handed back by calls with two neighbours in each other's place: all but the two is the same, and of the two the answers and the
-- notices. 02: "swapping may move one to the other item".
pub record Exchanged (H : Holder) (i j : H.Lent) (xs ys : List H.Back) : Type 0 where
  pub before : List H.Back
  pub one : Answer
  pub other : Answer
  pub later : List H.Back
  -- the notices beside the two, one way and the other way
  pub beside_one : Notice
  pub then_other : Notice
  pub beside_other : Notice
  pub then_one : Notice
  pub first_way : xs ≡ before ++ H.shows i one beside_one ∷ H.shows j other then_other ∷ later
  pub second_way : ys ≡ before ++ H.shows j other beside_other ∷ H.shows i one then_one ∷ later
  pub same_notices : told_of beside_one ++ told_of then_other ≡ told_of beside_other ++ told_of then_one

-- ---- demand 3, of a holder: "Start from any legal table .."

module _ (H : Holder) where
  abbrev pub StaysLegal : Type 0
  StaysLegal = (h : H.Held) (cs : List (Called H)) → legal_table (H.words h) ≡ true → History H h cs → legal_table (H.words (last H h cs)) ≡ true

  -- "For each set, its record .. [is] reached under demand 2's rules by that set alone, from its starting record and the items naming
  -- it and the ticks, in their order."
  abbrev pub OwnRecords : Type 0
  OwnRecords =
      (h : H.Held) (cs : List (Called H)) (k : ℕ) (r : Record) → legal_table (H.words h) ≡ true → History H h cs
      → nth k (records_of (H.words h)) ≡ some r
      → nth k (records_of (H.words (last H h cs))) ≡ some (lived r (own (card_of (H.words h)) r (items H cs)))

  -- "and the answers to items naming it"; 02: "Demand 3 leaves notices out"
  abbrev pub OwnAnswersBack : Type 0
  OwnAnswersBack =
      (h : H.Held) (cs : List (Called H)) (k : ℕ) (r : Record) → legal_table (H.words h) ≡ true → History H h cs
      → nth k (records_of (H.words h)) ≡ some r
      → let its = own (card_of (H.words h)) r (items H cs) in
      map H.without (backs H (naming H (id_of r) cs)) ≡ shown H (lents H (naming H (id_of r) cs)) (beside (names (id_of r)) its (trace (alone r) its))

  -- "The aggregate log then lists, rising, exactly the sets whose own history holds an event that was enabled when it happened, or a
  -- listing at the start, with no successful clearing read since": one more call, a read of page 0Bh that succeeds
  abbrev pub AggregateBack : Type 0
  AggregateBack =
      (h : H.Held) (cs : List (Called H)) (d : Called H) (bytes given : List ℕ) (room : ℕ) → legal_table (H.words h) ≡ true → History H h cs
      → H.Call (last H h cs) d.lent d.back d.held → H.item d.lent ≡ command bytes given room
      → kind_of (command_in bytes) ≡ ReadAggregate → H.status d.back ≡ 0
      → let ids = pending_ids (card_of (H.words h)) (items H cs) in
      (H.without d.back ≡ H.shows d.lent (granted 0 (padded (aggregate_page ids) (offset (command_in bytes)) (dwords (command_in bytes) * dword_size))) None)
      × Rising 0 ids

  -- The listing of one set is never lost to another: a set that is listed stays so, whatever calls are made that do not name it.
  abbrev pub NeverLost : Type 0
  NeverLost =
      (h : H.Held) (cs : List (Called H)) (k : ℕ) (r : Record) → legal_table (H.words h) ≡ true → History H h cs
      → nth k (records_of (H.words h)) ≡ some r → r.notes.listed ≡ true → none_of (names (id_of r)) (items H cs) ≡ true
      → nth k (listed_marks (records_of (H.words (last H h cs)))) ≡ some true

  -- "So two neighbouring items that name different sets may change places, and no record and no answer changes with them": all that
  -- is held is the same, and all that is handed back, but for which of the two has the notice
  abbrev pub SwapsBack : Type 0
  SwapsBack =
      (h : H.Held) (cs ds : List (Called H)) (before : List H.Lent) (i j : H.Lent) (later : List H.Lent) (a b : ℕ)
      → legal_table (H.words h) ≡ true → History H h cs → History H h ds
      → lents H cs ≡ before ++ i ∷ j ∷ later → lents H ds ≡ before ++ j ∷ i ∷ later
      → names a (H.item i) ≡ true → names b (H.item j) ≡ true → (a ≡ b → ⊥)
      → (last H h cs ≡ last H h ds) × Exchanged H i j (backs H cs) (backs H ds)

-- ---- demand 2, of a holder: "What Set Features stores, Get Features hands back."

-- no call that passes a test is carried out
abbrev pub none_done : (H : Holder) → (Item → Bool) → List (Called H) → Bool
none_done H p [] = true
none_done H p (c ∷ cs) = not (p (H.item c.lent) && carried_out (H.status c.back)) && none_done H p cs

-- after each call a set is in the window that it was in before
abbrev pub none_moved : (H : Holder) → ℕ → H.Held → List (Called H) → Bool
none_moved H id h [] = true
none_moved H id h (c ∷ cs) = eqb (window_of (card_of (H.words c.held)) id) (window_of (card_of (H.words h)) id) && none_moved H id c.held cs

module _ (H : Holder) where
  -- a Set Features 13h that succeeds, calls of which no other 13h of that set is carried out, and a Get Features 13h that succeeds:
  -- the data that went in comes back, the thresholds' bytes as they were, ENEV's masked, the rest zero
  abbrev pub ConfigBack : Type 0
  ConfigBack =
      (h : H.Held) (c : Called H) (cs : List (Called H)) (d : Called H) (bytes given : List ℕ) (room : ℕ) (bytes' given' : List ℕ) (room' : ℕ)
      → legal_table (H.words h) ≡ true → History H h (c ∷ cs) → H.Call (last H h (c ∷ cs)) d.lent d.back d.held
      → H.item c.lent ≡ command bytes given room → AllBytes given → kind_of (command_in bytes) ≡ SetConfig → H.status c.back ≡ 0
      → none_done H (configures (feature_set (command_in bytes))) cs ≡ true
      → H.item d.lent ≡ command bytes' given' room' → kind_of (command_in bytes') ≡ GetConfig
      → feature_set (command_in bytes') ≡ feature_set (command_in bytes) → H.status d.back ≡ 0
      → H.without d.back ≡ H.shows d.lent (granted (bit (enable (command_in bytes))) (handed_back given)) None

  -- the same of 14h, where nothing moves the set's window in between
  abbrev pub WindowBack : Type 0
  WindowBack =
      (h : H.Held) (c : Called H) (cs : List (Called H)) (d : Called H) (bytes given : List ℕ) (room : ℕ) (bytes' given' : List ℕ) (room' : ℕ)
      → legal_table (H.words h) ≡ true → History H h (c ∷ cs) → H.Call (last H h (c ∷ cs)) d.lent d.back d.held
      → H.item c.lent ≡ command bytes given room → kind_of (command_in bytes) ≡ SetWindow → H.status c.back ≡ 0
      → none_moved H (feature_set (command_in bytes)) c.held cs ≡ true
      → H.item d.lent ≡ command bytes' given' room' → kind_of (command_in bytes') ≡ GetWindow
      → feature_set (command_in bytes') ≡ feature_set (command_in bytes) → H.status d.back ≡ 0
      → H.without d.back ≡ H.shows d.lent (granted (window_value (command_in bytes)) []) None

  -- and of 0Bh, where no other Set Features 0Bh is carried out in between
  abbrev pub NoticesBack : Type 0
  NoticesBack =
      (h : H.Held) (c : Called H) (cs : List (Called H)) (d : Called H) (bytes given : List ℕ) (room : ℕ) (bytes' given' : List ℕ) (room' : ℕ)
      → legal_table (H.words h) ≡ true → History H h (c ∷ cs) → H.Call (last H h (c ∷ cs)) d.lent d.back d.held
      → H.item c.lent ≡ command bytes given room → kind_of (command_in bytes) ≡ SetNotices → H.status c.back ≡ 0
      → none_done H turns_notices cs ≡ true
      → H.item d.lent ≡ command bytes' given' room' → kind_of (command_in bytes') ≡ GetNotices → H.status d.back ≡ 0
      → H.without d.back ≡ H.shows d.lent (granted (notices_no (turns_on (command_in bytes))) []) None

-- ---- 02, "Wake the host", of a holder: Notices.antt has the same of the step, with the sentences.

-- every call is lent room to tell of a notice
abbrev pub all_hear : (H : Holder) → List (Called H) → Bool
all_hear H [] = true
all_hear H (c ∷ cs) = H.hears c.lent && all_hear H cs

-- the identifiers of the requests that were completed, as the calls told
abbrev pub notices_told : (H : Holder) → List (Called H) → List ℕ
notices_told H [] = []
notices_told H (c ∷ cs) = told_of (H.notice c.back) ++ notices_told H cs

-- the identifiers of the requests that were answered 07C8h
abbrev pub accepted_calls : (H : Holder) → List (Called H) → List ℕ
accepted_calls H [] = []
accepted_calls H (c ∷ cs) = accepted_by (H.item c.lent) (H.status c.back) ++ accepted_calls H cs

-- a call that is a successful read of 0Bh with Retain 0; and no such call
abbrev pub lifts_call : (H : Holder) → Called H → Bool
lifts_call H c = reads_listed (H.item c.lent) && eqb (H.status c.back) success

abbrev pub none_lift_calls : (H : Holder) → List (Called H) → Bool
none_lift_calls H [] = true
none_lift_calls H (c ∷ cs) = not (lifts_call H c) && none_lift_calls H cs

-- some call listed a set
abbrev pub lists_some_call : (H : Holder) → H.Held → List (Called H) → Bool
lists_some_call H h [] = false
lists_some_call H h (c ∷ cs) = newly (records_of (H.words h)) (records_of (H.words c.held)) || lists_some_call H c.held cs

-- the desk that is held
abbrev pub desk_held : (H : Holder) → H.Held → Desk
desk_held H h = desk_at (H.words h)

module _ (H : Holder) where
  abbrev pub InTurnBack : Type 0
  InTurnBack =
      (h : H.Held) (cs : List (Called H)) → legal_table (H.words h) ≡ true → History H h cs → all_hear H cs ≡ true
      → notices_told H cs ++ (desk_held H (last H h cs)).waiting ≡ (desk_held H h).waiting ++ accepted_calls H cs

  abbrev pub SentBack : Type 0
  SentBack =
      (h : H.Held) (c : Called H) (id : ℕ) → legal_table (H.words h) ≡ true → H.Call h c.lent c.back c.held
      → H.hears c.lent ≡ true → H.notice c.back ≡ Some id → Sends (card_of (H.words h)) (card_of (H.words c.held)) (lifts_call H c)

  abbrev pub ElseBack : Type 0
  ElseBack =
      (h : H.Held) (c : Called H) → legal_table (H.words h) ≡ true → H.Call h c.lent c.back c.held
      → H.hears c.lent ≡ true → H.notice c.back ≡ None → Holds (card_of (H.words h)) (card_of (H.words c.held)) (lifts_call H c)

  abbrev pub HeardBack : Type 0
  HeardBack =
      (h : H.Held) (since : List (Called H)) → legal_table (H.words h) ≡ true → History H h since → all_hear H since ≡ true
      → none_lift_calls H since ≡ true → lists_some_call H h since ≡ true → Heard (notices_told H since) (desk_held H (last H h since))

  abbrev pub ServedBack : Type 0
  ServedBack =
      (h : H.Held) (c : Called H) → legal_table (H.words h) ≡ true → H.Call h c.lent c.back c.held → H.hears c.lent ≡ true
      → (desk_held H h).flag ≡ true → lifts_call H c ≡ false → H.notice c.back ≡ None → Unserved (desk_held H c.held)

  abbrev pub WokenBack : Type 0
  WokenBack =
      (h : H.Held) (since : List (Called H)) → legal_table (H.words h) ≡ true → History H h since → all_hear H since ≡ true
      → (desk_held H h).masked ≡ false → none_lift_calls H since ≡ true → lists_some_call H h since ≡ true → (desk_held H (last H h since)).on ≡ true
      → waits (desk_held H (last H h since)).waiting ≡ true → notices_told H since ≡ [] → ⊥

  abbrev pub OneBack : Type 0
  OneBack =
      (h : H.Held) (since : List (Called H)) → legal_table (H.words h) ≡ true → History H h since → all_hear H since ≡ true
      → none_lift_calls H since ≡ true
      → (length (notices_told H since) ≤ 1) × ((desk_held H h).masked ≡ true → notices_told H since ≡ [])

-- ---- 02, "Sixty-four sessions", of a holder: Asking.antt has the same of the step, with the sentences.

-- the asks of one host: `mine` tells its calls from those of others
abbrev pub asks_of : (H : Holder) → (H.Lent → Bool) → List (Called H) → List Ask
asks_of H mine [] = []
asks_of H mine (c ∷ cs) = (if mine c.lent then ask_in (H.item c.lent) (H.status c.back) (H.came c.back) else []) ++ asks_of H mine cs

module _ (H : Holder) where
  -- the asks of a host, whatever calls stand between them, come to an end, and then have given each set once: read off the bytes that
  -- were handed back
  abbrev pub GivesEachBack : Type 0
  GivesEachBack =
      (mine : H.Lent → Bool) (h : H.Held) (cs : List (Called H)) (from : ℕ) → legal_table (H.words h) ≡ true → History H h cs
      → asks_from from (asks_of H mine cs) ≡ true → GivesEach (attributes_of (records_of (H.words h))) from (asks_of H mine cs)

  -- and no ask is refused
  abbrev pub AskAnsweredBack : Type 0
  AskAnsweredBack =
      (h : H.Held) (c : Called H) (bytes given : List ℕ) (room : ℕ) → legal_table (H.words h) ≡ true
      → H.Call h c.lent c.back c.held → H.item c.lent ≡ command bytes given room → AsksList bytes room
      → H.status c.back ≡ success

-- All of it, "hands back" of demand 2, demand 3, 02's notices and asking again, under one name.
pub record Demanded (H : Holder) : Type 0 where
  pub stays_legal : StaysLegal H
  pub own_records : OwnRecords H
  pub own_answers_back : OwnAnswersBack H
  pub aggregate_back : AggregateBack H
  pub never_lost : NeverLost H
  pub swaps_back : SwapsBack H
  pub config_handed : ConfigBack H
  pub window_handed : WindowBack H
  pub notices_handed : NoticesBack H
  pub in_turn_back : InTurnBack H
  pub sent_back : SentBack H
  pub else_back : ElseBack H
  pub heard_back : HeardBack H
  pub served_back : ServedBack H
  pub woken_back : WokenBack H
  pub one_back : OneBack H
  pub gives_each_back : GivesEachBack H
  pub ask_answered_back : AskAnsweredBack H

-- What is asked of a holder for that: each call goes by the step on the words that it holds.
pub record Steps (H : Holder) : Type 0 where
  pub after :
      (h : H.Held) (l : H.Lent) (b : H.Back) (g : H.Held) → legal_table (H.words h) ≡ true → H.Call h l b g
      → g ≡ H.with_words h (step_words (H.words h) (H.item l)).table
  pub words_after :
      (h : H.Held) (l : H.Lent) (b : H.Back) (g : H.Held) → legal_table (H.words h) ≡ true → H.Call h l b g
      → H.words g ≡ (step_words (H.words h) (H.item l)).table
  pub said :
      (h : H.Held) (l : H.Lent) (b : H.Back) (g : H.Held) → H.Call h l b g
      → b ≡ H.shows l (step_words (H.words h) (H.item l)).answer (step_words (H.words h) (H.item l)).notice
  pub told : (l : H.Lent) (a : Answer) (n : Notice) → H.status (H.shows l a n) ≡ a.status
  pub seen :
      (h : H.Held) (l : H.Lent) (b : H.Back) (g : H.Held) → H.Call h l b g
      → (at n : ℕ) → at + n ≤ length (step_words (H.words h) (H.item l)).answer.bytes
      → part (H.came b) at n ≡ part (step_words (H.words h) (H.item l)).answer.bytes at n
  pub left_out : (l : H.Lent) (a : Answer) (n : Notice) → H.without (H.shows l a n) ≡ H.shows l a None
  pub heard : (l : H.Lent) (a : Answer) (n : Notice) → H.hears l ≡ true → to_no n ≤ identifier_maximum → H.notice (H.shows l a n) ≡ n
  pub put_over : (h : H.Held) (ws vs : List ℕ) → length ws ≡ length vs → H.with_words (H.with_words h ws) vs ≡ H.with_words h vs

-- ==== The holders that users have: the lent words here, C's region of bytes in crates/card_c/specs/HeldByC.antt.

-- ---- the lent words, which the functions of crates/card take

-- what a call is lent beside them: the item, and its answer buffer
pub record LentWords : Type 0 where
  pub item : Item
  pub before : List ℕ

pub record BackWords : Type 0 where
  pub reply : Reply
  pub buffer : List ℕ

abbrev pub held_words : Holder
held_words =
    record {
      Held = List ℕ;
      Lent = LentWords;
      Back = BackWords;
      words = λ ws. ws;
      with_words = λ ws vs. vs;
      item = λ l. l.item;
      shows = λ l a n. record { reply = replying a.status a.dword (length a.bytes) n; buffer = sets l.before 0 a.bytes };
      status = λ b. b.reply.status;
      came = λ b. b.buffer;
      without = λ b. record { reply = beside_of b.reply None; buffer = b.buffer };
      notice = λ b. b.reply.notice;
      hears = λ l. true;
      Call = λ ws l b vs. Answered ws l.item l.before b.reply vs b.buffer;
    }

-- proved as `words_demand` in proofs/HeldWords.antt
abbrev pub WordsDemand : Type 0
WordsDemand = Demanded held_words

-- ---- the lent words, where a command hands back the written part; nothing is said of the bytes after it

pub record LentPart : Type 0 where
  pub item : Item
  pub room : ℕ

pub record BackPart : Type 0 where
  pub status : ℕ
  pub dword : ℕ
  pub told : ℕ
  pub to : ℕ
  pub part : List ℕ

abbrev pub back_part : ℕ → ℕ → ℕ → ℕ → List ℕ → BackPart
back_part status dword told to part = record { status = status; dword = dword; told = told; to = to; part = part }

abbrev pub held_part : Holder
held_part =
    record {
      Held = List ℕ;
      Lent = LentPart;
      Back = BackPart;
      words = λ ws. ws;
      with_words = λ ws vs. vs;
      item = λ l. l.item;
      shows = λ l a n. back_part a.status a.dword (told_no n) (to_no n) a.bytes;
      status = λ b. b.status;
      came = λ b. b.part;
      without = λ b. back_part b.status b.dword 0 0 b.part;
      notice = λ b. notice_of b.told b.to;
      hears = λ l. true;
      Call = λ ws l b vs. Handed ws l.item l.room vs b.status b.dword b.told b.to b.part;
    }

-- proved as `part_demand` in proofs/HeldWords.antt
abbrev pub PartDemand : Type 0
PartDemand = Demanded held_part

-- Demand 1: the number that is answered is that of the first of 01's rows that holds, and one of an item carried out where none does.
use mathlib.Core.Path.{◌≡◌, refl, sym, ap, ◌∙◌}
use mathlib.Core.Bool.{Bool, true, false, not, ◌&&◌, and-false, false≢true}
use mathlib.Core.List.{List, [], ◌∷◌, ◌++◌}
use mathlib.Core.Option.{Option, none, some}
use mathlib.Core.Logic.{⊎_elim}
use Prim.Native.Nat.{ℕ}
use native.Mathlib.Omega.{arith}
use native.Mathlib.Nat.{zero-mul}
use borrow.Author.Tests.{eqb-true, ne_eqb, le-ltb}
use lib.Dec.{eqb}
use lib.ListN.{length}
use Rattle.std.specs.Prelude.{if◌then◌else◌, None}
use Rattle.octets.proofs.JoinedTests.{both, left_false}
use Rattle.record.specs.declared.Record.{Record}
use Rattle.replies.specs.Numbers.{success, invalid_field, unknown_set, too_early, too_short, bad_table}
use Rattle.record.specs.declared.Attributes.{Attributes}
use Rattle.record.specs.declared.State.{State}
use Rattle.replies.specs.Status.{Line, line, first_of}
use Rattle.replies.specs.Answers.{refused, refusing, Replied}
use Rattle.replies.proofs.Rows.{first_append}
use Rattle.replies.proofs.Answering.{one_outcome, refused_reply}
use Rattle.table.specs.Table.{records_of, legal_table}
use Rattle.commands.specs.declared.Command.{Command}
use Rattle.commands.specs.declared.Kind.{Kind}
use Rattle.commands.specs.declared.Kind.TheVariants.{SetNotices, SetConfig, SetWindow, GetNotices, GetConfig, GetWindow, ReadLatency, ReadAggregate, EventRequest, Identify}
use Rattle.commands.specs.Commands.{command_in}
use Rattle.commands.specs.Shapes.{shape_of, kind_of, is_named, named_by}
use Rattle.commands.proofs.Passed.{unknown_not_zero}
use Rattle.commands.specs.StatusTable.{early_lines, unknown_number, window_wrong, short_line, selects_early, request_line, late_lines}
use Rattle.rules.specs.declared.Media.{Media}
use Rattle.rules.specs.declared.Media.TheVariants.{Reads, Writes, Excursion}
use Rattle.octets.specs.Lists.{first}
use Rattle.steps.specs.Items.{Card, Item, reads, writes, excursion, tick, command, item_of, One, Meaning, Nobody, Everybody, The}
use Rattle.steps.specs.Commanded.{named, view_lines, viewed, meaning_by, command_meaning}
use Rattle.steps.specs.Meanings.{event, meaning}
use Rattle.rules.specs.Rules.{media_rule}
use Rattle.steps.specs.Card.{has, unknown_at, refusal_one, refusal_by, refusal_of, done_one, done_by, answer}
use Rattle.steps.specs.Rows.{set_in, is_there, of_set, command_rows, event_rows, tick_rows, carried_out, ByRows}
use Rattle.steps.specs.Words.{OutcomeWords, card_of, step_words}
use Rattle.steps.specs.SetUp.{set_up_lines, set_up_status, set_up}
use Rattle.steps.specs.Demands.{refusal_words, carried_command, carried_status, CarriedOut, NumberTells, Exactly, ExactlyEvents, ExactlyTicks, RefusedBuffer, RefusedHanded, SetUpExactly, SetUpRefused, SetUpLegal}
use Rattle.steps.proofs.Slots.{refused_answer}
use Rattle.steps.proofs.OnWords.{refused_words}
use Rattle.steps.proofs.NewSets.{done, not_done, legal_set_up}
use Rattle.steps.proofs.ItemShapes.{bool_cases}
use Rattle.steps.proofs.NamedItems.{meaning_media}
use Rattle.steps.proofs.StepOnWords.{step_bad, step_legal}

-- ---- rows, and the numbers of items that were carried out

-- no row of a list has the number of an item that was carried out
abbrev apart : List Line → Bool
apart [] = true
apart (l ∷ ls) = not (carried_out l.number) && apart ls

not_carried : (b : Bool) → not b ≡ true → b ≡ false
not_carried true h = cc
not_carried false h = refl

by_row : (b : Bool) (n more : ℕ) → carried_out n ≡ false → carried_out more ≡ eqb more 0 → carried_out (if b then n else more) ≡ eqb (if b then n else more) 0
by_row true n more h k = h ∙ sym (left_false (eqb n 0) _ h)
by_row false n more h k = k

rows_tell : (ls : List Line) → apart ls ≡ true → carried_out (first_of ls) ≡ eqb (first_of ls) 0
rows_tell [] h = refl
rows_tell (l ∷ ls) h =
    let p = both (not (carried_out l.number)) (apart ls) h in
    by_row l.holds l.number (first_of ls) (not_carried (carried_out l.number) p.0) (rows_tell ls p.1)

told : (rows : List Line) (status : ℕ) → apart rows ≡ true → status ≡ first_of rows → ByRows rows success status
told rows status a e =
    record {
      refusal = λ n. e;
      success = λ z. e ∙ z;
      tells = ap carried_out e ∙ rows_tell rows a;
    }

-- what is to be shown of each item: the number that it answers with where nothing refuses it; that an unknown set is refused; and that none of its
-- rows has a number of an item that was carried out
abbrev Succeeds : ℕ → Meaning → Type 0
Succeeds s (Nobody v) = (c : Card) → ((v.done c).status ≡ s) × (apart (v.early c) ≡ true)
Succeeds s (Everybody a) = (s ≡ 0) × (apart (a.early ++ line true too_short ∷ []) ≡ true)
Succeeds s (The id o) =
    ((unknown_at o ≡ 0 → ⊥) × ((r : Record) → (o.done r).status ≡ s))
    × ((apart (o.early ++ line true o.unknown ∷ []) ≡ true) × ((a : Attributes) (t : State) → apart (o.early ++ o.late a t) ≡ true))

by_kind : (k : Kind) (c : Command) (given : List ℕ) (room : ℕ) → Succeeds (carried_command k) (meaning_by k c given room)
by_kind SetNotices c given room = λ card. (refl, refl)
by_kind SetConfig c given room = ((unknown_not_zero c, λ r. refl), (refl, λ a t. refl))
by_kind SetWindow c given room = ((unknown_not_zero c, λ r. refl), (refl, λ a t. refl))
by_kind GetNotices c given room = λ card. (refl, refl)
by_kind GetConfig c given room = ((unknown_not_zero c, λ r. refl), (refl, λ a t. refl))
by_kind GetWindow c given room = ((unknown_not_zero c, λ r. refl), (refl, λ a t. refl))
by_kind ReadLatency c given room = ((unknown_not_zero c, λ r. refl), (refl, λ a t. refl))
by_kind ReadAggregate c given room = λ card. (refl, refl)
by_kind EventRequest c given room = λ card. (refl, refl)
by_kind Identify c given room = λ card. (refl, refl)

succeeds : (i : Item) → Succeeds (carried_status i) (meaning i)
unfolding meaning command_meaning
succeeds (reads id k) = (((λ z. omega arith), λ r. refl), (refl, λ a t. refl))
succeeds (writes id k) = (((λ z. omega arith), λ r. refl), (refl, λ a t. refl))
succeeds (excursion id) = (((λ z. omega arith), λ r. refl), (refl, λ a t. refl))
succeeds (tick t room) = (refl, refl)
succeeds (command bytes given room) = by_kind (kind_of (command_in bytes)) (command_in bytes) given room

-- ---- carried out

one_done : (o : One) (x : Option Record) (s : ℕ) → (unknown_at o ≡ 0 → ⊥) → ((r : Record) → (o.done r).status ≡ s) → refusal_one o x ≡ 0 → (done_one o x).status ≡ s
one_done o none s n g z = absurd (n z)
one_done o (some r) s n g z = g r

done_by_lem : (m : Meaning) (c : Card) (s : ℕ) → Succeeds s m → refusal_by m c ≡ 0 → (done_by m c).status ≡ s
done_by_lem (Nobody v) c s g z = (g c).0
done_by_lem (Everybody a) c s g z = sym g.0
done_by_lem (The id o) c s g z = one_done o (first (has id) c.sets) s g.0.0 g.0.1 z

pub carried_out_lem : CarriedOut
unfolding answer refusal_of
carried_out_lem c i z = rw z (done_by_lem (meaning i) c (carried_status i) (succeeds i) z)

-- ---- and exactly then

one_tells : (o : One) (x : Option Record) → apart (o.early ++ line true o.unknown ∷ []) ≡ true
    → ((a : Attributes) (t : State) → apart (o.early ++ o.late a t) ≡ true) → carried_out (refusal_one o x) ≡ eqb (refusal_one o x) 0
one_tells o none f g = rows_tell (o.early ++ line true o.unknown ∷ []) f
one_tells o (some r) f g = rows_tell (o.early ++ o.late r.attributes r.state) (g r.attributes r.state)

-- the numbers of a table, and not its tests, tell whether it is apart
apart_last : (ls : List Line) (b d : Bool) (n : ℕ) → apart (ls ++ line b n ∷ []) ≡ apart (ls ++ line d n ∷ [])
apart_last [] b d n = refl
apart_last (l ∷ ls) b d n = ap (not (carried_out l.number) &&◌) (apart_last ls b d n)

refusal_tells : (m : Meaning) (c : Card) (s : ℕ) → Succeeds s m → carried_out (refusal_by m c) ≡ eqb (refusal_by m c) 0
refusal_tells (Nobody v) c s g = rows_tell (v.early c) (g c).1
refusal_tells (Everybody a) c s g = rows_tell (a.early ++ line _ too_short ∷ []) (apart_last a.early _ true too_short ∙ g.1)
refusal_tells (The id o) c s g = one_tells o (first (has id) c.sets) g.1.0 g.1.1

no_refusal : (c : Card) (i : Item) → carried_out (refusal_of c i) ≡ eqb (refusal_of c i) 0
unfolding refusal_of
no_refusal c i = refusal_tells (meaning i) c (carried_status i) (succeeds i)

kind_carried : (k : Kind) → carried_out (carried_command k) ≡ true
kind_carried SetNotices = refl
kind_carried SetConfig = refl
kind_carried SetWindow = refl
kind_carried GetNotices = refl
kind_carried GetConfig = refl
kind_carried GetWindow = refl
kind_carried ReadLatency = refl
kind_carried ReadAggregate = refl
kind_carried EventRequest = refl
kind_carried Identify = refl

status_carried : (i : Item) → carried_out (carried_status i) ≡ true
status_carried (reads id k) = refl
status_carried (writes id k) = refl
status_carried (excursion id) = refl
status_carried (tick t room) = refl
status_carried (command bytes given room) = kind_carried (kind_of (command_in bytes))

pub number_tells : NumberTells
number_tells c i =
    ⊎_elim
    (λ e. rw (carried_out_lem c i (eqb-true _ 0 e), e) (status_carried i))
    (λ e. rw (refused_answer c i e) (no_refusal c i))
    (bool_cases (eqb (refusal_of c i) 0))

-- so an item of status 0 was not refused
pub not_refused : (c : Card) (i : Item) → (answer c i).status ≡ 0 → refusal_of c i ≡ 0
not_refused c i z = eqb-true _ 0 (sym (number_tells c i) ∙ ap carried_out z)

-- on the words
pub number_tells_words : (ws : List ℕ) (i : Item) → carried_out (step_words ws i).answer.status ≡ eqb (refusal_words ws i) 0
number_tells_words ws i =
    ⊎_elim
    (λ e. rw (step_legal ws i e, e) (number_tells (card_of ws) i))
    (λ e. rw (step_bad ws i e, e))
    (bool_cases (legal_table ws))

-- ---- by 01's rows

-- an item, by the rows that give its refusal
-- where nothing refuses it, its table is legal
carried_words : (ws : List ℕ) (i : Item) (b : Bool) → legal_table ws ≡ b → refusal_words ws i ≡ 0 → (step_words ws i).answer.status ≡ carried_status i
carried_words ws i true e z = rw (step_legal ws i e) (carried_out_lem (card_of ws) i (rw e at z))
carried_words ws i false e z = let y : bad_table ≡ 0 = rw e at z in omega arith

told_item : (rows : List Line) (ws : List ℕ) (i : Item) → refusal_words ws i ≡ first_of rows → ByRows rows (carried_status i) (step_words ws i).answer.status
told_item rows ws i e =
    let t : carried_out (step_words ws i).answer.status ≡ eqb (first_of rows) 0 = number_tells_words ws i ∙ ap (λ (x : ℕ). eqb x 0) e in
    record {
      refusal = λ n. ap (λ (r : OutcomeWords). r.answer.status) (refused_words ws i (λ z. n (sym e ∙ z))) ∙ e;
      success = λ z. carried_words ws i (legal_table ws) refl (e ∙ z);
      tells = t;
    }

-- a row that does not hold is passed by; what stands below the early rows decides where they do not hold
same_below : (c : Command) (xs ys : List Line) → first_of xs ≡ first_of ys → first_of (early_lines c ++ xs) ≡ first_of (early_lines c ++ ys)
same_below c xs ys e = first_append (early_lines c) xs refl ∙ rw e (sym (first_append (early_lines c) ys refl))

-- below them: the rows for a set that is not there, and for one that is
below : Kind → Command → ℕ → ℕ → ℕ → Option Record → List Line
below k c given room waiting set =
    line (is_named k && not (is_there set)) invalid_field
    ∷ line (of_set (λ a s. window_wrong k c s) set) invalid_field
    ∷ short_line k c given room
    ∷ line (of_set (λ a s. selects_early k c s) set) too_early
    ∷ request_line k waiting
    ∷ []

-- no command that names a set is a request
no_queue : (k : Kind) → is_named k ≡ true → (shape_of k).queues ≡ false
no_queue SetNotices h = refl
no_queue SetConfig h = refl
no_queue SetWindow h = refl
no_queue GetNotices h = refl
no_queue GetConfig h = refl
no_queue GetWindow h = refl
no_queue ReadLatency h = refl
no_queue ReadAggregate h = refl
no_queue EventRequest h = absurd (false≢true h)
no_queue Identify h = refl

named_below :
    (k : Kind) (c : Command) (given : List ℕ) (room waiting : ℕ) → is_named k ≡ true → (set : Option Record)
    → refusal_one (named k c given room) set ≡ first_of (early_lines c ++ below k c (length given) room waiting set)
unfolding below
named_below k c given room waiting h none = same_below c (line true unknown_number ∷ []) (below k c (length given) room waiting none) (rw h)
named_below k c given room waiting h (some r) =
    same_below c (late_lines k c (length given) room r.state) (below k c (length given) room waiting (some r)) (rw (and-false (is_named k), no_queue k h))

-- the rows that look at the window look at no command that names no set
no_window_lem : (k : Kind) → is_named k ≡ false → ((shape_of k).on ≡ false) × ((shape_of k).window ≡ false)
no_window_lem SetNotices h = (refl, refl)
no_window_lem SetConfig h = absurd (false≢true (sym h))
no_window_lem SetWindow h = absurd (false≢true (sym h))
no_window_lem GetNotices h = (refl, refl)
no_window_lem GetConfig h = absurd (false≢true (sym h))
no_window_lem GetWindow h = absurd (false≢true (sym h))
no_window_lem ReadLatency h = absurd (false≢true (sym h))
no_window_lem ReadAggregate h = (refl, refl)
no_window_lem EventRequest h = (refl, refl)
no_window_lem Identify h = (refl, refl)

no_row : (k : Kind) (c : Command) (set : Option Record) → is_named k ≡ false → (of_set (λ a s. window_wrong k c s) set ≡ false) × (of_set (λ a s. selects_early k c s) set ≡ false)
no_row k c none h = (refl, refl)
no_row k c (some r) h = let n = no_window_lem k h in (rw (n.0, n.1), rw n.1)

viewed_below :
    (k : Kind) (c : Command) (given room waiting : ℕ) (set : Option Record) → is_named k ≡ false
    → first_of (view_lines k c given room waiting) ≡ first_of (early_lines c ++ below k c given room waiting set)
unfolding below
viewed_below k c given room waiting set h =
    let w = no_row k c set h in
    same_below c (short_line k c given room ∷ request_line k waiting ∷ []) (below k c given room waiting set) (rw (h, w.0, w.1))

by_naming_rows :
    (b : Bool) (k : Kind) (c : Command) (given : List ℕ) (room : ℕ) (card : Card) → is_named k ≡ b
    → refusal_by (if b then The (named_by k c) (named k c given room) else Nobody (viewed k c (length given) room)) card
    ≡ first_of (early_lines c ++ below k c (length given) room (length card.desk.waiting) (first (has (named_by k c)) card.sets))
by_naming_rows true k c given room card h = named_below k c given room (length card.desk.waiting) h (first (has (named_by k c)) card.sets)
by_naming_rows false k c given room card h = viewed_below k c (length given) room (length card.desk.waiting) _ h

command_rows_lem :
    (ws bytes given : List ℕ) (room : ℕ) (b : Bool) → legal_table ws ≡ b
    → refusal_words ws (command bytes given room) ≡ first_of (command_rows ws bytes given room)
unfolding refusal_of meaning command_meaning below
command_rows_lem ws bytes given room true e = rw e (by_naming_rows (is_named (kind_of (command_in bytes))) (kind_of (command_in bytes)) (command_in bytes) given room (card_of ws) refl)
command_rows_lem ws bytes given room false e = rw e

pub exactly : Exactly
exactly ws bytes given room =
    told_item (command_rows ws bytes given room) ws (command bytes given room) (command_rows_lem ws bytes given room (legal_table ws) refl)

event_below : (ws : List ℕ) (id : ℕ) (m : Media) (set : Option Record) → refusal_one (event (media_rule m)) set ≡ first_of (line (not (is_there set)) unknown_set ∷ [])
event_below ws id m none = refl
event_below ws id m (some r) = refl

event_rows_lem : (ws : List ℕ) (id : ℕ) (m : Media) (b : Bool) → legal_table ws ≡ b → refusal_words ws (item_of id m) ≡ first_of (event_rows ws id)
unfolding refusal_of
event_rows_lem ws id m true e = rw (e, meaning_media id m) (event_below ws id m (set_in ws id))
event_rows_lem ws id m false e = rw e

-- what the media layer reports is carried out with success
media_status : (id : ℕ) (m : Media) → carried_status (item_of id m) ≡ success
media_status id (Reads k) = refl
media_status id (Writes k) = refl
media_status id Excursion = refl

pub exactly_events : ExactlyEvents
exactly_events ws id m = rw (← media_status id m) (told_item (event_rows ws id) ws (item_of id m) (event_rows_lem ws id m (legal_table ws) refl))

tick_rows_lem : (ws : List ℕ) (t room : ℕ) (b : Bool) → legal_table ws ≡ b → refusal_words ws (tick t room) ≡ first_of (tick_rows ws t)
unfolding refusal_of meaning
tick_rows_lem ws t room true e = rw (e, zero-mul (length (records_of ws)), le-ltb room 0 (omega arith))
tick_rows_lem ws t room false e = rw e

pub exactly_ticks : ExactlyTicks
exactly_ticks ws t room = told_item (tick_rows ws t) ws (tick t room) (tick_rows_lem ws t room (legal_table ws) refl)

-- ---- the answer buffer of a refused command

pub refused_buffer : RefusedBuffer
refused_buffer ws i before r words buffer n h =
    let d = refused_words ws i n in
    let s = refusal_words ws i in
    let p : Replied (refused s) before r buffer = rw d at h.reply in
    let n : r.notice ≡ None = rw d at h.notice in
    let o = one_outcome (refused s) before buffer before r (refusing s) p (refused_reply s before) n in
    (o.0, rw d at h.table, o.1)

pub refused_handed : RefusedHanded
refused_handed ws i room words status dword told to part n h =
    let d = refused_words ws i n in
    (rw d at h.status_is, rw d at h.dword_is, rw d at h.told_is, rw d at h.to_is, rw d at h.part_is, rw d at h.table)

-- ---- set-up

set_up_by : (b : Bool) (bytes ws : List ℕ) (s : ℕ) → eqb s 0 ≡ b → (if b then done bytes ws else not_done ws s).answer.status ≡ s
set_up_by true bytes ws s e = sym (eqb-true s 0 e)
set_up_by false bytes ws s e = refl

pub set_up_answers : (bytes ws : List ℕ) → (set_up bytes ws).answer.status ≡ set_up_status bytes (length ws)
unfolding set_up
set_up_answers bytes ws = set_up_by _ bytes ws (set_up_status bytes (length ws)) refl

pub set_up_exactly : SetUpExactly
unfolding set_up_status
set_up_exactly bytes ws = told (set_up_lines bytes (length ws)) _ refl (set_up_answers bytes ws)

pub set_up_refused : SetUpRefused
unfolding set_up
set_up_refused bytes ws n = rw (ne_eqb (set_up_status bytes (length ws)) 0 n)

pub set_up_legal : SetUpLegal
set_up_legal bytes ws h = legal_set_up bytes ws h

-- 02, "Wake the host": what is promised of notices.
use mathlib.Core.Path.{◌≡◌, refl, sym, ap, ◌∙◌}
use mathlib.Core.Bool.{Bool, true, false, not, ◌&&◌, ◌||◌, or-false, false≢true}
use mathlib.Core.List.{List, [], ◌∷◌, ◌++◌, append-nil, append_assoc}
use mathlib.Core.Logic.{◌⊎◌, inl, inr, ⊎_elim}
use Prim.Native.Nat.{ℕ, ◌≤◌}
use native.Mathlib.Omega.{arith}
use borrow.Author.Tests.{eqb-true, eq-eqb, not-true}
use lib.Dec.{eqb}
use lib.ListN.{length}
use Rattle.std.specs.Prelude.{if◌then◌else◌, None, Some}
use Rattle.octets.proofs.JoinedTests.{both, together}
use Rattle.replies.specs.Numbers.{success, request_waits}
use Rattle.replies.specs.Answers.{Notice, granted, told_of}
use Rattle.desk.specs.Desk.{Desk, turned, waits, ready, raised_by, legal_desk}
use Rattle.desk.proofs.Sending.{Sent, Unsent', sent, send_on, oldest, unserved}
use Rattle.table.specs.Table.{legal_sets, newly}
use Rattle.commands.specs.declared.Command.{Command}
use Rattle.commands.specs.declared.Kind.{Kind}
use Rattle.commands.specs.declared.Kind.TheVariants.{SetNotices, SetConfig, SetWindow, GetNotices, GetConfig, GetWindow, ReadLatency, ReadAggregate, EventRequest, Identify}
use Rattle.commands.specs.Commands.{command_in, turns_on}
use Rattle.commands.specs.Shapes.{kind_of}
use Rattle.steps.specs.Items.{Card, Item, reads, writes, excursion, tick, command, Nobody}
use Rattle.steps.specs.Commanded.{notices_no, viewed, meaning_by, command_meaning}
use Rattle.steps.specs.Meanings.{meaning}
use Rattle.steps.specs.Card.{refusal_of, sets_after, desk_on, at_desk, after, answer, run, notices}
use Rattle.steps.specs.Rows.{carried_out}
use Rattle.steps.specs.Demands.{carried_command, carried_status}
use Rattle.steps.specs.Notices.{legal_card, CardKept, request_of, request_in, accepted_by, accepted, InTurn, lists, lifts_by, reads_listed, lifts, none_lifts, Sends, SentOnly, Holds, HeldElse, Heard, NoListingUnheard, ServedAtOnce, Woken, OneAtMost, turns_notices, none_turns, OnlySetTurns, NoticesStored}
use Rattle.steps.proofs.CommandIs.{command_is}
use Rattle.steps.proofs.ItemShapes.{bool_cases}
use Rattle.steps.proofs.Slots.{refused_answer, refused_sets}
use Rattle.steps.proofs.KeptLegal.{sets_kept}
use Rattle.steps.proofs.AtDesk.{at_carried, at_refused, does, desk_kept, nobody_sets, newly_self, told_nobody}
use Rattle.steps.proofs.ExactRefusals.{carried_out_lem, number_tells, not_refused}

-- ---- legal cards

legal_sets_lem : (c : Card) → legal_card c ≡ true → legal_sets 0 c.sets ≡ true
legal_sets_lem c h = (both (legal_sets 0 c.sets) _ h).0

legal_desk_lem : (c : Card) → legal_card c ≡ true → legal_desk c.desk ≡ true
legal_desk_lem c h = (both (legal_sets 0 c.sets) _ h).1

step_kept : (c : Card) (i : Item) → legal_card c ≡ true → legal_card (after c i) ≡ true
step_kept c i h = together (legal_sets 0 (after c i).sets) _ (sets_kept (length c.sets) 0 i c.sets (legal_sets_lem c h)) (desk_kept c i (legal_desk_lem c h))

pub card_kept : CardKept
card_kept c [] h = h
card_kept c (i ∷ is) h = card_kept (after c i) is (step_kept c i h)

-- ---- in turn

or_none : (a b : Bool) → a || b ≡ false → (a ≡ false) × (b ≡ false)
or_none true b h = absurd (false≢true (sym h))
or_none false b h = (refl, h)

-- a request that is carried out is answered 07C8h
kind_own : (k : Kind) (c : Command) → (if eqb (carried_command k) request_waits then request_of k c else []) ≡ request_of k c
kind_own SetNotices c = refl
kind_own SetConfig c = refl
kind_own SetWindow c = refl
kind_own GetNotices c = refl
kind_own GetConfig c = refl
kind_own GetWindow c = refl
kind_own ReadLatency c = refl
kind_own ReadAggregate c = refl
kind_own EventRequest c = refl
kind_own Identify c = refl

its_own : (i : Item) → accepted_by i (carried_status i) ≡ request_in i
its_own (reads id k) = refl
its_own (writes id k) = refl
its_own (excursion id) = refl
its_own (tick t room) = refl
its_own (command bytes given room) = kind_own (kind_of (command_in bytes)) (command_in bytes)

-- a number of no item that was carried out is not 07C8h
not_waits : (n : ℕ) → carried_out n ≡ false → eqb n request_waits ≡ false
not_waits n h = (or_none (eqb n request_waits) false (or_none (eqb n success) (eqb n request_waits || false) h).1).0

one_turn : (c : Card) (i : Item) → told_of (at_desk c i).notice ++ (at_desk c i).desk.waiting ≡ c.desk.waiting ++ accepted_by i (answer c i).status
one_turn c i =
    ⊎_elim
    (λ e.
    let d = raised_by (newly c.sets (sets_after c i)) (desk_on i c.desk) in
    rw (at_carried c i e, carried_out_lem c i (eqb-true _ 0 e), its_own i) (oldest d ∙ (does i c.desk).waiting))
    (λ e. rw (at_refused c i e, not_waits (answer c i).status (number_tells c i ∙ e)) (sym (append-nil _)))
    (bool_cases (eqb (refusal_of c i) 0))

pub in_turn : InTurn
in_turn c [] = sym (append-nil _)
in_turn c (i ∷ is) =
    let ns = told_of (at_desk c i).notice in
    let w = (after c i).desk.waiting in
    append_assoc ns (notices (after c i) is) (run (after c i) is).desk.waiting
    ∙ ap (ns ++◌) (in_turn (after c i) is)
    ∙ sym (append_assoc ns w (accepted (after c i) is))
    ∙ ap (◌++ accepted (after c i) is) (one_turn c i)
    ∙ append_assoc c.desk.waiting (accepted_by i (answer c i).status) (accepted (after c i) is)

-- ---- one item: it sends, or it holds

kind_zero : (k : Kind) (c : Command) → lifts_by k c ≡ true → carried_command k ≡ 0
kind_zero SetNotices c h = refl
kind_zero SetConfig c h = refl
kind_zero SetWindow c h = refl
kind_zero GetNotices c h = refl
kind_zero GetConfig c h = refl
kind_zero GetWindow c h = refl
kind_zero ReadLatency c h = refl
kind_zero ReadAggregate c h = refl
kind_zero EventRequest c h = absurd (false≢true h)
kind_zero Identify c h = refl

reads_zero : (i : Item) → reads_listed i ≡ true → carried_status i ≡ 0
reads_zero (reads id k) h = refl
reads_zero (writes id k) h = refl
reads_zero (excursion id) h = refl
reads_zero (tick t room) h = refl
reads_zero (command bytes given room) h = kind_zero (kind_of (command_in bytes)) (command_in bytes) h

-- a read of 0Bh changes no set
kind_reads : (k : Kind) (c : Command) (given : List ℕ) (room : ℕ) → lifts_by k c ≡ true → meaning_by k c given room ≡ Nobody (viewed k c (length given) room)
kind_reads SetNotices c given room h = refl
kind_reads SetConfig c given room h = absurd (false≢true h)
kind_reads SetWindow c given room h = absurd (false≢true h)
kind_reads GetNotices c given room h = refl
kind_reads GetConfig c given room h = absurd (false≢true h)
kind_reads GetWindow c given room h = absurd (false≢true h)
kind_reads ReadLatency c given room h = absurd (false≢true h)
kind_reads ReadAggregate c given room h = refl
kind_reads EventRequest c given room h = refl
kind_reads Identify c given room h = refl

read_sets : (c : Card) (i : Item) → reads_listed i ≡ true → sets_after c i ≡ c.sets
unfolding meaning command_meaning
read_sets c (reads id k) h = absurd (false≢true h)
read_sets c (writes id k) h = absurd (false≢true h)
read_sets c (excursion id) h = absurd (false≢true h)
read_sets c (tick t room) h = absurd (false≢true h)
read_sets c (command bytes given room) h =
    nobody_sets (command bytes given room) _ (kind_reads (kind_of (command_in bytes)) (command_in bytes) given room h) c

and_by : (b t : Bool) → (b ≡ true → t ≡ true) → b && t ≡ b
and_by true t h = h refl
and_by false t h = refl

and_none : (b t : Bool) → t ≡ false → b && t ≡ false
and_none true t h = h
and_none false t h = refl

-- of those that are carried out, the reads of 0Bh with Retain 0 are those that lift; none that is refused does
lifts_carried : (c : Card) (i : Item) → eqb (refusal_of c i) 0 ≡ true → lifts c i ≡ reads_listed i
lifts_carried c i e =
    and_by (reads_listed i) (eqb (answer c i).status 0) (λ t. eq-eqb (answer c i).status 0 (carried_out_lem c i (eqb-true _ 0 e) ∙ reads_zero i t))

lifts_refused : (c : Card) (i : Item) → eqb (refusal_of c i) 0 ≡ false → lifts c i ≡ false
lifts_refused c i e = and_none (reads_listed i) (eqb (answer c i).status 0) (rw (refused_answer c i e) e)

-- a refused item lists nothing, nor does a read of 0Bh
refused_lists : (c : Card) (i : Item) → legal_sets 0 c.sets ≡ true → eqb (refusal_of c i) 0 ≡ false → lists c i ≡ false
refused_lists c i h e = ap (newly c.sets) (refused_sets c i h e) ∙ newly_self c.sets

read_lists_lem : (c : Card) (i : Item) → reads_listed i ≡ true → lists c i ≡ false
read_lists_lem c i h = ap (newly c.sets) (read_sets c i h) ∙ newly_self c.sets

not_both : (b : Bool) → b ≡ true → b ≡ false → ⊥
not_both b p q = false≢true (sym q ∙ p)

-- what is sent
record Sending (c : Card) (i : Item) : Type 0 where
  what : ℕ
  notice : (at_desk c i).notice ≡ Some what
  how : Sends c (after c i) (lifts c i)

record Holding (c : Card) (i : Item) : Type 0 where
  notice : (at_desk c i).notice ≡ None
  how : legal_sets 0 c.sets ≡ true → Holds c (after c i) (lifts c i)

moves : (c : Card) (i : Item) → Sending c i ⊎ Holding c i
moves c i =
    ⊎_elim
    (λ e.
    let o = desk_on i c.desk in
    let w = does i c.desk in
    let k = at_carried c i e in
    let l = lifts_carried c i e in
    let masked : o.masked ≡ not (lifts c i) && c.desk.masked = w.masked ∙ ap (λ (b : Bool). not b && c.desk.masked) (sym l) in
    let flag : o.flag ≡ not (lifts c i) && c.desk.flag = w.flag ∙ ap (λ (b : Bool). not b && c.desk.flag) (sym l) in
    ⊎_elim
    (λ (s : Sent (raised_by (newly c.sets (sets_after c i)) o)).
    let t = k ∙ s.is in
    let no_read : lifts c i ≡ false =
    ⊎_elim (λ u. absurd (not_both _ s.raised (cc (flag, u, read_lists_lem c i (sym l ∙ u))))) (λ u. u) (bool_cases (lifts c i)) in
    inl (record {
      what = s.id;
      notice = rw t;
      how = record {
        why = rw (flag, no_read) at s.raised;
        on = rw t s.on;
        unmasked = rw (masked, no_read) at s.unmasked;
        masks = rw t;
        drops = rw t;
        no_read = no_read;
      };
    }))
    (λ (u : Unsent' (raised_by (newly c.sets (sets_after c i)) o)).
    let t = k ∙ u.is in
    inr (record { notice = rw t; how = λ h. record { masked = rw t masked; flag = rw t (ap (◌|| lists c i) flag) } }))
    (sent (raised_by (newly c.sets (sets_after c i)) o)))
    (λ e.
    let t = at_refused c i e in
    let l = lifts_refused c i e in
    inr (record { notice = rw t; how = λ h. record { masked = rw (t, l); flag = rw (t, l, refused_lists c i h e) (sym (or-false _)) } }))
    (bool_cases (eqb (refusal_of c i) 0))

not_sent : (id : ℕ) → None ≡ Some id → ⊥
not_sent id e = let z : ◌≡◌ {A = ℕ} 0 1 = cc in omega arith

pub sent_only : SentOnly
sent_only c i id e =
    ⊎_elim
    (λ (s : Sending c i). s.how)
    (λ (h : Holding c i). absurd (not_sent id (sym h.notice ∙ e)))
    (moves c i)

pub held_else : HeldElse
held_else c i l e =
    ⊎_elim
    (λ (s : Sending c i). absurd (not_sent s.what (sym e ∙ s.notice)))
    (λ (h : Holding c i). h.how (legal_sets_lem c l))
    (moves c i)

-- ---- many items

-- what none_lifts says of the first item and of the rest
module _ (c : Card) (i : Item) (is : List Item) (n : none_lifts c (i ∷ is) ≡ true) where
  first_not : lifts c i ≡ false
  first_not = not-true _ (both (not (lifts c i)) _ n).0

  rest_not : none_lifts (after c i) is ≡ true
  rest_not = (both (not (lifts c i)) _ n).1

-- a notice went out
abbrev Went : Card → List Item → Type 0
Went c is = notices c is ≡ [] → ⊥

cons_not : {A : Type 0} (x : A) (xs : List A) → x ∷ xs ≡ [] → ⊥
cons_not x xs e = let z : ◌≡◌ {A = ℕ} 0 1 = cc in omega arith

went_now : (c : Card) (i : Item) (is : List Item) (id : ℕ) → (at_desk c i).notice ≡ Some id → Went c (i ∷ is)
went_now c i is id e z = cons_not id (notices (after c i) is) (rw e at z)

tail_nil : (o : Notice) (ns : List ℕ) → told_of o ++ ns ≡ [] → ns ≡ []
tail_nil None ns e = e
tail_nil (Some id) ns e = absurd (cons_not id ns e)

went_later : (c : Card) (i : Item) (is : List Item) → Went (after c i) is → Went c (i ∷ is)
went_later c i is w z = w (tail_nil (at_desk c i).notice (notices (after c i) is) z)

-- an item that sends none and does not lift
module _ (c : Card) (i : Item) (l : legal_card c ≡ true) (h : Holding c i) (f : lifts c i ≡ false) where
  masked_same : (after c i).desk.masked ≡ c.desk.masked
  masked_same = rw f at (h.how (legal_sets_lem c l)).masked

  flag_same : (after c i).desk.flag ≡ c.desk.flag || lists c i
  flag_same = rw f at (h.how (legal_sets_lem c l)).flag

-- under a mask nothing goes out, and the mask stays
record Muted (c : Card) (is : List Item) : Type 0 where
  silent : notices c is ≡ []
  masked : (run c is).desk.masked ≡ true

muted : (is : List Item) (c : Card) → legal_card c ≡ true → none_lifts c is ≡ true → c.desk.masked ≡ true → Muted c is
muted [] c l n m = record { silent = refl; masked = m }
muted (i ∷ is) c l n m =
    let f = first_not c i is n in
    ⊎_elim
    (λ (s : Sending c i). absurd (not_both _ m s.how.unmasked))
    (λ (h : Holding c i).
    let r = muted is (after c i) (step_kept c i l) (rest_not c i is n) (masked_same c i l h f ∙ m) in
    record { silent = rw h.notice r.silent; masked = r.masked })
    (moves c i)

-- what is heard of
abbrev HeardOf : Card → List Item → Type 0
HeardOf c is = Heard (notices c is) (run c is).desk

heard_later : (c : Card) (i : Item) (is : List Item) → HeardOf (after c i) is → HeardOf c (i ∷ is)
heard_later c i is (inl w) = inl (went_later c i is w.0, w.1)
heard_later c i is (inr f) = inr f

-- an item that lists a set, or meets a flag
module _ (c : Card) (i : Item) (is : List Item) (l : legal_card c ≡ true) (n : none_lifts c (i ∷ is) ≡ true) where
  heard_now : c.desk.flag || lists c i ≡ true → ((after c i).desk.flag ≡ true → HeardOf (after c i) is) → HeardOf c (i ∷ is)
  heard_now e k =
      ⊎_elim
      (λ (s : Sending c i). inl (went_now c i is s.what s.notice, (muted is (after c i) (step_kept c i l) (rest_not c i is n) s.how.masks).masked))
      (λ (h : Holding c i). heard_later c i is (k (flag_same c i l h (first_not c i is n) ∙ e)))
      (moves c i)

flag_heard : (is : List Item) (c : Card) → legal_card c ≡ true → none_lifts c is ≡ true → c.desk.flag ≡ true → HeardOf c is
flag_heard [] c l n f = inr f
flag_heard (i ∷ is) c l n f = heard_now c i is l n (ap (◌|| lists c i) f) (flag_heard is (after c i) (step_kept c i l) (rest_not c i is n))

or_true : (b : Bool) → b || true ≡ true
or_true true = refl
or_true false = refl

pub no_listing_unheard : NoListingUnheard
no_listing_unheard c [] l n e = absurd (not_both false e refl)
no_listing_unheard c (i ∷ is) l n e =
    ⊎_elim
    (λ t. heard_now c i is l n (ap (c.desk.flag ||◌) t ∙ or_true c.desk.flag) (flag_heard is (after c i) (step_kept c i l) (rest_not c i is n)))
    (λ t. heard_later c i is (no_listing_unheard (after c i) is (step_kept c i l) (rest_not c i is n) (rw t at e)))
    (bool_cases (lists c i))

-- ---- served at once

pub served_at_once : ServedAtOnce
served_at_once c i l f n e =
    ⊎_elim
    (λ (s : Sending c i). absurd (not_sent s.what (sym e ∙ s.notice)))
    (λ (h : Holding c i).
    let g : (after c i).desk.flag ≡ true = flag_same c i l h n ∙ ap (◌|| lists c i) f in
    let u = unserved (after c i).desk (desk_kept c i (legal_desk_lem c l)) in
    (g, rw g at u))
    (moves c i)

-- a mask that was not there was put by a notice
masked_went : (is : List Item) (c : Card) → legal_card c ≡ true → none_lifts c is ≡ true → c.desk.masked ≡ false → (run c is).desk.masked ≡ true → Went c is
masked_went [] c l n u m = λ z. not_both _ m u
masked_went (i ∷ is) c l n u m =
    ⊎_elim
    (λ (s : Sending c i). went_now c i is s.what s.notice)
    (λ (h : Holding c i). went_later c i is (masked_went is (after c i) (step_kept c i l) (rest_not c i is n) (masked_same c i l h (first_not c i is n) ∙ u) m))
    (moves c i)

must_mask : (d : Desk) → d.flag ≡ true → d.on ≡ true → waits d.waiting ≡ true → d.flag && ready d ≡ false → d.masked ≡ true
must_mask d f o w u = by d.masked refl
  where
    by : (b : Bool) → d.masked ≡ b → b ≡ true
    by true e = refl
    by false e = absurd (not_both _ (rw (f, o, e, w)) u)

pub woken : Woken
woken c is l u n e o w =
    ⊎_elim
    (λ h. h.0)
    (λ f.
    let d = (run c is).desk in
    masked_went is c l n u (must_mask d f o w (unserved d (legal_desk_lem (run c is) (card_kept c is l)))))
    (no_listing_unheard c is l n e)

-- ---- one at most

at_most : (o : Notice) (ns : List ℕ) → ns ≡ [] → length (told_of o ++ ns) ≤ 1
at_most None ns e = rw e (omega arith)
at_most (Some id) ns e = rw e (omega arith)

few_notices : (is : List Item) (c : Card) → legal_card c ≡ true → none_lifts c is ≡ true → length (notices c is) ≤ 1
few_notices [] c l n = omega arith
few_notices (i ∷ is) c l n =
    ⊎_elim
    (λ (s : Sending c i). at_most (at_desk c i).notice (notices (after c i) is) (muted is (after c i) (step_kept c i l) (rest_not c i is n) s.how.masks).silent)
    (λ (h : Holding c i). rw h.notice (few_notices is (after c i) (step_kept c i l) (rest_not c i is n)))
    (moves c i)

pub one_at_most : OneAtMost
one_at_most c is l n = (few_notices is c l n, λ m. (muted is c l n m).silent)

-- ---- feature 0Bh

-- an item that is no Set Features 0Bh, or is refused, leaves notices on or off
on_kept : (c : Card) (i : Item) → turns_notices i && eqb (refusal_of c i) 0 ≡ false → (after c i).desk.on ≡ c.desk.on
on_kept c i h =
    ⊎_elim
    (λ e. rw (at_carried c i e) (send_on (raised_by (newly c.sets (sets_after c i)) (desk_on i c.desk)) ∙ (does i c.desk).on (and_carried (turns_notices i) _ e h)))
    (λ e. rw (at_refused c i e))
    (bool_cases (eqb (refusal_of c i) 0))
  where
    and_carried : (t r : Bool) → r ≡ true → t && r ≡ false → t ≡ false
    and_carried true r e z = absurd (false≢true (sym z ∙ e))
    and_carried false r e z = refl

run_on : (is : List Item) (c : Card) → none_turns c is ≡ true → (run c is).desk.on ≡ c.desk.on
run_on [] c h = refl
run_on (i ∷ is) c h =
    let b = both (not (turns_notices i && carried_out (answer c i).status)) _ h in
    let g : turns_notices i && eqb (refusal_of c i) 0 ≡ false = rw (← number_tells c i) (not-true (turns_notices i && carried_out (answer c i).status) b.0) in
    run_on is (after c i) b.1 ∙ on_kept c i g

turned_on : (c : Card) (bytes given : List ℕ) (room : ℕ) → kind_of (command_in bytes) ≡ SetNotices → refusal_of c (command bytes given room) ≡ 0
    → (after c (command bytes given room)).desk.on ≡ turns_on (command_in bytes)
turned_on c bytes given room k z =
    rw (told_nobody (command bytes given room) _ (command_is bytes given room SetNotices k) c z) (send_on (raised_by false (turned (turns_on (command_in bytes)) c.desk)))

asked_on : (c : Card) (bytes given : List ℕ) (room : ℕ) → kind_of (command_in bytes) ≡ GetNotices → refusal_of c (command bytes given room) ≡ 0
    → answer c (command bytes given room) ≡ granted (notices_no c.desk.on) []
unfolding answer refusal_of
asked_on c bytes given room k z = let m = command_is bytes given room GetNotices k in rw (m, rw m at z)

pub only_set_turns : OnlySetTurns
only_set_turns c is h = run_on is c h

pub notices_stored : NoticesStored
notices_stored c bytes given room is bytes' given' room' k z h k' z' =
    let i = command bytes given room in
    asked_on (run c (i ∷ is)) bytes' given' room' k' (not_refused (run c (i ∷ is)) (command bytes' given' room') z')
    ∙ rw (run_on is (after c i) h, turned_on c bytes given room k (not_refused c i z))

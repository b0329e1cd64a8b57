-- What each item does to the desk, and that a legal desk stays legal.
use mathlib.Core.Path.{◌≡◌, refl, sym, ap, ◌∙◌}
use mathlib.Core.Bool.{Bool, true, false, not, ◌&&◌, or-false}
use mathlib.Core.List.{List, [], ◌∷◌, ◌++◌, append-nil}
use mathlib.Core.Option.{some}
use mathlib.Core.Logic.{⊎_elim}
use Prim.Native.Nat.{ℕ, zero, suc, ◌%◌, ◌/◌, ◌^◌, ◌≤◌, ◌<◌}
use native.Mathlib.Omega.{arith}
use native.Mathlib.Nat.{mod-lt}
use borrow.Author.Tests.{eqb-true, eq-eqb, leb-true, leb-false}
use lib.Dec.{eqb, leb}
use lib.ListN.{length, set, length-append}
use Rattle.std.specs.Prelude.{if◌then◌else◌, None, Some}
use Rattle.replies.specs.Answers.{Notice, told_of, to_no}
use Rattle.replies.specs.Status.{first_of}
use Rattle.replies.proofs.Rows.{passed}
use Rattle.record.specs.declared.Record.{Record}
use Rattle.record.specs.Parts.{id_of}
use Rattle.record.specs.Event.{newly_listed}
use Rattle.desk.specs.Desk.{Desk, quiet, lifted, raised_by, send, settle, requests_maximum, identifier_maximum, all_identifiers, legal_desk}
use Rattle.desk.proofs.LegalDesks.{fine, one_of}
use Rattle.desk.proofs.AtDesk.{queued_ids}
use Rattle.desk.proofs.Sending.{few, send_legal, oldest}
use Rattle.table.specs.Table.{legal_sets, newly}
use Rattle.commands.specs.declared.Command.{Command}
use Rattle.commands.specs.declared.Kind.{Kind}
use Rattle.commands.specs.declared.Kind.TheVariants.{SetNotices, SetConfig, SetWindow, GetNotices, GetConfig, GetWindow, ReadLatency, ReadAggregate, EventRequest, Identify}
use Rattle.commands.specs.Commands.{command_in, retain, identifier}
use Rattle.commands.specs.Shapes.{kind_of}
use Rattle.commands.specs.StatusTable.{request_line, short_line}
use Rattle.commands.proofs.Passed.{early_passed}
use Rattle.octets.specs.Lists.{nth}
use Rattle.octets.proofs.Lists.{map_fixed}
use Rattle.steps.specs.Items.{Card, Item, reads, writes, excursion, tick, command, View, All, Nobody, Everybody}
use Rattle.steps.specs.Commanded.{view_lines, meaning_by, command_meaning}
use Rattle.steps.specs.Meanings.{meaning}
use Rattle.steps.specs.Card.{names, ruled, concerns, refusal_by, refusal_of, sets_after, desk_by, desk_on, at_desk, after, run}
use Rattle.steps.specs.Notices.{request_of, request_in, lifts_by, reads_listed, turns_by, turns_notices}
use Rattle.steps.proofs.ItemShapes.{bool_cases, touched_not, told_named}
use Rattle.steps.proofs.Slots.{at_slot}

module _ (c : Card) (i : Item) where
  pub at_carried : eqb (refusal_of c i) 0 ≡ true → at_desk c i ≡ settle (newly c.sets (sets_after c i)) (desk_on i c.desk)
  unfolding at_desk
  at_carried e = rw e

  pub at_refused : eqb (refusal_of c i) 0 ≡ false → at_desk c i ≡ quiet c.desk
  unfolding at_desk
  at_refused e = rw e

-- ---- by itself: a request comes last; only a read of 0Bh with Retain 0 lifts the mask and drops the flag; none raises it

pub record Does (d after : Desk) (request : List ℕ) (lifts turns : Bool) : Type 0 where
  pub waiting : after.waiting ≡ d.waiting ++ request
  pub masked : after.masked ≡ not lifts && d.masked
  pub flag : after.flag ≡ not lifts && d.flag
  pub on : turns ≡ false → after.on ≡ d.on

does_none : (d : Desk) → Does d d [] false false
does_none d = record { waiting = sym (append-nil d.waiting); masked = refl; flag = refl; on = λ e. refl }

does_read : (b : Bool) (d : Desk) → Does d (if b then d else lifted d) [] (not b) false
does_read true d = does_none d
does_read false d = record { waiting = sym (append-nil d.waiting); masked = refl; flag = refl; on = λ e. refl }

by_kind : (k : Kind) (c : Command) (given : List ℕ) (room : ℕ) (d : Desk) → Does d (desk_by (meaning_by k c given room) d) (request_of k c) (lifts_by k c) (turns_by k)
by_kind SetNotices c given room d = record { waiting = sym (append-nil d.waiting); masked = refl; flag = refl; on = λ e. absurd (let z : ◌≡◌ {A = ℕ} 0 1 = cc in omega arith) }
by_kind SetConfig c given room d = does_none d
by_kind SetWindow c given room d = does_none d
by_kind GetNotices c given room d = does_none d
by_kind GetConfig c given room d = does_none d
by_kind GetWindow c given room d = does_none d
by_kind ReadLatency c given room d = does_none d
by_kind ReadAggregate c given room d = does_read (retain c) d
by_kind EventRequest c given room d = record { waiting = refl; masked = refl; flag = refl; on = λ e. refl }
by_kind Identify c given room d = does_none d

pub does : (i : Item) (d : Desk) → Does d (desk_on i d) (request_in i) (reads_listed i) (turns_notices i)
unfolding desk_on meaning command_meaning
does (reads id k) d = does_none d
does (writes id k) d = does_none d
does (excursion id) d = does_none d
does (tick t room) d = does_none d
does (command bytes given room) d = by_kind (kind_of (command_in bytes)) (command_in bytes) given room d

-- ---- at most four wait, and their identifiers have 16 bits

not_full : (b : Bool) (n : ℕ) → leb requests_maximum n ≡ b → b ≡ false → n < requests_maximum
not_full b n e h = leb-false requests_maximum n (e ∙ h)

pub request_few :
    (c : Command) (given room : ℕ) (ws : List ℕ) → first_of (view_lines EventRequest c given room (length ws)) ≡ 0 → length ws < requests_maximum
request_few c given room ws z =
    let e = early_passed c (short_line EventRequest c given room ∷ request_line EventRequest (length ws) ∷ []) refl z in
    let p = passed (short_line EventRequest c given room ∷ request_line EventRequest (length ws) ∷ []) refl e.later in
    not_full _ (length ws) refl p.1.0

identifier_small : (c : Command) → identifier c ≤ identifier_maximum
identifier_small c = let l : c.cdw0 / 2 ^ 16 % 2 ^ 16 < 2 ^ 16 = mod-lt (c.cdw0 / 2 ^ 16) (omega arith) in omega (arith, l)

pub record Queue (ws : List ℕ) : Type 0 where
  pub few : length ws ≤ requests_maximum
  pub ids : all_identifiers ws ≡ true

no_more : (ws : List ℕ) → Queue ws → Queue (ws ++ [])
no_more ws q = rw (append-nil ws) q

-- what waits after an item that is carried out, by itself
kind_queue :
    (k : Kind) (c : Command) (given : List ℕ) (room : ℕ) (d : Card) → Queue d.desk.waiting → refusal_by (meaning_by k c given room) d ≡ 0
    → Queue (d.desk.waiting ++ request_of k c)
kind_queue SetNotices c given room d q z = no_more d.desk.waiting q
kind_queue SetConfig c given room d q z = no_more d.desk.waiting q
kind_queue SetWindow c given room d q z = no_more d.desk.waiting q
kind_queue GetNotices c given room d q z = no_more d.desk.waiting q
kind_queue GetConfig c given room d q z = no_more d.desk.waiting q
kind_queue GetWindow c given room d q z = no_more d.desk.waiting q
kind_queue ReadLatency c given room d q z = no_more d.desk.waiting q
kind_queue ReadAggregate c given room d q z = no_more d.desk.waiting q
kind_queue EventRequest c given room d q z =
    let ws = d.desk.waiting in
    let l = request_few c (length given) room ws z in
    record { few = omega (arith, l, length-append ws (identifier c ∷ [])); ids = queued_ids ws (identifier c) q.ids (identifier_small c) }
kind_queue Identify c given room d q z = no_more d.desk.waiting q

queue_after : (i : Item) (c : Card) → Queue c.desk.waiting → refusal_of c i ≡ 0 → Queue (c.desk.waiting ++ request_in i)
unfolding refusal_of meaning command_meaning
queue_after (reads id k) c q z = no_more c.desk.waiting q
queue_after (writes id k) c q z = no_more c.desk.waiting q
queue_after (excursion id) c q z = no_more c.desk.waiting q
queue_after (tick t room) c q z = no_more c.desk.waiting q
queue_after (command bytes given room) c q z = kind_queue (kind_of (command_in bytes)) (command_in bytes) given room c q z

legal_queue : (d : Desk) → legal_desk d ≡ true → Queue d.waiting
legal_queue d h = record { few = few d h; ids = (fine d h).ids }

-- of the desk by itself
pub on_queue : (c : Card) (i : Item) → legal_desk c.desk ≡ true → refusal_of c i ≡ 0 → Queue (desk_on i c.desk).waiting
on_queue c i h z = rw (does i c.desk).waiting (queue_after i c (legal_queue c.desk h) z)

pub desk_kept : (c : Card) (i : Item) → legal_desk c.desk ≡ true → legal_desk (after c i).desk ≡ true
desk_kept c i h =
    ⊎_elim
    (λ e.
    let q = on_queue c i h (eqb-true _ 0 e) in
    rw (at_carried c i e) (send_legal (raised_by (newly c.sets (sets_after c i)) (desk_on i c.desk)) q.few q.ids))
    (λ e. rw (at_refused c i e) h)
    (bool_cases (eqb (refusal_of c i) 0))

pub run_legal : (is : List Item) (c : Card) → legal_desk c.desk ≡ true → legal_desk (run c is).desk ≡ true
run_legal [] c h = h
run_legal (i ∷ is) c h = run_legal is (after c i) (desk_kept c i h)

-- ---- the identifier of a notice has 16 bits

first_small : (n : Notice) (rest ws : List ℕ) → told_of n ++ rest ≡ ws → all_identifiers ws ≡ true → to_no n ≤ identifier_maximum
first_small None rest ws e h = omega arith
first_small (Some id) rest ws e h = leb-true id identifier_maximum (one_of id rest (ap all_identifiers e ∙ h)).0

pub notice_small : (c : Card) (i : Item) → legal_desk c.desk ≡ true → to_no (at_desk c i).notice ≤ identifier_maximum
notice_small c i h =
    ⊎_elim
    (λ e.
    let q = on_queue c i h (eqb-true _ 0 e) in
    let d = raised_by (newly c.sets (sets_after c i)) (desk_on i c.desk) in
    rw (at_carried c i e) (first_small (send d).notice (send d).desk.waiting d.waiting (oldest d) q.ids))
    (λ e. rw (at_refused c i e) (omega arith))
    (bool_cases (eqb (refusal_of c i) 0))

-- ---- for the functions that carry items out

pub new_self : (r : Record) → newly_listed r r ≡ false
new_self r = and_self r.notes.listed
  where
    and_self : (b : Bool) → not b && b ≡ false
    and_self true = refl
    and_self false = refl

pub newly_self : (rs : List Record) → newly rs rs ≡ false
newly_self [] = refl
newly_self (r ∷ rs) = rw (new_self r) (newly_self rs)

newly_at : (k : ℕ) (rs : List Record) (r x : Record) → nth k rs ≡ some r → newly rs (set rs k x) ≡ newly_listed r x
newly_at k [] r x e = absurd (let z : ◌≡◌ {A = ℕ} 0 1 = cc in omega arith)
newly_at zero (y ∷ rs) r x e = let q : y ≡ r = cc in rw (q, newly_self rs) (or-false _)
newly_at (suc k) (y ∷ rs) r x e = rw (new_self y) (newly_at k rs r x e)

-- one that names a set: what its slot's mark did
pub told_at :
    (c : Card) (i : Item) (k : ℕ) (r : Record) → legal_sets 0 c.sets ≡ true → nth k c.sets ≡ some r → names (id_of r) i ≡ true
    → refusal_of c i ≡ 0 → at_desk c i ≡ settle (newly_listed r (ruled i r)) c.desk
told_at c i k r h e q z =
    let s = at_slot c i k r h e q in
    told_named i (id_of r) c q ∙ rw (z, s, newly_at k c.sets r (ruled i r) e)

-- one that names none
pub nobody_sets : (i : Item) (v : View) → meaning i ≡ Nobody v → (c : Card) → sets_after c i ≡ c.sets
unfolding concerns
nobody_sets i v m c = map_fixed _ c.sets (λ k r e. touched_not _ i r (rw m))

desk_nobody : (i : Item) (v : View) → meaning i ≡ Nobody v → (d : Desk) → desk_on i d ≡ v.desk d
unfolding desk_on
desk_nobody i v m d = rw m

pub told_nobody : (i : Item) (v : View) → meaning i ≡ Nobody v → (c : Card) → refusal_of c i ≡ 0 → at_desk c i ≡ settle false (v.desk c.desk)
told_nobody i v m c z = at_carried c i (eq-eqb _ 0 z) ∙ rw (nobody_sets i v m c, newly_self c.sets, desk_nobody i v m c.desk)

-- one that goes to all
desk_all : (i : Item) (a : All) → meaning i ≡ Everybody a → (d : Desk) → desk_on i d ≡ d
unfolding desk_on
desk_all i a m d = rw m

pub told_all : (i : Item) (a : All) → meaning i ≡ Everybody a → (c : Card) → refusal_of c i ≡ 0 → at_desk c i ≡ settle (newly c.sets (sets_after c i)) c.desk
told_all i a m c z = at_carried c i (eq-eqb _ 0 z) ∙ rw (desk_all i a m c.desk)

-- Demand 3. Of the items' meanings nothing is used but their shape.
use mathlib.Core.Path.{◌≡◌, refl, sym, ap, ap₂, ◌∙◌}
use mathlib.Core.Bool.{Bool, true, false, not, ◌&&◌, ◌||◌, or-false, false≢true}
use mathlib.Core.List.{List, [], ◌∷◌, ◌++◌, map, map-map, append-nil, append_assoc}
use mathlib.Core.Option.{some}
use mathlib.Core.Logic.{⊎_elim}
use Prim.Native.Nat.{ℕ, ◌+◌, ◌≤◌, ◌<◌}
use native.Mathlib.Omega.{arith}
use borrow.Author.Tests.{eqb-true, eq-eqb, ne_eqb, not-true}
use lib.Dec.{eqb}
use lib.ListN.{length, length-map}
use Rattle.std.specs.Prelude.{if◌then◌else◌}
use Rattle.octets.proofs.JoinedTests.{both}
use Rattle.record.specs.declared.Attributes.{Attributes}
use Rattle.record.specs.declared.Window.{Window}
use Rattle.record.specs.declared.Window.TheVariants.{Off, D, N}
use Rattle.record.specs.declared.Quantity.TheVariants.{Time}
use Rattle.record.specs.declared.State.{State}
use Rattle.record.specs.declared.Effect.{Effect}
use Rattle.record.specs.declared.Record.{Record}
use Rattle.record.specs.Quantities.{limit, spent_of}
use Rattle.record.specs.Windows.{by_window}
use Rattle.rules.specs.Rules.{is_over}
use Rattle.commands.specs.declared.Command.{Command}
use Rattle.commands.specs.declared.Kind.{Kind}
use Rattle.commands.specs.declared.Kind.TheVariants.{SetNotices, SetConfig, SetWindow, GetNotices, GetConfig, GetWindow, ReadLatency, ReadAggregate, EventRequest, Identify}
use Rattle.commands.specs.Commands.{command_in}
use Rattle.commands.specs.Shapes.{kind_of}
use Rattle.record.specs.Parts.{id_of}
use Rattle.replies.specs.Answers.{granted, refused, told_of}
use Rattle.record.specs.Event.{newly_listed}
use Rattle.desk.proofs.Sending.{told_if, told_swap, unserved}
use Rattle.table.specs.Card.{card_with}
use Rattle.table.specs.Table.{legal_sets, listed_marks, newly}
use Rattle.pages.specs.Aggregate.{picked}
use Rattle.octets.specs.Lists.{nth, first, keep, beside, join, Rising}
use Rattle.steps.specs.Items.{Card, Item, reads, writes, excursion, tick, command, All, Meaning, Nobody, Everybody, The}
use Rattle.steps.specs.Commanded.{meaning_by, command_meaning}
use Rattle.steps.specs.Meanings.{meaning}
use Rattle.steps.specs.Card.{refusal_all, refusal_by, refusal_of, effect_by, effect_on, ruled, has, names, names_by, concerns, concerns_by, touched, sets_after, at_desk, after, answer, run, trace, notices}
use Rattle.steps.specs.Demands.{alone, to_all_by, to_all, owns, own, OwnRecord, lived, ByRules, OwnAnswers, Joined, raises, none_cleared, raised, pending, none_of, Listed, StaysListed, PickedIds, Aggregate, InOrder, Swap, SwapWithin}
use Rattle.octets.proofs.Lists.{if_ap, if_cons, map_id, map_same, map_same_if, nth_map, keep_same, keep_map, first_map, first_fixed}
use Rattle.steps.proofs.ItemShapes.{bool_cases, named, unnamed, answers, refusals, told_named, fewer_all, fewer, touched_own, touched_not, keeps}
use Rattle.steps.proofs.Slots.{ordered, found}
use Rattle.steps.proofs.AtDesk.{new_self, run_legal}

-- ---- the items that concern a set are those that name it and, of those that go to every set, those that are carried out

owned_by : (m : Meaning) (c : Card) (id : ℕ) → names_by m id || to_all_by m && eqb (refusal_by m c) 0 ≡ concerns_by m (length c.sets) id
owned_by (Nobody v) c id = refl
owned_by (Everybody a) c id = refl
owned_by (The a o) c id = or-false (eqb a id)

owned : (c : Card) (id : ℕ) (i : Item) → owns c id i ≡ concerns (length c.sets) id i
unfolding names to_all refusal_of concerns
owned c id i = owned_by (meaning i) c id

own_is : (c : Card) (r : Record) (is : List Item) → own c r is ≡ keep (concerns (length c.sets) (id_of r)) is
own_is c r is = keep_same _ _ (owned c (id_of r)) is

-- ---- one set

-- a set's record after all the items of a card of n sets
abbrev passed : ℕ → List Item → Record → Record
passed n [] r = r
passed n (i ∷ is) r = passed n is (touched n i r)

-- the items that do not concern it pass it by
passed_own : (n : ℕ) → 1 ≤ n → (is : List Item) (r : Record) → passed n is r ≡ passed 1 (keep (concerns n (id_of r)) is) r
passed_own n h [] r = refl
passed_own n h (i ∷ is) r =
    ⊎_elim
    (λ e. cc (touched_own n i r e, touched_own 1 i r (fewer i n (id_of r) h e), passed_own n h is (ruled i r)))
    (λ e. cc (touched_not n i r e, passed_own n h is r))
    (bool_cases (concerns n (id_of r) i))

passed_lived : (n : ℕ) (is : List Item) (r : Record) → passed n is r ≡ lived r (keep (concerns n (id_of r)) is)
passed_lived n [] r = refl
passed_lived n (i ∷ is) r =
    ⊎_elim
    (λ e. cc (touched_own n i r e, passed_lived n is (ruled i r)))
    (λ e. cc (touched_not n i r e, passed_lived n is r))
    (bool_cases (concerns n (id_of r) i))

passed_id : (n : ℕ) (is : List Item) (r : Record) → id_of (passed n is r) ≡ id_of r
passed_id n [] r = refl
passed_id n (i ∷ is) r = passed_id n is (touched n i r) ∙ keeps n i r

-- ---- the card is its sets, each by itself

run_sets : (is : List Item) (c : Card) → (run c is).sets ≡ map (passed (length c.sets) is) c.sets
run_sets [] c = sym (map_id c.sets)
run_sets (i ∷ is) c = run_sets is (after c i) ∙ rw (length-map, map-map)

pub length_run : (is : List Item) (c : Card) → length (run c is).sets ≡ length c.sets
length_run is c = rw (run_sets is c, length-map)

some_nth : (k : ℕ) (rs : List Record) (r : Record) → nth k rs ≡ some r → 1 ≤ length rs
some_nth k [] r e = absurd (let z : ◌≡◌ {A = ℕ} 0 1 = cc in omega arith)
some_nth k (x ∷ rs) r e = omega arith

pub own_record : OwnRecord
own_record c is k r e =
    rw (own_is c r is, run_sets is c, nth_map, e, run_sets (keep (concerns (length c.sets) (id_of r)) is) (alone r)) (ap some (passed_own (length c.sets) (some_nth k c.sets r e) is r))

pub by_rules : ByRules
by_rules c is k r e = rw (own_is c r is, run_sets is c, nth_map, e) (ap some (passed_lived (length c.sets) is r))

-- ---- answers to the items that name a set

only : (r : Record) → first (has (id_of r)) (r ∷ []) ≡ some r
only r = rw (eq-eqb (id_of r) (id_of r) refl)

pub has_same : (n id : ℕ) (i : Item) (r : Record) → has id (touched n i r) ≡ has id r
has_same n id i r = rw (keeps n i r)

module _ (n : ℕ) (pos : 1 ≤ n) where
  -- on any card d that holds r alone
  answers_own :
      (is : List Item) (c d : Card) (r : Record) → length c.sets ≡ n → first (has (id_of r)) c.sets ≡ some r → d.sets ≡ r ∷ []
      → beside (names (id_of r)) is (trace c is)
      ≡ beside (names (id_of r)) (keep (concerns n (id_of r)) is) (trace d (keep (concerns n (id_of r)) is))
  answers_own [] c d r l f s = refl
  answers_own (i ∷ is) c d r l f s =
      let N = names (id_of r) in
      let K = keep (concerns n (id_of r)) is in
      let m : length (after c i).sets ≡ n = simp length-map l in
      let f' : first (has (id_of r)) (after c i).sets ≡ some (touched n i r) = rw l (first_map (touched n i) (has (id_of r)) (has_same n (id_of r) i) c.sets ∙ rw f) in
      ⊎_elim
      (λ e.
      let s' : (after d i).sets ≡ ruled i r ∷ [] = rw (s, touched_own 1 i r (fewer i n (id_of r) pos e)) in
      let ih = answers_own is (after c i) (after d i) (ruled i r) m (f' ∙ ap some (touched_own n i r e)) s' in
      cc (
        e,
        if_cons (N i) (answer c i) (answer d i) (beside N is (trace (after c i) is)) (beside N K (trace (after d i) K))
            (λ q. answers i (id_of r) c d q (rw s (f ∙ sym (only r)))) ih,
      ))
      (λ e. let ih = answers_own is (after c i) d r m (f' ∙ ap some (touched_not n i r e)) s in cc (e, unnamed i n (id_of r) e, ih))
      (bool_cases (concerns n (id_of r) i))

pub own_answers : OwnAnswers
own_answers c is k r h e = rw (own_is c r is) (answers_own (length c.sets) (some_nth k c.sets r e) is c (alone r) r refl (found 0 k c.sets r h e) refl)

-- ---- data of the items that go to every set

done_zero : (b : Bool) (x : ℕ) (d : List ℕ) → eqb x 0 ≡ b → (if b then granted 0 d else refused x).status ≡ 0 → x ≡ 0
done_zero true x d e h = eqb-true x 0 e
done_zero false x d e h = h

module _ (i : Item) (a : All) (m : meaning i ≡ Everybody a) where
  carried : (c : Card) → (answer c i).status ≡ 0 → refusal_all a (length c.sets) ≡ 0
  unfolding answer
  carried c h = done_zero _ (refusal_all a (length c.sets)) _ refl (rw m at h)

  all_bytes : (c : Card) (rs : List Record) → c.sets ≡ rs → refusal_all a (length rs) ≡ 0 → (answer c i).bytes ≡ join (map a.part rs)
  unfolding answer
  all_bytes c rs q e = rw (m, q, e)

pub joined : Joined
joined c is i a m h =
    let n = length c.sets in
    let s : refusal_all a n ≡ 0 = rw (run_sets is c, length-map) at (carried i a m (run c is) h) in
    all_bytes i a m (run c is) _ (run_sets is c) (rw length-map s)
    ∙ rw (map-map a.part (passed n is) c.sets) (ap join (map_same_if _ _ c.sets (λ l r.
    rw (passed_own n l is r, ← own_is c r is, ← append-nil (a.part (passed 1 (own c r is) r)))
    (sym (all_bytes i a m (run (alone r) (own c r is)) _ (run_sets (own c r is) (alone r)) (fewer_all a n l s))))))

-- ---- the listed sets

-- the mark that `settled` makes, before the rest of a history, is one step of that history
since : (l c a q m : Bool) → (not c && l || a) && q || m ≡ l && (not c && q) || (a && q || m)
since true true a q m = refl
since true false true true m = refl
since true false true false m = refl
since true false false true m = refl
since true false false false m = refl
since false true a q m = refl
since false false a q m = refl

pending_step : (i : Item) (is : List Item) (r : Record) → pending (ruled i r) is ≡ pending r (i ∷ is)
pending_step i is r =
    let a = r.attributes in
    let x = effect_on i a r.state in
    since r.notes.listed x.clears (raises i a r.state) (none_cleared a x.state is) (raised a x.state is)

at_once : (l : Bool) → l ≡ l && true || false
at_once true = refl
at_once false = refl

listed_own : (n : ℕ) (is : List Item) (r : Record) → (passed n is r).notes.listed ≡ pending r (keep (concerns n (id_of r)) is)
listed_own n [] r = at_once r.notes.listed
listed_own n (i ∷ is) r =
    ⊎_elim
    (λ e. cc (touched_own n i r e, listed_own n is (ruled i r), pending_step i (keep (concerns n (id_of r)) is) r))
    (λ e. cc (touched_not n i r e, listed_own n is r))
    (bool_cases (concerns n (id_of r) i))

pub listed : Listed
listed c is =
    rw (run_sets is c)
    (keep_map id_of (passed (length c.sets) is) (λ r. r.notes.listed) _ (passed_id _ is) (λ r. listed_own (length c.sets) is r ∙ ap (pending r) (sym (own_is c r is))) c.sets)

-- ---- a set that is listed stays so

-- no item that goes to every set is a clearing read
abbrev NoClear : Meaning → Type 0
NoClear (Nobody v) = Unit {0}
NoClear (Everybody e) = (a : Attributes) (s : State) → (e.rule a s).clears ≡ false
NoClear (The named o) = Unit {0}

by_kind_clear : (k : Kind) (c : Command) (given : List ℕ) (room : ℕ) → NoClear (meaning_by k c given room)
by_kind_clear SetNotices c given room = tt
by_kind_clear SetConfig c given room = tt
by_kind_clear SetWindow c given room = tt
by_kind_clear GetNotices c given room = tt
by_kind_clear GetConfig c given room = tt
by_kind_clear GetWindow c given room = tt
by_kind_clear ReadLatency c given room = tt
by_kind_clear ReadAggregate c given room = tt
by_kind_clear EventRequest c given room = tt
by_kind_clear Identify c given room = tt

charge_clear : (b : Bool) (e f : Effect) → e.clears ≡ false → f.clears ≡ false → (if b then e else f).clears ≡ false
charge_clear true e f p q = p
charge_clear false e f p q = q

tick_clear : (w : Window) (e f g : Effect) → e.clears ≡ false → f.clears ≡ false → g.clears ≡ false → (by_window w e f g).clears ≡ false
tick_clear Off e f g p q r = p
tick_clear D e f g p q r = q
tick_clear N e f g p q r = r

no_clear : (i : Item) → NoClear (meaning i)
unfolding meaning command_meaning
no_clear (reads id k) = tt
no_clear (writes id k) = tt
no_clear (excursion id) = tt
no_clear (tick t room) = λ a s. tick_clear s.window _ _ _ refl (charge_clear (is_over Time (limit Time a) (spent_of Time s.spent + t)) _ _ refl refl) refl
no_clear (command bytes given room) = by_kind_clear (kind_of (command_in bytes)) (command_in bytes) given room

unnamed_clear : (m : Meaning) (n id : ℕ) → NoClear m → names_by m id ≡ false → concerns_by m n id ≡ true → (a : Attributes) (s : State) → (effect_by m a s).clears ≡ false
unnamed_clear (Nobody v) n id k e h a s = absurd (false≢true h)
unnamed_clear (Everybody x) n id k e h a s = k a s
unnamed_clear (The named o) n id k e h a s = absurd (false≢true (sym e ∙ h))

still_listed : (n : ℕ) (i : Item) (r : Record) → r.notes.listed ≡ true → names (id_of r) i ≡ false → (touched n i r).notes.listed ≡ true
unfolding names concerns effect_on
still_listed n i r l e =
    ⊎_elim
    (λ h. rw (touched_own n i r h, unnamed_clear (meaning i) n (id_of r) (no_clear i) e h r.attributes r.state, l))
    (λ h. rw (touched_not n i r h) l)
    (bool_cases (concerns n (id_of r) i))

unlost : (n : ℕ) (is : List Item) (r : Record) → r.notes.listed ≡ true → none_of (names (id_of r)) is ≡ true → (passed n is r).notes.listed ≡ true
unlost n [] r l h = l
unlost n (i ∷ is) r l h =
    let p = both (not (names (id_of r) i)) _ h in
    unlost n is (touched n i r) (still_listed n i r l (not-true (names (id_of r) i) p.0)) (rw (keeps n i r) p.1)

pub stays_listed : StaysListed
stays_listed c is k r e l h = rw (run_sets is c, nth_map, nth_map, e) (ap some (unlost (length c.sets) is r l h))

pick_keep : (rs : List Record) → picked (map id_of rs) (listed_marks rs) ≡ map id_of (keep (λ r. r.notes.listed) rs)
pick_keep [] = refl
pick_keep (r ∷ rs) = rw (pick_keep rs) (sym (if_ap (map id_of) r.notes.listed (r ∷ keep (λ r. r.notes.listed) rs) (keep (λ r. r.notes.listed) rs)))

pub picked_ids : PickedIds
picked_ids c is = pick_keep (run c is).sets ∙ listed c is

pub aggregate : Aggregate
unfolding answer refusal_of
aggregate c is i v page m d h = rw (m, rw m at h, d (run c is), picked_ids c is)

lower : (p q : ℕ) (xs : List ℕ) → p ≤ q → Rising q xs → Rising p xs
lower p q [] l h = tt
lower p q (x ∷ xs) l h = (omega (arith, h.0), h.1)

order_by : (b : Bool) (p x : ℕ) (xs : List ℕ) → p < x → Rising x xs → Rising p (if b then x ∷ xs else xs)
order_by true p x xs l h = (l, h)
order_by false p x xs l h = lower p x xs (omega arith) h

keep_rising : (q : Record → Bool) (p : ℕ) (rs : List Record) → legal_sets p rs ≡ true → Rising p (map id_of (keep q rs))
keep_rising q p [] h = tt
keep_rising q p (r ∷ rs) h =
    let o = ordered p r rs h in
    rw (if_ap (map id_of) (q r) (r ∷ keep q rs) (keep q rs)) (order_by (q r) p (id_of r) _ o.above (keep_rising q (id_of r) rs o.rest))

pub in_order : InOrder
in_order c is h = keep_rising _ 0 c.sets h

-- ---- two items that name different sets

newly_map : (f g : Record → Record) → ((r : Record) → newly_listed (g r) (f (g r)) ≡ newly_listed r (f r)) → (rs : List Record)
    → newly (map g rs) (map f (map g rs)) ≡ newly rs (map f rs)
newly_map f g e [] = refl
newly_map f g e (r ∷ rs) = rw (e r, newly_map f g e rs)

module _ (i j : Item) (a b : ℕ) (p : names a i ≡ true) (q : names b j ≡ true) (h : a ≡ b → ⊥) where
  -- the set that one names is not touched by the other
  aside : (n : ℕ) (r : Record) → a ≡ id_of r → touched n j r ≡ r
  aside n r e = touched_not n j r (named j b n (id_of r) q ∙ ne_eqb b (id_of r) (λ z. h (e ∙ sym z)))

  unseen : (c : Card) → answer c i ≡ answer (after c j) i
  unseen c =
      let n = length c.sets in
      answers i a c (after c j) p (sym (first_fixed (touched n j) (has a) (has_same n a j) (λ r e. aside n r (sym (eqb-true (id_of r) a e))) c.sets))

  apart : (n : ℕ) (r : Record) → touched n j (touched n i r) ≡ touched n i (touched n j r)
  apart n r =
      ⊎_elim
      (λ e. let t : a ≡ id_of r = eqb-true a (id_of r) (sym (named i a n (id_of r) p) ∙ e) in cc (aside n r t, aside n (touched n i r) (t ∙ sym (keeps n i r))))
      (λ e. cc (touched_not n i r e, touched_not n i (touched n j r) (rw (keeps n j r) e)))
      (bool_cases (concerns n (id_of r) i))

  -- the desk: the other's refusal and what it lists stay
  look_same : (c : Card) → first (has a) c.sets ≡ first (has a) (after c j).sets
  look_same c =
      let n = length c.sets in
      sym (first_fixed (touched n j) (has a) (has_same n a j) (λ r e. aside n r (sym (eqb-true (id_of r) a e))) c.sets)

  new_apart : (n : ℕ) (r : Record) → newly_listed (touched n j r) (touched n i (touched n j r)) ≡ newly_listed r (touched n i r)
  new_apart n r =
      ⊎_elim
      (λ e. rw (aside n r (eqb-true a (id_of r) (sym (named i a n (id_of r) p) ∙ e))))
      (λ e. rw (touched_not n i r e, touched_not n i (touched n j r) (rw (keeps n j r) e)) (new_self (touched n j r) ∙ sym (new_self r)))
      (bool_cases (concerns n (id_of r) i))

  told_after : (c : Card) → at_desk (after c j) i ≡ told_if (eqb (refusal_of c i) 0) (newly c.sets (sets_after c i)) (at_desk c j).desk
  told_after c =
      let n = length c.sets in
      told_named i a (after c j) p
      ∙ rw (← refusals i a c (after c j) p (look_same c), length-map, newly_map (touched n i) (touched n j) (new_apart n) c.sets)

pub swap : Swap
swap c i j a b l p q h =
    let h' : b ≡ a → ⊥ = λ z. h (sym z) in
    let s = told_swap (eqb (refusal_of c i) 0) (eqb (refusal_of c j) 0) (newly c.sets (sets_after c i)) (newly c.sets (sets_after c j)) c.desk (unserved c.desk l) in
    let ti = told_named i a c p in
    let tj = told_named j b c q in
    let tij = told_after j i b a q p h' c in
    let tji = told_after i j a b p q h c in
    record {
      same_card =
          ap₂ card_with
          (simp (length-map, map-map) (map_same _ _ (apart i j a b p q h (length c.sets)) c.sets))
          (rw (tij, tji, ti, tj) s.desk);
      same_first = unseen i j a b p q h c;
      same_second = sym (unseen j i b a q p h' c);
      same_notices = rw (tij, tji, ti, tj, append-nil, append-nil) s.notices;
    }

-- ---- inside a history

run_append : (is js : List Item) (c : Card) → run c (is ++ js) ≡ run (run c is) js
run_append [] js c = refl
run_append (i ∷ is) js c = run_append is js (after c i)

trace_append : (is js : List Item) (c : Card) → trace c (is ++ js) ≡ trace c is ++ trace (run c is) js
trace_append [] js c = refl
trace_append (i ∷ is) js c = ap (answer c i ∷◌) (trace_append is js (after c i))

notices_append : (is js : List Item) (c : Card) → notices c (is ++ js) ≡ notices c is ++ notices (run c is) js
notices_append [] js c = refl
notices_append (i ∷ is) js c =
    ap (told_of (at_desk c i).notice ++◌) (notices_append is js (after c i))
    ∙ sym (append_assoc (told_of (at_desk c i).notice) (notices (after c i) is) (notices (run (after c i) is) js))

pub swap_within : SwapWithin
swap_within c before i j later a b l p q h =
    let d = run c before in
    let w = swap d i j a b (run_legal before c l) p q h in
    let both = w.same_card in
    let middle : run c (before ++ i ∷ j ∷ []) ≡ run d (i ∷ j ∷ []) = run_append before (i ∷ j ∷ []) c in
    let ni = notices_append (i ∷ j ∷ []) later d in
    let nj = notices_append (j ∷ i ∷ []) later d in
    record {
      same_card = rw (run_append before (i ∷ j ∷ later) c, run_append before (j ∷ i ∷ later) c) (ap (λ (x : Card). run x later) both);
      one_way = rw (trace_append before (i ∷ j ∷ later) c, middle, w.same_second);
      other_way = rw (trace_append before (j ∷ i ∷ later) c, middle, both, w.same_first);
      same_notices =
          notices_append before (i ∷ j ∷ later) c
          ∙ ap (notices c before ++◌) (ni ∙ cc (both, w.same_notices) ∙ sym nj)
          ∙ sym (notices_append before (j ∷ i ∷ later) c);
    }

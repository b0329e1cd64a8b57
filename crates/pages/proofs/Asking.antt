-- Asking Identify again, over plain lists of sets.
use mathlib.Core.Path.{◌≡◌, refl, sym, ap, ap₂, ◌∙◌}
use mathlib.Core.Bool.{Bool, true, false, not, ◌&&◌, ◌||◌, false≢true}
use mathlib.Core.List.{List, [], ◌∷◌, ◌++◌, map, map-append, append-nil}
use mathlib.Core.Logic.{inr}
use Prim.Native.Nat.{ℕ, zero, suc, ◌+◌, ◌*◌, ◌-◌, ◌≤◌, ◌<◌}
use native.Mathlib.Omega.{arith}
use borrow.Author.Tests.{leb-true, leb-false, le-leb, lt-leb, ltb-true, ltb-false, eqb-true, eqb-false, not-true}
use lib.Dec.{leb, ltb, eqb}
use lib.ListN.{length, get_or, take, drop, replicate, length-take, length-drop, length-replicate, take-append-drop}
use lib.Seq.{sets, length-sets, take_all, get_or-take}
use Rattle.octets.specs.Lists.{Rising}
use Rattle.octets.specs.Octets.{bytes_of, number_of, part}
use Rattle.octets.specs.Pages.{Field, puts, place}
use Rattle.octets.proofs.JoinedTests.{both, left_false, right_false}
use Rattle.octets.proofs.Runs.{part_other}
use Rattle.octets.proofs.PutAndGet.{length_bytes, get_put}
use Rattle.octets.proofs.Pages.{placed, puts_more, length_puts, puts_before, puts_after, puts_window, part_zeros}
use Rattle.record.specs.declared.Attributes.{Attributes}
use Rattle.record.specs.Legal.{number_maximum}
use Rattle.table.specs.Table.{max_sets}
use Rattle.pages.specs.Identify.{identify_size, entry_size, first_entry, identify_entries, shown_if, shown, in_one_answer, entry_places, entry_values, entry_fields, entry_page, entries_at, identify_page}
use Rattle.pages.specs.Asking.{count_in, read_entries, entries_in, id_in, last_in, next_in, is_last, Ask, asks_from, through, gathered, EachOnce, asks_most, GivesEach}
use Rattle.pages.proofs.Entries.{one_tidy, entries_tidy, list_long}

abbrev pub ids_of : List Attributes → List ℕ
ids_of xs = map (λ (a : Attributes). a.id.0) xs

-- identifiers that rise, above a number and up to the largest
abbrev pub Ordered : ℕ → List Attributes → Type 0
Ordered before [] = Unit {0}
Ordered before (a ∷ xs) = (before < a.id.0) × (a.id.0 ≤ number_maximum) × Ordered a.id.0 xs

lower : (p q : ℕ) (xs : List Attributes) → p ≤ q → Ordered q xs → Ordered p xs
lower p q [] h o = tt
lower p q (a ∷ xs) h o = (omega (arith, o.0), o.1, o.2)

ordered_rising : (before : ℕ) (xs : List Attributes) → Ordered before xs → Rising before (ids_of xs)
ordered_rising before [] o = tt
ordered_rising before (a ∷ xs) o = (o.0, ordered_rising a.id.0 xs o.2)

-- ---- the sets at or above a number

-- from just above what all are above, all
shown_all : (from before : ℕ) (xs : List Attributes) → Ordered before xs → from ≤ before + 1 → shown from xs ≡ xs
shown_all from before [] o h = refl
shown_all from before (a ∷ xs) o h =
    rw (le-leb from a.id.0 (omega (arith, o.0))) (ap (◌∷◌ a) (shown_all from a.id.0 xs o.2 (omega (arith, o.0))))

-- above the largest, none
shown_none : (from before : ℕ) (xs : List Attributes) → Ordered before xs → number_maximum < from → shown from xs ≡ []
shown_none from before [] o h = refl
shown_none from before (a ∷ xs) o h = rw (lt-leb from a.id.0 (omega (arith, o.1))) (shown_none from a.id.0 xs o.2 h)

ordered_by : (b : Bool) (before : ℕ) (a : Attributes) (xs : List Attributes) → before < a.id.0 → a.id.0 ≤ number_maximum
    → Ordered a.id.0 xs → Ordered before (shown_if b a xs)
ordered_by true before a xs p q o = (p, q, o)
ordered_by false before a xs p q o = lower before a.id.0 xs (omega arith) o

shown_ordered : (from before : ℕ) (xs : List Attributes) → Ordered before xs → Ordered before (shown from xs)
shown_ordered from before [] o = tt
shown_ordered from before (a ∷ xs) o =
    ordered_by (leb from a.id.0) before a (shown from xs) o.0 o.1 (shown_ordered from a.id.0 xs o.2)

-- no more than there are
few_if : (b : Bool) (a : Attributes) (xs : List Attributes) (n : ℕ) → length xs ≤ n → length (shown_if b a xs) ≤ suc n
few_if true a xs n h = omega arith
few_if false a xs n h = omega arith

shown_few : (from : ℕ) (xs : List Attributes) → length (shown from xs) ≤ length xs
shown_few from [] = omega arith
shown_few from (a ∷ xs) = few_if (leb from a.id.0) a (shown from xs) (length xs) (shown_few from xs)

-- of those at or above a number, those at or above a larger one
twice_by : (b : Bool) (p q : ℕ) (a : Attributes) (xs : List Attributes) → leb p a.id.0 ≡ b → p ≤ q
    → shown q (shown p xs) ≡ shown q xs → shown q (shown_if b a (shown p xs)) ≡ shown q (a ∷ xs)
twice_by true p q a xs e h ih = ap (shown_if (leb q a.id.0) a) ih
twice_by false p q a xs e h ih = rw (lt-leb q a.id.0 (omega (arith, leb-false p a.id.0 e))) ih

shown_twice : (p q : ℕ) (xs : List Attributes) → p ≤ q → shown q (shown p xs) ≡ shown q xs
shown_twice p q [] h = refl
shown_twice p q (a ∷ xs) h = twice_by (leb p a.id.0) p q a xs refl h (shown_twice p q xs h)

-- each of them is at or above it
least_by : (b : Bool) (from : ℕ) (a : Attributes) (xs : List Attributes) → leb from a.id.0 ≡ b
    → ((n : ℕ) → n < length xs → from ≤ get_or (ids_of xs) n 0) → (n : ℕ) → n < length (shown_if b a xs) → from ≤ get_or (ids_of (shown_if b a xs)) n 0
least_by true from a xs e ih zero h = leb-true from a.id.0 e
least_by true from a xs e ih (suc n) h = ih n (omega arith)
least_by false from a xs e ih n h = ih n h

shown_least : (from : ℕ) (xs : List Attributes) (n : ℕ) → n < length (shown from xs) → from ≤ get_or (ids_of (shown from xs)) n 0
shown_least from [] n h = absurd (omega arith)
shown_least from (a ∷ xs) n h = least_by (leb from a.id.0) from a (shown from xs) refl (shown_least from xs) n h

above_nth : (before : ℕ) (xs : List Attributes) (n : ℕ) → Ordered before xs → n < length xs → before < get_or (ids_of xs) n 0
above_nth before [] n o h = absurd (omega arith)
above_nth before (a ∷ xs) zero o h = o.0
above_nth before (a ∷ xs) (suc n) o h = omega (arith, o.0, above_nth a.id.0 xs n o.2 (omega arith))

below_nth : (before : ℕ) (xs : List Attributes) (n : ℕ) → Ordered before xs → n < length xs → get_or (ids_of xs) n 0 ≤ number_maximum
below_nth before [] n o h = absurd (omega arith)
below_nth before (a ∷ xs) zero o h = o.1
below_nth before (a ∷ xs) (suc n) o h = below_nth a.id.0 xs n o.2 (omega arith)

-- "from the last identifier plus one": what comes after it
after_nth : (before : ℕ) (xs : List Attributes) (n : ℕ) → Ordered before xs → n < length xs → shown (get_or (ids_of xs) n 0 + 1) xs ≡ drop (suc n) xs
after_nth before [] n o h = refl
after_nth before (a ∷ xs) zero o h = rw (lt-leb (a.id.0 + 1) a.id.0 (omega arith)) (shown_all (a.id.0 + 1) a.id.0 xs o.2 (omega arith))
after_nth before (a ∷ xs) (suc n) o h =
    let k = above_nth a.id.0 xs n o.2 (omega arith) in
    rw (lt-leb (get_or (ids_of xs) n 0 + 1) a.id.0 (omega (arith, k))) (after_nth a.id.0 xs n o.2 (omega arith))

-- ---- what is read off an answer

-- bytes that read as a page does, as far as that goes
abbrev pub Reads : List ℕ → List ℕ → Type 0
Reads answer page = (at n : ℕ) → at + n ≤ length page → part answer at n ≡ part page at n

-- entries put on zeros, each read whole
abbrev Blank : List ℕ → ℕ → Type 0
Blank l to = (d : ℕ) → to ≤ d → d + entry_size ≤ length l → part l d entry_size ≡ replicate entry_size 0

entries_back : (xs : List Attributes) (l : List ℕ) (to : ℕ) → to + entry_size * length xs ≤ length l → Blank l to
    → read_entries (puts l (entries_at to xs)) to (length xs) ≡ map entry_page xs
entries_back [] l to h z = refl
entries_back (a ∷ xs) l to h z =
    let l' : List ℕ = puts l (entry_fields to a) in
    let later : List Field = entries_at (to + entry_size) xs in
    let long : length l' ≡ length l = length_puts (entry_fields to a) l in
    let e : puts l (entry_fields to a ++ later) ≡ puts l' later = puts_more (entry_fields to a) later l in
    let first : part (puts l' later) to entry_size ≡ entry_page a =
    puts_before later l' (to + entry_size) (to + entry_size + entry_size * length xs) to entry_size (entries_tidy xs (to + entry_size) (to + entry_size) _ (omega arith) (omega arith)) (omega arith)
    ∙ puts_window entry_places (entry_values a) l to entry_size (one_tidy 0 entry_size a (omega arith))
    ∙ ap (λ (m : List ℕ). puts m (entry_fields 0 a)) (z to (omega arith) (omega arith))
    ∙ placed entry_size (entry_fields 0 a)
    in
    let blank : Blank l' (to + entry_size) =
    λ d k r. puts_after (entry_fields to a) l 0 (to + entry_size) d entry_size (one_tidy to (to + entry_size) a (omega arith)) k ∙ z d (omega arith) (omega (arith, long))
    in
    rw e (ap₂ ◌∷◌ first (entries_back xs l' (to + entry_size) (omega (arith, long)) blank))

-- the identifier of an entry
id_back : (a : Attributes) → a.id.0 ≤ number_maximum → id_in (entry_page a) ≡ a.id.0
unfolding place
id_back a h = ap number_of (puts_before (drop 1 (entry_fields 0 a)) (sets (replicate entry_size 0) 0 (bytes_of 2 a.id.0)) 2 entry_size 0 2 refl (omega arith))
    ∙ get_put (replicate entry_size 0) 0 2 a.id.0 (omega arith) (omega arith)

ids_back : (before : ℕ) (xs : List Attributes) → Ordered before xs → map id_in (map entry_page xs) ≡ ids_of xs
ids_back before [] o = refl
ids_back before (a ∷ xs) o = ap₂ ◌∷◌ (id_back a o.1) (ids_back a.id.0 xs o.2)

id_at_lem : (before : ℕ) (xs : List Attributes) (n : ℕ) → Ordered before xs → n < length xs → id_in (get_or (map entry_page xs) n []) ≡ get_or (ids_of xs) n 0
id_at_lem before [] n o h = absurd (omega arith)
id_at_lem before (a ∷ xs) zero o h = id_back a o.1
id_at_lem before (a ∷ xs) (suc n) o h = id_at_lem a.id.0 xs n o.2 (omega arith)

taken_ordered : (n before : ℕ) (xs : List Attributes) → Ordered before xs → Ordered before (take n xs)
taken_ordered zero before xs o = tt
taken_ordered (suc n) before [] o = tt
taken_ordered (suc n) before (a ∷ xs) o = (o.0, o.1, taken_ordered n a.id.0 xs o.2)

ids_taken : (n : ℕ) (xs : List Attributes) → ids_of (take n xs) ≡ take n (ids_of xs)
ids_taken zero xs = refl
ids_taken (suc n) [] = refl
ids_taken (suc n) (a ∷ xs) = ap (◌∷◌ a.id.0) (ids_taken n xs)

same_entries : (answer page : List ℕ) → Reads answer page → (to n : ℕ) → to + entry_size * n ≤ length page → read_entries answer to n ≡ read_entries page to n
same_entries answer page r to zero h = refl
same_entries answer page r to (suc n) h = ap₂ ◌∷◌ (r to entry_size (omega arith)) (same_entries answer page r (to + entry_size) n (omega arith))

module _ (all : List Attributes) (from : ℕ) (o : Ordered 0 all) where
  -- those to be shown, and those of one answer
  abbrev pub listed : List Attributes
  listed = shown from all

  abbrev pub one : List Attributes
  one = in_one_answer from all

  one_few : length one ≤ identify_entries
  one_few = omega (arith, length-take identify_entries listed)

  -- the page with its count, before the entries
  abbrev counted : List ℕ
  counted = sets (replicate identify_size 0) 0 (bytes_of 1 (length one))

  counted_long : length counted ≡ identify_size
  counted_long = length-sets (replicate identify_size 0) 0 (bytes_of 1 (length one)) ∙ length-replicate {A = ℕ} identify_size 0

  page_is : identify_page from all ≡ puts counted (entries_at first_entry one)
  unfolding identify_page place
  page_is = refl

  page_count : count_in (identify_page from all) ≡ length one
  page_count =
      rw page_is
      (ap number_of (puts_before (entries_at first_entry one) counted 1 identify_size 0 1 (entries_tidy one first_entry 1 identify_size (omega arith) (omega (arith, one_few))) (omega arith))
      ∙ get_put (replicate identify_size 0) 0 1 (length one) (omega (arith, length-replicate {A = ℕ} identify_size 0)) (omega (arith, one_few)))

  page_entries : read_entries (identify_page from all) first_entry (length one) ≡ map entry_page one
  page_entries =
      rw page_is
      (entries_back one counted first_entry (omega (arith, one_few, counted_long))
      (λ d k r.
      part_other (bytes_of 1 (length one)) (replicate identify_size 0) 0 d entry_size (inr (omega (arith, length_bytes 1 (length one))))
      ∙ part_zeros identify_size d entry_size (omega (arith, counted_long))))

  module _ (answer : List ℕ) (r : Reads answer (identify_page from all)) where
    count_is : count_in answer ≡ length one
    count_is = ap number_of (r 0 1 (omega (arith, list_long from all))) ∙ page_count

    pub entries_are : entries_in answer ≡ map entry_page one
    entries_are =
        ap (read_entries answer first_entry) count_is ∙ same_entries answer (identify_page from all) r first_entry (length one) (omega (arith, one_few, list_long from all)) ∙ page_entries

    -- a full answer
    module _ (full : identify_entries ≤ length listed) where
      many : length one ≡ identify_entries
      many = omega (arith, length-take identify_entries listed)

      last_is : last_in answer ≡ get_or (ids_of listed) (identify_entries - 1) 0
      last_is =
          rw (entries_are, count_is, many)
          (id_at_lem 0 one (identify_entries - 1) (taken_ordered identify_entries 0 listed (shown_ordered from 0 all o)) (omega (arith, many))
          ∙ ap (λ (l : List ℕ). get_or l (identify_entries - 1) 0) (ids_taken identify_entries listed)
          ∙ get_or-take identify_entries (ids_of listed) (identify_entries - 1) 0 (omega arith))

      -- what is asked for next is what this answer has left out
      pub next_is : shown (next_in answer) all ≡ drop identify_entries listed
      next_is =
          let least = shown_least from all (identify_entries - 1) (omega (arith, full)) in
          rw last_is
          (sym (shown_twice from (get_or (ids_of listed) (identify_entries - 1) 0 + 1) all (omega (arith, least)))
          ∙ after_nth 0 listed (identify_entries - 1) (shown_ordered from 0 all o) (omega (arith, full)))

    pub not_last : is_last answer ≡ false → identify_entries ≤ length listed
    not_last e =
        let k : identify_entries ≤ count_in answer = ltb-false (count_in answer) identify_entries (left_false _ _ e) in
        omega (arith, count_is, length-take identify_entries listed)

    -- so there is a number left to ask from
    pub last_small : is_last answer ≡ false → next_in answer ≤ number_maximum
    last_small e =
        let full = not_last e in
        let small = below_nth 0 listed (identify_entries - 1) (shown_ordered from 0 all o) (omega (arith, full)) in
        let other : last_in answer ≡ number_maximum → ⊥ = eqb-false (last_in answer) number_maximum (right_false (ltb (count_in answer) identify_entries) _ e) in
        omega (arith, last_is full, small, other)

    -- the last answer leaves nothing out
    last_by : (b : Bool) → ltb (count_in answer) identify_entries ≡ b → b || eqb (last_in answer) number_maximum ≡ true → one ≡ listed
    last_by true e h =
        let k : count_in answer < identify_entries = ltb-true (count_in answer) identify_entries e in
        take_all identify_entries listed (omega (arith, count_is, length-take identify_entries listed))
    last_by false e h =
        let k : identify_entries ≤ count_in answer = ltb-false (count_in answer) identify_entries e in
        let full : identify_entries ≤ length listed = omega (arith, count_is, length-take identify_entries listed) in
        let top : last_in answer ≡ number_maximum = eqb-true (last_in answer) number_maximum h in
        let none : drop identify_entries listed ≡ [] = sym (next_is full) ∙ shown_none (next_in answer) 0 all o (omega (arith, top)) in
        sym (append-nil one) ∙ ap (λ (l : List Attributes). one ++ l) (sym none) ∙ take-append-drop identify_entries listed

    pub all_read : is_last answer ≡ true → entries_in answer ≡ map entry_page listed
    all_read h = entries_are ∙ ap (map entry_page) (last_by (ltb (count_in answer) identify_entries) refl h)

-- ---- one answer after another

-- each ask was answered with the page that is asked for
abbrev pub Answers : List Attributes → List Ask → Type 0
Answers all [] = Unit {0}
Answers all (a ∷ more) = Reads a.answer (identify_page a.from all) × Answers all more

module _ (all : List Attributes) (o : Ordered 0 all) where
  -- a full answer is followed by what it has left out
  module _ (from : ℕ) (a b : Ask) (more : List Ask) (h : asks_from from (a ∷ b ∷ more) ≡ true) (r : Reads a.answer (identify_page a.from all)) where
    tests : (eqb a.from from ≡ true) × (not (is_last a.answer) ≡ true) × (asks_from (next_in a.answer) (b ∷ more) ≡ true)
    tests =
        let t = both (eqb a.from from && not (is_last a.answer)) _ h in
        let u = both (eqb a.from from) _ t.0 in
        (u.0, u.1, t.1)

    read : Reads a.answer (identify_page from all)
    read = rw (eqb-true a.from from tests.0) at r

    full : identify_entries ≤ length (shown from all)
    full = not_last all from o a.answer read (not-true _ tests.1)

    next : shown (next_in a.answer) all ≡ drop identify_entries (shown from all)
    next = next_is all from o a.answer read full

    next_long : length (shown (next_in a.answer) all) + identify_entries ≡ length (shown from all)
    next_long = omega (arith, ap length next, length-drop identify_entries (shown from all), full)

  -- asks after which there is more to ask for: so many full answers
  going : (from : ℕ) (asks : List Ask) → asks_from from asks ≡ true → Answers all asks → through asks ≡ false → identify_entries * length asks ≤ length (shown from all)
  going from [] h r t = omega arith
  going from (a ∷ []) h r t = not_last all from o a.answer (rw (eqb-true a.from from h) at r.0) t
  going from (a ∷ b ∷ more) h r t =
      let ih = going (next_in a.answer) (b ∷ more) (tests from a b more h r.0).2 r.1 t in
      omega (arith, ih, next_long from a b more h r.0)

  -- and one more ask
  asked : (from : ℕ) (a : Ask) (more : List Ask) → asks_from from (a ∷ more) ≡ true → Answers all (a ∷ more) → identify_entries * length more ≤ length (shown from all)
  asked from a [] h r = omega arith
  asked from a (b ∷ more) h r =
      let ih = asked (next_in a.answer) b more (tests from a b more h r.0).2 r.1 in
      omega (arith, ih, next_long from a b more h r.0)

  -- all that is gathered, where the last answer has come
  gathers : (from : ℕ) (asks : List Ask) → asks_from from asks ≡ true → Answers all asks → through asks ≡ true → gathered asks ≡ map entry_page (shown from all)
  gathers from [] h r t = absurd (false≢true t)
  gathers from (a ∷ []) h r t = append-nil _ ∙ all_read all from o a.answer (rw (eqb-true a.from from h) at r.0) t
  gathers from (a ∷ b ∷ more) h r t =
      ap₂ ◌++◌
      (entries_are all from o a.answer (read from a b more h r.0))
      (gathers (next_in a.answer) (b ∷ more) (tests from a b more h r.0).2 r.1 t ∙ ap (map entry_page) (next from a b more h r.0))
      ∙ sym (map-append entry_page (take identify_entries (shown from all)) (drop identify_entries (shown from all)))
      ∙ ap (map entry_page) (take-append-drop identify_entries (shown from all))

  pub each_once : (from : ℕ) (entries : List (List ℕ)) → entries ≡ map entry_page (shown from all) → EachOnce all from entries
  each_once from entries e =
      let s = shown_ordered from 0 all o in
      record {
        those = e;
        rising = rw (e, ids_back 0 (shown from all) s) (ordered_rising 0 (shown from all) s);
        all = λ h. e ∙ ap (map entry_page) (shown_all from 0 all o (omega arith));
      }

  few_by : (from : ℕ) (asks : List Ask) → length all ≤ max_sets → asks_from from asks ≡ true → Answers all asks → length asks ≤ asks_most
  few_by from [] few h r = omega arith
  few_by from (a ∷ more) few h r = omega (arith, asked from a more h r, shown_few from all)

  ends_by : (b : Bool) (from : ℕ) (asks : List Ask) → through asks ≡ b → length all ≤ max_sets → asks_from from asks ≡ true → Answers all asks → length asks ≡ asks_most → b ≡ true
  ends_by true from asks e few h r n = refl
  ends_by false from asks e few h r n = absurd (omega (arith, going from asks h r e, shown_few from all))

  pub gives_each : (from : ℕ) (asks : List Ask) → length all ≤ max_sets → asks_from from asks ≡ true → Answers all asks → GivesEach all from asks
  gives_each from asks few h r =
      record {
        few = few_by from asks few h r;
        ends = ends_by (through asks) from asks refl few h r;
        once = λ t. each_once from (gathered asks) (gathers from asks h r t);
      }

-- Entries shown or passed over, over plain variables.
use mathlib.Core.Path.{◌≡◌, refl, sym, ap, ◌∙◌}
use mathlib.Core.Bool.{Bool, true, false}
use mathlib.Core.List.{List, [], ◌∷◌, ◌++◌}
use mathlib.Core.Logic.{inr}
use Prim.Native.Nat.{ℕ, zero, suc, ◌+◌, ◌*◌, ◌-◌, ◌/◌, ◌≤◌, ◌<◌}
use native.Mathlib.Omega.{arith}
use native.Mathlib.Nat.{add-zero, sub-zero, suc-sub-suc}
use borrow.Author.Tests.{leb-true, le-leb}
use lib.Dec.{leb}
use lib.ListN.{length, take, length-append, length-take}
use lib.Seq.{sets, take-nil}
use Rattle.octets.specs.Octets.{bytes_of}
use Rattle.octets.specs.Pages.{Field, puts, place, tidy, Fit, readings, values}
use Rattle.octets.proofs.JoinedTests.{both}
use Rattle.octets.proofs.Runs.{sets_comm}
use Rattle.octets.proofs.Pages.{made_onto, read_back, puts_more, length_puts, length_place}
use Rattle.record.specs.declared.Attributes.{Attributes}
use Rattle.pages.specs.Bodies.{Sized, AllSized}
use Rattle.pages.specs.Identify.{identify_size, entry_size, first_entry, identify_entries, shown_if, shown, in_one_answer, entry_fields, entries_at, identify_fields, identify_page, Shows}

-- the fields of an entry stand in order, and what follows them after its last
entry_tidy : (to from size : ℕ) (a : Attributes) (fs : List Field) → from ≤ to → tidy (to + 40 + 8) size fs ≡ true → tidy from size (entry_fields to a ++ fs) ≡ true
entry_tidy to from size a fs l h =
    rw (
      le-leb from (to + 0) (omega arith),
      le-leb (to + 0 + 2) (to + 2) (omega arith),
      le-leb (to + 2 + 2) (to + 8) (omega arith),
      le-leb (to + 8 + 4) (to + 12) (omega arith),
      le-leb (to + 12 + 4) (to + 16) (omega arith),
      le-leb (to + 16 + 8) (to + 24) (omega arith),
      le-leb (to + 24 + 8) (to + 32) (omega arith),
      le-leb (to + 32 + 8) (to + 40) (omega arith),
    )
    h

pub one_tidy : (to size : ℕ) (a : Attributes) → to + entry_size ≤ size → tidy 0 size (entry_fields to a) ≡ true
one_tidy to size a h = entry_tidy to 0 size a [] (omega arith) (le-leb (to + 40 + 8) size (omega arith))

-- ---- the first set, and the rest

shown_more : (b : Bool) (a : Attributes) (others : List Attributes) → shown_if b a others ≡ shown_if b a [] ++ others
shown_more true a others = refl
shown_more false a others = refl

one_at_most : (b : Bool) (a : Attributes) → length (shown_if b a []) ≤ 1
one_at_most true a = omega arith
one_at_most false a = omega arith

shown_first : (from : ℕ) (a : Attributes) (others : List Attributes) → shown from (a ∷ others) ≡ shown from (a ∷ []) ++ shown from others
shown_first from a others = shown_more (leb from a.id.0) a (shown from others)

entries_more : (xs ys : List Attributes) (to : ℕ) → entries_at to (xs ++ ys) ≡ entries_at to xs ++ entries_at (to + entry_size * length xs) ys
entries_more [] ys to = rw add-zero
entries_more (a ∷ xs) ys to =
    let e : to + entry_size + entry_size * length xs ≡ to + entry_size * suc (length xs) = omega arith in
    ap (λ (fs : List Field). entry_fields to a ++ fs) (entries_more xs ys (to + entry_size) ∙ rw e)

-- the entries of sets stand in order
pub entries_tidy : (xs : List Attributes) (to from size : ℕ) → from ≤ to → to + entry_size * length xs ≤ size → tidy from size (entries_at to xs) ≡ true
entries_tidy [] to from size l h = le-leb from size (omega arith)
entries_tidy (a ∷ xs) to from size l h = entry_tidy to from size a (entries_at (to + entry_size) xs) l (entries_tidy xs (to + entry_size) (to + 40 + 8) size (omega arith) (omega arith))

-- bytes at the start may be put before the fields after them, or last
put_later : (fs : List Field) (l v : List ℕ) (from size : ℕ) → tidy from size fs ≡ true → length v ≤ from → sets (puts l fs) 0 v ≡ puts (sets l 0 v) fs
put_later [] l v from size h o = refl
put_later (f ∷ fs) l v from size h o =
    let b = both (leb from f.at) (tidy (f.at + f.width) size fs) h in
    let k : from ≤ f.at = leb-true from f.at b.0 in
    let u : List ℕ = bytes_of f.width f.value in
    put_later fs (sets l f.at u) v (f.at + f.width) size b.1 (omega arith)
    ∙ ap (λ (m : List ℕ). puts m fs) (sym (sets_comm u v l 0 f.at (inr (omega arith))))

-- ---- a loop that shows sets one after the other, until none is left or the page is full

-- what holds at each turn: there is room for so many more entries, and showing as many of the sets that are left, from here, is showing
-- the sets of one answer on the page as it was
pub record Showing (page₀ : List ℕ) (from : ℕ) (all : List Attributes) (page : List ℕ) (to : ℕ) (left : List Attributes) : Type 0 where
  pub spare : ℕ
  pub long : length page ≡ length page₀
  pub room : to + entry_size * spare ≡ identify_size
  pub count : to + entry_size * length (take spare (shown from left)) ≡ first_entry + entry_size * length (in_one_answer from all)
  pub same : puts page (entries_at to (take spare (shown from left))) ≡ puts page₀ (entries_at first_entry (in_one_answer from all))

-- where there is room for one more, the first set and then the rest
taken_first : (b : Bool) (a : Attributes) (others : List Attributes) (n : ℕ) → 0 < n
    → take n (shown_if b a others) ≡ shown_if b a [] ++ take (n - length (shown_if b a [])) others
taken_first true a others zero h = elim h [ ]
taken_first true a others (suc n) h = rw (suc-sub-suc n 0, sub-zero)
taken_first false a others n h = rw sub-zero

module _ (page₀ : List ℕ) (from : ℕ) (all : List Attributes) where
  pub show_start : Showing page₀ from all page₀ first_entry all
  show_start = record { spare = identify_entries; long = refl; room = refl; count = refl; same = refl }

  module _ (page : List ℕ) (to : ℕ) (a : Attributes) (left : List Attributes) (s : Showing page₀ from all page to (a ∷ left)) (more : to < identify_size) where
    pub show_room : identify_size ≤ length page₀ → to + entry_size ≤ length page
    show_room h = omega (arith, s.room, s.long, more)

    pub show_turn : (after : List ℕ) (next : ℕ) → Shows from a page to after next → Showing page₀ from all after next left
    show_turn after next d =
        let n : ℕ = s.spare in
        let one : List Attributes = shown from (a ∷ []) in
        let few : length one ≤ 1 = one_at_most (leb from a.id.0) a in
        let some : 0 < n = omega (arith, s.room, more) in
        let rest : List Attributes = take (n - length one) (shown from left) in
        let split : take n (shown from (a ∷ left)) ≡ one ++ rest = taken_first (leb from a.id.0) a (shown from left) n some in
        let m : length (take n (shown from (a ∷ left))) ≡ length one + length rest = ap length split ∙ length-append one rest in
        let goes : puts page (entries_at to (take n (shown from (a ∷ left)))) ≡ puts (puts page (entries_at to one)) (entries_at (to + entry_size * length one) rest) =
        ap (λ (l : List Attributes). puts page (entries_at to l)) split
        ∙ ap (puts page) (entries_more one rest to)
        ∙ puts_more (entries_at to one) (entries_at (to + entry_size * length one) rest) page
        in record {
          spare = n - length one;
          long = ap length d.entry ∙ length_puts (entries_at to one) page ∙ s.long;
          room = omega (arith, s.room, d.place, few, some);
          count = omega (arith, s.count, d.place, m);
          same = rw (d.place, d.entry) (sym goes ∙ s.same);
        }

  -- none is left: those of one answer are shown
  pub show_end : (page : List ℕ) (to : ℕ) → Showing page₀ from all page to []
      → (to ≡ first_entry + entry_size * length (in_one_answer from all)) × (page ≡ puts page₀ (entries_at first_entry (in_one_answer from all)))
  show_end page to s = let e : take s.spare (shown from []) ≡ [] = take-nil s.spare in (omega (arith, ap length e, s.count), rw e at s.same)

  -- the page is full: so they are
  pub show_full : (page : List ℕ) (to : ℕ) (left : List Attributes) → identify_size ≤ to → Showing page₀ from all page to left → Showing page₀ from all page to []
  show_full page to left h s =
      let e : s.spare ≡ 0 = omega (arith, s.room) in
      record { spare = 0; long = s.long; room = rw e at s.room; count = rw e at s.count; same = rw e at s.same }

-- how long Identify's page is
pub list_long : (from : ℕ) (all : List Attributes) → identify_size ≡ length (identify_page from all)
unfolding identify_page
list_long from all = sym (length_place identify_size (identify_fields (in_one_answer from all)))

-- the fields of an answer stand in order
fields_tidy : (from : ℕ) (all : List Attributes) → tidy 0 identify_size (identify_fields (in_one_answer from all)) ≡ true
fields_tidy from all =
    let n = length-take identify_entries (shown from all) in
    entries_tidy (in_one_answer from all) first_entry 1 identify_size (omega arith) (omega arith)

-- the page is made on the first bytes of an answer: cleared, then its sets shown there, then the count
pub show_onto : (from : ℕ) (all : List Attributes) (answer start page page' : List ℕ) (to : ℕ)
    → identify_size ≤ length answer → start ≡ sets answer 0 (place identify_size [])
    → to ≡ first_entry + entry_size * length (in_one_answer from all)
    → page ≡ puts start (entries_at first_entry (in_one_answer from all))
    → page' ≡ sets page 0 (bytes_of 1 ((to - first_entry) / entry_size)) → page' ≡ sets answer 0 (identify_page from all)
unfolding identify_page
show_onto from all answer start page page' to room es et ep ec =
    let listed : List Attributes = in_one_answer from all in
    let n : (to - first_entry) / entry_size ≡ length listed = omega arith in
    made_onto identify_size (identify_fields listed) answer start page' (fields_tidy from all) room es
    (ec
    ∙ ap (λ (k : ℕ). sets page 0 (bytes_of 1 k)) n
    ∙ ap (λ (l : List ℕ). sets l 0 (bytes_of 1 (length listed))) ep
    ∙ put_later (entries_at first_entry listed) start (bytes_of 1 (length listed)) 1 (first_entry + entry_size * length listed)
    (entries_tidy listed first_entry 1 (first_entry + entry_size * length listed) (omega arith) (omega arith)) (omega arith))

-- ---- the page read back

sized_if : (b : Bool) (a : Attributes) (others : List Attributes) → Sized a → AllSized others → AllSized (shown_if b a others)
sized_if true a others s o = (s, o)
sized_if false a others s o = o

shown_sized : (from : ℕ) (xs : List Attributes) → AllSized xs → AllSized (shown from xs)
shown_sized from [] s = tt
shown_sized from (a ∷ xs) s = sized_if (leb from a.id.0) a (shown from xs) s.0 (shown_sized from xs s.1)

taken_sized : (n : ℕ) (xs : List Attributes) → AllSized xs → AllSized (take n xs)
taken_sized zero xs s = tt
taken_sized (suc n) [] s = tt
taken_sized (suc n) (a ∷ xs) s = (s.0, taken_sized n xs s.1)

entries_fit : (xs : List Attributes) (to : ℕ) → AllSized xs → Fit (entries_at to xs)
entries_fit [] to s = tt
entries_fit (a ∷ xs) to s =
    let f = entries_fit xs (to + entry_size) s.1 in
    let z = s.0 in
    (z.id, (z.group, (z.random_read_typical, (z.optimal_write_size, (z.total_low, (z.total_high, (z.unallocated_low, (z.unallocated_high, f))))))))

-- the page read at its fields gives back the count and the entries
pub identify_back : (from : ℕ) (all : List Attributes) → AllSized all
    → readings (identify_page from all) (identify_fields (in_one_answer from all)) ≡ values (identify_fields (in_one_answer from all))
unfolding identify_page
identify_back from all s =
    let n = length-take identify_entries (shown from all) in
    read_back identify_size (identify_fields (in_one_answer from all)) (fields_tidy from all)
    (omega arith, entries_fit (in_one_answer from all) first_entry (taken_sized identify_entries (shown from all) (shown_sized from all s)))

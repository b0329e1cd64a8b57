-- The word of marks: its ones, its lowest one, and the list that it stands for.
use mathlib.Core.Path.{◌≡◌, refl, sym, ap, ◌∙◌}
use mathlib.Core.Bool.{Bool, true, false}
use mathlib.Core.List.{List, [], ◌∷◌}
use mathlib.Core.Logic.{⊎_elim}
use Prim.Native.Nat.{ℕ, zero, suc, ◌+◌, ◌*◌, ◌-◌, ◌/◌, ◌%◌, ◌^◌, ◌≤◌, ◌<◌, min}
use native.Mathlib.Omega.{arith}
use native.Mathlib.Nat.{pow-suc}
use lib.Bits.{bit_and, and_step, and_self, and_le_r}
use lib.Count.{ones, ones_step, count_trailing_zeros, under}
use lib.Dec.{eqb}
use lib.ListN.{length, get_or, replicate}
use lib.Seq.{sets, length-sets}
use borrow.Author.Tests.{le-leb}
use Rattle.octets.specs.Octets.{bytes_of}
use Rattle.octets.specs.Pages.{puts, place, tidy, Fit, readings, values}
use Rattle.octets.proofs.Halves.{odd_or_even}
use Rattle.octets.proofs.Pages.{read_back}
use Rattle.record.specs.Event.{bit}
use Rattle.table.specs.Table.{max_sets, word_of}
use Rattle.pages.specs.Aggregate.{listed_if, listed_by, OneWord, CountIsOnes, NextIsLowest, lowest_one, without_lowest, aggregate_size, first_listed, listed_size, count_page, entries_from, list_fields, aggregate_page}

-- a word without its lowest one
unfoldable cleared : ℕ → ℕ
cleared w = bit_and w (w - 1)

cleared_is : (w : ℕ) → bit_and w (w - 1) ≡ cleared w
unfolding cleared
cleared_is w = refl

cleared_even : (w : ℕ) → 0 < w → w % 2 ≡ 0 → cleared w ≡ cleared (w / 2) * 2
unfolding cleared
cleared_even w p e =
    let a : (w - 1) / 2 ≡ w / 2 - 1 = omega arith in
    let b : min (w % 2) ((w - 1) % 2) ≡ 0 = omega arith in
    and_step w (w - 1) ∙ rw (a, b) (omega arith)

cleared_odd : (w : ℕ) → w % 2 ≡ 1 → cleared w ≡ w / 2 * 2
unfolding cleared
cleared_odd w e =
    let a : (w - 1) / 2 ≡ w / 2 = omega arith in
    let b : min (w % 2) ((w - 1) % 2) ≡ 0 = omega arith in
    and_step w (w - 1) ∙ rw (a, b, and_self) (omega arith)

cleared_less : (w : ℕ) → 0 < w → cleared w < w
unfolding cleared
cleared_less w p = omega (arith, and_le_r w (w - 1))

half_below : (n w : ℕ) → w < 2 ^ suc n → w / 2 < 2 ^ n
half_below n w h = let e : w < 2 ^ n * 2 = rw pow-suc at h in omega arith

-- ---- one step of the listing, and of the zeros, by the lowest bit

by_even : (w v id : ℕ) (ids : List ℕ) → w % 2 ≡ 0 → w / 2 ≡ v → listed_by w (id ∷ ids) ≡ listed_by v ids
by_even w v id ids e f = ap (λ (m : ℕ). listed_if (eqb m 1) id (listed_by (w / 2) ids)) e ∙ ap (λ (u : ℕ). listed_by u ids) f

by_odd : (w id : ℕ) (ids : List ℕ) → w % 2 ≡ 1 → listed_by w (id ∷ ids) ≡ id ∷ listed_by (w / 2) ids
by_odd w id ids e = ap (λ (m : ℕ). listed_if (eqb m 1) id (listed_by (w / 2) ids)) e

zeros_even : (d w : ℕ) → w % 2 ≡ 0 → count_trailing_zeros (suc d) w ≡ suc (count_trailing_zeros d (w / 2))
unfolding count_trailing_zeros
zeros_even d w e = ap (λ (m : ℕ). under m (count_trailing_zeros d (w / 2))) e

zeros_odd : (d w : ℕ) → w % 2 ≡ 1 → count_trailing_zeros (suc d) w ≡ 0
unfolding count_trailing_zeros
zeros_odd d w e = ap (λ (m : ℕ). under m (count_trailing_zeros d (w / 2))) e

-- the word's lowest one is the slot of the first listed set, and the word without it lists the others
lowest : (ids : List ℕ) (d w : ℕ) → 0 < w → w < 2 ^ length ids → length ids ≤ d
    → (count_trailing_zeros d w < length ids) × (listed_by w ids ≡ get_or ids (count_trailing_zeros d w) 0 ∷ listed_by (cleared w) ids)
lowest [] d w p h l = absurd (omega arith)
lowest (id ∷ ids) zero w p h l = absurd (omega arith)
lowest (id ∷ ids) (suc d) w p h l = ⊎_elim
    (λ (e : w % 2 ≡ 0).
    let r = lowest ids d (w / 2) (omega arith) (half_below (length ids) w h) (omega arith) in
    let k = cleared_even w p e in
    rw (zeros_even d w e, by_even w (w / 2) id ids e refl, by_even (cleared w) (cleared (w / 2)) id ids (omega arith) (omega arith))
    (omega (arith, r.0), r.1))
    (λ (e : w % 2 ≡ 1).
    let k = cleared_odd w e in
    rw (zeros_odd d w e, by_odd w id ids e, by_even (cleared w) (w / 2) id ids (omega arith) (omega arith)) (omega arith, refl))
    (odd_or_even w)

pub next_is_lowest : NextIsLowest
unfolding cleared
next_is_lowest ids w p h few = (lowest ids 64 w p h (omega arith)).1

-- none is left in an empty word
listed_none : (ids : List ℕ) → listed_by 0 ids ≡ []
listed_none [] = refl
listed_none (id ∷ ids) = listed_none ids

-- ---- how many are listed

listed_if_lem : (w id : ℕ) (others : List ℕ) → length (listed_if (eqb (w % 2) 1) id others) ≡ w % 2 + length others
listed_if_lem w id others = ⊎_elim (λ e. rw e (omega arith)) (λ e. rw e (omega arith)) (odd_or_even w)

-- the word's ones are as many as the listed
ones_listed : (ids : List ℕ) (w : ℕ) → w < 2 ^ length ids → ones w ≡ length (listed_by w ids)
unfolding ones
ones_listed [] w h = let e : w ≡ 0 = omega arith in rw e
ones_listed (id ∷ ids) w h =
    ones_step w ∙ ap (λ (n : ℕ). w % 2 + n) (ones_listed ids (w / 2) (half_below (length ids) w h))
    ∙ sym (listed_if_lem w id (listed_by (w / 2) ids))

pub count_is_ones : CountIsOnes
count_is_ones ids w h = sym (ones_listed ids w h)

pub listed_few : (ids : List ℕ) (w : ℕ) → length (listed_by w ids) ≤ length ids
listed_few [] w = omega arith
listed_few (id ∷ ids) w = omega (arith, listed_if_lem w id (listed_by (w / 2) ids), listed_few ids (w / 2))

-- ---- marks as a word

bit_is : (b : Bool) → (bit b ≤ 1) × (eqb (bit b) 1 ≡ b)
bit_is true = (omega arith, refl)
bit_is false = (omega arith, refl)

pub word_below : (marks : List Bool) → word_of marks < 2 ^ length marks
word_below [] = omega arith
word_below (m ∷ marks) = rw pow-suc (omega (arith, word_below marks, (bit_is m).0))

-- the word of marks lists the sets whose mark is set
pub one_word : OneWord
one_word [] marks e = refl
one_word (id ∷ ids) [] e = absurd (omega arith)
one_word (id ∷ ids) (m ∷ marks) e =
    let a : (word_of marks * 2 + bit m) % 2 ≡ bit m = omega (arith, (bit_is m).0) in
    let b : (word_of marks * 2 + bit m) / 2 ≡ word_of marks = omega (arith, (bit_is m).0) in
    rw (a, b, (bit_is m).1, one_word ids marks (omega arith))

-- ---- a turn of the loop that lists, over plain variables

record Entered (ids page : List ℕ) (left next to : ℕ) : Type 0 where
  pub within : count_trailing_zeros 64 left < length ids
  pub still : next < 2 ^ length ids
  pub less : next < left
  pub fewer : 1 + length (listed_by next ids) ≡ length (listed_by left ids)
  pub puts_on : puts (sets page to (bytes_of 2 (get_or ids (count_trailing_zeros 64 left) 0))) (entries_from (to + 2) (listed_by next ids)) ≡ puts page (entries_from to (listed_by left ids))

entry_turn : (ids page : List ℕ) (left next to : ℕ) → 0 < left → left < 2 ^ length ids → length ids ≤ max_sets → next ≡ bit_and left (left - 1)
    → Entered ids page left next to
entry_turn ids page left next to p h few e =
    let r = lowest ids 64 left p h (omega arith) in
    let c = cleared_less left p in
    rw (e, cleared_is left) (record { within = r.0; still = omega arith; less = c; fewer = rw r.1 (omega arith); puts_on = rw r.1 })

-- what holds at each turn: what is left to list fits, and listing it gives what was to be listed
pub record Left (ids page₀ : List ℕ) (word : ℕ) (page : List ℕ) (left to : ℕ) : Type 0 where
  pub below : left < 2 ^ length ids
  pub long : length page ≡ length page₀
  pub room : to + 2 * length (listed_by left ids) ≤ length page₀
  pub same : puts page (entries_from to (listed_by left ids)) ≡ puts page₀ (entries_from 8 (listed_by word ids))

module _ (ids page₀ : List ℕ) (word : ℕ) (few : length ids ≤ max_sets) where
  pub left_start : word < 2 ^ length ids → aggregate_size ≤ length page₀ → Left ids page₀ word page₀ word first_listed
  left_start h room = record { below = h; long = refl; room = omega (arith, listed_few ids word); same = refl }

  module _ (page : List ℕ) (left to : ℕ) (p : 0 < left) (s : Left ids page₀ word page left to) where
    turn : Entered ids page left (without_lowest left) to
    turn = entry_turn ids page left (without_lowest left) to p s.below few refl

    pub left_within : lowest_one left < length ids
    left_within = turn.within

    pub left_room : to + listed_size ≤ length page
    left_room = omega (arith, s.room, s.long, turn.fewer)

    pub left_less : (next : ℕ) → next ≡ without_lowest left → next < left
    left_less next e = rw e turn.less

    pub left_turn : (after : List ℕ) (next : ℕ) → next ≡ without_lowest left → after ≡ sets page to (bytes_of listed_size (get_or ids (lowest_one left) 0))
        → Left ids page₀ word after next (to + listed_size)
    left_turn after next en ea =
        rw (en, ea)
        (record {
          below = turn.still;
          long = length-sets page to (bytes_of listed_size (get_or ids (lowest_one left) 0)) ∙ s.long;
          room = omega (arith, s.room, turn.fewer);
          same = turn.puts_on ∙ s.same;
        })

  -- no mark is left: all are listed
  pub left_end : (page : List ℕ) (left to : ℕ) → left ≤ 0 → Left ids page₀ word page left to → page ≡ puts page₀ (entries_from first_listed (listed_by word ids))
  left_end page left to h s = let e : left ≡ 0 = omega arith in sym (rw (e, listed_none ids)) ∙ s.same

-- ---- the page: the number, then the entries

pub counted : (p : List ℕ) (n w : ℕ) → p ≡ sets (replicate aggregate_size 0) 0 (bytes_of 8 n) → n ≡ ones w → p ≡ count_page (ones w)
unfolding place
counted p n w ep en = ep ∙ ap count_page en

pub page_is : (ids p q : List ℕ) (w n : ℕ) → w < 2 ^ length ids → n ≡ ones w → p ≡ count_page n
    → q ≡ puts p (entries_from first_listed (listed_by w ids)) → q ≡ aggregate_page (listed_by w ids)
unfolding aggregate_page place
page_is ids p q w n h en ep eq =
    eq ∙ ap (λ (x : List ℕ). puts x (entries_from first_listed (listed_by w ids))) (ep ∙ ap count_page (en ∙ ones_listed ids w h))

-- ---- the page read back

entries_tidy : (ids : List ℕ) (at size : ℕ) → at + 2 * length ids ≤ size → tidy at size (entries_from at ids) ≡ true
entries_tidy [] at size h = le-leb at size (omega arith)
entries_tidy (id ∷ ids) at size h = rw (le-leb at at (omega arith)) (entries_tidy ids (at + 2) size (omega arith))

entries_fit : (ids : List ℕ) (at : ℕ) → ((i : ℕ) → get_or ids i 0 < 2 ^ 16) → Fit (entries_from at ids)
entries_fit [] at f = tt
entries_fit (id ∷ ids) at f = (f 0, entries_fit ids (at + 2) (λ i. f (suc i)))

-- page 0Bh read at its fields gives back the number of entries and the entries
pub aggregate_back : (ids : List ℕ) → length ids ≤ max_sets → ((i : ℕ) → get_or ids i 0 < 2 ^ 16)
    → readings (aggregate_page ids) (list_fields ids) ≡ values (list_fields ids)
unfolding aggregate_page
aggregate_back ids few f =
    read_back aggregate_size (list_fields ids) (entries_tidy ids 8 aggregate_size (omega arith)) (omega arith, entries_fit ids 8 f)

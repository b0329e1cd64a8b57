-- The pages of the whole card: the identifiers and marks of all sets, and a turn of Identify's loop.
use mathlib.Core.Path.{◌≡◌, refl, sym, ap, ◌∙◌}
use mathlib.Core.Bool.{Bool, true, false, ◌&&◌}
use mathlib.Core.List.{List, [], ◌∷◌, map}
use mathlib.Core.Option.{some}
use Prim.Native.Nat.{ℕ, zero, suc, ◌+◌, ◌^◌, ◌≤◌, ◌<◌}
use native.Mathlib.Omega.{arith}
use lib.Dec.{ltb}
use borrow.Author.Tests.{ltb-true, ltb-false}
use lib.Count.{ones}
use lib.ListN.{length, get_or, length-map}
use lib.Seq.{sets}
use Rattle.octets.specs.Lists.{nth}
use Rattle.octets.specs.Octets.{bytes_of}
use Rattle.octets.specs.Pages.{puts}
use Rattle.octets.proofs.JoinedTests.{both}
use Rattle.record.specs.declared.Attributes.{Attributes}
use Rattle.record.specs.declared.Record.{Record}
use Rattle.record.specs.Parts.{id_of}
use Rattle.table.specs.Layout.{record_of}
use Rattle.table.specs.Table.{count, row_start, row, records_of, Legal, listed_marks, listed_word, max_sets}
use Rattle.table.proofs.LegalTables.{length_records}
use Rattle.table.proofs.Turns.{later, later_none, later_more, later_all}
use Rattle.pages.specs.Aggregate.{listed_by, lowest_one, without_lowest, aggregate_size, first_listed, listed_size, entries_from, count_page, aggregate_page}
use Rattle.pages.specs.Identify.{identify_size, entry_size, first_entry, Shows}
use Rattle.pages.proofs.Listed.{word_below, one_word, page_is, Left, left_start, left_within, left_room, left_less, left_turn, left_end}
use Rattle.pages.proofs.Entries.{Showing, show_start, show_room, show_turn, show_end, show_full}
use Rattle.steps.specs.Commanded.{listed_ids, attributes_of}
use Rattle.steps.proofs.StepOnWords.{record_at_lem}
use Rattle.by_value.specs.Views.{ShowsAll}

-- ---- 0Bh

abbrev pub set_ids : List ℕ → List ℕ
set_ids ws = map id_of (records_of ws)

id_there : (rs : List Record) (k : ℕ) (r : Record) → nth k rs ≡ some r → id_of r ≡ get_or (map id_of rs) k 0
id_there [] k r e = absurd (let z : ◌≡◌ {A = ℕ} 0 1 = cc in omega arith)
id_there (x ∷ rs) zero r e = let q : x ≡ r = cc in ap id_of (sym q)
id_there (x ∷ rs) (suc k) r e = id_there rs k r e

-- the identifier in a slot
ids_at : (ws : List ℕ) (k : ℕ) → k < count ws → id_of (record_of (row ws k)) ≡ get_or (set_ids ws) k 0
ids_at ws k h = id_there (records_of ws) k (record_of (row ws k)) (record_at_lem ws k h)

ids_many : (ws : List ℕ) → length (set_ids ws) ≡ count ws
ids_many ws = simp length-map (length_records ws)

module _ (ws : List ℕ) (l : Legal ws) where
  ids_few : length (set_ids ws) ≤ max_sets
  ids_few = omega (arith, l.few, ids_many ws)

  module _ (word : ℕ) (ew : word ≡ listed_word (records_of ws)) where
    marks_many : length (listed_marks (records_of ws)) ≡ length (set_ids ws)
    marks_many = simp length-map

    -- no mark past the last set
    word_small : word < 2 ^ length (set_ids ws)
    word_small = rw (ew, ← marks_many) (word_below (listed_marks (records_of ws)))

    -- what the word lists
    word_lists : listed_by word (set_ids ws) ≡ listed_ids (records_of ws)
    word_lists = rw ew (one_word (set_ids ws) (listed_marks (records_of ws)) (simp length-map))

    pub aggregate_is : (p q : List ℕ) → p ≡ count_page (ones word) → q ≡ puts p (entries_from first_listed (listed_ids (records_of ws))) → q ≡ aggregate_page (listed_ids (records_of ws))
    aggregate_is p q ep eq =
        page_is (set_ids ws) p q word (ones word) word_small refl ep (eq ∙ ap (λ (ids : List ℕ). puts p (entries_from first_listed ids)) (sym word_lists))
        ∙ ap aggregate_page word_lists

    -- the loop that lists: what stands on the page, and which marks are left
    module _ (page₀ : List ℕ) where
      abbrev pub Listing : List ℕ → ℕ → ℕ → Type 0
      Listing page left to = Left (set_ids ws) page₀ word page left to

      pub listing_start : aggregate_size ≤ length page₀ → Listing page₀ word first_listed
      listing_start = left_start (set_ids ws) page₀ word ids_few word_small

      module _ (page : List ℕ) (left to : ℕ) (more : 0 < left) (g : Listing page left to) where
        within : lowest_one left < count ws
        within = omega (arith, ids_many ws, left_within (set_ids ws) page₀ word ids_few page left to more g)

        pub listing_row : row_start (lowest_one left + 1) ≤ length ws
        listing_row = omega (arith, within, l.room)

        pub listing_room : to + listed_size ≤ length page
        listing_room = left_room (set_ids ws) page₀ word ids_few page left to more g

        pub listing_less : (next : ℕ) → next ≡ without_lowest left → next < left
        listing_less = left_less (set_ids ws) page₀ word ids_few page left to more g

        pub listing_on : (after : List ℕ) (next : ℕ) → next ≡ without_lowest left
            → after ≡ sets page to (bytes_of listed_size (id_of (record_of (row ws (lowest_one left))))) → Listing after next (to + listed_size)
        listing_on after next en ea =
            left_turn (set_ids ws) page₀ word ids_few page left to more g after next en
            (ea ∙ ap (λ (n : ℕ). sets page to (bytes_of listed_size n)) (ids_at ws (lowest_one left) within))

      pub listing_end : (page : List ℕ) (left to : ℕ) → left ≤ 0 → Listing page left to
          → page ≡ puts page₀ (entries_from first_listed (listed_ids (records_of ws)))
      listing_end page left to h g =
          left_end (set_ids ws) page₀ word ids_few page left to h g ∙ ap (λ (ids : List ℕ). puts page₀ (entries_from first_listed ids)) word_lists

-- ---- Identify

abbrev pub later_attributes : List ℕ → ℕ → ℕ → List Attributes
later_attributes ws n i = attributes_of (later ws n i)

-- the loop's test: of n sets one is left at slot i, and there is room
abbrev pub goes_on : ℕ → ℕ → ℕ → Bool
goes_on n i to = ltb i n && ltb to identify_size

pub left_over : (n m i to : ℕ) → n ≡ m → goes_on n i to ≡ true → i < m
left_over n m i to e t = rw e at (ltb-true i n (both (ltb i n) _ t).0)

module _ (page₀ ws : List ℕ) (from n : ℕ) (en : n ≡ count ws) where
  -- what stands on the page and what is left to show at slot i
  abbrev pub Going : List ℕ → ℕ → ℕ → Type 0
  Going page to i = Showing page₀ from (attributes_of (records_of ws)) page to (later_attributes ws n i)

  pub going_start : Going page₀ first_entry 0
  going_start = rw (later_all ws n en) (show_start page₀ from (attributes_of (records_of ws)))

  module _ (page : List ℕ) (to i : ℕ) (t : goes_on n i to ≡ true) (g : Going page to i) where
    more : to < identify_size
    more = ltb-true to identify_size (both (ltb i n) _ t).1

    next : Showing page₀ from (attributes_of (records_of ws)) page to ((record_of (row ws i)).attributes ∷ later_attributes ws n (i + 1))
    next = rw (later_more ws n i (left_over n n i to refl t)) at g

    pub going_room : identify_size ≤ length page₀ → to + entry_size ≤ length page
    going_room = show_room page₀ from (attributes_of (records_of ws)) page to _ _ next more

    pub going_on : (after : List ℕ) (to' : ℕ) → Shows from (record_of (row ws i)).attributes page to after to' → Going after to' (i + 1)
    going_on after to' s = show_turn page₀ from (attributes_of (records_of ws)) page to _ _ next more after to' s

  ending : (page : List ℕ) (to : ℕ) → Showing page₀ from (attributes_of (records_of ws)) page to [] → ShowsAll from (attributes_of (records_of ws)) page₀ page to
  ending page to s = let e = show_end page₀ from (attributes_of (records_of ws)) page to s in record { place = e.0; entries = e.1 }

  -- no set is left, or no room
  ended_by : (b : Bool) (page : List ℕ) (to i : ℕ) → ltb i n ≡ b → b && ltb to identify_size ≡ false → Going page to i
      → ShowsAll from (attributes_of (records_of ws)) page₀ page to
  ended_by false page to i e t g = ending page to (rw (later_none ws n i (ltb-false i n e)) at g)
  ended_by true page to i e t g = ending page to (show_full page₀ from (attributes_of (records_of ws)) page to (later_attributes ws n i) (ltb-false to identify_size t) g)

  pub going_end : (page : List ℕ) (to i : ℕ) → goes_on n i to ≡ false → Going page to i → ShowsAll from (attributes_of (records_of ws)) page₀ page to
  going_end page to i t g = ended_by (ltb i n) page to i refl t g

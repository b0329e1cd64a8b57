-- The search for a set: a legal table's identifiers rise from 1, so that a look at one tells of the slots on one side of it.
use mathlib.Core.Path.{◌≡◌, refl, sym, ap, ◌∙◌}
use mathlib.Core.Bool.{true}
use mathlib.Core.List.{List, [], ◌∷◌, map}
use mathlib.Core.Logic.{⊎_elim}
use Prim.Native.Nat.{ℕ, zero, suc, ◌+◌, ◌-◌, ◌*◌, ◌/◌, ◌^◌, ◌≤◌, ◌<◌}
use native.Mathlib.Omega.{arith}
use native.Mathlib.Nat.{zero-add, add-zero, not-suc-le-zero, eq-or-lt_of_le, eq-zero-or-pos, pow-suc}
use borrow.Author.Tests.{ltb-true, eq-eqb, ne_eqb}
use lib.ListN.{length, get_or}
use Rattle.octets.proofs.JoinedTests.{both}
use Rattle.record.specs.Parts.{id_of}
use Rattle.std.specs.Prelude.{None, Some}
use Rattle.table.specs.Layout.{record_of}
use Rattle.table.specs.Table.{count, row_start, rows, records_of, legal_row, legal_after, legal_rows, Legal, find_from, find_in, max_sets}
use Rattle.table.proofs.Slots.{row_at, length_rows}
use Rattle.table.proofs.LegalTables.{rows_known}
use Rattle.table.proofs.Turns.{id_at_lem}

-- ---- rows in order

-- the identifier of the row at a place
abbrev row_id : List (List ℕ) → ℕ → ℕ
row_id rs k = id_of (record_of (get_or rs k []))

-- each is above the one before it, and the first above p
climbs : (p k : ℕ) (rs : List (List ℕ)) → legal_rows p rs ≡ true → k < length rs → p + k < row_id rs k
climbs p k [] h l = absurd (not-suc-le-zero l)
climbs p zero (a ∷ rs) h l = omega (arith, ltb-true p _ (both (legal_row a) _ (both (legal_after p a) _ h).0).1)
climbs p (suc k) (a ∷ rs) h l =
    let t = both (legal_after p a) _ h in
    omega (arith, ltb-true p _ (both (legal_row a) _ t.0).1, climbs (id_of (record_of a)) k rs t.1 (omega arith))

rise : (p j k : ℕ) (rs : List (List ℕ)) → legal_rows p rs ≡ true → j < k → k < length rs → row_id rs j < row_id rs k
rise p j k [] h l m = absurd (not-suc-le-zero m)
rise p j zero (a ∷ rs) h l m = absurd (not-suc-le-zero l)
rise p zero (suc k) (a ∷ rs) h l m = omega (arith, climbs (id_of (record_of a)) k rs (both (legal_after p a) _ h).1 (omega arith))
rise p (suc j) (suc k) (a ∷ rs) h l m = rise (id_of (record_of a)) j k rs (both (legal_after p a) _ h).1 (omega arith) (omega arith)

-- ---- what a search that starts at the first slot finds

find_hit :
    (id i k : ℕ) (rs : List (List ℕ)) → k < length rs → ((j : ℕ) → j < k → row_id rs j ≡ id → ⊥) → row_id rs k ≡ id
    → find_from id i (map record_of rs) ≡ Some (record { 0 = i + k })
find_hit id i k [] l n e = absurd (not-suc-le-zero l)
find_hit id i zero (a ∷ rs) l n e = rw (eq-eqb (id_of (record_of a)) id e, add-zero i)
find_hit id i (suc k) (a ∷ rs) l n e =
    let q : suc i + k ≡ i + suc k = omega arith in
    rw (ne_eqb (id_of (record_of a)) id (n 0 (omega arith)), ← q) (find_hit id (suc i) k rs (omega arith) (λ j h. n (suc j) (omega arith)) e)

find_miss :
    (id i : ℕ) (rs : List (List ℕ)) → ((j : ℕ) → j < length rs → row_id rs j ≡ id → ⊥) → find_from id i (map record_of rs) ≡ None
find_miss id i [] n = refl
find_miss id i (a ∷ rs) n =
    rw (ne_eqb (id_of (record_of a)) id (n 0 (omega arith))) (find_miss id (suc i) rs (λ j h. n (suc j) (omega arith)))

-- an identifier that is neither the one that is looked for nor below it
pub not_below : {here id : ℕ} → (here ≡ id → ⊥) → id ≤ here → id < here
not_below n h = omega (arith, n, h)

-- ---- the slots of a legal table

-- the identifier's word of a slot
abbrev pub id_at : List ℕ → ℕ → ℕ
id_at ws k = get_or ws (row_start k) 0

-- So many slots are left, from `from` on, that may hold the identifier, and no other can. They are so few that so many looks tell
-- which of them does, since each leaves at most half of them.
pub record Searching (ws : List ℕ) (id from left looks : ℕ) : Type 0 where
  pub inside : from + left ≤ count ws
  pub below : (k : ℕ) → k < from → id_at ws k < id
  pub above : (k : ℕ) → from + left ≤ k → k < count ws → id < id_at ws k
  pub few : left < 2 ^ looks

-- a look is left where a slot is
look_left : (left looks : ℕ) → left < 2 ^ looks → 0 < left → 1 ≤ looks
look_left left zero f h = absurd (omega (arith, f, h))
look_left left (suc m) f h = omega arith

-- half as many slots need a look less
half_few : (left looks : ℕ) → left < 2 ^ looks → 1 ≤ looks → left / 2 < 2 ^ (looks - 1)
half_few left zero f h = absurd (not-suc-le-zero h)
half_few left (suc m) f h =
    let e : suc m - 1 ≡ m = omega arith in
    let g : left < 2 ^ m * 2 = rw pow-suc at f in
    rw e (omega (arith, g))

module _ (ws : List ℕ) (l : Legal ws) where
  row_id_lem : (k : ℕ) → k < count ws → row_id (rows ws) k ≡ id_at ws k
  row_id_lem k h = rw (row_at ws k h) (sym (id_at_lem ws l k h))

  ids_rise : (j k : ℕ) → j < k → k < count ws → id_at ws j < id_at ws k
  ids_rise j k h m =
      rw (← row_id_lem j (omega arith), ← row_id_lem k m) (rise 0 j k (rows ws) (rows_known ws l) h (omega (arith, length_rows ws 0 (count ws))))

  -- a slot has an identifier above its number
  id_above : (k : ℕ) → k < count ws → k < id_at ws k
  id_above k h =
      rw (← row_id_lem k h) (omega (arith, climbs 0 k (rows ws) (rows_known ws l) (omega (arith, length_rows ws 0 (count ws)))))

  -- at the start all slots are left, and the looks are enough for as many as there can be
  pub search_all : (id n looks : ℕ) → n ≡ count ws → max_sets < 2 ^ looks → Searching ws id 0 n looks
  search_all id n looks e f =
      record { inside = omega arith; below = λ k h. absurd (not-suc-le-zero h); above = λ k h m. omega arith; few = omega (arith, l.few, f) }

  -- the look right below the slot of the set's number: the set is there, or in a slot before
  module _ (id n : ℕ) (en : n ≡ count ws) (z : id ≡ 0 → ⊥) (h : id ≤ n) where
    pub number_inside : id - 1 < count ws
    number_inside = omega (arith, z, h)

    pub search_number :
        (slot looks : ℕ) → slot ≡ id - 1 → (id_at ws (id - 1) ≡ id → ⊥) → max_sets ≤ 2 ^ looks → Searching ws id 0 slot looks
    search_number slot looks s q f =
        rw s
        (record {
          inside = omega (arith, number_inside);
          below = λ k b. absurd (not-suc-le-zero b);
          above = λ k b m.
              ⊎_elim (λ e. rw (← e) here) (λ j. omega (arith, here, ids_rise (id - 1) k j m)) (eq-or-lt_of_le (up_from k b));
          few = omega (arith, number_inside, l.few, f);
        })
      where
        up_from : (k : ℕ) → 0 + (id - 1) ≤ k → id - 1 ≤ k
        up_from k b = omega arith

        here : id < id_at ws (id - 1)
        here = not_below q (omega (arith, id_above (id - 1) number_inside))

  -- no slot before one that has the identifier has it
  pub search_here : (id slot : ℕ) → slot < count ws → id_at ws slot ≡ id → Some (record { 0 = slot }) ≡ find_in ws id
  unfolding find_in records_of
  search_here id slot h e =
      sym (find_hit id 0 slot (rows ws) (omega (arith, length_rows ws 0 (count ws), h)) others (row_id_lem slot h ∙ e) ∙ ap (λ (k : ℕ). Some (record { 0 = k })) (zero-add slot))
    where
      others : (j : ℕ) → j < slot → row_id (rows ws) j ≡ id → ⊥
      others j b q = omega (arith, ids_rise j slot b h, row_id_lem j (omega (arith, b, h)), q, e)

  module _ (id from left looks : ℕ) (s : Searching ws id from left looks) where
    module _ (t : 0 < left) where
      pub look_more : 1 ≤ looks
      look_more = look_left left looks s.few t

      pub middle_inside : from + left / 2 < count ws
      middle_inside = omega (arith, t, s.inside)

      -- its identifier is below the one that is looked for: so are those of the slots before it
      pub search_up :
          id_at ws (from + left / 2) < id → Searching ws id (from + left / 2 + 1) (left - left / 2 - 1) (looks - 1)
      search_up h =
          record {
            inside = omega (arith, t, s.inside);
            below = λ k b.
                ⊎_elim (λ e. rw e h) (λ j. omega (arith, h, ids_rise k (from + left / 2) j middle_inside)) (eq-or-lt_of_le (up_to k b));
            above = λ k b m. s.above k (omega (arith, t, b)) m;
            few = omega (arith, half_few left looks s.few look_more);
          }
        where
          up_to : (k : ℕ) → k < from + left / 2 + 1 → k ≤ from + left / 2
          up_to k b = omega arith

      -- it is above: so are those of the slots after it
      pub search_down : id < id_at ws (from + left / 2) → Searching ws id from (left / 2) (looks - 1)
      search_down h =
          record {
            inside = omega (arith, s.inside);
            below = s.below;
            above = λ k b m. ⊎_elim (λ e. rw (← e) h) (λ j. omega (arith, h, ids_rise (from + left / 2) k j m)) (eq-or-lt_of_le b);
            few = half_few left looks s.few look_more;
          }

    pub search_nowhere : left ≤ 0 → None ≡ find_in ws id
    unfolding find_in records_of
    search_nowhere t = sym (find_miss id 0 (rows ws) (λ j h q. none j (omega (arith, length_rows ws 0 (count ws))) q))
      where
        none : (j : ℕ) → j < count ws → row_id (rows ws) j ≡ id → ⊥
        none j h q =
            let e : id_at ws j ≡ id = sym (row_id_lem j h) ∙ q in
            ⊎_elim
            (λ b. omega (arith, s.above j (omega (arith, b, t)) h, e))
            (λ b. omega (arith, s.below j (omega (arith, b)), e))
            (eq-zero-or-pos (from - j))

  -- no set has identifier 0
  pub search_zero : None ≡ find_in ws 0
  unfolding find_in records_of
  search_zero = sym (find_miss 0 0 (rows ws) (λ j h q. omega (arith, climbs 0 j (rows ws) (rows_known ws l) h, q)))

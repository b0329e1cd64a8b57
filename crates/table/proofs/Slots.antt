-- Putting a row into a slot: the slot holds it; every other slot, the header and the rest are as they were.
-- Nothing here goes by the fields.
use mathlib.Core.Path.{◌≡◌, refl, ap, ◌∙◌}
use mathlib.Core.List.{List, []}
use mathlib.Core.Logic.{◌⊎◌, inl, inr, ⊎_elim}
use Prim.Native.Nat.{ℕ, zero, suc, ◌+◌, ◌≤◌, ◌<◌}
use native.Mathlib.Omega.{arith}
use native.Mathlib.Nat.{add-zero, zero-add, add-suc, suc-add, not-suc-le-zero}
use lib.ListN.{length, get_or, drop, length-take, length-drop}
use lib.Seq.{length-sets}
use Rattle.octets.proofs.Runs.{get_d_sets, drop_sets, part_same, part_other, sets_self}
use Rattle.table.specs.Layout.{row_words}
use Rattle.table.specs.Card.{header_words}
use Rattle.table.specs.Table.{count, row_start, row, rows, put, rows_from}

lt_or_gt : (i j : ℕ) → (i ≡ j → ⊥) → (i < j) ⊎ (j < i)
lt_or_gt zero zero n = absurd (n refl)
lt_or_gt zero (suc j) n = inl (omega arith)
lt_or_gt (suc i) zero n = inr (omega arith)
lt_or_gt (suc i) (suc j) n = ⊎_elim (λ p. inl (omega arith)) (λ p. inr (omega arith)) (lt_or_gt i j (λ e. n (ap suc e)))

pub length_row_lem : (ws : List ℕ) (i : ℕ) → row_start (suc i) ≤ length ws → length (row ws i) ≡ row_words
length_row_lem ws i h = simp (length-take, length-drop) (omega arith)

-- a row put where it came from
pub put_self : (ws : List ℕ) (i : ℕ) → row_start (suc i) ≤ length ws → put ws i (row ws i) ≡ ws
put_self ws i h = sets_self ws (row_start i) row_words (omega arith)

module _ (ws : List ℕ) (i : ℕ) (a : List ℕ) (long : length a ≡ row_words) where
  pub length_put : length (put ws i a) ≡ length ws
  length_put = length-sets ws (row_start i) a

  pub header_put : (j : ℕ) → j < header_words → get_or (put ws i a) j 0 ≡ get_or ws j 0
  header_put j h = get_d_sets a ws (row_start i) j (inl (omega arith))

  pub rest_put : (n : ℕ) → i < n → drop (row_start n) (put ws i a) ≡ drop (row_start n) ws
  rest_put n h = drop_sets a ws (row_start i) (row_start n) (omega arith)

  pub row_same : row_start (suc i) ≤ length ws → row (put ws i a) i ≡ a
  row_same h = part_same a ws (row_start i) row_words long (omega arith)

  pub row_other : (j : ℕ) → (i ≡ j → ⊥) → row (put ws i a) j ≡ row ws j
  row_other j n = part_other a ws (row_start i) (row_start j) row_words (⊎_elim (λ p. inr (omega arith)) (λ p. inl (omega arith)) (lt_or_gt i j n))

  pub rows_other : (j m : ℕ) → i < j → rows_from (put ws i a) j m ≡ rows_from ws j m
  rows_other j zero h = refl
  rows_other j (suc m) h = rw (row_other j (λ e. omega arith), rows_other (suc j) m (omega arith))

pub length_rows : (ws : List ℕ) (i m : ℕ) → length (rows_from ws i m) ≡ m
length_rows ws i zero = refl
length_rows ws i (suc m) = ap suc (length_rows ws (suc i) m)

pub rows_at : (ws : List ℕ) (j k m : ℕ) → k < m → get_or (rows_from ws j m) k [] ≡ row ws (j + k)
rows_at ws j zero (suc m) h = rw (add-zero j)
rows_at ws j (suc k) (suc m) h = rows_at ws (suc j) k m (omega arith) ∙ rw (add-suc j k, suc-add j k)
rows_at ws j k zero h = absurd (not-suc-le-zero h)

-- the row of a slot among all rows
pub row_at : (ws : List ℕ) (k : ℕ) → k < count ws → get_or (rows ws) k [] ≡ row ws k
row_at ws k h = rows_at ws 0 k (count ws) h ∙ ap (row ws) (zero-add k)

-- Words past the table: what the table is read as and what is written to it do not depend on them.
use mathlib.Core.Path.{◌≡◌, refl, ap, ap₂, ◌∙◌}
use mathlib.Core.Bool.{◌&&◌}
use mathlib.Core.List.{List, [], ◌∷◌, ◌++◌, map}
use Prim.Native.Nat.{ℕ, zero, suc, ◌+◌, ◌≤◌}
use native.Mathlib.Omega.{arith}
use native.Mathlib.Nat.{zero-add}
use borrow.Author.Tests.{le-leb}
use lib.ListN.{length, length-append, get_or-append}
use lib.Seq.{sets, length-sets}
use Rattle.octets.proofs.Runs.{sets_append, part_append}
use Rattle.record.specs.declared.Record.{Record}
use Rattle.table.specs.Layout.{row_words, words_of, record_of}
use Rattle.table.specs.Card.{Card, card_with, desk_start, header}
use Rattle.table.specs.Table.{layout, count, desk_part, card_of, row_start, put, rows_from, rows, records_of, sized, legal_rows, legal_table, written_from, written_rows, written}
use Rattle.table.proofs.Records.{length_words}
use Rattle.desk.specs.Words.{desk_size, desk_legal}
use Rattle.table.proofs.Slots.{length_put}
use Rattle.table.proofs.Desks.{same_desk}

-- some words, and what lies past them
module _ (past : List ℕ) where
  rows_past : (ws : List ℕ) (i m : ℕ) → row_start (i + m) ≤ length ws → rows_from (ws ++ past) i m ≡ rows_from ws i m
  rows_past ws i zero h = refl
  rows_past ws i (suc m) h = ap₂ ◌∷◌ (part_append ws past (row_start i) row_words (omega arith)) (rows_past ws (suc i) m (omega arith))

  from_past : (ws : List ℕ) (i : ℕ) (rs : List Record) → row_start (i + length rs) ≤ length ws → written_from (ws ++ past) i rs ≡ written_from ws i rs ++ past
  from_past ws i [] h = refl
  from_past ws i (r ∷ rs) h =
      let w = length_words r in
      ap (λ (x : List ℕ). written_from x (suc i) rs) (sets_append (words_of r) ws past (row_start i) (omega (arith, w)))
      ∙ from_past (put ws i (words_of r)) (suc i) rs (omega (arith, length_put ws i (words_of r) w))

  pub written_past : (ws : List ℕ) (c : Card) → row_start (length c.sets) ≤ length ws → written (ws ++ past) c ≡ written ws c ++ past
  unfolding written written_rows
  written_past ws c h =
      ap (λ (x : List ℕ). written_from x 0 c.sets) (sets_append (header c) ws past 0 (omega arith))
      ∙ from_past (sets ws 0 (header c)) 0 c.sets (omega (arith, length-sets ws 0 (header c)))

  -- where the words have room for as many sets as their header says
  module _ (ws : List ℕ) (room : row_start (count ws) ≤ length ws) where
    pub count_past : count (ws ++ past) ≡ count ws
    count_past = get_or-append ws past 0 1 (omega arith)

    layout_past : layout (ws ++ past) ≡ layout ws
    layout_past = get_or-append ws past 0 0 (omega arith)

    all_past : rows (ws ++ past) ≡ rows ws
    all_past = ap (rows_from (ws ++ past) 0) count_past ∙ rows_past ws 0 (count ws) (rw (zero-add (count ws)) room)

    records_past : records_of (ws ++ past) ≡ records_of ws
    unfolding records_of
    records_past = ap (map record_of) all_past

    desk_past : desk_part (ws ++ past) ≡ desk_part ws
    desk_past = part_append ws past desk_start desk_size (omega arith)

    pub card_past : card_of (ws ++ past) ≡ card_of ws
    card_past = ap₂ card_with records_past (same_desk ws (ws ++ past) desk_past)

    sized_past : sized (ws ++ past) ≡ sized ws
    sized_past =
        let more : row_start (count ws) ≤ length (ws ++ past) = omega (arith, length-append ws past) in
        rw (layout_past, count_past, le-leb (row_start (count ws)) (length ws) room, le-leb (row_start (count ws)) (length (ws ++ past)) more)

    pub legal_past : legal_table (ws ++ past) ≡ legal_table ws
    unfolding legal_table
    legal_past = ap₂ ◌&&◌ (ap₂ ◌&&◌ sized_past (ap desk_legal desk_past)) (ap (legal_rows 0) all_past)

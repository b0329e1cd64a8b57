-- Every row after a tick, one after another.
use mathlib.Core.Path.{◌≡◌, refl, sym, ap, ◌∙◌}
use mathlib.Core.Bool.{Bool, false, ◌||◌}
use mathlib.Core.List.{List, map}
use Prim.Native.Nat.{ℕ, ◌+◌, ◌≤◌, ◌<◌}
use native.Mathlib.Omega.{arith}
use lib.ListN.{length}
use Rattle.record.specs.declared.Record.{Record}
use Rattle.table.specs.Layout.{words_of, record_of}
use Rattle.table.specs.Table.{count, row, records_of, legal_row, Legal, written_rows, newly}
use Rattle.table.proofs.Records.{length_words}
use Rattle.table.proofs.Slots.{length_put, row_other}
use Rattle.table.proofs.LegalTables.{slot_legal}
use Rattle.table.proofs.Written.{left_to_do, all_start, all_end, all_again}
use Rattle.by_value.proofs.Told.{listing, listing_start, listing_end, listing_again}
use Rattle.card.specs.InPlace.{LegalAt, Stores}

-- the words as they were, those at slot i, and what was found before it: the rows from there on are still to be done
pub record Ticking (f : Record → Record) (ws : List ℕ) (n : ℕ) (us : List ℕ) (i : ℕ) (new : Bool) : Type 0 where
  pub long : length us ≡ length ws
  pub same : (j : ℕ) → i ≤ j → row us j ≡ row ws j
  pub todo : left_to_do f us n i ≡ written_rows ws (map f (records_of ws))
  pub found : listing f us n i new ≡ newly (records_of ws) (map f (records_of ws))

module _ (f : Record → Record) (ws : List ℕ) (n : ℕ) (en : n ≡ count ws) (l : Legal ws) where
  pub ticking_start : Ticking f ws n ws 0 false
  ticking_start = record { long = refl; same = λ j h. refl; todo = all_start f ws n en; found = listing_start f ws n en }

  module _ (us : List ℕ) (i : ℕ) (new : Bool) (t : Ticking f ws n us i new) where
    pub ticking_legal : i < n → LegalAt us i
    ticking_legal h = record { room = omega (arith, h, en, l.room, t.long); legal = ap legal_row (t.same i (omega arith)) ∙ slot_legal ws l i (omega (arith, h, en)) }

    pub ticking_turn :
        i < n → (vs : List ℕ) (found : Bool) → Stores us i (f (record_of (row us i))) vs found → Ticking f ws n vs (i + 1) (new || found)
    ticking_turn h vs found s =
        let r = record_of (row us i) in
        let w = length_words (f r) in
        record {
          long = ap length s.table ∙ length_put us i (words_of (f r)) w ∙ t.long;
          same = λ j k. ap (λ (x : List ℕ). row x j) s.table ∙ row_other us i (words_of (f r)) w j (λ e. omega (arith, k, e)) ∙ t.same j (omega (arith, k));
          todo = all_again f us n i _ t.todo h r (f r) vs refl refl s.table;
          found = listing_again f us n i new _ t.found h r (f r) found vs refl refl s.listed s.table;
        }

    pub ticking_end : n ≤ i → (us ≡ written_rows ws (map f (records_of ws))) × (new ≡ newly (records_of ws) (map f (records_of ws)))
    ticking_end h = (sym (all_end f us n i h) ∙ t.todo, listing_end f us n i new _ t.found h)

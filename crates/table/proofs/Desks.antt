-- The desk among a table's words: what is stored there, and that rows leave it alone.
use mathlib.Core.Path.{◌≡◌, refl, sym, ap, ◌∙◌}
use mathlib.Core.Bool.{Bool, true, false}
use mathlib.Core.List.{List, [], ◌∷◌}
use mathlib.Core.Logic.{inl}
use Prim.Native.Nat.{ℕ, suc, ◌+◌, ◌≤◌, ◌<◌}
use native.Mathlib.Omega.{arith}
use lib.Dec.{eqb}
use lib.ListN.{length, get_or}
use lib.Seq.{sets, length-sets}
use Rattle.octets.proofs.Runs.{sets_comm, sets_self, part_other, part_same}
use Rattle.std.specs.Prelude.{None}
use Rattle.desk.specs.Desk.{Desk, Told, queued, turned, lifted, settle, requests_maximum, identifier_maximum, legal_desk}
use Rattle.desk.specs.Words.{desk_size, desk_words, desk_in, desk_legal}
use Rattle.desk.specs.AtWords.{settled_words, queued_words, turned_words, lifted_words}
use Rattle.desk.specs.declared.Settled.{Settled}
use Rattle.desk.proofs.AtDesk.{words_of_told, count_at, settle_at, queue_at, turn_at_lem, lift_at}
use Rattle.desk.proofs.Sending.{settle_none}
use Rattle.record.specs.declared.Record.{Record}
use Rattle.table.specs.Layout.{row_words, words_of}
use Rattle.table.specs.Card.{header_words, desk_start}
use Rattle.table.specs.Table.{row_start, put, desk_part, desk_at, with_desk, DeskThere, Tells, written_from, written_rows}
use Rattle.table.proofs.Records.{length_words}
use Rattle.table.proofs.Slots.{length_put}
use Rattle.table.proofs.LegalTables.{desk_words_lem}

-- ---- what is stored

tells : (ws : List ℕ) (t : Told) (s : Settled) (after : List ℕ) → s ≡ words_of_told t → after ≡ sets ws desk_start s.words → Tells ws t after s.notice
unfolding with_desk
tells ws t s after e h = record { desk = h ∙ ap (λ (x : Settled). sets ws desk_start x.words) e; sent = ap (λ (x : Settled). x.notice) e }

module _ (ws : List ℕ) (t : DeskThere ws) where
  pub desk_legal_lem : legal_desk (desk_at ws) ≡ true
  unfolding desk_at
  desk_legal_lem = (desk_words_lem ws t).legal

  pub desk_stays : with_desk ws (desk_at ws) ≡ ws
  unfolding with_desk desk_at
  desk_stays = ap (sets ws desk_start) (sym (desk_words_lem ws t).words) ∙ sets_self ws desk_start desk_size (omega (arith, t.room))

  -- where nothing is listed, nothing is stored
  pub quiet_tells : Tells ws (settle false (desk_at ws)) ws None
  quiet_tells =
      let q = settle_none (desk_at ws) desk_legal_lem in
      record { desk = sym (ap (λ (x : Told). with_desk ws x.desk) q ∙ desk_stays); sent = sym (ap (λ (x : Told). x.notice) q) }

  pub count_waiting : get_or (desk_part ws) 3 0 ≡ length (desk_at ws).waiting
  unfolding desk_at
  count_waiting = count_at (desk_part ws) (desk_words_lem ws t)

  pub on_desk : eqb (get_or (desk_part ws) 0 0) 1 ≡ (desk_at ws).on
  unfolding desk_at
  on_desk = refl

  module _ (a : List ℕ) (ea : a ≡ desk_part ws) (s : Settled) (after : List ℕ) (h : after ≡ sets ws desk_start s.words) where
    pub settled_tells : (new : Bool) → s ≡ settled_words new a → Tells ws (settle new (desk_at ws)) after s.notice
    unfolding desk_at
    settled_tells new es = tells ws _ s after (es ∙ ap (settled_words new) ea ∙ settle_at (desk_part ws) (desk_words_lem ws t) new) h

    pub queued_tells :
        (id : ℕ) → length (desk_at ws).waiting < requests_maximum → id ≤ identifier_maximum → s ≡ settled_words false (queued_words id a)
        → Tells ws (settle false (queued id (desk_at ws))) after s.notice
    unfolding desk_at
    queued_tells id l m es =
        tells ws _ s after (es ∙ ap (λ (x : List ℕ). settled_words false (queued_words id x)) ea ∙ queue_at (desk_part ws) (desk_words_lem ws t) id l m) h

    pub turned_tells : (on : Bool) → s ≡ settled_words false (turned_words on a) → Tells ws (settle false (turned on (desk_at ws))) after s.notice
    unfolding desk_at
    turned_tells on es =
        tells ws _ s after (es ∙ ap (λ (x : List ℕ). settled_words false (turned_words on x)) ea ∙ turn_at_lem (desk_part ws) (desk_words_lem ws t) on) h

  pub lifted_there : (a after : List ℕ) → a ≡ desk_part ws → after ≡ sets ws desk_start (lifted_words a) → after ≡ with_desk ws (lifted (desk_at ws))
  unfolding with_desk desk_at
  lifted_there a after ea h = h ∙ ap (sets ws desk_start) (ap lifted_words ea ∙ lift_at (desk_part ws) (desk_words_lem ws t))

-- ---- rows and the desk

-- words stored before some rows
pub sets_before :
    (ws : List ℕ) (j k : ℕ) (a : List ℕ) (rs : List Record) → j + length a ≤ row_start k
    → sets (written_from ws k rs) j a ≡ written_from (sets ws j a) k rs
sets_before ws j k a [] h = refl
sets_before ws j k a (r ∷ rs) h =
    sets_before (put ws k (words_of r)) j (suc k) a rs (omega arith)
    ∙ ap (λ (x : List ℕ). written_from x (suc k) rs) (sets_comm a (words_of r) ws (row_start k) j (inl (omega arith)))

pub rows_apart : (ws : List ℕ) (d : Desk) (rs : List Record) → written_rows (with_desk ws d) rs ≡ with_desk (written_rows ws rs) d
unfolding with_desk written_rows
rows_apart ws d rs = sym (sets_before ws desk_start 0 (desk_words d) rs (omega arith))

pub desk_put : (ws : List ℕ) (k : ℕ) (a : List ℕ) → length a ≡ row_words → desk_part (put ws k a) ≡ desk_part ws
desk_put ws k a n = part_other a ws (row_start k) desk_start desk_size (inl (omega arith))

pub desk_from : (ws : List ℕ) (j : ℕ) (rs : List Record) → desk_part (written_from ws j rs) ≡ desk_part ws
desk_from ws j [] = refl
desk_from ws j (r ∷ rs) = desk_from (put ws j (words_of r)) (suc j) rs ∙ desk_put ws j (words_of r) (length_words r)

pub there_put : (ws : List ℕ) (k : ℕ) (a : List ℕ) → length a ≡ row_words → DeskThere ws → DeskThere (put ws k a)
there_put ws k a n t =
    record { room = omega (arith, length_put ws k a n, t.room); legal = ap desk_legal (desk_put ws k a n) ∙ t.legal }

pub same_desk : (ws vs : List ℕ) → desk_part vs ≡ desk_part ws → desk_at vs ≡ desk_at ws
unfolding desk_at
same_desk ws vs e = ap desk_in e

pub desk_at_put : (ws : List ℕ) (k : ℕ) (a : List ℕ) → length a ≡ row_words → desk_at (put ws k a) ≡ desk_at ws
desk_at_put ws k a n = same_desk ws (put ws k a) (desk_put ws k a n)

-- a desk put where it is read
pub desk_held_lem : (ws : List ℕ) (d : Desk) → header_words ≤ length ws → desk_part (sets ws desk_start (desk_words d)) ≡ desk_words d
desk_held_lem ws d h = part_same (desk_words d) ws desk_start desk_size refl (omega arith)

pub length_desk_put : (ws : List ℕ) (d : Desk) → length (with_desk ws d) ≡ length ws
unfolding with_desk
length_desk_put ws d = length-sets ws desk_start (desk_words d)

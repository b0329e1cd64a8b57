-- The row of one set, loaded, changed and stored.
use mathlib.Core.Path.{◌≡◌, refl, sym, ap, ◌∙◌}
use mathlib.Core.Bool.{Bool, true, false, false≢true}
use mathlib.Core.List.{List}
use Prim.Native.Nat.{ℕ}
use native.Mathlib.Omega.{arith}
use Rattle.std.specs.Prelude.{Result, Ok}
use Rattle.record.specs.declared.Attributes.{Attributes}
use Rattle.record.specs.declared.State.{State}
use Rattle.record.specs.declared.Effect.{Effect}
use Rattle.record.specs.declared.Notes.{Notes}
use Rattle.record.specs.declared.Record.{Record}
use Rattle.record.specs.declared.Slot.{Slot}
use Rattle.record.specs.Event.{settled, is_silent, newly_listed}
use Rattle.record.proofs.Settling.{silent_notes}
use Rattle.rules.specs.Rules.{still}
use Rattle.rules.proofs.Staying.{KeepsConfig}
use Rattle.table.specs.declared.Absent.{Absent}
use Rattle.table.specs.Layout.{words_of, record_of}
use Rattle.table.specs.Table.{row, put, Moved, enter_in}
use Rattle.table.proofs.Records.{row_of}
use Rattle.table.proofs.Written.{put_own}
use Rattle.table.proofs.LegalTables.{legal_known, slot_legal, is_here}
use Rattle.steps.proofs.AtDesk.{new_self}
use Rattle.commands.specs.declared.Command.{Command}
use Rattle.commands.specs.declared.Kind.{Kind}
use Rattle.commands.specs.declared.Kind.TheVariants.{SetNotices, SetConfig, SetWindow, GetNotices, GetConfig, GetWindow, ReadLatency, ReadAggregate, EventRequest, Identify}
use Rattle.steps.proofs.StepOnWords.{here}
use Rattle.by_value.specs.OnSet.{after_on}
use Rattle.card.specs.InPlace.{LegalAt, Stores}

-- ---- what an effect leaves of a record

module _ (r₀ r : Record) (e : Effect) (x : Record) (er : r ≡ r₀) (ec : e.state.config ≡ r.state.config) (ex : x ≡ settled r e) where
  moved : (noted : Bool) → (noted ≡ false → is_silent e ≡ true) → Moved noted r₀ x
  moved noted h =
      record {
        attributes = ap (λ (y : Record). y.attributes) ex ∙ ap (λ (y : Record). y.attributes) er;
        config = ap (λ (y : Record). y.state.config) ex ∙ ec ∙ ap (λ (y : Record). y.state.config) er;
        notes = λ n. ap (λ (y : Record). y.notes) ex ∙ silent_notes r e (h n) ∙ ap (λ (y : Record). y.notes) er;
      }

  -- whatever it notes
  pub is_moved : Moved true r₀ x
  is_moved = moved true (λ n. absurd (false≢true (sym n)))

-- whether it listed its set, asked of the record that was loaded
pub listed_by : (ws : List ℕ) (slot : ℕ) (r x : Record) (after : List ℕ) (new : Bool) → r ≡ record_of (row ws slot) → Stores ws slot x after new → new ≡ newly_listed r x
listed_by ws slot r x after new er s = s.listed ∙ ap (λ (y : Record). newly_listed y x) (sym er)

-- what is handed over is a rule
module _ (gives : Attributes → State → Effect → Type 0) (rule : Attributes → State → Effect) (says : (a : Attributes) (s : State) (e : Effect) → gives a s e → e ≡ rule a s) where
  pub rule_stays : KeepsConfig rule → (a : Attributes) (s : State) (e : Effect) → gives a s e → e.state.config ≡ s.config
  rule_stays keeps a s e p = ap (λ (x : Effect). x.state.config) (says a s e p) ∙ keeps a s

-- ---- a record that nothing changes, and that is not stored

still_same : (r : Record) → settled r (still r.state) ≡ r
still_same r = ap (λ (n : Notes). record { attributes = r.attributes; state = r.state; notes = n }) (silent_notes r (still r.state) refl)

pub not_stored : (ws : List ℕ) (slot : ℕ) (r : Record) → LegalAt ws slot → r ≡ record_of (row ws slot) → Stores ws slot (settled r (still r.state)) ws false
not_stored ws slot r l e =
    record {
      table = sym (ap (λ (x : Record). put ws slot (words_of x)) (still_same r ∙ e) ∙ put_own ws slot (omega (arith, l.room)) (row_of (row ws slot) l.legal));
      listed = sym (ap (λ (x : Record). newly_listed x (settled r (still r.state))) (sym e) ∙ ap (newly_listed r) (still_same r) ∙ new_self r);
    }

-- what every command but three makes of a record
pub still_by :
    (k : Kind) (c : Command) (given : List ℕ) (r : Record) → (k ≡ SetConfig → ⊥) → (k ≡ SetWindow → ⊥) → (k ≡ ReadLatency → ⊥)
    → after_on k c given r ≡ settled r (still r.state)
still_by SetNotices c given r x y z = refl
still_by SetConfig c given r x y z = absurd (x refl)
still_by SetWindow c given r x y z = absurd (y refl)
still_by GetNotices c given r x y z = refl
still_by GetConfig c given r x y z = refl
still_by GetWindow c given r x y z = refl
still_by ReadLatency c given r x y z = absurd (z refl)
still_by ReadAggregate c given r x y z = refl
still_by EventRequest c given r x y z = refl
still_by Identify c given r x y z = refl

-- ---- the slot that an item enters by

pub entered_at : (ws : List ℕ) (id : ℕ) (e : Result Slot Absent) (s : Slot) → e ≡ enter_in ws id → e ≡ Ok s → LegalAt ws s.0
entered_at ws id e s known q =
    let f = is_here ws id s (sym known ∙ q) in
    let h = here ws id s.0 f.0 f.1 in
    record { room = h.room; legal = slot_legal ws (legal_known ws f.0) s.0 h.below }

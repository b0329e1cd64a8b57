-- From a legal table, every item leaves a legal table; and the table holds the card that the step leaves.
use mathlib.Core.Path.{◌≡◌, refl, ◌∙◌}
use mathlib.Core.Bool.{Bool, true, false}
use mathlib.Core.List.{List, [], ◌∷◌, map}
use mathlib.Core.Logic.{⊎_elim}
use Prim.Native.Nat.{ℕ}
use borrow.Author.Tests.{eqb-true, lt-ltb}
use lib.Dec.{eqb}
use lib.ListN.{length, length-map}
use Rattle.record.specs.declared.Attributes.{Attributes}
use Rattle.record.specs.declared.State.{State}
use Rattle.record.specs.declared.Record.{Record}
use Rattle.record.specs.Parts.{id_of}
use Rattle.record.specs.Legal.{legal_attributes, legal_state, legal_record, KeepsState}
use Rattle.rules.specs.Rules as rules
use Rattle.rules.proofs.Keeps.{keeps_record, read_event_keeps, write_event_keeps, excursion_keeps, tick_keeps, configure_keeps, selecting_keeps}
use Rattle.table.specs.Table.{records_of, legal_sets, legal_table}
use Rattle.table.proofs.LegalTables.{legal_known, desk_there, length_records, sets_known}
use Rattle.table.proofs.Desks.{desk_legal_lem}
use Rattle.table.proofs.Written.{Fitting, fitting, written_back, written_legal}
use Rattle.steps.specs.Items.{Item, reads, writes, excursion, tick, command, Meaning, Nobody, Everybody, The}
use Rattle.std.specs.Prelude.{if◌then◌else◌}
use Rattle.pages.specs.Features.{config_in}
use Rattle.commands.specs.declared.Command.{Command}
use Rattle.commands.specs.declared.Kind.{Kind}
use Rattle.commands.specs.declared.Kind.TheVariants.{SetNotices, SetConfig, SetWindow, GetNotices, GetConfig, GetWindow, ReadLatency, ReadAggregate, EventRequest, Identify}
use Rattle.commands.specs.Commands.{enable, window_cause, retain, command_in}
use Rattle.commands.specs.Shapes.{kind_of}
use Rattle.steps.specs.Commanded.{meaning_by, command_meaning}
use Rattle.steps.specs.Meanings.{meaning}
use Rattle.steps.specs.Card.{refusal_at, effect_by, effect_on, concerns, touched, after, step}
use Rattle.steps.specs.Words.{card_of, step_words}
use Rattle.steps.proofs.ItemShapes.{bool_cases, touched_own, touched_not, keeps}
use Rattle.steps.proofs.Slots.{ordered}
use Rattle.steps.proofs.AtDesk.{desk_kept}
use Rattle.steps.proofs.StepOnWords.{step_legal}

-- what is to be shown of each item: its rule keeps a state legal, where it is carried out
abbrev Sound : Meaning → Type 0
Sound (Nobody v) = Unit {0}
Sound (Everybody e) = KeepsState e.rule
Sound (The id o) =
    (a : Attributes) (s : State) → refusal_at o a s ≡ 0 → legal_attributes a ≡ true → legal_state a s ≡ true → legal_state a (o.rule a s).state ≡ true

by_retain : (b : Bool) (a : Attributes) (s : State) → legal_state a s ≡ true → legal_state a (if b then rules.still s else rules.clearing_read s).state ≡ true
by_retain true a s l = l
by_retain false a s l = l

by_kind : (k : Kind) (c : Command) (given : List ℕ) (room : ℕ) → Sound (meaning_by k c given room)
by_kind SetNotices c given room = tt
by_kind SetConfig c given room = λ a s z. configure_keeps (enable c) (config_in given) a s
by_kind SetWindow c given room = λ a s z. selecting_keeps (window_cause c) a s
by_kind GetNotices c given room = tt
by_kind GetConfig c given room = λ a s z h l. l
by_kind GetWindow c given room = λ a s z h l. l
by_kind ReadLatency c given room = λ a s z h l. by_retain (retain c) a s l
by_kind ReadAggregate c given room = tt
by_kind EventRequest c given room = tt
by_kind Identify c given room = tt

command_sound : (bytes given : List ℕ) (room : ℕ) → Sound (command_meaning bytes given room)
unfolding command_meaning
command_sound bytes given room = by_kind (kind_of (command_in bytes)) (command_in bytes) given room

sound : (i : Item) → Sound (meaning i)
unfolding meaning
sound (reads id k) = λ a s z. read_event_keeps k a s
sound (writes id k) = λ a s z. write_event_keeps k a s
sound (excursion id) = λ a s z. excursion_keeps a s
sound (tick t room) = tick_keeps t
sound (command bytes given room) = command_sound bytes given room

effect_kept : (m : Meaning) → Sound m → KeepsState (effect_by m)
effect_kept (Nobody v) k a s h l = l
effect_kept (Everybody e) k a s h l = k a s h l
effect_kept (The id o) k a s h l = ⊎_elim (λ e. rw e (k a s (eqb-true _ _ e) h l)) (λ e. rw e l) (bool_cases (eqb (refusal_at o a s) 0))

effect_keeps : (i : Item) → KeepsState (effect_on i)
unfolding effect_on
effect_keeps i = effect_kept (meaning i) (sound i)

pub touched_kept : (n : ℕ) (i : Item) (r : Record) → legal_record r ≡ true → legal_record (touched n i r) ≡ true
touched_kept n i r h =
    ⊎_elim
    (λ e. rw (touched_own n i r e) (keeps_record (effect_on i) (effect_keeps i) r h))
    (λ e. rw (touched_not n i r e) h)
    (bool_cases (concerns n (id_of r) i))

pub sets_kept : (n p : ℕ) (i : Item) (rs : List Record) → legal_sets p rs ≡ true → legal_sets p (map (touched n i) rs) ≡ true
sets_kept n p i [] h = refl
sets_kept n p i (r ∷ rs) h =
    let o = ordered p r rs h in
    rw (touched_kept n i r o.legal, keeps n i r, lt-ltb p (id_of r) o.above) (sets_kept n (id_of r) i rs o.rest)

module _ (ws : List ℕ) (i : Item) (e : legal_table ws ≡ true) where
  as_many : length (after (card_of ws) i).sets ≡ length (records_of ws)
  as_many = simp length-map

  after_legal : legal_sets 0 (after (card_of ws) i).sets ≡ true
  after_legal = sets_kept (length (records_of ws)) 0 i (records_of ws) (sets_known ws (legal_known ws e))

  pub fits_again : Fitting ws (after (card_of ws) i)
  fits_again = fitting ws (legal_known ws e) (after (card_of ws) i) (as_many ∙ length_records ws) after_legal (desk_kept (card_of ws) i (desk_legal_lem ws (desk_there ws (legal_known ws e))))

  pub step_keeps : legal_table (step_words ws i).table ≡ true
  step_keeps = rw (step_legal ws i e) (written_legal ws (after (card_of ws) i) fits_again)

  pub step_back : card_of (step_words ws i).table ≡ (step (card_of ws) i).card
  step_back = rw (step_legal ws i e) (written_back ws (after (card_of ws) i) fits_again)

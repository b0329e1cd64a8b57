-- From a table of words every item leaves a table of words: what legality does not bound is kept, or comes from bytes.
use mathlib.Core.Path.{◌≡◌, sym, subst}
use mathlib.Core.Bool.{Bool, true, false}
use mathlib.Core.List.{List, [], ◌∷◌, map}
use mathlib.Core.Logic.{⊎_elim}
use Prim.Native.Nat.{ℕ, ◌^◌, ◌<◌}
use native.Mathlib.Omega.{arith}
use lib.Dec.{eqb}
use lib.ListN.{length, length-map}
use Rattle.std.specs.Prelude.{if◌then◌else◌}
use Rattle.octets.specs.Octets.{AllBytes}
use Rattle.record.specs.declared.Attributes.{Attributes}
use Rattle.record.specs.declared.Config.{Config}
use Rattle.record.specs.declared.State.{State}
use Rattle.record.specs.declared.Effect.{Effect}
use Rattle.record.specs.declared.Record.{Record}
use Rattle.record.specs.Parts.{id_of}
use Rattle.rules.specs.Rules as rules
use Rattle.rules.proofs.Staying.{KeepsConfig, read_stays, write_stays, excursion_stays, tick_stays, select_stays}
use Rattle.table.specs.Table.{records_of, legal_sets}
use Rattle.table.proofs.LegalTables.{legal_known, desk_there, length_records, sets_known}
use Rattle.table.proofs.Desks.{desk_legal_lem}
use Rattle.table.proofs.WordsFit.{Fits, fits_of, words_fit, AllFit, records_fit, written_fit}
use Rattle.pages.specs.Features.{Words}
use Rattle.pages.proofs.Back.{read_words}
use Rattle.commands.specs.declared.Command.{Command}
use Rattle.commands.specs.declared.Kind.{Kind}
use Rattle.commands.specs.declared.Kind.TheVariants.{SetNotices, SetConfig, SetWindow, GetNotices, GetConfig, GetWindow, ReadLatency, ReadAggregate, EventRequest, Identify}
use Rattle.commands.specs.Commands.{window_cause, retain, command_in}
use Rattle.commands.specs.Shapes.{kind_of}
use Rattle.steps.specs.Items.{Item, reads, writes, excursion, tick, command, GivenBytes, Meaning, Nobody, Everybody, The}
use Rattle.steps.specs.Commanded.{meaning_by, command_meaning}
use Rattle.steps.specs.Meanings.{meaning}
use Rattle.steps.specs.Card.{refusal_at, effect_by, effect_on, concerns, touched, after}
use Rattle.steps.specs.Words.{card_of}
use Rattle.steps.specs.Demands.{WordsStay}
use Rattle.steps.proofs.ItemShapes.{bool_cases, touched_own, touched_not}
use Rattle.steps.proofs.Slots.{ordered}
use Rattle.steps.proofs.AtDesk.{desk_kept}
use Rattle.steps.proofs.KeptLegal.{touched_kept}
use Rattle.steps.proofs.StepOnWords.{step_legal}

-- ---- the thresholds

-- a rule after which they are words, where they were
abbrev Keeps : (Attributes → State → Effect) → Type 0
Keeps rule = (a : Attributes) (s : State) → Words s.config.thresholds → Words (rule a s).state.config.thresholds

stays : (rule : Attributes → State → Effect) → KeepsConfig rule → Keeps rule
stays rule k a s w = subst (λ (c : Config). Words c.thresholds) (sym (k a s)) w

by_test : (b : Bool) (e f : Effect) → Words e.state.config.thresholds → Words f.state.config.thresholds → Words (if b then e else f).state.config.thresholds
by_test true e f p q = p
by_test false e f p q = q

abbrev Sound : Meaning → Type 0
Sound (Nobody v) = Unit {0}
Sound (Everybody e) = Keeps e.rule
Sound (The id o) = Keeps o.rule

by_kind : (k : Kind) (c : Command) (given : List ℕ) (room : ℕ) → AllBytes given → Sound (meaning_by k c given room)
by_kind SetNotices c given room each = tt
by_kind SetConfig c given room each = λ a s w. read_words given each
by_kind SetWindow c given room each = stays (rules.selecting (window_cause c)) (select_stays (window_cause c))
by_kind GetNotices c given room each = tt
by_kind GetConfig c given room each = λ a s w. w
by_kind GetWindow c given room each = λ a s w. w
by_kind ReadLatency c given room each = λ a s w. by_test (retain c) (rules.still s) (rules.clearing_read s) w w
by_kind ReadAggregate c given room each = tt
by_kind EventRequest c given room each = tt
by_kind Identify c given room each = tt

sound : (i : Item) → GivenBytes i → Sound (meaning i)
unfolding meaning command_meaning
sound (reads id k) g = stays (rules.read_event k) (read_stays k)
sound (writes id k) g = stays (rules.write_event k) (write_stays k)
sound (excursion id) g = stays rules.excursion_event excursion_stays
sound (tick t room) g = stays (rules.tick t) (tick_stays t)
sound (command bytes given room) g = by_kind (kind_of (command_in bytes)) (command_in bytes) given room g

effect_by_lem : (m : Meaning) → Sound m → Keeps (effect_by m)
effect_by_lem (Nobody v) k a s w = w
effect_by_lem (Everybody e) k a s w = k a s w
effect_by_lem (The id o) k a s w = by_test (eqb (refusal_at o a s) 0) (o.rule a s) (rules.still s) (k a s w) w

effect_keeps : (i : Item) → GivenBytes i → Keeps (effect_on i)
unfolding effect_on
effect_keeps i g = effect_by_lem (meaning i) (sound i g)

-- ---- a record, and a table

thresholds_of : (r : Record) → Fits r → Words r.state.config.thresholds
thresholds_of r f = record { reads = f.reads; writes = f.writes; time = f.time }

ruled_fits : (i : Item) → GivenBytes i → (n : ℕ) (r : Record) → Fits r → concerns n (id_of r) i ≡ true → Fits (touched n i r)
ruled_fits i g n r f e =
    let w = effect_keeps i g r.attributes r.state (thresholds_of r f) in
    rw (touched_own n i r e) (record {
      total_low = f.total_low;
      total_high = f.total_high;
      unallocated_low = f.unallocated_low;
      unallocated_high = f.unallocated_high;
      reads = w.reads;
      writes = w.writes;
      time = w.time;
    })

touched_fits : (i : Item) → GivenBytes i → (n : ℕ) (r : Record) → Fits r → Fits (touched n i r)
touched_fits i g n r f = ⊎_elim (λ e. ruled_fits i g n r f e) (λ e. rw (touched_not n i r e) f) (bool_cases (concerns n (id_of r) i))

all_fit : (i : Item) → GivenBytes i → (n p : ℕ) (rs : List Record) → legal_sets p rs ≡ true → AllFit rs → AllFit (map (touched n i) rs)
all_fit i g n p [] h fit = tt
all_fit i g n p (r ∷ rs) h fit =
    let o = ordered p r rs h in
    (words_fit (touched n i r) (touched_kept n i r o.legal) (touched_fits i g n r (fits_of r fit.0)), all_fit i g n (id_of r) rs o.rest fit.1)

pub words_stay : WordsStay
words_stay ws i e each g =
    let l = legal_known ws e in
    let many : length (after (card_of ws) i).sets ≡ length (records_of ws) = simp length-map in
    let few : length (after (card_of ws) i).sets < 2 ^ 64 = omega (arith, many, length_records ws, l.few) in
    rw (step_legal ws i e)
    (written_fit ws (after (card_of ws) i) each few (all_fit i g (length (records_of ws)) 0 (records_of ws) (sets_known ws l) (records_fit ws e each)) (desk_kept (card_of ws) i (desk_legal_lem ws (desk_there ws l))))

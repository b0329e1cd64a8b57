-- What the step makes of a record, by its rule; that it stays legal; and that the statement of a charge allows one outcome.
use mathlib.Core.Path.{◌≡◌, refl, sym, subst, ◌∙◌}
use mathlib.Core.Bool.{true}
use Rattle.record.specs.declared.Record.{Record}
use Rattle.record.specs.Parts.{id_of}
use Rattle.record.specs.Event.{settled}
use Rattle.record.specs.Legal.{legal_record, KeepsState}
use Rattle.rules.proofs.Keeps.{keeps_record, read_event_keeps, write_event_keeps, excursion_keeps}
use Rattle.rules.specs.declared.Media.{Media}
use Rattle.rules.specs.declared.Media.TheVariants.{Reads, Writes, Excursion}
use Rattle.rules.specs.Rules.{media_rule}
use Rattle.steps.specs.Items.{item_of}
use Rattle.steps.specs.Card.{effect_on, ruled}
use Rattle.steps.proofs.NamedItems.{meaning_media}
use Rattle.by_reference.specs.Records.{StaysLegal, OneCharge}

-- the step's rule for an event is the media layer's
pub media_ruled : (m : Media) (r : Record) → settled r (media_rule m r.attributes r.state) ≡ ruled (item_of (id_of r) m) r
unfolding effect_on
media_ruled m r = rw (meaning_media (id_of r) m) refl

media_keeps : (m : Media) → KeepsState (media_rule m)
media_keeps (Reads k) = read_event_keeps k
media_keeps (Writes k) = write_event_keeps k
media_keeps Excursion = excursion_keeps

pub stays_legal : StaysLegal
stays_legal m r h = rw h (subst (λ (x : Record). legal_record x ≡ true) (media_ruled m r) (keeps_record (media_rule m) (media_keeps m) r h))

pub one_charge : OneCharge
one_charge m r v w s t h k = (h.left ∙ sym k.left, h.status ∙ sym k.status)

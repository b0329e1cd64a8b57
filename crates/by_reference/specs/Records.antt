-- 01: "The media layer charges one lent record in place; a thin layer over a by-value core." A record that is lent by itself has no desk
-- beside it: that its set was listed is told by no notice and remembered by no flag.
use Rattle.std.specs.Prelude.{◌≡◌, true, ℕ, eqb, if◌then◌else◌}
use Rattle.replies.specs.Numbers.{bad_table}
use Rattle.record.specs.declared.Record.{Record}
use Rattle.record.specs.Parts.{id_of}
use Rattle.record.specs.Legal.{legal_record}
use Rattle.rules.specs.declared.Media.{Media}
use Rattle.steps.specs.Items.{item_of}
use Rattle.steps.specs.Card.{ruled}
use Rattle.by_reference.specs.declared.records.Charged.{Charged}

-- 07C3h for a record that is not legal
abbrev pub lent_status : Record → ℕ
lent_status r = if legal_record r then 0 else bad_table

-- where the status is 0 the record that the step makes of it where an event names it, and else the record as it is
abbrev pub lent_after : ℕ → Media → Record → Record
lent_after status m r = if eqb status 0 then ruled (item_of (id_of r) m) r else r

abbrev pub charged : Media → Record → Charged
charged m r = record { «record» = lent_after (lent_status r) m r; status = lent_status r }

-- what a charge in place promises: the record that it leaves, and the number that it answers
pub record ChargedInPlace (m : Media) (before after : Record) (number : ℕ) : Type 0 where
  pub left : after ≡ (charged m before).«record»
  pub status : number ≡ (charged m before).status

-- "Legal table", for one record: proved as `stays_legal` in proofs/OfRecord.antt
abbrev pub StaysLegal : Type 0
StaysLegal = (m : Media) (r : Record) → legal_record r ≡ true → legal_record (charged m r).«record» ≡ true

-- "Any two outcomes allowed by one statement are shown to coincide": proved as `one_charge` there
abbrev pub OneCharge : Type 0
OneCharge = (m : Media) (r v w : Record) (s t : ℕ) → ChargedInPlace m r v s → ChargedInPlace m r w t → (v ≡ w) × (s ≡ t)

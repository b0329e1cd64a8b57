-- Settling keeps "listed only if some event bit is set", whatever the effect.
use mathlib.Core.Path.{◌≡◌, refl}
use mathlib.Core.Bool.{Bool, true, false, not, ◌&&◌, ◌||◌, or-true}
use Rattle.octets.proofs.JoinedTests.{and_left}
use Rattle.record.specs.declared.Events.{Events}
use Rattle.record.specs.declared.Notes.{Notes}
use Rattle.record.specs.declared.Record.{Record}
use Rattle.record.specs.declared.Effect.{Effect}
use Rattle.record.specs.Event.{events_of, some_event, any_enabled, joined, settled, is_silent}
use Rattle.record.specs.Legal.{legal_notes}

or_more : (a b a' b' : Bool) → (a ≡ true → a' ≡ true) → (b ≡ true → b' ≡ true) → a || b ≡ true → a' || b' ≡ true
or_more true b a' b' f g h = rw (f refl)
or_more false b a' b' f g h = rw (g h) (or-true a')

-- each event of the first is one of the second
record Within (e f : Events) : Type 0 where
  reads : e.reads ≡ true → f.reads ≡ true
  writes : e.writes ≡ true → f.writes ≡ true
  time : e.time ≡ true → f.time ≡ true
  exceeded : e.exceeded ≡ true → f.exceeded ≡ true
  excursion : e.excursion ≡ true → f.excursion ≡ true

some_within : (e f : Events) → Within e f → some_event e ≡ true → some_event f ≡ true
some_within e f w =
    or_more (e.reads || e.writes || e.time || e.exceeded) e.excursion (f.reads || f.writes || f.time || f.exceeded) f.excursion
    (or_more (e.reads || e.writes || e.time) e.exceeded (f.reads || f.writes || f.time) f.exceeded
    (or_more (e.reads || e.writes) e.time (f.reads || f.writes) f.time
    (or_more e.reads e.writes f.reads f.writes w.reads w.writes)
    w.time)
    w.exceeded)
    w.excursion

new_one : (k o n x : Bool) → n && x ≡ true → k && o || n ≡ true
new_one k o n x h = rw (and_left n x h) (or-true (k && o))

old_one : (o n : Bool) → o ≡ true → true && o || n ≡ true
old_one o n h = rw h

abbrev and_also : Events → Events → Events
and_also e f =
    events_of (e.reads && f.reads) (e.writes && f.writes) (e.time && f.time) (e.exceeded && f.exceeded) (e.excursion && f.excursion)

some_new : (k : Bool) (old new on : Events) → any_enabled new on ≡ true → some_event (joined k old new) ≡ true
some_new k old new on =
    some_within (and_also new on) (joined k old new) (record {
      reads = new_one k old.reads new.reads on.reads;
      writes = new_one k old.writes new.writes on.writes;
      time = new_one k old.time new.time on.time;
      exceeded = new_one k old.exceeded new.exceeded on.exceeded;
      excursion = new_one k old.excursion new.excursion on.excursion;
    })

some_old : (old new : Events) → some_event old ≡ true → some_event (joined true old new) ≡ true
some_old old new =
    some_within old (joined true old new) (record {
      reads = old_one old.reads new.reads;
      writes = old_one old.writes new.writes;
      time = old_one old.time new.time;
      exceeded = old_one old.exceeded new.exceeded;
      excursion = old_one old.excursion new.excursion;
    })

-- the mark, by whether a new event was enabled, whether the old are kept, and whether it was set
marked :
    (kept listed now : Bool) (old new on : Events) → any_enabled new on ≡ now → not listed || some_event old ≡ true
    → not (kept && listed || now) || some_event (joined kept old new) ≡ true
marked kept listed true old new on e h = rw (some_new kept old new on e) (or-true (not (kept && listed || true)))
marked true true false old new on e h = some_old old new h
marked true false false old new on e h = refl
marked false listed false old new on e h = refl

pub notes_kept : (r : Record) (e : Effect) → legal_notes r.notes ≡ true → legal_notes (settled r e).notes ≡ true
notes_kept r e h =
    marked (not e.clears) r.notes.listed _ r.notes.events e.happened r.state.config.enabled refl h

-- ---- an effect that is silent leaves the notes

kept : (b : Bool) → true && b || false ≡ b
kept true = refl
kept false = refl

abbrev notes_after : Bool → Events → Notes → Events → Notes
notes_after clears new n enabled =
    record {
      events = joined (not clears) n.events new;
      listed = not clears && n.listed || any_enabled new enabled;
    }

quiet : (i o t x y c : Bool) (n : Notes) (enabled : Events) → not (i || o || t || x || y) && not c ≡ true → notes_after c (events_of i o t x y) n enabled ≡ n
quiet false false false false false false n enabled h =
    let e = n.events in
    rw (kept e.reads, kept e.writes, kept e.time, kept e.exceeded, kept e.excursion, kept n.listed)
quiet true o t x y c n enabled h = cc
quiet false true t x y c n enabled h = cc
quiet false false true x y c n enabled h = cc
quiet false false false true y c n enabled h = cc
quiet false false false false true c n enabled h = cc
quiet false false false false false true n enabled h = cc

pub silent_notes : (r : Record) (e : Effect) → is_silent e ≡ true → (settled r e).notes ≡ r.notes
silent_notes r e h =
    let n = e.happened in
    quiet n.reads n.writes n.time n.exceeded n.excursion e.clears r.notes r.state.config.enabled h

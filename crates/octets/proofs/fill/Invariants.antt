use mathlib.Core.Path.{◌≡◌}
use lib.ListN.{length, drop}
use Rattle.octets.specs.Pages.{Within, fields_at, places_from, puts}
use Rattle.octets.proofs.Pages.{rest_of}
use Rattle.octets.proofs.fill.Given as goal

abbrev pub invariant-loop-p : goal.invariant-loop-p
invariant-loop-p l =
    let n = length l.yielded in
    (length l.page ≡ length l.initial.page)
    × Within (length l.initial.page) l.«from» (drop n l.places)
    × (puts l.page (rest_of l.«from» l.places l.values n) ≡ puts l.initial.page (fields_at (places_from l.«from» l.places) l.values))

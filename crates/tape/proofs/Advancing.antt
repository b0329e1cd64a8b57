-- One turn after another on a piece, as the functions take them.
use mathlib.Core.Path.{◌≡◌, refl, sym, ap, ◌∙◌}
use mathlib.Core.Bool.{Bool, true, false, not}
use mathlib.Core.List.{List}
use Prim.Native.Nat.{ℕ, zero, suc, ◌+◌, ◌-◌, ◌≤◌, ◌<◌}
use native.Mathlib.Omega.{arith}
use borrow.Author.Tests.{lt-ltb, le-ltb}
use lib.ListN.{length, take, drop, length-drop}
use lib.Seq.{length-sets}
use Rattle.tape.specs.Text.{Put}
use Rattle.tape.specs.Tape.{next_set, next_item}
use Rattle.tape.specs.Printout.{item_length, set_length}
use Rattle.tape.specs.Pieces.{progress, set_turn, item_turn, turn_at, line_room, Player, player, advanced, turns, anew, PlayedOn, most_turns}
use Rattle.tape.specs.Turning.{Turned, Advanced}
use Rattle.tape.specs.declared.Next.{Next}
use Rattle.tape.specs.declared.Next.TheVariants.{Whole, Short, Bad, Over}
use Rattle.tape.specs.declared.Stage.{Stage}
use Rattle.tape.specs.declared.Stage.TheVariants.{Sets, Items, Ended}
use Rattle.tape.specs.declared.Progress.{Progress}
use Rattle.tape.proofs.Playing.{rest_all}
use Rattle.tape.proofs.Turns.{whole_set_there, whole_item_there}

-- ---- a turn uses no more than there is

set_used : (next : Next) (n : ℕ) (words bodies left : List ℕ) → (next ≡ Whole → set_length ≤ length left) → (set_turn next n words bodies left).used ≤ length left
set_used Whole n words bodies left h = h refl
set_used Short n words bodies left h = omega arith
set_used Bad n words bodies left h = omega arith
set_used Over n words bodies left h = omega arith

item_used : (next : Next) (n : ℕ) (words bodies left : List ℕ) → (next ≡ Whole → item_length left ≤ length left) → (item_turn next n words bodies left).used ≤ length left
item_used Whole n words bodies left h = h refl
item_used Short n words bodies left h = omega arith
item_used Bad n words bodies left h = omega arith
item_used Over n words bodies left h = omega arith

pub turn_used : (stage : Stage) (n : ℕ) (words bodies left : List ℕ) (last : Bool) → (turn_at stage n words bodies left last).used ≤ length left
turn_used Sets n words bodies left last = set_used (next_set left last) n words bodies left (whole_set_there left last)
turn_used Items n words bodies left last = item_used (next_item left last) n words bodies left (whole_item_there left last)
turn_used Ended n words bodies left last = omega arith

-- ---- one turn

module _ (p : Progress) (words bodies out piece : List ℕ) (last : Bool) where
  pub advanced_stopped :
      (r : Progress) → p.used ≤ length piece → p.len ≤ length out → length out - p.len < line_room → r ≡ progress p.stage p.count p.used p.len false
      → Advanced (player p words bodies out) piece last (player r words bodies out)
  unfolding advanced
  advanced_stopped r u l h e =
      record {
        is = rw (lt-ltb (length out - p.len) line_room h) (ap (λ (x : Progress). player x words bodies out) e);
        used_within = rw e u;
        text_within = rw e l;
        same_room = refl;
      }

  module _
      (t : Progress) (line words' bodies' : List ℕ)
      (part_turned : Turned (turn_at p.stage p.count words bodies (take (length piece - p.used) (drop p.used piece)) last) t words' bodies' line)
      (room : line_room ≤ length out - p.len) (here : p.used ≤ length piece) (there : p.len ≤ length out) where
    turned : Turned (turn_at p.stage p.count words bodies (drop p.used piece) last) t words' bodies' line
    turned = rw (rest_all piece p.used) at part_turned

    -- so the sum of what is used fits
    pub used_fits : p.used + t.used ≤ length piece
    used_fits =
        let n : t.used ≡ (turn_at p.stage p.count words bodies (drop p.used piece) last).used = ap (λ (x : Progress). x.used) turned.progress_is in
        omega (arith, turn_used p.stage p.count words bodies (drop p.used piece) last, length-drop p.used piece)

    pub advanced_moved :
        (out' : List ℕ) (end : ℕ) (r : Progress) → Put out p.len line out' end
        → r ≡ progress t.stage t.count (p.used + t.used) end t.going
        → Advanced (player p words bodies out) piece last (player r words' bodies' out')
    unfolding advanced
    advanced_moved out' end r put e =
        let T = turn_at p.stage p.count words bodies (drop p.used piece) last in
        let q = turned in
        let put' : Put out p.len T.text out' end = rw q.text at put in
        let moves : r ≡ progress T.stage T.count (p.used + T.used) (p.len + length T.text) T.going = cc q.progress_is in
        record {
          is = rw (le-ltb (length out - p.len) line_room room) (cc);
          used_within = rw e used_fits;
          text_within = rw e put.within;
          same_room = ap length put.bytes ∙ length-sets out p.len line;
        }

-- ---- turns one after another: what is left to do

pub goes : (b : Bool) → not b ≡ false → b ≡ true
goes true e = refl
goes false e = sym e

pub stops : (b : Bool) → not b ≡ true → b ≡ false
stops true e = sym e
stops false e = refl

pub turns_again :
    (k : ℕ) (piece : List ℕ) (last : Bool) (g h all : Player) → 0 < k → Advanced g piece last h → h.at.going ≡ true → turns k piece last g ≡ all
    → turns (k - 1) piece last h ≡ all
unfolding turns advanced
turns_again zero piece last g h all some a on e = absurd (omega arith)
turns_again (suc k) piece last g h all some a on e =
    let less : suc k - 1 ≡ k = omega arith in
    let goes : (advanced piece last g).at.going ≡ true = rw (← a.is) on in
    rw (less, a.is) (rw goes at e)

pub turns_stop :
    (k : ℕ) (piece : List ℕ) (last : Bool) (g h all : Player) → 0 < k → Advanced g piece last h → h.at.going ≡ false → turns k piece last g ≡ all
    → turns 0 piece last h ≡ all
unfolding turns advanced
turns_stop zero piece last g h all some a off e = absurd (omega arith)
turns_stop (suc k) piece last g h all some a off e =
    let stops : (advanced piece last g).at.going ≡ false = rw (← a.is) off in
    a.is ∙ (rw stops at e)

pub played_on :
    (k : ℕ) (p : Progress) (words₀ bodies₀ out₀ piece : List ℕ) (last : Bool) (r : Progress) (words bodies out : List ℕ) → k ≤ 0
    → r.used ≤ length piece → r.len ≤ length out
    → turns k piece last (player r words bodies out) ≡ turns most_turns piece last (player (anew p) words₀ bodies₀ out₀)
    → PlayedOn p words₀ bodies₀ out₀ piece last r words bodies out
unfolding turns
played_on k p words₀ bodies₀ out₀ piece last r words bodies out done u l e =
    let z : k ≡ 0 = omega arith in
    record { played = rw z at e; used_within = u; text_within = l }

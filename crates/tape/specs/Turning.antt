-- Only for functions inside the crate.
use Rattle.std.specs.Prelude.{◌≡◌, Bool, List, ℕ, ◌≤◌, length}
use Rattle.tape.specs.Pieces.{progress, Turn, Player, advanced}
use Rattle.tape.specs.declared.Progress.{Progress}

-- what a turn's function leaves: its line, and how long it is
pub record Turned (t : Turn) (r : Progress) (words bodies line : List ℕ) : Type 0 where
  pub progress_is : r ≡ progress t.stage t.count t.used (length t.text) t.going
  pub table : words ≡ t.words
  pub kept : bodies ≡ t.bodies
  pub text : line ≡ t.text

-- for the function that takes one turn: how far it is lies within the piece and the buffer still
pub record Advanced (g : Player) (piece : List ℕ) (last : Bool) (h : Player) : Type 0 where
  pub is : h ≡ advanced piece last g
  pub used_within : h.at.used ≤ length piece
  pub text_within : h.at.len ≤ length h.out
  pub same_room : length h.out ≡ length g.out

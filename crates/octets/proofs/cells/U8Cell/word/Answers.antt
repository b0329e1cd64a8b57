use mathlib.Core.Path.{◌∙◌}
use Prim.Native.Nat.{◌*◌, ◌/◌, ◌≤◌}
use native.Mathlib.Omega.{arith}
use borrow.Author.Rules.{rules}
use lib.ListN.{length}
use Rattle.octets.specs.Words.{word_size}
use Rattle.octets.proofs.CellWords.{length_all, word_all}
use Rattle.octets.proofs.cells.U8Cell.word.Goals as goal

pub overflow_mul-k : goal.overflow_mul-k
overflow_mul-k c = let h : c.args.k ≤ length c.args.cells.now / word_size = omega (arith, c.requires, length_all c.args.cells.now) in search rules

pub word_at-requires : goal.word_at-requires
word_at-requires c = omega (arith, c.requires, length_all c.args.cells.now)

pub returns : goal.returns
returns c = c.word_at.ensures ∙ word_all c.args.cells.now c.args.k (8 * c.args.k) (omega (arith, c.requires, length_all c.args.cells.now)) (omega arith)

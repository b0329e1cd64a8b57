use mathlib.Core.Path.{◌∙◌}
use Prim.Native.Nat.{◌*◌, ◌/◌, ◌≤◌}
use native.Mathlib.Omega.{arith}
use borrow.Author.Rules.{rules}
use lib.ListN.{length}
use Rattle.octets.specs.Words.{word_size}
use Rattle.octets.proofs.CellWords.{length_all, part_all}
use Rattle.octets.proofs.cells.U8Cell.read.Goals as goal

pub overflow_mul-k : goal.overflow_mul-k
overflow_mul-k c = let h : c.args.k ≤ length c.args.cells.now / word_size = omega (arith, c.requires, length_all c.args.cells.now) in search rules

pub words_in-requires : goal.words_in-requires
words_in-requires c = omega (arith, c.requires, length_all c.args.cells.now)

pub returns : goal.returns
returns c =
    c.words_in.ensures
    ∙ part_all c.args.cells.now c.args.k (length c.args.to.now) (8 * c.args.k) (omega (arith, c.requires, length_all c.args.cells.now)) (omega arith)

use mathlib.Core.Path.{ap, ◌∙◌}
use Prim.Native.Nat.{ℕ, ◌*◌, ◌/◌, ◌≤◌}
use native.Mathlib.Omega.{arith}
use borrow.Author.Rules.{rules}
use lib.ListN.{length}
use Rattle.octets.specs.Words.{word_size}
use Rattle.octets.proofs.CellWords.{all_words, past_words, length_all, run_back, run_past}
use Rattle.octets.proofs.cells.U8Cell.write.Goals as goal

pub overflow_mul-k : goal.overflow_mul-k
overflow_mul-k c = let h : c.args.k ≤ length c.args.cells.now / word_size = omega (arith, c.requires, length_all c.args.cells.now) in search rules

pub words_out-requires : goal.words_out-requires
words_out-requires c = omega (arith, c.requires, length_all c.args.cells.now)

pub returns-clause-words : goal.returns-clause-words
returns-clause-words c =
    let b = c.args.cells.now in
    ap all_words c.words_out.ensures
    ∙ run_back b c.args.run.now c.args.k (8 * c.args.k) (λ (i : ℕ). search rules) (λ (i : ℕ). (c.type_inv.run i).fits) (omega (arith, c.requires, length_all b)) (omega arith)

pub returns-clause-rest : goal.returns-clause-rest
returns-clause-rest c =
    let b = c.args.cells.now in
    ap past_words c.words_out.ensures ∙ run_past b c.args.run.now c.args.k (8 * c.args.k) (omega (arith, c.requires, length_all b)) (omega arith)

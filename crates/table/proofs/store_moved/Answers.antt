use mathlib.Core.Path.{ap, ◌∙◌}
use mathlib.Core.List.{List}
use Prim.Native.Nat.{ℕ, ◌+◌, ◌-◌}
use native.Mathlib.Omega.{arith}
use lib.Seq.{sets}
use Rattle.octets.specs.Octets.{part}
use Rattle.octets.proofs.Runs.{sets_part, sets_parts}
use Rattle.table.specs.Layout.{row_words, window_word, notes_word, words_of}
use Rattle.table.specs.Table.{row_start, row}
use Rattle.table.proofs.Staying.{config_stays, notes_stay}
use Rattle.table.proofs.Records.{length_words}
use Rattle.table.proofs.store_moved.Goals as goal

pub returns-then-noted-clause-words : goal.returns-then-noted-clause-words
returns-then-noted-clause-words g c =
    let ws = g.C.Cell.words c.args.table.now in
    let start = row_start c.args.slot.0 in
    let a = words_of c.args.r in
    let q = c.requires in
    (rw c.words_of-a.ensures at c.write-then-noted.ensures.words)
    ∙ ap (λ (z : List ℕ). sets z (start + notes_word) (part a notes_word (row_words - notes_word))) (rw c.words_of-a.ensures at c.write.ensures.words)
    ∙ sets_parts ws a start row_words window_word notes_word (length_words c.args.r) (omega (arith, q.room)) (omega arith) (omega arith) (config_stays (row ws c.args.slot.0) c.args.r q.legal q.moved.attributes q.moved.config)

pub returns-else-noted-clause-words : goal.returns-else-noted-clause-words
returns-else-noted-clause-words g c =
    let ws = g.C.Cell.words c.args.table.now in
    let at = row ws c.args.slot.0 in
    let q = c.requires in
    (rw c.words_of-a.ensures at c.write.ensures.words)
    ∙ sets_part ws (words_of c.args.r) (row_start c.args.slot.0) row_words window_word notes_word (length_words c.args.r) (omega (arith, q.room)) (omega arith) (omega arith) (config_stays at c.args.r q.legal q.moved.attributes q.moved.config) (notes_stay at c.args.r q.legal (q.moved.notes c.if-noted.false))

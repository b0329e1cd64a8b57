use mathlib.Core.Path.{◌≡◌, sym, ◌∙◌}
use Prim.Native.Nat.{◌+◌, ◌*◌}
use native.Mathlib.Omega.{arith}
use borrow.Author.Rules.{rules}
use lib.ListN.{length}
use Rattle.octets.specs.Words.{word_size}
use Rattle.octets.proofs.Runs.{sets_whole}
use Rattle.octets.proofs.WordBytes.{length_words, in_turn, in_end}
use Rattle.octets.proofs.words.words_in.Goals as goal

pub loop-i-preserved : goal.loop-i-preserved
loop-i-preserved c =
    let l = c.loop-i in
    let at = c.args.«from» + l.i * word_size in
    let next : c.args.«from» + (l.i + 1) * word_size ≡ at + word_size = omega arith in
    (search rules, rw (next, c.word_at.ensures) (in_turn l.words c.args.bytes.now at l.i (length c.args.words.now) (omega arith) ∙ l.invariant.1))

pub returns : goal.returns
returns c =
    let l = c.loop-i in
    sym (in_end l.words c.args.bytes.now (c.args.«from» + l.i * word_size) l.i (length c.args.words.now) (omega arith))
    ∙ l.invariant.1
    ∙ sets_whole _ c.args.words.now (length_words c.args.bytes.now c.args.«from» (length c.args.words.now))

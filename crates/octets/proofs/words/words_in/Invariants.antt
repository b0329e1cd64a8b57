use mathlib.Core.Path.{◌≡◌}
use Prim.Native.Nat.{◌+◌, ◌*◌, ◌-◌}
use lib.ListN.{length}
use lib.Seq.{sets}
use Rattle.octets.specs.Words.{word_size, words_from}
use Rattle.octets.proofs.words.words_in.Given as goal

abbrev pub invariant-loop-i : goal.invariant-loop-i
invariant-loop-i l =
    (length l.words ≡ length l.initial.words)
    × (sets l.words l.i (words_from l.bytes (l.«from» + l.i * word_size) (length l.initial.words - l.i)) ≡ sets l.initial.words 0 (words_from l.bytes l.«from» (length l.initial.words)))

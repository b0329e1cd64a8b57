use mathlib.Core.Path.{◌≡◌}
use Prim.Native.Nat.{◌+◌, ◌*◌}
use lib.ListN.{length, drop}
use Rattle.octets.specs.Words.{word_size, put_words}
use Rattle.octets.proofs.words.words_out.Given as goal

abbrev pub invariant-loop-i : goal.invariant-loop-i
invariant-loop-i l =
    (length l.bytes ≡ length l.initial.bytes)
    × (put_words l.bytes (l.«from» + l.i * word_size) (drop l.i l.words) ≡ put_words l.initial.bytes l.«from» l.words)

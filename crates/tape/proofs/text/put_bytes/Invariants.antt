use mathlib.Core.Path.{◌≡◌}
use Prim.Native.Nat.{◌+◌, ◌*◌}
use lib.ListN.{length, drop}
use lib.Seq.{sets}
use Rattle.tape.specs.Text.{data_hex}
use Rattle.tape.proofs.text.put_bytes.Given as goal

abbrev pub invariant-loop-i : goal.invariant-loop-i
invariant-loop-i l =
    (length l.out ≡ length l.initial.out)
    × (sets l.out (l.at + 2 * l.i) (data_hex (drop l.i l.bytes)) ≡ sets l.initial.out l.at (data_hex l.bytes))

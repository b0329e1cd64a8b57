use Rattle.std.proofs.Common.{◌≡◌, true, ◌≤◌, length, take}
use Rattle.std.specs.Io.KnownBytes.{IsAtEnd}
use Rattle.replay.proofs.Printing.{Plays}
use Rattle.replay.proofs.replay.Given as goal

abbrev pub invariant-loop : goal.invariant-loop
invariant-loop g l =
    let left = g.R.Read.remaining in
    let held = g.W.Write.contents in
    record {
      within : l.feed.have ≤ length l.buf;
      end : l.feed.last ≡ true → IsAtEnd (left l.from);
      plays : Plays (left l.fn.from) (left l.from) (held l.fn.to) (held l.to) l.wrote l.p l.table l.bodies (take l.feed.have l.buf);
    }

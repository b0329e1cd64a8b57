-- What is left is a page with no field, written over the first n bytes.
use mathlib.Core.Path.{◌≡◌}
use native.Mathlib.Omega.{arith}
use borrow.Author.Rules.{rules}
use lib.ListN.{replicate, length-replicate}
use Rattle.octets.proofs.Runs.{written}
use Rattle.octets.proofs.Pages.{blank}
use Rattle.octets.proofs.clear.Goals as goal

pub returns : goal.returns
returns c =
    let n = c.args.n in
    let zeros : c.fill.new.self ≡ replicate n 0 = search (rules, c.fill.ensures.after) in
    rw (zeros, ← blank n) (written c.args.buf.now (replicate n 0) 0 n (length-replicate n 0) (omega arith))

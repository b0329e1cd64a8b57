-- What is copied, and zeros after it.
use mathlib.Core.Path.{◌≡◌}
use mathlib.Core.List.{◌++◌}
use Prim.Native.Nat.{◌+◌, ◌-◌}
use native.Mathlib.Omega.{arith}
use borrow.Author.Rules.{rules}
use lib.ListN.{length, replicate, length-replicate, length-take, length-drop}
use Rattle.octets.specs.Octets.{part, padded}
use Rattle.octets.proofs.Runs.{written_twice, padded_parts}
use Rattle.octets.proofs.copy_part.Goals as goal

pub returns : goal.returns
returns c =
    let page = c.args.page.now in
    let at = c.args.«from» in
    let m = c.min-m.result in
    let k = c.args.n - m in
    let copied = part page at m in
    let all : m + k ≡ c.args.n = omega (arith, c.min-m.ensures) in
    let long : length copied ≡ m = simp (length-take, length-drop) (omega (arith, c.min-m.ensures)) in
    let first : c.copy_from_slice.new.self ≡ copied = search (rules, c.copy_from_slice.ensures.after) in
    let rest : c.fill.new.self ≡ replicate k 0 = search (rules, c.fill.ensures.after) in
    let both : padded page at c.args.n ≡ copied ++ replicate k 0 = rw all at (padded_parts page at m k (omega (arith, c.min-m.ensures)) (λ h. omega (arith, c.min-m.ensures))) in
    rw (first, rest, both) (written_twice c.args.answer.now copied (replicate k 0) m k long (length-replicate k 0) (omega arith))

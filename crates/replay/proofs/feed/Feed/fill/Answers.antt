-- What a read put after the bytes that were there is what it took from the input.
use Rattle.std.proofs.Common.{◌≡◌, ℕ, ◌+◌, ◌-◌, ◌≤◌, List, length, take, drop, arith, ap, length-take-le, ◌∙◌}
use Rattle.std.proofs.Math.Seq.{drop_at}
use Rattle.std.proofs.lemmas.List.{drop-take, take-append-le}
use borrow.Rule.Slice.PartMut.{put_mid}
use Rattle.replay.proofs.feed.Feed.fill.Goals as goal

added : (a k n : ℕ) (xs ys : List ℕ) → a ≤ length xs → n ≤ length ys → drop a (take (a + n) (put_mid a k xs ys)) ≡ take n ys
added a k n xs ys p q = drop-take a n _ ∙ ap (take n) (drop_at _ _ a (length-take-le a xs p)) ∙ take-append-le n ys _ q

pub returns-clause-added : goal.returns-clause-added
returns-clause-added g c =
    let a = c.args in
    let have = a.self.now.have in
    let room = length a.buf.now - have in
    let e = added have room c.in_ok-n.n a.buf.now c.read.new.buf c.requires (omega (arith, c.in_ok-n.ensures.bound)) in
    rw e c.in_ok-n.ensures.bytes.0

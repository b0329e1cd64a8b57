use mathlib.Core.Path.{◌≡◌, ◌∙◌, sym}
use Prim.Native.Nat.{◌+◌, ◌-◌}
use native.Mathlib.Omega.{arith}
use native.Mathlib.Nat.{sub-zero}
use borrow.Author.Rules.{rules}
use lib.ListN.{length, length-take, length-drop}
use Rattle.octets.specs.Octets.{bytes_of, part}
use Rattle.octets.proofs.Runs.{sets_whole, written}
use Rattle.octets.proofs.PutAndGet.{length_bytes}
use Rattle.octets.proofs.Turns.{put_turn, put_end}
use Rattle.octets.proofs.put.Goals as goal

pub loop-byte-init : goal.loop-byte-init
loop-byte-init c =
    let w = c.args.width in
    let bytes = bytes_of w c.args.v in
    let long : length (part c.args.buf.now c.args.at (c.args.at + w - c.args.at)) ≡ w = simp (length-take, length-drop) (omega arith) in
    (long, rw sub-zero (sets_whole bytes _ (length_bytes w c.args.v ∙ sym long)))

pub loop-byte-preserved : goal.loop-byte-preserved
loop-byte-preserved c =
    let l = c.loop-byte in
    let left = c.args.width - l.byte-index in
    let e : c.args.width - (l.byte-index + 1) ≡ left - 1 = omega arith in
    (search rules, rw e (put_turn l.byte-items l.byte-index left l.rest (omega arith)) ∙ l.invariant.1)

pub returns : goal.returns
returns c =
    let l = c.loop-byte in
    let w = c.args.width in
    let all : l.byte-items ≡ bytes_of w c.args.v = sym (put_end l.byte-items l.byte-index (w - l.byte-index) l.rest (omega arith)) ∙ l.invariant.1 in
    rw all (written c.args.buf.now (bytes_of w c.args.v) c.args.at _ (omega (arith, length_bytes w c.args.v)) (omega arith))

use Rattle.std.proofs.Common.{◌≡◌, ◌-◌, ◌+◌, ℕ, ap, refl, ◌∙◌, arith}
use borrow.Author.Rules.{rules}
use Rattle.tape.specs.Pieces.{turns, most_turns, player}
use Rattle.tape.proofs.Advancing.{goes, stops, turns_again, turns_stop, played_on}
use Rattle.tape.proofs.pieces.play_on.Goals as goal

pub loop-init : goal.loop-init
loop-init c = record { table_length = refl; out_length = refl; used = rw c.made-g.ensures (omega arith); len = rw c.made-g.ensures (omega arith); left = refl }

pub loop-preserved : goal.loop-preserved
loop-preserved c =
    let l = c.loop in
    let a = c.advance-g.ensures in
    let one_less : most_turns - (l.counter + 1) ≡ most_turns - l.counter - 1 = omega arith in
    record {
      table_length = search rules;
      out_length = search rules;
      used = a.used_within;
      len = a.text_within;
      left = ap (λ (k : ℕ). turns k c.args.piece.now c.args.last (player c.advance-g.result c.advance-g.new.table c.advance-g.new.bodies c.advance-g.new.out)) one_less
          ∙ turns_again (most_turns - l.counter) c.args.piece.now c.args.last _ _ _ (omega (arith, c.loop-test.true)) a (goes _ c.if-not-g.false) l.invariant.left;
    }

pub returns-after-loop : goal.returns-after-loop
returns-after-loop c =
    let l = c.loop in
    let i = l.invariant in
    played_on (most_turns - l.counter) c.args.p _ _ _ _ c.args.last _ _ _ _ (omega (arith, c.loop-test.false)) i.used i.len (rw c.made-g.ensures at i.left)

pub returns-then-not-g : goal.returns-then-not-g
returns-then-not-g c =
    let l = c.loop in
    let a = c.advance-g.ensures in
    let left = turns_stop (most_turns - l.counter) c.args.piece.now c.args.last _ _ _ (omega (arith, c.loop-test.true)) a (stops _ c.if-not-g.true) l.invariant.left in
    played_on 0 c.args.p _ _ _ _ c.args.last _ _ _ _ (omega arith) a.used_within a.text_within (rw c.made-g.ensures at left)

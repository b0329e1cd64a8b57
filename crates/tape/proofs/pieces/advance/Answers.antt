use mathlib.Core.Path.{refl}
use Rattle.tape.proofs.Advancing.{advanced_stopped, advanced_moved}
use Rattle.tape.proofs.pieces.advance.Goals as goal

pub returns-then-out-p-lt-LINE : goal.returns-then-out-p-lt-LINE
returns-then-out-p-lt-LINE c = advanced_stopped c.args.p c.args.table.now c.args.bodies.now c.args.out.now c.args.piece.now c.args.last _ c.requires.0 c.requires.1 c.if-out-p-lt-LINE.true refl

pub returns : goal.returns
returns c = advanced_moved c.args.p c.args.table.now c.args.bodies.now c.args.out.now c.args.piece.now c.args.last _ _ _ _ c.turn-t.ensures c.if-out-p-lt-LINE.false c.requires.0 c.requires.1 _ _ _ (rw c.as_bytes.ensures.text at c.append-end.ensures) c.made.ensures

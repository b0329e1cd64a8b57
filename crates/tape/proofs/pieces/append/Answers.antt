use Rattle.std.proofs.Common.{refl}
use Rattle.tape.proofs.Writing.{put_after}
use Rattle.tape.proofs.pieces.append.Goals as goal

pub returns : goal.returns
returns c = put_after _ c.args.text.now _ _ _ c.put.ensures refl c.requires

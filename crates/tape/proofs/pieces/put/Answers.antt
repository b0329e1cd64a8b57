use Rattle.std.proofs.Common.{ap, arith, ◌∙◌}
use borrow.Rule.Slice.PartMut.{put_mid}
use Rattle.tape.proofs.Writing.{put_mid_sets}
use Rattle.tape.proofs.pieces.put.Goals as goal

pub returns : goal.returns
returns c =
    let a = c.args in
    ap (put_mid a.at _ a.out.now) c.copy_from_slice.ensures.after ∙ put_mid_sets a.at _ a.out.now a.bytes.now (omega arith) (omega (arith, c.requires))

use Rattle.std.proofs.Common.{arith, sym, ◌*◌, length}
use Rattle.tape.specs.Text.{data_hex}
use Rattle.tape.proofs.Writing.{appended, length_data}
use Rattle.tape.proofs.text.Line.pairs.Goals as goal

pub returns : goal.returns
returns c =
    let i = c.self.inside in
    let bytes = c.args.bytes.now in
    appended i.bytes _ _ (data_hex bytes) i.len (2 * length bytes) c.self.view_is (omega (arith, c.self.invariant)) (omega (arith, c.requires))
    (sym (length_data bytes)) c.put_bytes.ensures

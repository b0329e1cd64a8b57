use native.Mathlib.Omega.{arith}
use Rattle.octets.proofs.Runs.{put_run}
use Rattle.octets.proofs.cells.U64Cell.write.Goals as goal

pub returns-clause-words : goal.returns-clause-words
returns-clause-words c =
    put_run c.args.cells.now c.args.run.now _ c.args.k _ (omega arith) (omega (arith, c.requires)) c.copy_from_slice.ensures.after

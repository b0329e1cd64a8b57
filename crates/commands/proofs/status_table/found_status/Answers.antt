use mathlib.Core.Path.{◌∙◌}
use Rattle.std.proofs.lemmas.Result.{err_from_is_err_and}
use Rattle.commands.specs.StatusTable.{late_lines}
use Rattle.commands.proofs.Stacked.{refused, passed}
use Rattle.commands.proofs.status_table.found_status.Goals as goal

pub returns-in_err-asked : goal.returns-in_err-asked
returns-in_err-asked c =
    let s = c.args in
    let p = err_from_is_err_and c.from_residual.result c.from_residual.ensures.1 in
    rw (p.1, p.2) (refused s.asked.command (late_lines s.asked.kind s.asked.command s.given s.room s.s) s.asked.early s.asked.is_early _ c.in_err-asked.was)

pub returns : goal.returns
returns c =
    let s = c.args in
    c.late_status.ensures ∙ passed s.asked.command (late_lines s.asked.kind s.asked.command s.given s.room s.s) s.asked.early s.asked.is_early _ c.in_ok-asked.was

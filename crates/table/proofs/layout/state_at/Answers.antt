use Rattle.table.proofs.layout.state_at.Goals as goal

pub returns : goal.returns
returns c = simp (c.state_of.ensures, c.recovered-recovery.ensures, c.spent-spent.ensures, c.config_of-config.ensures, c.from_bits_truncate-enabled.ensures, c.window_in-window.ensures)

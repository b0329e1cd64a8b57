use Rattle.rules.specs.Rules.{selecting}
use Rattle.rules.proofs.Staying.{select_stays}
use Rattle.commands.specs.Commands.{window_cause}
use Rattle.table.specs.Layout.{record_of}
use Rattle.table.specs.Table.{row}
use Rattle.card.proofs.InPlace.{is_moved}
use Rattle.card.proofs.commanded.window_at.Goals as goal

pub store_moved-requires-clause-moved : goal.store_moved-requires-clause-moved
store_moved-requires-clause-moved g c =
    let s = c.args in
    is_moved (record_of (row (g.C.Cell.words s.table.now) s.slot.0)) s.r (selecting (window_cause s.c) s.r.attributes s.r.state) _ c.requires.own (select_stays (window_cause s.c) s.r.attributes s.r.state) c.after_window-x.ensures

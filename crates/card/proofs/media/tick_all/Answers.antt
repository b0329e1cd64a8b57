use mathlib.Core.Path.{refl, ◌∙◌}
use native.Mathlib.Omega.{arith}
use Rattle.by_value.specs.Ticks.{tick_one}
use Rattle.card.proofs.Ticking.{ticking_start, ticking_legal, ticking_turn}
use Rattle.card.proofs.media.tick_all.Goals as goal

pub loop-i-init : goal.loop-i-init
loop-i-init g c = (ticking_start (tick_one c.args.t) (g.C.Cell.words c.args.table.now) c.args.n c.requires.0 c.requires.1, refl)

pub tick_at-new-requires : goal.tick_at-new-requires
tick_at-new-requires g c =
    let l = c.loop-i in ticking_legal (tick_one c.args.t) (g.C.Cell.words c.args.table.now) c.args.n c.requires.0 c.requires.1 (g.C.Cell.words l.table) l.i l.new l.invariant.0 (omega (arith, c.loop-i-test.true))

pub loop-i-preserved : goal.loop-i-preserved
loop-i-preserved g c =
    let l = c.loop-i in (
      ticking_turn (tick_one c.args.t) (g.C.Cell.words c.args.table.now) c.args.n c.requires.0 c.requires.1 (g.C.Cell.words l.table) l.i l.new l.invariant.0 (omega (arith, c.loop-i-test.true)) _ _ c.tick_at-new.ensures.stored,
      c.tick_at-new.ensures.rest ∙ l.invariant.1,
    )

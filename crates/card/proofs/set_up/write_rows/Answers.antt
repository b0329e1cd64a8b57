use mathlib.Core.Path.{◌≡◌, refl, ap, ◌∙◌}
use mathlib.Core.List.{List}
use Prim.Native.Nat.{ℕ, ◌+◌, ◌*◌}
use native.Mathlib.Omega.{arith}
use lib.ListN.{length}
use lib.Seq.{length-sets}
use Rattle.pages.specs.Bodies.{body_size}
use Rattle.record.specs.declared.Record.{Record}
use Rattle.table.specs.Layout.{words_of}
use Rattle.table.specs.Table.{row_start, put}
use Rattle.by_value.proofs.Bodies.{rows_start, rows_again}
use Rattle.card.proofs.set_up.write_rows.Goals as goal

put_long : (ws vs : List ℕ) (k : ℕ) (r : Record) → vs ≡ put ws k (words_of r) → length vs ≡ length ws
put_long ws vs k r e = ap length e ∙ length-sets ws (row_start k) (words_of r)

pub loop-i-init : goal.loop-i-init
loop-i-init g c = (refl, refl, rows_start (g.C.Cell.words c.args.table.now) c.args.bytes.now c.args.n)

pub loop-i-preserved : goal.loop-i-preserved
loop-i-preserved g c =
    let l = c.loop-i in
    let next : l.i * body_size + body_size ≡ (l.i + 1) * body_size = omega arith in (
      put_long (g.C.Cell.words l.table) _ l.i c.new_record.result c.store.ensures.words ∙ l.invariant.0,
      c.store.ensures.rest ∙ l.invariant.1,
      rw next at (rows_again _ _ _ l.i _ _ l.invariant.2 c.loop-i-test.true _ _ _ c.attributes_in-a.ensures c.new_record.ensures c.store.ensures.words),
    )

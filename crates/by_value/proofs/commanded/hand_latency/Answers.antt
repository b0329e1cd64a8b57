use mathlib.Core.Path.{◌∙◌}
use Rattle.octets.proofs.Runs.{sets_whole}
use Rattle.by_value.proofs.OnOneSet.{latency_long, whole_latency}
use borrow.Author.Rules.{rules}
use Rattle.by_value.proofs.commanded.hand_latency.Goals as goal

pub returns-then-n-eq-LATENCY_SIZE : goal.returns-then-n-eq-LATENCY_SIZE
returns-then-n-eq-LATENCY_SIZE c = rw c.give.ensures (whole_latency c.args.c c.args.r _ _ c.args.answer.now _ c.offset_of-from.ensures c.needs_out-n.ensures c.if-from-eq0.true c.if-n-eq-LATENCY_SIZE.true (search rules) c.latency_onto.ensures)

pub returns : goal.returns
returns c = rw (c.latency_onto-2.ensures ∙ sets_whole _ _ (latency_long c.args.r), c.offset_of-from.ensures, c.needs_out-n.ensures) at c.hand_out.ensures

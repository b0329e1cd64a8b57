use mathlib.Core.Path.{sym, ◌∙◌}
use native.Mathlib.Omega.{arith}
use Rattle.commands.proofs.Listed.{set_notices, set_config, set_window, get_notices, get_config, get_window_lem, read_latency, read_aggregate, event_request, identify}
use Rattle.commands.proofs.shapes.kind_of.Goals as goal

pub returns-then-choice-eq-LATENCY : goal.returns-then-choice-eq-LATENCY
returns-then-choice-eq-LATENCY c = sym (read_latency _ _ (sym c.opcode_of-opcode.ensures ∙ c.if-opcode-eq-LOG.true) (sym c.chosen_by-choice.ensures ∙ c.if-choice-eq-LATENCY.true))

pub returns-then-opcode-eq-LOG : goal.returns-then-opcode-eq-LOG
returns-then-opcode-eq-LOG c = sym (read_aggregate _ _ (sym c.opcode_of-opcode.ensures ∙ c.if-opcode-eq-LOG.true) (λ n. c.if-choice-eq-LATENCY.false (c.chosen_by-choice.ensures ∙ n)))

pub returns-then-opcode-lt-SET : goal.returns-then-opcode-lt-SET
returns-then-opcode-lt-SET c = let e = c.opcode_of-opcode.ensures in sym (identify _ _ (λ n. omega (arith, c.if-opcode-lt-SET.true, e, n)) (λ n. omega (arith, c.if-opcode-lt-SET.true, e, n)) (λ n. c.if-opcode-eq-LOG.false (e ∙ n)) (λ n. omega (arith, c.if-opcode-lt-SET.true, e, n)))

pub returns-then-choice-eq-NOTICES : goal.returns-then-choice-eq-NOTICES
returns-then-choice-eq-NOTICES c = sym (set_notices _ _ (sym c.opcode_of-opcode.ensures ∙ c.if-opcode-eq-SET.true) (sym c.chosen_by-choice.ensures ∙ c.if-choice-eq-NOTICES.true))

pub returns-then-choice-eq-CONFIG : goal.returns-then-choice-eq-CONFIG
returns-then-choice-eq-CONFIG c = sym (set_config _ _ (sym c.opcode_of-opcode.ensures ∙ c.if-opcode-eq-SET.true) (λ n. c.if-choice-eq-NOTICES.false (c.chosen_by-choice.ensures ∙ n)) (sym c.chosen_by-choice.ensures ∙ c.if-choice-eq-CONFIG.true))

pub returns-then-opcode-eq-SET : goal.returns-then-opcode-eq-SET
returns-then-opcode-eq-SET c = sym (set_window _ _ (sym c.opcode_of-opcode.ensures ∙ c.if-opcode-eq-SET.true) (λ n. c.if-choice-eq-NOTICES.false (c.chosen_by-choice.ensures ∙ n)) (λ n. c.if-choice-eq-CONFIG.false (c.chosen_by-choice.ensures ∙ n)))

pub returns-then-choice-eq-NOTICES-2 : goal.returns-then-choice-eq-NOTICES-2
returns-then-choice-eq-NOTICES-2 c = sym (get_notices _ _ (sym c.opcode_of-opcode.ensures ∙ c.if-opcode-eq-GET.true) (sym c.chosen_by-choice.ensures ∙ c.if-choice-eq-NOTICES-2.true))

pub returns-then-choice-eq-CONFIG-2 : goal.returns-then-choice-eq-CONFIG-2
returns-then-choice-eq-CONFIG-2 c = sym (get_config _ _ (sym c.opcode_of-opcode.ensures ∙ c.if-opcode-eq-GET.true) (λ n. c.if-choice-eq-NOTICES-2.false (c.chosen_by-choice.ensures ∙ n)) (sym c.chosen_by-choice.ensures ∙ c.if-choice-eq-CONFIG-2.true))

pub returns-then-opcode-eq-GET : goal.returns-then-opcode-eq-GET
returns-then-opcode-eq-GET c = sym (get_window_lem _ _ (sym c.opcode_of-opcode.ensures ∙ c.if-opcode-eq-GET.true) (λ n. c.if-choice-eq-NOTICES-2.false (c.chosen_by-choice.ensures ∙ n)) (λ n. c.if-choice-eq-CONFIG-2.false (c.chosen_by-choice.ensures ∙ n)))

pub returns-then-opcode-eq-REQUEST : goal.returns-then-opcode-eq-REQUEST
returns-then-opcode-eq-REQUEST c = sym (event_request _ _ (sym c.opcode_of-opcode.ensures ∙ c.if-opcode-eq-REQUEST.true))

pub returns : goal.returns
returns c = let e = c.opcode_of-opcode.ensures in sym (identify _ _ (λ n. c.if-opcode-eq-SET.false (e ∙ n)) (λ n. c.if-opcode-eq-GET.false (e ∙ n)) (λ n. omega (arith, c.if-opcode-lt-SET.false, e, n)) (λ n. c.if-opcode-eq-REQUEST.false (e ∙ n)))

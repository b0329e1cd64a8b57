use mathlib.Core.Path.{sym, ◌∙◌}
use borrow.Author.Tests.{eqb-false}
use Rattle.tape.proofs.Writing.{spaced}
use Rattle.tape.proofs.text.Line.data.Goals as goal

pub returns-then-not-is_empty : goal.returns-then-not-is_empty
returns-then-not-is_empty c =
    spaced c.args.self.now _ _ c.args.bytes.now (eqb-false _ 0 (sym c.is_empty.ensures ∙ c.if-not-is_empty.true)) c.text.ensures c.pairs.ensures

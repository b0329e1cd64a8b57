use borrow.Author.Tests.{eq-eqb, ne_eqb}
use Rattle.replies.proofs.notice_of.Goals as goal

pub returns-then-told-eq0 : goal.returns-then-told-eq0
returns-then-told-eq0 c = simp (eq-eqb _ _ c.if-told-eq0.true)

pub returns-else-told-eq0 : goal.returns-else-told-eq0
returns-else-told-eq0 c = simp (ne_eqb _ _ c.if-told-eq0.false)

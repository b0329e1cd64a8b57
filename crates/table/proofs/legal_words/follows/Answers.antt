use mathlib.Core.Path.{sym, ◌∙◌}
use borrow.Author.Rules.{rules}
use borrow.Author.Tests.{lt-ltb, le-ltb, clash}
use Rattle.table.proofs.LegalWords.{legal_after_lem}
use Rattle.table.proofs.legal_words.follows.Goals as goal
use Rattle.table.proofs.legal_words.follows.Goals.{then-before-a, else-before-a}

pub returns-then-statics_legal : goal.returns-then-statics_legal
returns-then-statics_legal c =
    let a = c.args in
    elim c.if-before-a.branch [
      | then-before-a w ↦
          simp (legal_after_lem a.a (search rules) a.before, c.notes_legal.ensures, c.changing_legal.ensures, ← w.statics_legal.ensures, sym w.value-is ∙ c.if-statics_legal.true, lt-ltb _ _ w.if-before-a.true)
      | else-before-a w ↦ absurd (clash (sym (w.value-is ∙ le-ltb _ _ w.if-before-a.false) ∙ c.if-statics_legal.true))
    ]

pub returns-else-statics_legal : goal.returns-else-statics_legal
returns-else-statics_legal c =
    let a = c.args in
    c.if-statics_legal.false
    ∙ elim c.if-before-a.branch [
      | then-before-a w ↦ simp (legal_after_lem a.a (search rules) a.before, ← w.statics_legal.ensures, sym w.value-is ∙ c.if-statics_legal.false, lt-ltb _ _ w.if-before-a.true)
      | else-before-a w ↦ simp (legal_after_lem a.a (search rules) a.before, le-ltb _ _ w.if-before-a.false)
    ]

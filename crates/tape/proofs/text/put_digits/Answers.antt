use mathlib.Core.Path.{sym, ◌∙◌}
use borrow.Author.Rules.{rules}
use Rattle.tape.proofs.Writing.{digit_below, digits_turn, digits_end}
use Rattle.tape.proofs.text.put_digits.Goals as goal

pub digit-requires : goal.digit-requires
digit-requires c = digit_below _ _ (search rules) (search rules)

pub loop-left-preserved : goal.loop-left-preserved
loop-left-preserved c =
    let l = c.loop-left in
    (search rules, search rules, rw c.digit.ensures (digits_turn l.out c.args.at c.args.base l.left l.rest (search rules) ∙ l.invariant.2))

pub returns : goal.returns
returns c =
    let l = c.loop-left in
    sym (digits_end l.out c.args.at c.args.base l.left l.rest (search rules)) ∙ l.invariant.2

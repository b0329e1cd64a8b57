use mathlib.Core.Path.{sym, ◌∙◌}
use Rattle.std.proofs.lemmas.Slice.Zip.{zip_end}
use Rattle.octets.proofs.Pages.{fill_end}
use Rattle.octets.proofs.fill.Goals as goal

pub returns : goal.returns
returns c =
    let l = c.loop-p in
    let n = zip_end c.args.places.now c.args.values.now l.yielded c.into_iter-p-iterator.result l.p-iterator c.next.new.self c.next.result (cc) (cc) l.yielded_by c.in-None.is c.next.ensures.steps in
    sym (fill_end c.args.«from» c.args.places.now c.args.values.now l.page _ n) ∙ l.invariant.2

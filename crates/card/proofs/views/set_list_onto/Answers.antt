use Rattle.pages.proofs.Entries.{show_onto}
use Rattle.card.proofs.views.set_list_onto.Goals as goal

pub returns : goal.returns
returns g c = show_onto c.args.from.0 _ c.args.answer.now _ _ _ _ c.requires.1 c.clear.ensures c.show_all-end.ensures.place c.show_all-end.ensures.entries c.put_count.ensures

-- Which items name a set, and which go to every set: what the shapes of their meanings say, item by item.
use mathlib.Core.Path.{◌≡◌, refl}
use mathlib.Core.Bool.{Bool, true, false, ◌&&◌}
use mathlib.Core.List.{List}
use Prim.Native.Nat.{ℕ}
use lib.Dec.{eqb}
use lib.ListN.{length}
use Rattle.std.specs.Prelude.{if◌then◌else◌}
use Rattle.rules.specs.declared.Media.{Media}
use Rattle.rules.specs.declared.Media.TheVariants.{Reads, Writes, Excursion}
use Rattle.rules.specs.Rules.{media_rule}
use Rattle.commands.specs.declared.Command.{Command}
use Rattle.commands.specs.declared.Kind.{Kind}
use Rattle.steps.specs.Items.{reads, writes, excursion, tick, command, item_of, Nobody, The}
use Rattle.commands.specs.Commands.{command_in}
use Rattle.commands.specs.Shapes.{kind_of, is_named, named_by}
use Rattle.steps.specs.Commanded.{named, viewed, command_meaning}
use Rattle.steps.specs.Meanings.{event, meaning}
use Rattle.steps.specs.Card.{names, names_by}
use Rattle.steps.specs.Demands.{to_all, to_all_by, NamedItems}

pub meaning_media : (id : ℕ) (m : Media) → meaning (item_of id m) ≡ The id (event (media_rule m))
unfolding meaning
meaning_media id (Reads k) = refl
meaning_media id (Writes k) = refl
meaning_media id Excursion = refl

by_naming :
    (b : Bool) (k : Kind) (c : Command) (given : List ℕ) (room id : ℕ)
    → (names_by (if b then The (named_by k c) (named k c given room) else Nobody (viewed k c (length given) room)) id ≡ b && eqb (named_by k c) id)
    × (to_all_by (if b then The (named_by k c) (named k c given room) else Nobody (viewed k c (length given) room)) ≡ false)
by_naming true k c given room id = (refl, refl)
by_naming false k c given room id = (refl, refl)

pub named_items : NamedItems
unfolding names to_all meaning command_meaning
named_items id (reads named k) = (refl, refl)
named_items id (writes named k) = (refl, refl)
named_items id (excursion named) = (refl, refl)
named_items id (tick t room) = (refl, refl)
named_items id (command bytes given room) = by_naming (is_named (kind_of (command_in bytes))) (kind_of (command_in bytes)) (command_in bytes) given room id

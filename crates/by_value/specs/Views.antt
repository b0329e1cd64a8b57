-- The pages of the whole card, for the functions that make them from the table.
use Rattle.std.specs.Prelude.{◌≡◌, List, ℕ, ◌+◌, ◌*◌, length}
use Rattle.octets.specs.Pages.{puts}
use Rattle.record.specs.declared.Attributes.{Attributes}
use Rattle.pages.specs.Identify.{entry_size, first_entry, in_one_answer, entries_at}

-- the sets of one answer, put on a page from its first entry on: the page after them, and the next place
pub record ShowsAll (from : ℕ) (all : List Attributes) (page after : List ℕ) (next : ℕ) : Type 0 where
  pub place : next ≡ first_entry + entry_size * length (in_one_answer from all)
  pub entries : after ≡ puts page (entries_at first_entry (in_one_answer from all))

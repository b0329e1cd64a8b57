-- The words that stay in a row: those of the attributes and the configuration, and those of the notes.
use mathlib.Core.Path.{◌≡◌, sym, ap, ◌∙◌}
use mathlib.Core.Bool.{true}
use mathlib.Core.List.{List}
use Prim.Native.Nat.{ℕ}
use lib.ListN.{take, drop}
use Rattle.record.specs.declared.Record.{Record}
use Rattle.table.specs.Layout.{window_word, notes_word, words_of, record_of}
use Rattle.table.specs.Table.{legal_row}
use Rattle.table.proofs.Records.{row_of}

config_words : (r x : Record) → x.attributes ≡ r.attributes → x.state.config ≡ r.state.config → take window_word (words_of x) ≡ take window_word (words_of r)
unfolding words_of
config_words r x a c = rw (a, c)

notes_words : (r x : Record) → x.notes ≡ r.notes → drop notes_word (words_of x) ≡ drop notes_word (words_of r)
unfolding words_of
notes_words r x n = rw n

module _ (a : List ℕ) (x : Record) (h : legal_row a ≡ true) where
  own : words_of (record_of a) ≡ a
  own = sym (row_of a h).words

  pub config_stays : x.attributes ≡ (record_of a).attributes → x.state.config ≡ (record_of a).state.config → take window_word (words_of x) ≡ take window_word a
  config_stays e c = config_words (record_of a) x e c ∙ ap (take window_word) own

  pub notes_stay : x.notes ≡ (record_of a).notes → drop notes_word (words_of x) ≡ drop notes_word a
  notes_stay n = notes_words (record_of a) x n ∙ ap (drop notes_word) own

use Rattle.std.proofs.Common.{ℕ, length, ap, ◌∙◌}
use Rattle.streams.specs.Calls.{word_bytes}
use Rattle.streams.proofs.Words.{read_bytes}
use Rattle.streams.proofs.from_bytes.Goals as goal

pub returns-then-words-bytes : goal.returns-then-words-bytes
returns-then-words-bytes c =
    let a = c.args in
    λ room. ap word_bytes c.words_in.ensures ∙ read_bytes a.bytes.now (length a.words.now) (λ (i : ℕ). (c.type_inv.bytes i).fits) room

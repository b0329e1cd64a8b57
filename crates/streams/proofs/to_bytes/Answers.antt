use Rattle.std.proofs.Common.{◌*◌, length, take, ap, ◌∙◌}
use Rattle.octets.specs.Words.{word_size}
use Rattle.streams.proofs.Words.{put_bytes}
use Rattle.streams.proofs.to_bytes.Goals as goal

pub returns-then-words-bytes : goal.returns-then-words-bytes
returns-then-words-bytes c =
    let a = c.args in
    λ room. ap (take (length a.words.now * word_size)) c.words_out.ensures ∙ put_bytes a.words.now a.bytes.now room

-- From what `card` promises of a region's words, and of the bytes after them, to every byte of it.
use mathlib.Core.Path.{◌≡◌, ◌∙◌}
use mathlib.Core.List.{List}
use Prim.Native.Nat.{ℕ, ◌*◌, ◌/◌}
use lib.ListN.{length, drop}
use lib.Seq.{sets}
use Rattle.octets.specs.Octets.{AllBytes}
use Rattle.octets.specs.Words.{word_size}
use Rattle.replies.specs.declared.Reply.{Reply}
use Rattle.region.specs.Region.{table_in}
use Rattle.region.proofs.WrittenBack.{words_stored}
use Rattle.steps.specs.Items.{Item}
use Rattle.steps.specs.Words.{Answered}
use Rattle.steps.specs.SetUp.{SetUp}
use Rattle.card_c.specs.Entries.{reply_part, AnsweredAtC, SetUpAtC}

module _
    (region after : List ℕ) (each : AllBytes after) (long : length after ≡ length region)
    (rest : drop (length after / word_size * word_size) after ≡ drop (length region / word_size * word_size) region) where
  pub set_up_at_c : (bodies : List ℕ) (number : ℕ) → SetUp bodies (table_in region) (table_in after) number → SetUpAtC bodies region after number
  set_up_at_c bodies number u = record { table = words_stored region after each long rest _ u.table; status = u.status }

  pub answered_at_c :
      (i : Item) (before reply₀ : List ℕ) (r : Reply) (buffer said : List ℕ)
      → Answered (table_in region) i before r (table_in after) buffer → said ≡ sets reply₀ 0 (reply_part r.dword r.len r.notice (length reply₀))
      → AnsweredAtC region i before reply₀ r.status after buffer said
  answered_at_c i before reply₀ r buffer said a e =
      let p = a.reply in
      record {
        table = words_stored region after each long rest _ a.table;
        status = p.status;
        answer = p.buffer;
        within = rw p.len at p.within;
        part = rw p.len at p.part;
        reply = e ∙ rw (p.dword, p.len, a.notice);
      }

-- 01: "The C firmware calls the library through a handful of C functions on numbers and byte slices; there the table passes as
-- its words' little-endian bytes." What each of them promises, through the same step and the same set-up.
use Rattle.std.specs.Prelude.{◌≡◌, List, [], ◌∷◌, ℕ, ◌≤◌, min, length}
use Rattle.std.proofs.lemmas.List.Edits.{sets}
use Rattle.octets.specs.Octets.{padded}
use Rattle.octets.specs.Pages.{field, place}
use Rattle.region.specs.Region.{table_in, table_out}
use Rattle.replies.specs.Answers.{Notice, told_no, to_no, notice_no, cut}
use Rattle.steps.specs.Items.{Item}
use Rattle.steps.specs.Words.{step_words}
use Rattle.steps.specs.SetUp.{set_up}

-- set-up
pub record SetUpAtC (bodies region after : List ℕ) (number : ℕ) : Type 0 where
  pub table : after ≡ table_out region (set_up bodies (table_in region)).table
  pub status : number ≡ (set_up bodies (table_in region)).answer.status

-- ---- what an item's call says beside its status, in a region of its own

-- docs/DECISIONS.md, "A reply to C": dword 0 at bytes 3:0, the length of data at 7:4; 02's notice, "given beside the item's own answer with
-- the request's identifier": 1 at bytes 9:8 where there is one, the identifier at 11:10 and its dword 0 at 15:12, else zeros
abbrev pub reply_size : ℕ
reply_size = 16

-- where the notice begins, where its identifier and its dword 0 stand, and how many bytes it takes
abbrev pub notice_at : ℕ
notice_at = 8

abbrev pub notice_id_at : ℕ
notice_id_at = 10

abbrev pub notice_dword_at : ℕ
notice_dword_at = 12

abbrev pub notice_size : ℕ
notice_size = 8

unfoldable pub reply_page : ℕ → ℕ → Notice → List ℕ
reply_page dword len notice =
    place reply_size (field 0 4 dword ∷ field 4 4 len ∷ field notice_at 2 (told_no notice) ∷ field notice_id_at 2 (to_no notice) ∷ field notice_dword_at 4 (notice_no notice) ∷ [])

-- as many of them as the region has room for
abbrev pub reply_part : ℕ → ℕ → Notice → ℕ → List ℕ
reply_part dword len notice room = padded (reply_page dword len notice) 0 (min room reply_size)

-- Every item: the number returned, the region, and every byte of the answer buffer and of the reply. A media event has no answer
-- buffer: [] before and after.
pub record AnsweredAtC (region : List ℕ) (i : Item) (before reply₀ : List ℕ) (number : ℕ) (after buffer said : List ℕ) : Type 0 where
  pub table : after ≡ table_out region (step_words (table_in region) i).table
  pub status : number ≡ (step_words (table_in region) i).answer.status
  pub answer : buffer ≡ sets before 0 (step_words (table_in region) i).answer.bytes
  -- the data lies within the buffer, and these bytes are the data
  pub within : length (step_words (table_in region) i).answer.bytes ≤ length buffer
  pub part : cut buffer 0 (length (step_words (table_in region) i).answer.bytes) ≡ (step_words (table_in region) i).answer.bytes
  pub reply :
      said
      ≡ sets reply₀ 0 (reply_part (step_words (table_in region) i).answer.dword (length (step_words (table_in region) i).answer.bytes) (step_words (table_in region) i).notice (length reply₀))

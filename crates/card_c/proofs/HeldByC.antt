-- A region of bytes is a holder whose calls go by the step: the words that a step leaves are words, and are read again as they are.
use mathlib.Core.Path.{◌≡◌, refl, sym, ap, ◌∙◌}
use mathlib.Core.Bool.{true}
use mathlib.Core.List.{List, map}
use Prim.Native.Nat.{ℕ, zero, suc, ◌+◌, ◌/◌, ◌^◌, ◌<◌}
use native.Mathlib.Omega.{arith}
use borrow.Author.Tests.{leb-true}
use lib.Dec.{lit<, leb}
use lib.ListN.{length}
use lib.Seq.{sets}
use Rattle.octets.specs.Octets.{AllBytes}
use Rattle.octets.specs.Words.{word_size, AllWords}
use Rattle.octets.proofs.InPlace.{put_over}
use Rattle.octets.proofs.JoinedTests.{both}
use Rattle.octets.proofs.Reading.{read_below}
use Rattle.record.specs.Legal.{legal_record}
use Rattle.table.specs.Table.{max_sets, legal_sets, legal_table}
use Rattle.table.proofs.Written.{length_written}
use Rattle.table.proofs.WordsFit.{words_fit, AllFit, written_fit}
use Rattle.region.specs.Region.{table_in, table_out}
use Rattle.region.proofs.Words.{length_in, table_back, words_in}
use Rattle.pages.specs.Capacities.{low_half, high_half}
use Rattle.pages.specs.Bodies.{body_size, body_total, body_unallocated, attributes_in}
use Rattle.steps.specs.Items.{Item, GivenBytes}
use Rattle.steps.specs.Words.{step_words}
use Rattle.steps.specs.SetUp.{new_record, attributes_from, bodies, new_sets, new_card, new_table, set_up}
use Rattle.steps.specs.Holders.{Steps}
use Rattle.steps.proofs.StepOnWords.{step_legal}
use Rattle.steps.proofs.WordsStay.{words_stay}
use Rattle.steps.proofs.HeldHistories.{never_lost, demanded}
use Rattle.steps.proofs.HeldWords.{seen_within}
use Rattle.steps.proofs.NewSets.{well, new_length, legal_set_up, granted_table}
use Rattle.card_c.specs.Entries.{reply_size}
use Rattle.card_c.specs.HeldByC.{held_by_c, SetUpLegalAtC, ListingNeverLost, DemandAtC}
use Rattle.card_c.proofs.Replies.{notice_left_out, notice_heard}

-- what a step leaves is as long as what it found
step_long : (ws : List ℕ) (i : Item) → legal_table ws ≡ true → length (step_words ws i).table ≡ length ws
step_long ws i e = rw (step_legal ws i e) (length_written ws _)

step_in : (region : List ℕ) (i : Item) → legal_table (table_in region) ≡ true → AllBytes region → GivenBytes i
    → table_in (table_out region (step_words (table_in region) i).table) ≡ (step_words (table_in region) i).table
step_in region i e each g =
    table_back region _ (step_long (table_in region) i e ∙ length_in region) (words_stay (table_in region) i e (words_in region each) g)

c_steps : Steps held_by_c
c_steps =
    record {
      after = λ region l b after e u. u.2.table;
      words_after = λ region l b after e u. ap table_in u.2.table ∙ step_in region l.item e u.0 u.1;
      said = λ region l b after u i. record { number = u.2.status i; buffer = u.2.answer i; said = u.2.reply i };
      told = λ l a n. refl;
      seen = λ region l b after u at n h. seen_within b.buffer _ _ refl u.2.part at n h;
      left_out = λ l a n i.
          record {
            number = a.status;
            buffer = sets l.before 0 a.bytes;
            said = notice_left_out l.reply a.dword (length a.bytes) n i;
          };
      heard = λ l a n r s. notice_heard l.reply a.dword (length a.bytes) n (leb-true reply_size (length l.reply) r) s;
      put_over = λ region ws vs e. put_over ws vs region 0 e;
    }

pub demand_at_c : DemandAtC
demand_at_c = demanded held_by_c c_steps

pub listing_never_lost : ListingNeverLost
listing_never_lost = never_lost held_by_c c_steps

-- ---- set-up's words are words

new_fit : (bytes : List ℕ) → AllBytes bytes → (n at p : ℕ) → legal_sets p (map new_record (attributes_from bytes at n)) ≡ true → AllFit (map new_record (attributes_from bytes at n))
new_fit bytes each zero at p h = tt
new_fit bytes each (suc n) at p h =
    let a = attributes_in bytes at in
    let q = both _ (legal_sets a.id.0 (map new_record (attributes_from bytes (at + body_size) n))) h in (
      words_fit (new_record a) (both (legal_record (new_record a)) _ q.0).0 (record {
        total_low = read_below bytes each (at + (low_half body_total).at) 8;
        total_high = read_below bytes each (at + (high_half body_total).at) 8;
        unallocated_low = read_below bytes each (at + (low_half body_unallocated).at) 8;
        unallocated_high = read_below bytes each (at + (high_half body_unallocated).at) 8;
        reads = lit< tt;
        writes = lit< tt;
        time = lit< tt;
      }),
      new_fit bytes each n (at + body_size) a.id.0 q.1,
    )

pub set_up_legal_at_c : SetUpLegalAtC
unfolding new_sets
set_up_legal_at_c given region after number each every u z =
    let ws = table_in region in
    let s : (set_up given ws).answer.status ≡ 0 = sym u.status ∙ z in
    let g = granted_table given ws s in
    let w = well given (length ws) _ refl g.0 in
    let few : length (new_sets given) < 2 ^ 64 = omega (arith, new_length given, leb-true (bodies given) max_sets (both (leb 1 (bodies given)) _ w.range).1) in
    let fit : AllWords (new_table given ws) = written_fit ws (new_card given) (words_in region each) few (new_fit given every (bodies given) 0 0 w.legal) refl in
    let long : length (new_table given ws) ≡ length region / word_size = length_written ws (new_card given) ∙ length_in region in
    let back : table_in after ≡ (set_up given ws).table
    = ap table_in (u.table ∙ ap (table_out region) g.1) ∙ table_back region (new_table given ws) long fit ∙ sym g.1 in
    rw back (legal_set_up given ws s)

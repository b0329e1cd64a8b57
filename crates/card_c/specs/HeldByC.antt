-- Demand 3, "hands back" of demand 2, 02's notices and asking again, of the functions for C, called one after another on one region of
-- bytes:
-- crates/steps/specs/Holders.antt says what is demanded of any holder of a card, and here is this one.
-- A history is any list of calls, each lent the region that the one before has left, of which each function's promise holds
-- (`AnsweredAtC`, what a card_ function ensures). Beside it nothing is supposed but that bytes are bytes, as their type says.
-- Proved under its name, in snake case, in proofs/HeldByC.antt.
use Rattle.std.specs.Prelude.{◌≡◌, true, List, ℕ, ◌-◌, min, leb, length, replicate}
use Rattle.std.proofs.lemmas.List.Edits.{sets}
use Rattle.octets.specs.Octets.{number_of, part, AllBytes}
use Rattle.replies.specs.Answers.{Notice, notice_of}
use Rattle.table.specs.Table.{card_of, legal_table}
use Rattle.region.specs.Region.{table_in, table_out}
use Rattle.steps.specs.Items.{Item, GivenBytes}
use Rattle.steps.specs.SetUp.{new_card}
use Rattle.steps.specs.Holders.{Holder, Demanded, NeverLost}
use Rattle.card_c.specs.Entries.{SetUpAtC, AnsweredAtC, reply_size, notice_at, notice_id_at, notice_size, reply_part}

-- what a call is lent beside the region: the item, the answer buffer, and the region for its reply
pub record LentByC : Type 0 where
  pub item : Item
  pub before : List ℕ
  pub reply : List ℕ

-- the number that it returns, and what the answer buffer and the reply hold then
pub record BackToC : Type 0 where
  pub number : ℕ
  pub buffer : List ℕ
  pub said : List ℕ

-- a reply with no notice: zeros from byte 8 on, as far as it reaches; and the notice that stands there
abbrev pub silenced : List ℕ → List ℕ
silenced said = sets said notice_at (replicate (min (length said - notice_at) notice_size) 0)

abbrev pub notice_in : List ℕ → Notice
notice_in said = notice_of (number_of (part said notice_at 2)) (number_of (part said notice_id_at 2))

abbrev pub held_by_c : Holder
held_by_c =
    record {
      Held = List ℕ;
      Lent = LentByC;
      Back = BackToC;
      words = table_in;
      with_words = table_out;
      item = λ l. l.item;
      shows = λ l a n.
          record {
            number = a.status;
            buffer = sets l.before 0 a.bytes;
            said = sets l.reply 0 (reply_part a.dword (length a.bytes) n (length l.reply));
          };
      status = λ b. b.number;
      came = λ b. b.buffer;
      without = λ b. record { number = b.number; buffer = b.buffer; said = silenced b.said };
      notice = λ b. notice_in b.said;
      hears = λ l. leb reply_size (length l.reply);
      Call = λ region l b after.
          AllBytes region × GivenBytes l.item
          × AnsweredAtC region l.item l.before l.reply b.number after b.buffer b.said;
    }

-- "Start from any legal table": set-up that succeeds leaves one, which holds the new sets; 02: notices off, no mask, no flag, none waiting
abbrev pub SetUpLegalAtC : Type 0
SetUpLegalAtC =
    (bodies region after : List ℕ) (number : ℕ) → AllBytes region → AllBytes bodies → SetUpAtC bodies region after number → number ≡ 0
    → (legal_table (table_in after) ≡ true) × (card_of (table_in after) ≡ new_card bodies)

-- The listing of one set is never lost to another: a set that is listed stays so, whatever C functions are called that do not name
-- it, and a read of page 0Bh then lists it (`AggregateBack` of the next).
abbrev pub ListingNeverLost : Type 0
ListingNeverLost = NeverLost held_by_c

-- All of it: own record, own answers, the aggregate log exact and rising, swapping with not one byte of the table changed, "What Set
-- Features stores, Get Features hands back.", what 02 promises of notices, read from the reply's bytes, and that a host which asks
-- Identify again has each set once, read from the answer buffer's.
abbrev pub DemandAtC : Type 0
DemandAtC = Demanded held_by_c

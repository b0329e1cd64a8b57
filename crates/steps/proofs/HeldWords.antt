-- The lent words are a holder whose calls go by the step, with a reply and where the written part is handed back.
use mathlib.Core.Path.{◌≡◌, refl, sym, ap, ◌∙◌}
use mathlib.Core.List.{List}
use Prim.Native.Nat.{ℕ, ◌+◌, ◌≤◌}
use native.Mathlib.Omega.{arith}
use native.Mathlib.Nat.{sub-zero}
use lib.ListN.{length}
use Rattle.octets.specs.Octets.{part}
use Rattle.octets.proofs.Reading.{within_take}
use Rattle.replies.specs.Answers.{Notice, told_no, to_no, notice_of, cut}
use Rattle.std.specs.Prelude.{None, Some}
use Rattle.steps.specs.Holders.{held_words, WordsDemand, held_part, PartDemand, Steps}
use Rattle.steps.proofs.HeldHistories.{demanded}

-- a part of the data is one of the buffer that begins with it
pub seen_within : (buffer : List ℕ) (len : ℕ) (bytes : List ℕ) → len ≡ length bytes → cut buffer 0 len ≡ bytes
    → (at n : ℕ) → at + n ≤ length bytes → part buffer at n ≡ part bytes at n
seen_within buffer len bytes e p at n h = sym (within_take at n len buffer (omega arith)) ∙ ap (λ (x : List ℕ). part x at n) (rw sub-zero at p)

words_steps : Steps held_words
words_steps =
    record {
      after = λ ws l b vs e u. u.table;
      words_after = λ ws l b vs e u. u.table;
      said = λ ws l b vs u i.
          record {
            reply = record { status = u.reply.status i; dword = u.reply.dword i; len = u.reply.len i; notice = u.notice i };
            buffer = u.reply.buffer i;
          };
      told = λ l a n. refl;
      seen = λ ws l b vs u at n h. seen_within b.buffer b.reply.len _ u.reply.len u.reply.part at n h;
      left_out = λ l a n. refl;
      heard = λ l a n r s. refl;
      put_over = λ h ws vs e. refl;
    }

pub words_demand : WordsDemand
words_demand = demanded held_words words_steps

pub notice_back : (n : Notice) → notice_of (told_no n) (to_no n) ≡ n
notice_back None = refl
notice_back (Some id) = refl

part_steps : Steps held_part
part_steps =
    record {
      after = λ ws l b vs e u. u.table;
      words_after = λ ws l b vs e u. u.table;
      said = λ ws l b vs u i. record { status = u.status_is i; dword = u.dword_is i; told = u.told_is i; to = u.to_is i; part = u.part_is i };
      told = λ l a n. refl;
      seen = λ ws l b vs u at n h. ap (λ (x : List ℕ). part x at n) u.part_is;
      left_out = λ l a n. refl;
      heard = λ l a n r s. notice_back n;
      put_over = λ h ws vs e. refl;
    }

pub part_demand : PartDemand
part_demand = demanded held_part part_steps

-- What a status and a buffer say together, over plain variables.
use mathlib.Core.Path.{◌≡◌, refl, sym, ap, ◌∙◌}
use mathlib.Core.List.{List, []}
use Prim.Native.Nat.{ℕ, zero, suc, ◌≤◌}
use native.Mathlib.Nat.{sub-zero}
use native.Mathlib.Omega.{arith}
use borrow.Author.Tests.{eq-eqb, ne_eqb}
use lib.ListN.{length}
use lib.Seq.{sets, length-sets}
use Rattle.octets.specs.Octets.{padded}
use Rattle.octets.proofs.Runs.{part_same}
use Rattle.replies.specs.declared.Reply.{Reply}
use Rattle.replies.specs.Answers.{Notice, Answer, saying, answered, granted, refused, giving, replying, beside_of, Replied}
use Rattle.replies.specs.Answers as answers

pub length_padded : (l : List ℕ) (at n : ℕ) → length (padded l at n) ≡ n
length_padded l at zero = refl
length_padded l at (suc n) = ap suc (length_padded l (suc at) n)

-- a refusal writes nothing
pub refusing : (s w : ℕ) (d before : List ℕ) → (s ≡ 0 → ⊥) → Replied (answered s w d) before (answers.refusing s) before
refusing s w d before n =
    rw (ne_eqb s 0 n) (record { status = refl; dword = refl; len = refl; within = omega arith; buffer = refl; part = refl })

-- a success writes the data at the buffer's start
pub granting :
    (n w : ℕ) (d before after : List ℕ) → n ≡ length d → n ≤ length before → after ≡ sets before 0 d
    → Replied (granted w d) before (giving w n) after
granting n w d before after l f b =
    record {
      status = refl;
      dword = refl;
      len = l;
      within = omega (arith, ap length b ∙ length-sets before 0 d);
      buffer = b;
      part = rw (b, sub-zero) (part_same d before 0 n (sym l) (omega arith));
    }

pub handing :
    (s n w : ℕ) (d before after : List ℕ) → s ≡ 0 → n ≡ length d → n ≤ length before → after ≡ sets before 0 d
    → Replied (answered s w d) before (giving w n) after
handing s n w d before after e l f b = rw (eq-eqb s 0 e) (granting n w d before after l f b)

-- an answer and a notice beside it allow one reply, and one buffer
pub one_outcome :
    (a : Answer) (before x y : List ℕ) (r q : Reply) → Replied a before r x → Replied a before q y → r.notice ≡ q.notice
    → (r ≡ q) × (x ≡ y)
one_outcome a before x y r q h k n =
    let e : replying r.status r.dword r.len r.notice ≡ replying q.status q.dword q.len q.notice
    = rw (h.status, h.dword, h.len, k.status, k.dword, k.len, n) in
    (e, h.buffer ∙ sym k.buffer)

-- what is put beside a reply leaves all else of it
pub with_notice : (a : Answer) (before after : List ℕ) (r : Reply) (n : Notice) → Replied a before r after → Replied a before (beside_of r n) after
with_notice a before after r n h =
    record { status = h.status; dword = h.dword; len = h.len; within = h.within; buffer = h.buffer; part = h.part }

-- the reply to a refusal, by itself
pub refused_reply : (s : ℕ) (before : List ℕ) → Replied (refused s) before (answers.refusing s) before
refused_reply s before = record { status = refl; dword = refl; len = refl; within = omega arith; buffer = refl; part = refl }

-- and to a success without data
pub no_data : (w : ℕ) (before : List ℕ) → Replied (granted w []) before (giving w 0) before
no_data w before = record { status = refl; dword = refl; len = refl; within = omega arith; buffer = refl; part = refl }

-- and to what is carried out with another number, without data
pub waits_reply : (s : ℕ) (before : List ℕ) (n : Notice) → Replied (saying s 0 []) before (replying s 0 0 n) before
waits_reply s before n = record { status = refl; dword = refl; len = refl; within = omega arith; buffer = refl; part = refl }

-- The words of a record, and how much of each legal word its field holds: all of it.
use mathlib.Core.Path.{◌≡◌, refl, sym, ap, ◌∙◌}
use mathlib.Core.Bool.{Bool, true, false, not, ◌&&◌, ◌||◌, and_assoc}
use mathlib.Core.List.{List}
use Prim.Native.Nat.{ℕ, ◌%◌, ◌^◌, ◌≤◌}
use native.Mathlib.Omega.{arith}
use native.Mathlib.Nat.{mod-eq_of_lt}
use borrow.Author.Tests.{leb-true, ltb-true, eqb-true, eq-eqb, ne_eqb}
use lib.Dec.{leb, ltb, eqb}
use Rattle.octets.proofs.JoinedTests.{and_left, and_right, both}
use Rattle.record.specs.declared.Window.{Window}
use Rattle.record.specs.declared.Window.TheVariants.{Off, D, N}
use Rattle.record.specs.declared.Events.{Events}
use Rattle.record.specs.declared.Record.{Record}
use Rattle.record.specs.Windows.{by_window, window_no}
use Rattle.record.specs.Event.{bit, bits_of, events_of, some_event}
use Rattle.record.specs.Legal.{number_maximum, four_bytes_maximum, typical_maximum, day_ms, legal_record}
use Rattle.record.proofs.EventBits.{events_back, masked}
use Rattle.table.specs.Layout.{words_of}
use Rattle.table.specs.LegalWords.{word, statics_legal, in_d, in_n, within_bits, zero_outside, changing_legal, notes_legal, words_legal}

-- ---- the words of a record are legal exactly where the record is

bits_within : (e : Events) → within_bits (bits_of e) ≡ true
bits_within e = eq-eqb _ _ (ap bits_of (sym (events_back e)) ∙ masked (bits_of e))

-- of tests that must all hold, m may as well be asked last
last_first : (x m l h : Bool) → x && m && (l && h) ≡ x && (l && h && m)
last_first true true true true = refl
last_first true true true false = refl
last_first true true false h = refl
last_first true false true true = refl
last_first true false true false = refl
last_first true false false h = refl
last_first false m l h = refl

changing_words :
    (w : Window) (b : Bool) (r o t m n reads writes time high low : ℕ) → b ≡ true
    → b && leb (window_no w) 2
    && zero_outside (eqb (window_no w) 1) (leb r reads) r
    && zero_outside (eqb (window_no w) 1) (leb o writes) o
    && zero_outside (eqb (window_no w) 1) (ltb t time) t
    && zero_outside (eqb (window_no w) 2) (leb m n) m
    && zero_outside (eqb (window_no w) 2) (leb low n && leb n high) n
    ≡ by_window w
    (eqb r 0 && eqb o 0 && eqb t 0 && (eqb m 0 && eqb n 0))
    (leb r reads && leb o writes && ltb t time && (eqb m 0 && eqb n 0))
    (eqb r 0 && eqb o 0 && eqb t 0 && (leb low n && leb n high && leb m n))
changing_words Off b r o t m n reads writes time high low h = rw h (and_assoc (eqb r 0 && eqb o 0 && eqb t 0) (eqb m 0) (eqb n 0))
changing_words D b r o t m n reads writes time high low h = rw h (and_assoc (leb r reads && leb o writes && ltb t time) (eqb m 0) (eqb n 0))
changing_words N b r o t m n reads writes time high low h = rw h (last_first (eqb r 0 && eqb o 0 && eqb t 0) (leb m n) (leb low n) (leb n high))

some_of : (i o t x y : Bool) → not (eqb (bits_of (events_of i o t x y)) 0) ≡ some_event (events_of i o t x y)
some_of true o t x y = rw (ne_eqb (bits_of (events_of true o t x y)) 0 (λ z. omega arith))
some_of false true t x y = rw (ne_eqb (bits_of (events_of false true t x y)) 0 (λ z. omega arith))
some_of false false true x y = rw (ne_eqb (bits_of (events_of false false true x y)) 0 (λ z. omega arith))
some_of false false false true y = rw (ne_eqb (bits_of (events_of false false false true y)) 0 (λ z. omega arith))
some_of false false false false true = refl
some_of false false false false false = refl

some_bits : (e : Events) → not (eqb (bits_of e) 0) ≡ some_event e
some_bits e = some_of e.reads e.writes e.time e.exceeded e.excursion

mark_words : (listed b : Bool) → eqb (bit listed) 0 || (eqb (bit listed) 1 && b) ≡ not listed || b
mark_words true b = refl
mark_words false b = refl

pub words_of_record : (r : Record) → words_legal (words_of r) ≡ legal_record r
unfolding words_of
words_of_record r =
    let a = r.attributes in
    let s = r.state in
    rw (
      changing_words s.window _ s.spent.reads s.spent.writes s.spent.time s.recovery.time s.recovery.need _ _ _ _ _ (bits_within s.config.enabled),
      bits_within r.notes.events,
      some_bits r.notes.events,
      mark_words r.notes.listed (some_event r.notes.events),
    )

-- ---- and a field holds all of a legal word

-- each word is no more than its field holds
record Statics (a : List ℕ) : Type 0 where
  id : word a 0 ≤ number_maximum
  group : word a 1 ≤ number_maximum
  random : word a 2 ≤ four_bytes_maximum
  optimal : word a 3 ≤ four_bytes_maximum
  reads : word a 8 ≤ typical_maximum
  writes : word a 9 ≤ typical_maximum
  time : word a 10 ≤ day_ms
  high : word a 11 ≤ day_ms
  low : word a 12 ≤ day_ms

statics : (a : List ℕ) → statics_legal a ≡ true → Statics a
statics a h =
    record {
      id = search (and_left, and_right, leb-true) depth 16;
      group = search (and_left, and_right, leb-true) depth 16;
      random = search (and_left, and_right, leb-true) depth 16;
      optimal = search (and_left, and_right, leb-true) depth 16;
      reads = search (and_left, and_right, leb-true) depth 16;
      writes = search (and_left, and_right, leb-true) depth 16;
      time = search (and_left, and_right, leb-true) depth 16;
      high = search (and_left, and_right, leb-true) depth 16;
      low = search (and_left, and_right, leb-true) depth 16;
    }

-- so N time and the need are at most high, in N and outside it
recovery_small : (here : Bool) (m n low high : ℕ) → zero_outside here (leb m n) m ≡ true → zero_outside here (leb low n && leb n high) n ≡ true → (m ≤ high) × (n ≤ high)
recovery_small true m n low high h k = let t = leb-true m n h in let l = leb-true n high (and_right (leb low n) (leb n high) k) in (omega arith, l)
recovery_small false m n low high h k = let z = eqb-true m 0 h in let y = eqb-true n 0 k in (omega arith, omega arith)

-- a count that is within its limit in one window, and zero outside it, is within it anyway
within : (here b : Bool) (x most : ℕ) → (b ≡ true → x ≤ most) → zero_outside here b x ≡ true → x ≤ most
within true b x most f h = f h
within false b x most f h = let z = eqb-true x 0 h in omega arith

pub record Changing (a : List ℕ) : Type 0 where
  pub enev : within_bits (word a 13) ≡ true
  pub window : word a 17 ≤ 2
  reads : word a 18 ≤ word a 8
  writes : word a 19 ≤ word a 9
  time : word a 20 ≤ word a 10
  recovery : word a 21 ≤ word a 11
  need : word a 22 ≤ word a 11

pub changing : (a : List ℕ) → changing_legal a ≡ true → Changing a
changing a h =
    let w = recovery_small (in_n a) (word a 21) (word a 22) (word a 12) (word a 11) (search (and_left, and_right) depth 16) (search (and_left, and_right) depth 16) in
    record {
      enev = search (and_left, and_right) depth 16;
      window = search (and_left, and_right, leb-true) depth 16;
      reads = within (in_d a) _ _ _ (leb-true _ _) (search (and_left, and_right) depth 16);
      writes = within (in_d a) _ _ _ (leb-true _ _) (search (and_left, and_right) depth 16);
      time = within (in_d a) _ _ _ (λ e. let l = ltb-true (word a 20) (word a 10) e in omega arith) (search (and_left, and_right) depth 16);
      recovery = w.0;
      need = w.1;
    }

-- word k is what so many bits hold of it
abbrev Whole : List ℕ → ℕ → ℕ → Type 0
Whole a k bits = word a k % 2 ^ bits ≡ word a k

pub record Held (a : List ℕ) : Type 0 where
  pub id : Whole a 0 16
  pub group : Whole a 1 16
  pub random : Whole a 2 32
  pub optimal : Whole a 3 32
  pub reads_typical : Whole a 8 32
  pub writes_typical : Whole a 9 32
  pub time_maximum : Whole a 10 32
  pub high : Whole a 11 32
  pub low : Whole a 12 32
  pub reads : Whole a 18 32
  pub writes : Whole a 19 32
  pub time : Whole a 20 32
  pub recovery : Whole a 21 32
  pub need : Whole a 22 32

pub held : (a : List ℕ) → words_legal a ≡ true → Held a
held a h =
    let p = both (statics_legal a) (changing_legal a) (and_left _ (notes_legal a) h) in
    let s = statics a p.0 in
    let c = changing a p.1 in
    record {
      id = mod-eq_of_lt (omega (arith, s.id));
      group = mod-eq_of_lt (omega (arith, s.group));
      random = mod-eq_of_lt (omega (arith, s.random));
      optimal = mod-eq_of_lt (omega (arith, s.optimal));
      reads_typical = mod-eq_of_lt (omega (arith, s.reads));
      writes_typical = mod-eq_of_lt (omega (arith, s.writes));
      time_maximum = mod-eq_of_lt (omega (arith, s.time));
      high = mod-eq_of_lt (omega (arith, s.high));
      low = mod-eq_of_lt (omega (arith, s.low));
      reads = mod-eq_of_lt (omega (arith, s.reads, c.reads));
      writes = mod-eq_of_lt (omega (arith, s.writes, c.writes));
      time = mod-eq_of_lt (omega (arith, s.time, c.time));
      recovery = mod-eq_of_lt (omega (arith, s.high, c.recovery));
      need = mod-eq_of_lt (omega (arith, s.high, c.need));
    }

-- What is laid out is read back.
use mathlib.Core.Path.{◌≡◌, refl, sym, ap, ◌∙◌}
use mathlib.Core.Bool.{Bool, true, false}
use mathlib.Core.List.{List, [], ◌∷◌, ◌++◌}
use Prim.Native.Nat.{ℕ, zero, suc, ◌+◌, ◌-◌, ◌%◌, ◌^◌, ◌≤◌, ◌<◌}
use native.Mathlib.Nat.{zero-add, mod-eq_of_lt}
use native.Mathlib.Omega.{arith}
use lib.Dec.{lit<}
use lib.ListN.{length, get_or, take, drop, replicate, length-append, length-take, length-drop, length-replicate}
use lib.Seq.{sets, length-sets, sets-eq, take-append-add, take-add, drop-drop}
use borrow.Author.Tests.{leb-true}
use Rattle.std.specs.Prelude.{if◌then◌else◌}
use Rattle.octets.specs.Octets.{bytes_of, number_of, part, AllBytes}
use Rattle.octets.specs.declared.Place.{Place}
use Rattle.octets.specs.Pages.{read_at, fields_at, puts, Fit, readings, values}
use Rattle.octets.proofs.JoinedTests.{and_left, and_right}
use Rattle.octets.proofs.Runs.{drop_sets, sets_join}
use Rattle.octets.proofs.Below.{part_below}
use Rattle.octets.proofs.WordBytes.{bytes_number}
use Rattle.octets.proofs.Pages.{placed, read_back, length_place}
use Rattle.record.specs.declared.Attributes.{Attributes}
use Rattle.record.specs.declared.Events.{Events}
use Rattle.record.specs.declared.Config.{Config}
use Rattle.record.specs.declared.Window.{Window}
use Rattle.record.specs.declared.Window.TheVariants.{Off, D, N}
use Rattle.record.specs.declared.Quantity.{Quantity}
use Rattle.record.specs.declared.Quantity.TheVariants.{Reads, Writes, Time}
use Rattle.record.specs.declared.State.{State}
use Rattle.record.specs.declared.Record.{Record}
use Rattle.record.specs.Quantities.{limit, spent_of, need_met}
use Rattle.record.specs.Parts.{config_of}
use Rattle.record.specs.Windows.{by_window, window_no}
use Rattle.record.specs.Legal.{typical_maximum, day_ms, legal_attributes}
use Rattle.record.specs.Event.{bit, bits_of, events_in, estimate}
use Rattle.record.proofs.EventBits.{events_back, masked}
use Rattle.octets.specs.Numbers.{number_at}
use Rattle.pages.specs.Capacities.{low_half, high_half}
use Rattle.pages.specs.Bodies.{body_size, body_id, body_group, body_random_read, body_optimal_write, body_total, body_unallocated, body_reads, body_writes, body_time, body_high, body_low, body_fields, body, attributes_in, kept_of, Sized}
use Rattle.pages.specs.Latency.{latency_size, latency_fields, latency_page}
use Rattle.pages.specs.Features.{feature_size, config_enabled, config_reads, config_writes, config_time, config_places, config_fields, config_page, config_in, handed_back, DataBack, Words}
use Rattle.octets.proofs.Reading.{read_below, number_within}

-- ---- set-up bodies

-- attributes by the list of a body's numbers
abbrev attributes_of : List ℕ → Attributes
attributes_of l =
    record {
      id = record { 0 = get_or l 0 0 };
      group = record { 0 = get_or l 1 0 };
      random_read_typical = get_or l 2 0;
      optimal_write_size = get_or l 3 0;
      total = record { low = get_or l 4 0; high = get_or l 5 0 };
      unallocated = record { low = get_or l 6 0; high = get_or l 7 0 };
      reads_typical = get_or l 8 0;
      writes_typical = get_or l 9 0;
      time_maximum = get_or l 10 0;
      minimum_high = get_or l 11 0;
      minimum_low = get_or l 12 0;
    }

-- what fits four bytes fits eight
wide : (x : ℕ) → x < 2 ^ 32 → x < 2 ^ 64
wide x h = omega (arith, h)

sized_fit : (a : Attributes) → Sized a → Fit (body_fields a)
sized_fit a s = (
  s.id,
  (
    s.group,
    (
      s.random_read_typical,
      (
        s.optimal_write_size,
        (
          s.total_low,
          (
            s.total_high,
            (
              s.unallocated_low,
              (
                s.unallocated_high,
                (wide _ s.reads_typical, (wide _ s.writes_typical, (wide _ s.time_maximum, (wide _ s.minimum_high, (wide _ s.minimum_low, tt))))),
              ),
            ),
          ),
        ),
      ),
    ),
  ),
)

-- a body's attributes are those that it was made of
pub body_back : (a : Attributes) → Sized a → attributes_in (body a) 0 ≡ a
unfolding body
body_back a s = ap attributes_of (read_back body_size (body_fields a) refl (sized_fit a s))

-- attributes are read from a body's bytes alone
module _ (l : List ℕ) (at : ℕ) where
  there : (p : Place) → p.at + p.width ≤ body_size → read_at (part l at body_size) 0 p ≡ read_at l at p
  there p h = ap (λ (k : ℕ). number_at (part l at body_size) k p.width) (zero-add p.at) ∙ number_within l at body_size p.at p.width h

  pub body_alone : attributes_in (part l at body_size) 0 ≡ attributes_in l at
  body_alone =
      rw (
        there body_id (omega arith),
        there body_group (omega arith),
        there body_random_read (omega arith),
        there body_optimal_write (omega arith),
        there (low_half body_total) (omega arith),
        there (high_half body_total) (omega arith),
        there (low_half body_unallocated) (omega arith),
        there (high_half body_unallocated) (omega arith),
        there body_reads (omega arith),
        there body_writes (omega arith),
        there body_time (omega arith),
        there body_high (omega arith),
        there body_low (omega arith),
      )

pub body_length : (a : Attributes) → length (body a) ≡ body_size
unfolding body
body_length a = length_place body_size (body_fields a)

-- ---- what code keeps of attributes in range is all of them

-- what legality says of the limits
record Limits (a : Attributes) : Type 0 where
  reads : a.reads_typical ≤ typical_maximum
  writes : a.writes_typical ≤ typical_maximum
  time : a.time_maximum ≤ day_ms
  high : a.minimum_high ≤ day_ms
  low : a.minimum_low ≤ day_ms

limits : (a : Attributes) → legal_attributes a ≡ true → Limits a
limits a h =
    record {
      reads = search (and_left, and_right, leb-true) depth 12;
      writes = search (and_left, and_right, leb-true) depth 12;
      time = search (and_left, and_right, leb-true) depth 12;
      high = search (and_left, and_right, leb-true) depth 12;
      low = search (and_left, and_right, leb-true) depth 12;
    }

kept : (x most : ℕ) → x ≤ most → most < 2 ^ 32 → x % 2 ^ 32 ≡ x
kept x most h l = mod-eq_of_lt (omega (arith, h, l))

pub kept_whole : (a : Attributes) → legal_attributes a ≡ true → kept_of a ≡ a
kept_whole a h =
    let l = limits a h in
    rw (
      kept a.reads_typical _ l.reads (omega arith),
      kept a.writes_typical _ l.writes (omega arith),
      kept a.time_maximum _ l.time (omega arith),
      kept a.minimum_high _ l.high (omega arith),
      kept a.minimum_low _ l.low (omega arith),
    )

-- ---- the data of feature 13h

-- a configuration by the list of its page's numbers
abbrev config_by : List ℕ → Config
config_by l = config_of (events_in (get_or l 0 0)) (get_or l 1 0) (get_or l 2 0) (get_or l 3 0)

bit_small : (b : Bool) → bit b ≤ 1
bit_small true = omega arith
bit_small false = omega arith

-- event bits take two bytes
pub bits_small : (e : Events) → bits_of e < 2 ^ 16
bits_small e =
    omega (arith, bit_small e.reads, bit_small e.writes, bit_small e.time, bit_small e.exceeded, bit_small e.excursion)

-- what Set Features stores, Get Features hands back
pub config_back : (c : Config) → Words c.thresholds → config_in (config_page c) ≡ c
unfolding config_page
config_back c w =
    rw (events_back c.enabled) at
    (ap config_by (read_back feature_size (config_fields c) refl (bits_small c.enabled, (w.reads, (w.writes, (w.time, tt))))))

-- what is read from bytes fits
pub read_words : (bytes : List ℕ) → AllBytes bytes → Words (config_in bytes).thresholds
read_words bytes each =
    record {
      reads = read_below bytes each config_reads.at config_reads.width;
      writes = read_below bytes each config_writes.at config_writes.width;
      time = read_below bytes each config_time.at config_time.width;
    }

-- ---- from data in to data out

-- of a page, two runs that are put on it
two_runs : (z b q : List ℕ) (gap : ℕ) → length b + gap + length q ≤ length z
    → sets (sets z 0 b) (length b + gap) q ≡ b ++ take gap (drop (length b) z) ++ q ++ drop (length b + gap + length q) z
two_runs z b q gap h =
    let front : sets z 0 b ≡ b ++ drop (length b) z = sets-eq b z 0 (omega arith) ∙ rw zero-add in
    let start : take (length b + gap) (sets z 0 b) ≡ b ++ take gap (drop (length b) z) = rw front (take-append-add b (drop (length b) z) gap) in
    sets-eq q (sets z 0 b) (length b + gap) (omega (arith, length-sets z 0 b))
    ∙ rw (start, drop_sets b z 0 (length b + gap + length q) (omega arith))

-- three parts that follow one another are one
three_parts : (l : List ℕ) (at n : ℕ) → (part l at n ++ part l (at + n) n) ++ part l (at + n + n) n ≡ part l at (n + n + n)
three_parts l at n =
    let e : at + (n + n) ≡ at + n + n = omega arith in
    rw (take-add (n + n) n (drop at l), take-add n n (drop at l), drop-drop (n + n) at l, drop-drop n at l, e)

-- the fields of the data put on a page
put_config : (z given : List ℕ) (enabled : ℕ) → length z ≡ feature_size → AllBytes given → feature_size ≤ length given
    → puts z (fields_at config_places (enabled ∷ read_at given 0 config_reads ∷ read_at given 0 config_writes ∷ read_at given 0 config_time ∷ []))
    ≡ bytes_of 2 enabled ++ take 30 (drop 2 z) ++ part given 32 24 ++ drop 56 z
put_config z given enabled long each room =
    let y : List ℕ = sets z 0 (bytes_of 2 enabled) in
    let long-at : (at : ℕ) → at + 8 ≤ feature_size → length (part given at 8) ≡ 8 = λ at h. simp (length-take, length-drop) (omega arith) in
    let own-bytes : ℕ → List ℕ = λ at. bytes_of 8 (number_of (part given at 8)) in
    let own : (at : ℕ) → at + 8 ≤ feature_size → bytes_of 8 (number_of (part given at 8)) ≡ part given at 8
    = λ at h. bytes_number (part given at 8) 8 (long-at at h) (part_below 256 (lit< tt) given at 8 each) in
    let join-at : (k : ℕ) (xs ys : List ℕ) → k ≡ 32 + length xs → sets (sets y 32 xs) k ys ≡ sets y 32 (xs ++ ys) = λ k xs ys e. rw e (sets_join xs ys y 32) in
    let joined : sets (sets (sets y 32 (part given 32 8)) 40 (part given 40 8)) 48 (part given 48 8) ≡ sets y 32 (part given 32 24)
    = ap (λ (l : List ℕ). sets l 48 (part given 48 8)) (join-at 40 (part given 32 8) (part given 40 8) (omega (arith, long-at 32 (omega arith))))
    ∙ join-at 48 (part given 32 8 ++ part given 40 8) (part given 48 8)
    (omega (arith, length-append (part given 32 8) (part given 40 8), long-at 32 (omega arith), long-at 40 (omega arith)))
    ∙ ap (sets y 32) (three_parts given 32 8) in
    let whole : length (part given 32 24) ≡ 24 = simp (length-take, length-drop) (omega arith) in
    let with-parts : List ℕ → List ℕ → List ℕ → List ℕ = λ r w t. sets (sets (sets y 32 r) 40 w) 48 t in
    ap (λ (r : List ℕ). with-parts r (own-bytes 40) (own-bytes 48)) (own 32 (omega arith))
    ∙ ap (λ (w : List ℕ). with-parts (part given 32 8) w (own-bytes 48)) (own 40 (omega arith))
    ∙ ap (with-parts (part given 32 8) (part given 40 8)) (own 48 (omega arith))
    ∙ joined
    ∙ two_runs z (bytes_of 2 enabled) (part given 32 24) 30 (omega (arith, whole))
    ∙ ap (λ (n : ℕ). bytes_of 2 enabled ++ take 30 (drop 2 z) ++ part given 32 24 ++ drop (32 + n) z) whole

abbrev zeros : ℕ → List ℕ
zeros n = replicate n 0

drop_zeros : (n m : ℕ) → drop n (zeros (n + m)) ≡ zeros m
drop_zeros zero m = ap zeros (zero-add m)
drop_zeros (suc n) m = let e : suc n + m ≡ suc (n + m) = omega arith in rw e (drop_zeros n m)

take_zeros : (n m : ℕ) → take n (zeros (n + m)) ≡ zeros n
take_zeros zero m = refl
take_zeros (suc n) m = let e : suc n + m ≡ suc (n + m) = omega arith in rw (e, take_zeros n m)

pub data_back : DataBack
unfolding config_page handed_back
data_back given each room =
    let between : take 30 (drop 2 (zeros feature_size)) ≡ zeros 30 = ap (take 30) (drop_zeros 2 510) ∙ take_zeros 30 480 in
    sym (placed feature_size (config_fields (config_in given)))
    ∙ put_config (zeros feature_size) given (bits_of (config_in given).enabled) (length-replicate {A = ℕ} feature_size 0) each room
    ∙ ap (λ (l : List ℕ). bytes_of 2 (bits_of (config_in given).enabled) ++ l ++ part given 32 24 ++ drop 56 (zeros feature_size)) between
    ∙ ap (λ (l : List ℕ). bytes_of 2 (bits_of (config_in given).enabled) ++ zeros 30 ++ part given 32 24 ++ l) (drop_zeros 56 456)
    ∙ ap (λ (n : ℕ). bytes_of 2 n ++ zeros 30 ++ part given 32 24 ++ zeros 456) (masked (read_at given 0 config_enabled))

-- ---- log page 0Ah

window_small : (w : Window) → window_no w < 2 ^ 8
window_small Off = omega arith
window_small D = omega arith
window_small N = omega arith

left_below : (w : Window) (most n : ℕ) (b : Bool) → by_window w 0 (most - n) (if b then most else 0) ≤ most
left_below Off most n b = omega arith
left_below D most n b = omega arith
left_below N most n true = omega arith
left_below N most n false = omega arith

-- an estimate is at most the quantity's limit
pub estimate_below : (q : Quantity) (a : Attributes) (s : State) → estimate q a s ≤ limit q a
estimate_below q a s = left_below s.window (limit q a) (spent_of q s.spent) (need_met s.recovery)

-- what page 0Ah shows of a legal record fits its places
pub latency_fit : (r : Record) → legal_attributes r.attributes ≡ true → Fit (latency_fields r)
latency_fit r h =
    let a = r.attributes in
    let l = limits a h in
    let reads : estimate Reads a r.state < 2 ^ 64 = omega (arith, estimate_below Reads a r.state) in
    let writes : estimate Writes a r.state < 2 ^ 64 = omega (arith, estimate_below Writes a r.state) in
    let time : estimate Time a r.state < 2 ^ 64 = omega (arith, estimate_below Time a r.state) in
    (window_small r.state.window, (bits_small r.notes.events, (omega arith, (omega arith, (omega arith, (omega arith, (omega arith, (reads, (writes, (time, tt))))))))))

-- page 0Ah read at its fields gives back what the record says
pub latency_back : (r : Record) → legal_attributes r.attributes ≡ true → readings (latency_page r) (latency_fields r) ≡ values (latency_fields r)
unfolding latency_page
latency_back r h = read_back latency_size (latency_fields r) refl (latency_fit r h)

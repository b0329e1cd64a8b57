-- The five idle builds of specs/IdleBuilds.antt, each refuted by what is computed or proved of the step itself.
use mathlib.Core.Path.{◌≡◌, refl, sym, ap, subst, ◌∙◌}
use mathlib.Core.Bool.{Bool, true, false}
use mathlib.Core.List.{List, [], ◌∷◌, map}
use Prim.Native.Nat.{ℕ, zero, suc, ◌+◌, ◌*◌, ◌-◌, ◌≤◌, ◌<◌, ◌^◌}
use native.Mathlib.Nat.{zero-add, add-zero}
use native.Mathlib.Omega.{arith}
use borrow.Author.Tests.{leb-true}
use lib.Dec.{leb}
use lib.ListN.{length, length-map, get_or, take, drop}
use lib.Seq.{drop-cons}
use Rattle.std.specs.Prelude.{if◌then◌else◌}
use Rattle.octets.specs.Octets.{number_of, part, padded}
use Rattle.octets.specs.Lists.{keep}
use Rattle.octets.proofs.JoinedTests.{and_left, and_right}
use Rattle.octets.proofs.Pages.{length_place}
use Rattle.record.specs.declared.Record.{Record}
use Rattle.record.specs.declared.Attributes.{Attributes}
use Rattle.record.specs.Parts.{id_of}
use Rattle.record.specs.Legal.{number_maximum, legal_attributes}
use Rattle.table.specs.Table.{legal_sets, max_sets, listed_marks, listed_word}
use Rattle.replies.specs.Answers.{Answer}
use Rattle.pages.specs.Aggregate.{listed_by, aggregate_size, list_fields, aggregate_page}
use Rattle.pages.proofs.Listed.{word_below, one_word, count_is_ones, next_is_lowest, aggregate_back}
use Rattle.commands.specs.Commands.{dword_size, command_in, dwords}
use Rattle.steps.specs.Items.{Card, reads, command}
use Rattle.steps.specs.Meanings.{meaning}
use Rattle.steps.specs.Card.{refusal_of, effect_on, concerns, touched, answer}
use Rattle.steps.specs.Edges.{in_d}
use Rattle.steps.specs.IdleBuilds.{NotRefusingAll, NotAlike, NotStill, NotFirstOnly, ListRead, MarksCounted, OnesCounted, LowestFirst}
use Rattle.steps.proofs.Slots.{ordered}
use Rattle.steps.proofs.OwnHistory.{listed, picked_ids}
use Rattle.steps.proofs.AggregateLog.{aggregate_log}

-- the reads of the first set
reads_of : List Record → ℕ
reads_of [] = 0
reads_of (r ∷ rs) = r.state.spent.reads

-- 90 reads of set 7 in D succeed
pub not_refusing_all : NotRefusingAll
unfolding answer refusal_of effect_on concerns touched meaning
not_refusing_all h = h in_d (reads 7 90) refl

-- there is no set 8
pub not_alike : NotAlike
unfolding answer refusal_of effect_on concerns touched meaning
not_alike h = let e : ◌≡◌ {A = ℕ} 0 0x07C0 = h in_d (reads 7 90) (reads 8 90) in omega arith

pub not_still : NotStill
unfolding reads_of effect_on concerns touched meaning
not_still h = let e : ◌≡◌ {A = ℕ} 90 0 = ap reads_of (h in_d (reads 7 90)) in omega arith

pub not_first_only : NotFirstOnly
unfolding reads_of effect_on concerns touched meaning
not_first_only h = let e : ◌≡◌ {A = ℕ} 80 40 = ap reads_of (h in_d (reads 7 40) (reads 7 40 ∷ [])) in omega arith

-- ---- the number of entries

-- page 0Bh says how many it lists
pub entries_counted : (ids : List ℕ) → length ids ≤ max_sets → ((i : ℕ) → get_or ids i 0 < 2 ^ 16) → number_of (part (aggregate_page ids) 0 8) ≡ length ids
entries_counted ids few fit = ap (λ (l : List ℕ). get_or l 0 0) (aggregate_back ids few fit)

-- the first bytes of what is handed out are those of the page
take_padded : (l : List ℕ) (at k n : ℕ) → k ≤ n → at + k ≤ length l → take k (padded l at n) ≡ take k (drop at l)
take_padded l at zero n h w = refl
take_padded l at (suc k) zero h w = absurd (omega arith)
take_padded l at (suc k) (suc n) h w = rw (drop-cons l at 0 (omega arith), take_padded l (suc at) k n (omega arith) (omega arith))

page_long : (ids : List ℕ) → length (aggregate_page ids) ≡ aggregate_size
unfolding aggregate_page
page_long ids = length_place aggregate_size (list_fields ids)

-- the sets that are kept are no more than all, and their identifiers fit
few_by : (b : Bool) (r : Record) (rs all : List Record) → length rs ≤ length all → length (if b then r ∷ rs else rs) ≤ length (r ∷ all)
few_by true r rs all h = omega arith
few_by false r rs all h = omega arith

keep_few : (p : Record → Bool) (rs : List Record) → length (keep p rs) ≤ length rs
keep_few p [] = omega arith
keep_few p (r ∷ rs) = few_by (p r) r (keep p rs) rs (keep_few p rs)

pub id_fits : (a : Attributes) → legal_attributes a ≡ true → a.id.0 < 2 ^ 16
id_fits a h =
    let s = and_left _ _ (and_left _ _ (and_left _ _ (and_left _ _ (and_left _ _ (and_left _ _ h))))) in
    let i = and_left _ _ (and_left _ _ (and_left _ _ (and_left _ _ s))) in
    omega (arith, leb-true a.id.0 number_maximum (and_right (leb 1 a.id.0) _ i))

abbrev Fits : List Record → Type 0
Fits rs = (i : ℕ) → get_or (map id_of rs) i 0 < 2 ^ 16

fits_by : (b : Bool) (r : Record) (rs : List Record) → id_of r < 2 ^ 16 → Fits rs → Fits (if b then r ∷ rs else rs)
fits_by true r rs f h zero = f
fits_by true r rs f h (suc i) = h i
fits_by false r rs f h i = h i

keep_fit : (p : Record → Bool) (q : ℕ) (rs : List Record) → legal_sets q rs ≡ true → Fits (keep p rs)
keep_fit p q [] h = λ i. omega arith
keep_fit p q (r ∷ rs) h =
    let o = ordered q r rs h in
    fits_by (p r) r (keep p rs) (id_fits r.attributes (and_left _ _ (and_left _ _ o.legal))) (keep_fit p (id_of r) rs o.rest)

-- ---- what a read of the page hands out

drop_padded : (l : List ℕ) (at k n : ℕ) → drop k (padded l at (k + n)) ≡ padded l (at + k) n
drop_padded l at zero n = ap (λ (m : ℕ). padded l at m) (zero-add n) ∙ ap (λ (a : ℕ). padded l a n) (sym (add-zero at))
drop_padded l at (suc k) n =
    let e : suc k + n ≡ suc (k + n) = omega arith in
    let f : suc at + k ≡ at + suc k = omega arith in
    rw e (drop_padded l (suc at) k n ∙ rw f)

-- its identifiers, by the marks
abbrev marked_ids : Card → List ℕ
marked_ids c = map id_of (keep (λ r. r.notes.listed) c.sets)

module _ (c : Card) (bytes given : List ℕ) (room least : ℕ) (h : ListRead c bytes given room least) where
  -- a part that lies within what is read is that of the page
  read_part : (at k : ℕ) → at + k ≤ least * dword_size → at + k ≤ aggregate_size
      → part (answer c (command bytes given room)).bytes at k ≡ part (aggregate_page (marked_ids c)) at k
  read_part at k few within =
      let n : ℕ = dwords (command_in bytes) * dword_size in
      let log = aggregate_log c [] bytes given room h.kind h.carried in
      let same : (answer c (command bytes given room)).bytes ≡ padded (aggregate_page (marked_ids c)) 0 n
      = ap (λ (a : Answer). a.bytes) log ∙ rw (h.start, listed c []) in
      let split : at + (n - at) ≡ n = omega (arith, h.long) in
      ap (λ (l : List ℕ). part l at k) (same ∙ ap (padded (aggregate_page (marked_ids c)) 0) (sym split))
      ∙ ap (take k) (drop_padded (aggregate_page (marked_ids c)) 0 at (n - at) ∙ ap (λ (a : ℕ). padded (aggregate_page (marked_ids c)) a (n - at)) (zero-add at))
      ∙ take_padded (aggregate_page (marked_ids c)) at k (n - at) (omega (arith, h.long)) (omega (arith, page_long (marked_ids c)))

  ids_few : length (marked_ids c) ≤ max_sets
  ids_few = omega (arith, h.few, length-map (keep (λ r. r.notes.listed) c.sets) id_of, keep_few (λ r. r.notes.listed) c.sets)

  ids_fit : (i : ℕ) → get_or (marked_ids c) i 0 < 2 ^ 16
  ids_fit = keep_fit _ 0 c.sets h.legal

pub marks_counted : MarksCounted
marks_counted c bytes given room h =
    ap number_of (read_part c bytes given room 2 h 0 8 (omega arith) (omega arith))
    ∙ entries_counted (marked_ids c) (ids_few c bytes given room 2 h) (ids_fit c bytes given room 2 h)
    ∙ length-map (keep (λ r. r.notes.listed) c.sets) id_of

-- the same identifiers by the word
module _ (c : Card) where
  word_fits : listed_word c.sets < 2 ^ length (map id_of c.sets)
  word_fits =
      let e : length (listed_marks c.sets) ≡ length (map id_of c.sets) = simp length-map in
      subst (λ (n : ℕ). listed_word c.sets < 2 ^ n) e (word_below (listed_marks c.sets))

  by_word : marked_ids c ≡ listed_by (listed_word c.sets) (map id_of c.sets)
  by_word =
      listed c [] ∙ sym (picked_ids c []) ∙ sym (one_word (map id_of c.sets) (listed_marks c.sets) (simp length-map))

pub ones_counted : OnesCounted
ones_counted c bytes given room h =
    marks_counted c bytes given room h
    ∙ sym (length-map (keep (λ r. r.notes.listed) c.sets) id_of)
    ∙ ap length (by_word c)
    ∙ count_is_ones (map id_of c.sets) (listed_word c.sets) (word_fits c)

-- the first entry of a page that lists one
entry_first : (ids : List ℕ) (id : ℕ) (rest : List ℕ) → ids ≡ id ∷ rest → length ids ≤ max_sets → ((i : ℕ) → get_or ids i 0 < 2 ^ 16)
    → number_of (part (aggregate_page ids) 8 2) ≡ id
entry_first ids id rest e few fit =
    ap (λ (l : List ℕ). number_of (part (aggregate_page l) 8 2)) e
    ∙ ap (λ (l : List ℕ). get_or l 1 0)
    (aggregate_back (id ∷ rest) (subst (λ (l : List ℕ). length l ≤ max_sets) e few) (subst (λ (l : List ℕ). (i : ℕ) → get_or l i 0 < 2 ^ 16) e fit))

pub lowest_first : LowestFirst
lowest_first c bytes given room h some =
    let few : length (map id_of c.sets) ≤ max_sets = omega (arith, h.few, length-map c.sets id_of) in
    ap number_of (read_part c bytes given room 3 h 8 2 (omega arith) (omega arith))
    ∙ entry_first (marked_ids c) _ _ (by_word c ∙ next_is_lowest (map id_of c.sets) (listed_word c.sets) some (word_fits c) few)
    (ids_few c bytes given room 3 h) (ids_fit c bytes given room 3 h)

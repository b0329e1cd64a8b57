-- Whatever the pieces are in which a file is read, the texts of the calls, joined, are its printout: after each turn, what is written and
-- what is still to come are the same text.
use mathlib.Core.Path.{◌≡◌, refl, sym, ap, ◌∙◌}
use mathlib.Core.Bool.{Bool, true, false}
use mathlib.Core.List.{List, [], ◌∷◌, ◌++◌, map, append-nil, append_assoc}
use Prim.Native.Nat.{ℕ, zero, suc, ◌+◌, ◌*◌, ◌-◌, ◌^◌, ◌≤◌, ◌<◌, min}
use native.Mathlib.Omega.{arith}
use native.Mathlib.Nat.{zero-add}
use native.Mathlib.Numerals.{add-one}
use borrow.Author.Tests.{le-leb, leb-true, ltb-true, ltb-false}
use lib.Dec.{ltb, leb, eqb}
use lib.ListN.{length, get_or, take, drop, length-append, length-drop, get_or-append}
use lib.Seq.{sets, length-sets, drop-append-le, drop-drop, length-take-le}
use Rattle.std.specs.Prelude.{if◌then◌else◌}
use Rattle.octets.specs.Lists.{join}
use Rattle.octets.specs.Octets.{part}
use Rattle.octets.proofs.Runs.{part_same, part_append, sets_join}
use Rattle.table.specs.Table.{max_sets}
use Rattle.pages.specs.Bodies.{body_size}
use Rattle.steps.specs.SetUp.{bodies, with_body, first_bodies, set_up}
use Rattle.steps.proofs.NewSets.{refused_many, first_more}
use Rattle.tape.specs.Text.{sets_line, bad_line, end_line}
use Rattle.tape.specs.Tape.{item_size, attributes_kind, attributes_size, words_after, line_for, next_body, next_set, next_item}
use Rattle.tape.specs.Printout.{by_next, first_item, item_length, items_text, set_length, set_up_text, sets_text}
use Rattle.tape.specs.Pieces.{at_start, most_bodies, bodies_room, one_more, Turn, set_turn, item_turn, turn_at, line_room, Player, player, stopped, moved, advanced, turns, most_turns, anew, PlayedOn, Call, Calls, at_end, text_of, Printed}
use Rattle.tape.specs.declared.Next.{Next}
use Rattle.tape.specs.declared.Next.TheVariants.{Whole, Short, Bad, Over}
use Rattle.tape.specs.declared.Stage.{Stage}
use Rattle.tape.specs.declared.Stage.TheVariants.{Sets, Items, Ended}
use Rattle.tape.specs.declared.Progress.{Progress}
use Rattle.tape.proofs.Turns.{counted, whole_apart, bad_apart, over_apart, whole_set_there, whole_item_there}

-- ---- what stands next is told by the bytes that are there, unless more are wanted

whole_still : (here there : Bool) → (here ≡ true → there ≡ true) → ((if here then Whole else Short) ≡ Short → ⊥) → (if there then Whole else Bad) ≡ (if here then Whole else Short)
whole_still true there h n = rw (h refl)
whole_still false there h n = absurd (n refl)

body_ahead : (size have more : ℕ) → (next_body size have false ≡ Short → ⊥) → next_body size (have + more) true ≡ next_body size have false
body_ahead size have more n =
    whole_still (leb size have) (leb size (have + more)) (λ e. le-leb size (have + more) (omega (arith, leb-true size have e))) n

set_ahead_by :
    (is_set : Bool) (size have more : ℕ) → ((if is_set then next_body size have false else Over) ≡ Short → ⊥)
    → (if is_set then next_body size (have + more) true else Over) ≡ (if is_set then next_body size have false else Over)
set_ahead_by true size have more n = body_ahead size have more n
set_ahead_by false size have more n = refl

item_ahead_by :
    (is_item : Bool) (size have more : ℕ) → ((if is_item then next_body size have false else Bad) ≡ Short → ⊥)
    → (if is_item then next_body size (have + more) true else Bad) ≡ (if is_item then next_body size have false else Bad)
item_ahead_by true size have more n = body_ahead size have more n
item_ahead_by false size have more n = refl

-- the bytes of the file after those that are there
module _ (later : List ℕ) where
  pub set_ahead : (left : List ℕ) (last : Bool) → (last ≡ true → later ≡ []) → (next_set left last ≡ Short → ⊥) → next_set (left ++ later) true ≡ next_set left last
  set_ahead left true l n = rw (l refl, append-nil)
  set_ahead [] false l n = absurd (n refl)
  set_ahead (k ∷ ks) false l n = rw (length-append ks later) (set_ahead_by (eqb k attributes_kind) attributes_size (length ks) (length later) n)

  pub item_ahead : (left : List ℕ) (last : Bool) → (last ≡ true → later ≡ []) → (next_item left last ≡ Short → ⊥) → next_item (left ++ later) true ≡ next_item left last
  item_ahead left true l n = rw (l refl, append-nil)
  item_ahead [] false l n = absurd (n refl)
  item_ahead (k ∷ ks) false l n = rw (length-append ks later) (item_ahead_by (ltb 0 (item_size k)) (item_size k) (length ks) (length later) n)

-- ---- one turn more than there are bytes is enough

next_whole : {A : Type 0} (next : Next) (a b short bad over : A) → (next ≡ Whole → a ≡ b) → by_next next a short bad over ≡ by_next next b short bad over
next_whole Whole a b short bad over h = h refl
next_whole Short a b short bad over h = refl
next_whole Bad a b short bad over h = refl
next_whole Over a b short bad over h = refl

items_enough :
    (k j : ℕ) (words : List ℕ) (n : ℕ) (bytes : List ℕ) → length bytes < k → length bytes < j → items_text k words n bytes ≡ items_text j words n bytes
items_enough zero j words n bytes h f = absurd (omega arith)
items_enough (suc k) zero words n bytes h f = absurd (omega arith)
items_enough (suc k) (suc j) words n bytes h f =
    next_whole (next_item bytes true) _ _ [] (bad_line n) (end_line n) (λ e.
    let there = whole_item_there bytes true e in
    let less : length (drop (item_length bytes) bytes) < length bytes = omega (arith, length-drop (item_length bytes) bytes) in
    ap (λ (l : List ℕ). line_for words (first_item bytes) ++ l)
    (items_enough k j (words_after words (first_item bytes)) (n + 1) (drop (item_length bytes) bytes) (omega arith) (omega arith)))

sets_enough :
    (k j : ℕ) (words : List ℕ) (n : ℕ) (kept bytes : List ℕ) → length bytes < k → length bytes < j
    → sets_text k words n kept bytes ≡ sets_text j words n kept bytes
sets_enough zero j words n kept bytes h f = absurd (omega arith)
sets_enough (suc k) zero words n kept bytes h f = absurd (omega arith)
sets_enough (suc k) (suc j) words n kept bytes h f =
    next_whole (next_set bytes true) _ _ [] (bad_line 0) (set_up_text n (set_up kept words) bytes) (λ e.
    let there = whole_set_there bytes true e in
    let less : length (drop set_length bytes) < length bytes = omega (arith, length-drop set_length bytes) in
    sets_enough k j words (n + 1) (kept ++ part bytes 1 attributes_size) (drop set_length bytes) (omega arith) (omega arith))

-- ---- bodies past those that are kept make no difference

many_bodies : (kept : List ℕ) → bodies_room ≤ length kept → max_sets < bodies kept
many_bodies kept h = omega arith

many_alike :
    (k : ℕ) (words : List ℕ) (n : ℕ) (xs ys bytes : List ℕ) → bodies_room ≤ length xs → bodies_room ≤ length ys
    → sets_text k words n xs bytes ≡ sets_text k words n ys bytes
many_alike zero words n xs ys bytes h f = refl
many_alike (suc k) words n xs ys bytes h f =
    let body = part bytes 1 attributes_size in
    let more = many_alike k words (n + 1) (xs ++ body) (ys ++ body) (drop set_length bytes) (omega (arith, length-append xs body)) (omega (arith, length-append ys body)) in
    let alike : set_up xs words ≡ set_up ys words = refused_many xs words (many_bodies xs h) ∙ sym (refused_many ys words (many_bodies ys f)) in
    rw (more, alike)

module _ (kept body : List ℕ) (n : ℕ) (room : length kept ≡ bodies_room) (size : length body ≡ body_size) where
  -- whether the body is kept or not, set-up says the same
  kept_alike_by :
      (k : ℕ) (words bytes : List ℕ) (b : Bool) → ltb n (bodies kept) ≡ b
      → sets_text k words (n + 1) (first_bodies kept n ++ body) bytes ≡ sets_text k words (n + 1) (first_bodies (if b then sets kept (n * body_size) body else kept) (n + 1)) bytes
  kept_alike_by k words bytes true e =
      let more : first_bodies (sets kept (n * body_size) body) (n + 1) ≡ first_bodies kept n ++ body = rw add-one (first_more kept body n size (ltb-true n (bodies kept) e)) in
      ap (λ (l : List ℕ). sets_text k words (n + 1) l bytes) (sym more)
  kept_alike_by k words bytes false e =
      let over : most_bodies ≤ n = omega (arith, ltb-false n (bodies kept) e) in
      let all : min n (bodies kept) * body_size ≡ bodies_room = omega arith in
      let all' : min (n + 1) (bodies kept) * body_size ≡ bodies_room = omega arith in
      let long : length (take bodies_room kept) ≡ bodies_room = length-take-le bodies_room kept (omega arith) in
      rw (all, all')
      (many_alike k words (n + 1) (take bodies_room kept ++ body) (take bodies_room kept) bytes (omega (arith, length-append (take bodies_room kept) body)) (omega arith))

  kept_alike :
      (k : ℕ) (words bytes : List ℕ)
      → sets_text k words (n + 1) (first_bodies kept n ++ body) bytes ≡ sets_text k words (n + 1) (first_bodies (with_body kept n body) (n + 1)) bytes
  kept_alike k words bytes = kept_alike_by k words bytes (ltb n (bodies kept)) refl

  kept_room_by : (b : Bool) → length (if b then sets kept (n * body_size) body else kept) ≡ bodies_room
  kept_room_by true = length-sets kept (n * body_size) body ∙ room
  kept_room_by false = room

  kept_room : length (with_body kept n body) ≡ bodies_room
  kept_room = kept_room_by (ltb n (bodies kept))

-- ---- the text that is still to come, from where the tape is and the bytes that are left

abbrev pub text_from : Stage → ℕ → List ℕ → List ℕ → List ℕ → List ℕ
text_from Sets n words kept bytes = sets_text (suc (length bytes)) words n (first_bodies kept n) bytes
text_from Items n words kept bytes = items_text (suc (length bytes)) words n bytes
text_from Ended n words kept bytes = []

-- what a turn gives, and then what is to come after it
pub record Told (text : List ℕ) (t : Turn) (left later : List ℕ) : Type 0 where
  pub same : text ≡ t.text ++ text_from t.stage t.count t.words t.bodies (drop t.used left ++ later)
  pub room : length t.bodies ≡ bodies_room
  pub few : t.count + length (drop t.used left ++ later) < 2 ^ 64

module _ (words kept left later : List ℕ) (last : Bool) (n : ℕ) (room : length kept ≡ bodies_room) (few : n + length (left ++ later) < 2 ^ 64) where
  fewer : (used : ℕ) → used ≤ length left → used + length (drop used left ++ later) ≡ length (left ++ later)
  fewer used h = simp (length-append, length-drop) (omega arith)

  -- a turn that uses nothing
  told_here : (t : Turn) (text : List ℕ) → t.used ≡ 0 → t.count ≤ n → t.bodies ≡ kept
      → text ≡ t.text ++ text_from t.stage t.count t.words t.bodies (left ++ later) → Told text t left later
  told_here t text u c b e =
      record { same = rw u e; room = rw b room; few = rw u (omega arith) }

  -- ---- items

  module _ (there : item_length left ≤ length left) where
    kind_ahead : get_or (left ++ later) 0 0 ≡ get_or left 0 0
    kind_ahead = get_or-append left later 0 0 (omega arith)

    first_ahead : first_item (left ++ later) ≡ first_item left
    first_ahead = rw (kind_ahead, part_append left later 1 (item_size (get_or left 0 0)) (omega arith))

    rest_ahead : drop (item_length (left ++ later)) (left ++ later) ≡ drop (item_length left) left ++ later
    rest_ahead = rw kind_ahead (drop-append-le (item_length left) left later there)

  told_item : next_item (left ++ later) true ≡ Whole → item_length left ≤ length left → Told (text_from Items n words kept (left ++ later)) (item_turn Whole n words kept left) left later
  told_item e there =
      let long = fewer (item_length left) there in
      let one : n + 1 ≡ one_more n = counted n (omega arith) in
      let first = first_ahead there in
      let rest = rest_ahead there in
      let ws = words_after words (first_item left) in
      record {
        same =
            rw (e, first, rest, ← one)
            (ap (λ (l : List ℕ). line_for words (first_item left) ++ l)
            (items_enough (length (left ++ later)) (suc (length (drop (item_length left) left ++ later))) ws (n + 1) (drop (item_length left) left ++ later) (omega arith) (omega arith)));
        room = room;
        few = rw (← one) (omega arith);
      }

  told_item_by : (next : Next) → next_item left last ≡ next → (last ≡ true → later ≡ [])
      → Told (text_from Items n words kept (left ++ later)) (item_turn next n words kept left) left later
  told_item_by Whole e l =
      let w : next_item (left ++ later) true ≡ Whole = item_ahead later left last l (λ s. whole_apart (sym e ∙ s)) ∙ e in
      told_item w (whole_item_there left last e)
  told_item_by Short e l = told_here (item_turn Short n words kept left) _ refl (omega arith) refl refl
  told_item_by Bad e l =
      let w : next_item (left ++ later) true ≡ Bad = item_ahead later left last l (λ s. bad_apart (sym e ∙ s)) ∙ e in
      told_here (item_turn Bad n words kept left) _ refl (omega arith) refl (rw (w, append-nil))
  told_item_by Over e l =
      let w : next_item (left ++ later) true ≡ Over = item_ahead later left last l (λ s. over_apart (sym e ∙ s)) ∙ e in
      told_here (item_turn Over n words kept left) _ refl (omega arith) refl (rw (w, append-nil))

  -- ---- sets

  started : (b : Bool) (ws : List ℕ)
      → (if b then items_text (suc (length (left ++ later))) ws 0 (left ++ later) else []) ≡ text_from (if b then Items else Ended) 0 ws kept (left ++ later)
  started true ws = refl
  started false ws = refl

  told_set : next_set (left ++ later) true ≡ Whole → set_length ≤ length left → Told (text_from Sets n words kept (left ++ later)) (set_turn Whole n words kept left) left later
  told_set e there =
      let long = fewer set_length there in
      let one : n + 1 ≡ one_more n = counted n (omega arith) in
      let body = part left 1 attributes_size in
      let size : length body ≡ body_size = length-take-le attributes_size (drop 1 left) (omega (arith, length-drop 1 left)) in
      let rest = drop set_length left ++ later in
      record {
        same =
            rw (e, part_append left later 1 attributes_size there, drop-append-le set_length left later there, ← one)
            (sets_enough (length (left ++ later)) (suc (length rest)) words (n + 1) (first_bodies kept n ++ body) rest (omega arith) (omega arith)
            ∙ kept_alike kept body n room size (suc (length rest)) words rest);
        room = kept_room kept body n room size;
        few = rw (← one) (omega arith);
      }

  told_set_by : (next : Next) → next_set left last ≡ next → (last ≡ true → later ≡ [])
      → Told (text_from Sets n words kept (left ++ later)) (set_turn next n words kept left) left later
  told_set_by Whole e l =
      let w : next_set (left ++ later) true ≡ Whole = set_ahead later left last l (λ s. whole_apart (sym e ∙ s)) ∙ e in
      told_set w (whole_set_there left last e)
  told_set_by Short e l = told_here (set_turn Short n words kept left) _ refl (omega arith) refl refl
  told_set_by Bad e l =
      let w : next_set (left ++ later) true ≡ Bad = set_ahead later left last l (λ s. bad_apart (sym e ∙ s)) ∙ e in
      told_here (set_turn Bad n words kept left) _ refl (omega arith) refl (rw (w, append-nil))
  told_set_by Over e l =
      let w : next_set (left ++ later) true ≡ Over = set_ahead later left last l (λ s. over_apart (sym e ∙ s)) ∙ e in
      let result = set_up (first_bodies kept n) words in
      told_here (set_turn Over n words kept left) _ refl (omega arith) refl
      (rw w (ap (λ (l : List ℕ). sets_line n result.answer.status ++ l) (started (eqb result.answer.status 0) result.table)))

  pub told_turn : (stage : Stage) → (last ≡ true → later ≡ []) → Told (text_from stage n words kept (left ++ later)) (turn_at stage n words kept left last) left later
  told_turn Sets l = told_set_by (next_set left last) refl l
  told_turn Items l = told_item_by (next_item left last) refl l
  told_turn Ended l = told_here (turn_at Ended n words kept left last) _ refl (omega arith) refl refl

-- ---- turns one after another

-- what is written and what is to come are one text
pub record Going (text out₀ piece later : List ℕ) (g : Player) : Type 0 where
  pub written : List ℕ
  pub out : g.out ≡ sets out₀ 0 written
  pub len : g.at.len ≡ length written
  pub same : text ≡ written ++ text_from g.at.stage g.at.count g.words g.bodies (drop g.at.used piece ++ later)
  pub room : length g.bodies ≡ bodies_room
  pub few : g.at.count + length (drop g.at.used piece ++ later) < 2 ^ 64

module _ (text out₀ piece later : List ℕ) (last : Bool) (l : last ≡ true → later ≡ []) where
  going_stopped : (g : Player) → Going text out₀ piece later g → Going text out₀ piece later (stopped g)
  going_stopped g i = record { written = i.written; out = i.out; len = i.len; same = i.same; room = i.room; few = i.few }

  going_moved :
      (g : Player) (t : Turn) → Going text out₀ piece later g
      → Told (text_from g.at.stage g.at.count g.words g.bodies (drop g.at.used piece ++ later)) t (drop g.at.used piece) later
      → Going text out₀ piece later (moved g t)
  going_moved g t i told =
      let dropped : drop (g.at.used + t.used) piece ≡ drop t.used (drop g.at.used piece) = sym (drop-drop t.used g.at.used piece) in
      record {
        written = i.written ++ t.text;
        out = rw (i.out, i.len) (rw zero-add at (sets_join i.written t.text out₀ 0));
        len = rw i.len (sym (length-append i.written t.text));
        same = i.same ∙ rw (told.same, dropped) (sym (append_assoc i.written t.text _));
        room = told.room;
        few = rw dropped told.few;
      }

  going_by : (b : Bool) (g : Player) (t : Turn) → Going text out₀ piece later g → Going text out₀ piece later (moved g t)
      → Going text out₀ piece later (if b then stopped g else moved g t)
  going_by true g t i m = going_stopped g i
  going_by false g t i m = m

  going_advanced : (g : Player) → Going text out₀ piece later g → Going text out₀ piece later (advanced piece last g)
  unfolding advanced
  going_advanced g i =
      let left = drop g.at.used piece in
      let t = turn_at g.at.stage g.at.count g.words g.bodies left last in
      going_by (ltb (length g.out - g.at.len) line_room) g t i
      (going_moved g t i (told_turn g.words g.bodies left later last g.at.count i.room i.few g.at.stage l))

  turned_by : (b : Bool) (g h : Player) → Going text out₀ piece later g → Going text out₀ piece later h → Going text out₀ piece later (if b then g else h)
  turned_by true g h i j = i
  turned_by false g h i j = j

  pub going_turns : (k : ℕ) (g : Player) → Going text out₀ piece later g → Going text out₀ piece later (turns k piece last g)
  unfolding turns
  going_turns zero g i = i
  going_turns (suc k) g i =
      let j = going_advanced g i in
      turned_by (advanced piece last g).at.going _ _ (going_turns k (advanced piece last g) j) j

-- ---- a call, and calls one after another

-- what a call has written, and then what is to come after it
pub record Written (text : List ℕ) (r : Progress) (words kept out piece later : List ℕ) : Type 0 where
  pub same : text ≡ take r.len out ++ text_from r.stage r.count words kept (drop r.used piece ++ later)
  pub room : length kept ≡ bodies_room
  pub few : r.count + length (drop r.used piece ++ later) < 2 ^ 64

written_call :
    (text out₀ piece later : List ℕ) (r : Progress) (words kept out : List ℕ) → r.len ≤ length out
    → Going text out₀ piece later (player r words kept out) → Written text r words kept out piece later
written_call text out₀ piece later r words kept out h i =
    let long : length out ≡ length out₀ = ap length i.out ∙ length-sets out₀ 0 i.written in
    let taken : take r.len out ≡ i.written = rw i.out (part_same i.written out₀ 0 r.len (sym i.len) (omega arith)) in
    record { same = rw taken i.same; room = i.room; few = i.few }

pub told_call :
    (p : Progress) (words₀ kept₀ out₀ piece later : List ℕ) (last : Bool) (r : Progress) (words kept out : List ℕ)
    → PlayedOn p words₀ kept₀ out₀ piece last r words kept out → (last ≡ true → later ≡ []) → length kept₀ ≡ bodies_room
    → p.count + length (piece ++ later) < 2 ^ 64
    → Written (text_from p.stage p.count words₀ kept₀ (piece ++ later)) r words kept out piece later
told_call p words₀ kept₀ out₀ piece later last r words kept out c l room few =
    let text = text_from p.stage p.count words₀ kept₀ (piece ++ later) in
    let start : Going text out₀ piece later (player (anew p) words₀ kept₀ out₀)
    = record { written = []; out = refl; len = refl; same = refl; room = room; few = few } in
    written_call text out₀ piece later r words kept out c.text_within
    (rw c.played (going_turns text out₀ piece later last l most_turns (player (anew p) words₀ kept₀ out₀) start))

ended : (stage : Stage) (n : ℕ) (words kept bytes : List ℕ) → stage ≡ Ended → text_from stage n words kept bytes ≡ []
ended stage n words kept bytes e = rw e

told_pieces :
    (cs : List Call) (p : Progress) (words kept left coming : List ℕ) → length kept ≡ bodies_room → p.count + length (left ++ coming) < 2 ^ 64
    → Calls p words kept left coming cs → (at_end p cs).stage ≡ Ended → text_from p.stage p.count words kept (left ++ coming) ≡ join (map text_of cs)
told_pieces [] p words kept left coming room few h e = ended p.stage p.count words kept (left ++ coming) e
told_pieces (c ∷ cs) p words kept left coming room few h e =
    let piece = left ++ c.new in
    let whole : left ++ coming ≡ piece ++ c.later = rw h.0 (sym (append_assoc left c.new c.later)) in
    let few' : p.count + length (piece ++ c.later) < 2 ^ 64 = rw (← whole) few in
    let w = told_call p words kept c.before piece c.later c.last c.at c.words c.bodies c.out h.2 h.1 room few' in
    rw whole
    (w.same ∙ ap (λ (l : List ℕ). text_of c ++ l) (told_pieces cs c.at c.words c.bodies (drop c.at.used piece) c.later w.room w.few h.3 e))

pub printed : Printed
printed words kept file cs room few h e =
    let none : min 0 (bodies kept) * body_size ≡ 0 = omega arith in
    sym (rw none at (told_pieces cs at_start words kept [] file room (omega arith) h e))

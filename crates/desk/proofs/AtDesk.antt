-- What is done to a desk's words is what is done to the desk.
use mathlib.Core.Path.{◌≡◌, refl, ap, ◌∙◌}
use mathlib.Core.Bool.{Bool, true, false, not, ◌&&◌, ◌||◌}
use mathlib.Core.List.{List, [], ◌∷◌, ◌++◌}
use Prim.Native.Nat.{ℕ, ◌≤◌, ◌<◌}
use native.Mathlib.Omega.{arith}
use borrow.Author.Tests.{leb-true, le-leb}
use lib.Dec.{leb, ltb}
use lib.ListN.{length, get_or, length-append}
use Rattle.std.specs.Prelude.{if◌then◌else◌}
use Rattle.desk.specs.Desk.{Desk, desk_of, queued, turned, lifted, Told, send_by, settle, requests_maximum, identifier_maximum, all_identifiers}
use Rattle.desk.specs.Words.{desk_words, desk_in, WordsOfDesk}
use Rattle.desk.specs.AtWords.{queued_words, turned_words, lifted_words, sends, served, remembered, settled_words}
use Rattle.desk.specs.declared.Settled.{Settled}
use Rattle.desk.proofs.Bits.{bit_one, bit_none, identifier_whole}
use Rattle.desk.proofs.LegalDesks.{fine, one_of}

queue_by : (on masked flag : Bool) (ws : List ℕ) (id : ℕ) → length ws < requests_maximum → queued_words id (desk_words (desk_of on masked flag ws)) ≡ desk_words (queued id (desk_of on masked flag ws))
queue_by on masked flag [] id h = refl
queue_by on masked flag (x ∷ []) id h = refl
queue_by on masked flag (x ∷ y ∷ []) id h = refl
queue_by on masked flag (x ∷ y ∷ z ∷ []) id h = refl
queue_by on masked flag (x ∷ y ∷ z ∷ w ∷ ws) id h = absurd (omega arith)

queue_words : (id : ℕ) (d : Desk) → length d.waiting < requests_maximum → queued_words id (desk_words d) ≡ desk_words (queued id d)
queue_words id d h = queue_by d.on d.masked d.flag d.waiting id h

-- the words of a desk after an item, and the notice
abbrev pub words_of_told : Told → Settled
words_of_told t = record { words = desk_words t.desk; notice = t.notice }

module _ (on masked flag new : Bool) where
  abbrev choice : Bool → List ℕ → Settled
  choice b ws = if b && ltb 0 (length ws) then served (desk_words (desk_of on masked flag ws)) else remembered new (desk_words (desk_of on masked flag ws))

  settle_by : (b : Bool) (ws : List ℕ) → leb (length ws) requests_maximum ≡ true → all_identifiers ws ≡ true
      → choice b ws ≡ words_of_told (send_by b (desk_of on masked (flag || new) ws) ws)
  settle_by false ws few ids = rw (bit_one flag)
  settle_by true [] few ids = rw (bit_one flag)
  settle_by true (x ∷ []) few ids = rw (identifier_whole x (one_of x [] ids).0)
  settle_by true (x ∷ y ∷ []) few ids = rw (identifier_whole x (one_of x (y ∷ []) ids).0)
  settle_by true (x ∷ y ∷ z ∷ []) few ids = rw (identifier_whole x (one_of x (y ∷ z ∷ []) ids).0)
  settle_by true (x ∷ y ∷ z ∷ w ∷ []) few ids = rw (identifier_whole x (one_of x (y ∷ z ∷ w ∷ []) ids).0)
  settle_by true (x ∷ y ∷ z ∷ w ∷ v ∷ vs) few ids = absurd (let l = leb-true (length (x ∷ y ∷ z ∷ w ∷ v ∷ vs)) requests_maximum few in omega arith)

  sends_by : (ws : List ℕ) → sends new (desk_words (desk_of on masked flag ws)) ≡ (flag || new) && on && not masked && ltb 0 (length ws)
  sends_by ws = rw (bit_one flag, bit_one on, bit_none masked)

settle_words :
    (new : Bool) (d : Desk) → leb (length d.waiting) requests_maximum ≡ true → all_identifiers d.waiting ≡ true
    → settled_words new (desk_words d) ≡ words_of_told (settle new d)
settle_words new d few ids =
    ap (λ (b : Bool). if b then served (desk_words d) else remembered new (desk_words d)) (sends_by d.on d.masked d.flag new d.waiting)
    ∙ settle_by d.on d.masked d.flag new ((d.flag || new) && d.on && not d.masked) d.waiting few ids

-- ---- on the words of a legal desk

one_more_lem : (ws : List ℕ) (id : ℕ) → all_identifiers ws ≡ true → leb id identifier_maximum ≡ true → all_identifiers (ws ++ id ∷ []) ≡ true
one_more_lem [] id h k = rw k
one_more_lem (x ∷ xs) id h k = let p = one_of x xs h in rw p.0 (one_more_lem xs id p.1 k)

pub queued_few : (ws : List ℕ) (id : ℕ) → length ws < requests_maximum → leb (length (ws ++ id ∷ [])) requests_maximum ≡ true
queued_few ws id h = le-leb (length (ws ++ id ∷ [])) requests_maximum (omega (arith, length-append ws (id ∷ [])))

pub queued_ids : (ws : List ℕ) (id : ℕ) → all_identifiers ws ≡ true → id ≤ identifier_maximum → all_identifiers (ws ++ id ∷ []) ≡ true
queued_ids ws id h k = one_more_lem ws id h (le-leb id identifier_maximum k)

module _ (a : List ℕ) (w : WordsOfDesk a) where
  -- how many wait, and whether notices are on
  pub count_at : get_or a 3 0 ≡ length (desk_in a).waiting
  count_at = ap (λ (x : List ℕ). get_or x 3 0) w.words

  pub settle_at : (new : Bool) → settled_words new a ≡ words_of_told (settle new (desk_in a))
  settle_at new =
      let f = fine (desk_in a) w.legal in
      ap (settled_words new) w.words ∙ settle_words new (desk_in a) f.few f.ids

  pub queue_at :
      (id : ℕ) → length (desk_in a).waiting < requests_maximum → id ≤ identifier_maximum
      → settled_words false (queued_words id a) ≡ words_of_told (settle false (queued id (desk_in a)))
  queue_at id h k =
      let f = fine (desk_in a) w.legal in
      ap (λ (x : List ℕ). settled_words false (queued_words id x)) w.words
      ∙ ap (settled_words false) (queue_words id (desk_in a) h)
      ∙ settle_words false (queued id (desk_in a)) (queued_few (desk_in a).waiting id h) (queued_ids (desk_in a).waiting id f.ids k)

  pub turn_at_lem : (on : Bool) → settled_words false (turned_words on a) ≡ words_of_told (settle false (turned on (desk_in a)))
  turn_at_lem on =
      let f = fine (desk_in a) w.legal in
      ap (λ (x : List ℕ). settled_words false (turned_words on x)) w.words ∙ settle_words false (turned on (desk_in a)) f.few f.ids

  pub lift_at : lifted_words a ≡ desk_words (lifted (desk_in a))
  lift_at = ap lifted_words w.words

-- The words of all of a run of bytes: one of them, some of them, some put back, and the bytes past the last whole word.
use mathlib.Core.Path.{◌≡◌, refl, sym, ap, ap₂, ◌∙◌}
use mathlib.Core.List.{List, [], ◌∷◌, ◌++◌}
use Prim.Native.Nat.{ℕ, ◌+◌, ◌*◌, ◌/◌, ◌≤◌, ◌<◌}
use native.Mathlib.Omega.{arith}
use lib.ListN.{length, get_or, take, drop, take-append-drop}
use lib.Seq.{sets, length-sets}
use Rattle.octets.specs.Octets.{bytes_of, number_of, part, AllBytes}
use Rattle.octets.specs.Words.{word_size, AllWords, words_from, put_words}
use Rattle.octets.proofs.Below.{sets_below}
use Rattle.octets.proofs.Runs.{drop_sets, take_through}
use Rattle.octets.proofs.PutAndGet.{length_bytes}
use Rattle.octets.proofs.WordBytes.{length_words, own_words, length_put_words, put_rest}
use Rattle.octets.proofs.InPlace.{words_back, words_read, word_of, later_words, put_within}

-- the whole words of a run of bytes
abbrev pub all_words : List ℕ → List ℕ
all_words b = words_from b 0 (length b / word_size)

pub length_all : (b : List ℕ) → length (all_words b) ≡ length b / word_size
length_all b = length_words b 0 (length b / word_size)

pub all_fit : (b : List ℕ) → AllBytes b → AllWords (all_words b)
all_fit b each = words_read b each 0 (length b / word_size)

-- ---- reading

-- a run of words from one of them on
pub part_all : (b : List ℕ) (k n from : ℕ) → k + n ≤ length b / word_size → from ≡ k * word_size → words_from b from n ≡ part (all_words b) k n
part_all b k n from h e =
    let q : 0 + k * word_size ≡ from = omega (arith, e) in
    sym (later_words b 0 (length b / word_size) k n (omega arith) ∙ ap (λ (x : ℕ). words_from b x n) q)

pub word_all : (b : List ℕ) (k from : ℕ) → k < length b / word_size → from ≡ k * word_size → number_of (part b from word_size) ≡ get_or (all_words b) k 0
word_all b k from h e =
    let q : 0 + k * word_size ≡ from = omega (arith, e) in
    sym (word_of b 0 (length b / word_size) k h ∙ ap (λ (x : ℕ). number_of (part b x word_size)) q)

-- ---- writing

-- a run of words put from one of them on
pub run_all :
    (b xs : List ℕ) (k from : ℕ) → AllBytes b → k + length xs ≤ length b / word_size → from ≡ k * word_size
    → put_words b from xs ≡ put_words b 0 (sets (all_words b) k xs)
run_all b xs k from each h e =
    let q : 0 + k * word_size ≡ from = omega (arith, e) in
    sym (put_within xs b 0 (length b / word_size) k each (omega arith) (omega arith) ∙ ap (λ (x : ℕ). put_words b x xs) q)

-- the bytes' own words, put back
pub own_all : (b : List ℕ) → AllBytes b → put_words b 0 (all_words b) ≡ b
own_all b each = own_words (length b / word_size) 0 b b each refl (omega arith)

-- other words, put there and read again: as many as there were, and each a word
pub all_back : (b ws : List ℕ) → length ws ≡ length b / word_size → AllWords ws → all_words (put_words b 0 ws) ≡ ws
all_back b ws e fit =
    let long : length (put_words b 0 ws) ≡ length b = length_put_words ws b 0 in
    ap (λ (n : ℕ). words_from (put_words b 0 ws) 0 (n / word_size)) long
    ∙ ap (words_from (put_words b 0 ws) 0) (sym e) ∙ words_back ws b 0 (omega arith) fit

-- a run of words put from one of them on, and all read again
pub run_back :
    (b xs : List ℕ) (k from : ℕ) → AllBytes b → AllWords xs → k + length xs ≤ length b / word_size → from ≡ k * word_size
    → all_words (put_words b from xs) ≡ sets (all_words b) k xs
run_back b xs k from each fit h e =
    let ws = sets (all_words b) k xs in
    ap all_words (run_all b xs k from each h e)
    ∙ all_back b ws (length-sets (all_words b) k xs ∙ length_all b) (sets_below _ xs (all_words b) k fit (all_fit b each))

-- the bytes past the last whole word
abbrev pub past_words : List ℕ → List ℕ
past_words b = drop (length b / word_size * word_size) b

pub run_past : (b xs : List ℕ) (k from : ℕ) → k + length xs ≤ length b / word_size → from ≡ k * word_size → past_words (put_words b from xs) ≡ past_words b
run_past b xs k from h e =
    ap (λ (n : ℕ). drop (n / word_size * word_size) (put_words b from xs)) (length_put_words xs b from)
    ∙ put_rest xs b from (length b / word_size * word_size) (omega (arith, e))

-- ---- bytes that are words and a rest

-- words put over bytes that are the same before them and after them
put_alike :
    (ws y z : List ℕ) (at : ℕ) → at + length ws * word_size ≤ length y → length y ≡ length z → take at y ≡ take at z
    → drop (at + length ws * word_size) y ≡ drop (at + length ws * word_size) z → put_words y at ws ≡ put_words z at ws
put_alike [] y z at h e before after =
    let k : at + 0 ≡ at = omega arith in
    sym (take-append-drop at y) ∙ ap₂ ◌++◌ before (rw k at after) ∙ take-append-drop at z
put_alike (w ∷ ws) y z at h e before after =
    let bs = bytes_of word_size w in
    let n = length_bytes word_size w in
    let next : at + word_size + length ws * word_size ≡ at + length (w ∷ ws) * word_size = omega arith in
    put_alike ws (sets y at bs) (sets z at bs) (at + word_size)
    (omega (arith, length-sets y at bs, h))
    (length-sets y at bs ∙ e ∙ sym (length-sets z at bs))
    (take_through bs y at word_size n (omega (arith, h)) ∙ ap (λ (l : List ℕ). l ++ bs) before ∙ sym (take_through bs z at word_size n (omega (arith, h, e))))
    (ap (λ (k : ℕ). drop k (sets y at bs)) next
    ∙ drop_sets bs y at _ (omega (arith, n))
    ∙ after
    ∙ sym (drop_sets bs z at _ (omega (arith, n)))
    ∙ ap (λ (k : ℕ). drop k (sets z at bs)) (sym next))

-- bytes that are the same past the last whole word differ in their words alone
pub all_out : (old new : List ℕ) → AllBytes new → length new ≡ length old → past_words new ≡ past_words old → new ≡ put_words old 0 (all_words new)
all_out old new each e past =
    let n = length_all new in
    let k : length new / word_size * word_size ≡ 0 + length (all_words new) * word_size = omega (arith, n) in
    let o : length old / word_size * word_size ≡ 0 + length (all_words new) * word_size = omega (arith, n, e) in
    sym (own_all new each)
    ∙ put_alike (all_words new) new old 0 (omega (arith, n)) e refl
    (ap (λ (i : ℕ). drop i new) (sym k) ∙ past ∙ ap (λ (i : ℕ). drop i old) o)

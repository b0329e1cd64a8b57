-- Words where they lie among bytes: one of them, a run of them, a run put back, and that what is put are bytes.
use mathlib.Core.Path.{◌≡◌, refl, sym, ap, ap₂, ◌∙◌}
use mathlib.Core.List.{List, [], ◌∷◌, ◌++◌}
use mathlib.Core.Logic.{inl}
use Prim.Native.Nat.{ℕ, zero, suc, ◌+◌, ◌*◌, ◌-◌, ◌/◌, ◌^◌, ◌≤◌, ◌<◌}
use native.Mathlib.Omega.{arith}
use lib.Dec.{lit<}
use lib.ListN.{length, get_or, set, take, drop, length-take, length-drop, take-append-drop}
use lib.Seq.{sets, length-sets, drop-drop}
use Rattle.octets.specs.Octets.{bytes_of, number_of, part, AllBytes}
use Rattle.octets.specs.Words.{word_size, AllWords, words_from, put_words}
use Rattle.octets.proofs.Runs.{sets_whole, sets_append, sets_comm, sets_over, part_other}
use Rattle.octets.proofs.Below.{below_rest, sets_below, Each, each_below}
use Rattle.octets.proofs.Reading.{read_below}
use Rattle.octets.proofs.PutAndGet.{length_bytes, get_put, get_other}
use Rattle.octets.proofs.WordBytes.{length_words, words_append, own_words, put_append, put_rest}

-- ---- reading

pub word_of : (b : List ℕ) (at m k : ℕ) → k < m → get_or (words_from b at m) k 0 ≡ number_of (part b (at + k * word_size) word_size)
word_of b at zero k h = absurd (omega arith)
word_of b at (suc m) zero h = let e : at ≡ at + zero * word_size = omega arith in ap (λ (x : ℕ). number_of (part b x word_size)) e
word_of b at (suc m) (suc k) h =
    let e : at + word_size + k * word_size ≡ at + suc k * word_size = omega arith in
    word_of b (at + word_size) m k (omega arith) ∙ ap (λ (x : ℕ). number_of (part b x word_size)) e

pub first_words : (b : List ℕ) (at m n : ℕ) → n ≤ m → take n (words_from b at m) ≡ words_from b at n
first_words b at m zero h = refl
first_words b at zero (suc n) h = absurd (omega arith)
first_words b at (suc m) (suc n) h = ap (◌∷◌ (number_of (part b at word_size))) (first_words b (at + word_size) m n (omega arith))

pub later_words : (b : List ℕ) (at m k n : ℕ) → k + n ≤ m → part (words_from b at m) k n ≡ words_from b (at + k * word_size) n
later_words b at m zero n h = first_words b at m n (omega arith) ∙ ap (λ (x : ℕ). words_from b x n) (omega arith)
later_words b at zero (suc k) n h = absurd (omega arith)
later_words b at (suc m) (suc k) n h =
    later_words b (at + word_size) m k n (omega arith) ∙ ap (λ (x : ℕ). words_from b x n) (omega arith)

-- the words after the first k of a run
pub rest_words : (b : List ℕ) (at m k : ℕ) → drop k (words_from b at m) ≡ words_from b (at + k * word_size) (m - k)
rest_words b at m zero = let e : at ≡ at + zero * word_size = omega arith in let n : m ≡ m - zero = omega arith in ap₂ (words_from b) e n
rest_words b at zero (suc k) = let e : zero - suc k ≡ 0 = omega arith in rw e
rest_words b at (suc m) (suc k) =
    let e : at + word_size + k * word_size ≡ at + suc k * word_size = omega arith in
    let n : m - k ≡ suc m - suc k = omega arith in
    rest_words b (at + word_size) m k ∙ ap₂ (words_from b) e n

-- bytes that are the same from a place on have the same words there
pub words_same : (b c : List ℕ) (at n : ℕ) → drop at b ≡ drop at c → words_from b at n ≡ words_from c at n
words_same b c at zero e = refl
words_same b c at (suc n) e =
    let next : drop (at + word_size) b ≡ drop (at + word_size) c = sym (drop-drop word_size at b) ∙ ap (drop word_size) e ∙ drop-drop word_size at c in
    ap₂ ◌∷◌ (ap (λ (l : List ℕ). number_of (take word_size l)) e) (words_same b c (at + word_size) n next)

-- ---- writing

sets_later : (xs l : List ℕ) (w k : ℕ) → sets (w ∷ l) (suc k) xs ≡ w ∷ sets l k xs
sets_later [] l w k = refl
sets_later (x ∷ xs) l w k = sets_later xs (set l k x) w (suc k)

-- words put over a region's own from a place on, with those after them as they were
pub put_front :
    (xs b : List ℕ) (at m : ℕ) → AllBytes b → length xs ≤ m → at + m * word_size ≤ length b
    → put_words b at (sets (words_from b at m) 0 xs) ≡ put_words b at xs
put_front xs b at m each h room =
    let n = length xs in
    let e : m ≡ n + (m - n) = omega arith in
    let rest = words_from b (at + n * word_size) (m - n) in
    let split : words_from b at m ≡ words_from b at n ++ rest = ap (words_from b at) e ∙ words_append b at n (m - n) in
    let own = length_words b at n in
    ap (λ (l : List ℕ). put_words b at (sets l 0 xs)) split
    ∙ ap (put_words b at) (sets_append xs (words_from b at n) rest 0 (omega (arith, own)))
    ∙ ap (λ (l : List ℕ). put_words b at (l ++ rest)) (sets_whole xs (words_from b at n) (sym own))
    ∙ put_append xs rest b at
    ∙ own_words (m - n) (at + n * word_size) (put_words b at xs) b each (put_rest xs b at (at + n * word_size) (omega arith)) (omega arith)

pub put_within :
    (xs b : List ℕ) (at m k : ℕ) → AllBytes b → k + length xs ≤ m → at + m * word_size ≤ length b
    → put_words b at (sets (words_from b at m) k xs) ≡ put_words b (at + k * word_size) xs
put_within xs b at m zero each h room = put_front xs b at m each (omega arith) room ∙ ap (λ (x : ℕ). put_words b x xs) (omega arith)
put_within xs b at zero (suc k) each h room = absurd (omega arith)
put_within xs b at (suc m) (suc k) each h room =
    let w = number_of (part b at word_size) in
    ap (put_words b at) (sets_later xs (words_from b (at + word_size) m) w k)
    ∙ ap (λ (y : List ℕ). put_words y (at + word_size) (sets (words_from b (at + word_size) m) k xs)) (own_words 1 at b b each refl (omega arith))
    ∙ put_within xs b (at + word_size) m k each (omega arith) (omega arith)
    ∙ ap (λ (x : ℕ). put_words b x xs) (omega arith)

-- a run of words of which those before one place and those from another on are there already
pub put_part :
    (xs b : List ℕ) (at m from to : ℕ) → AllBytes b → length xs ≡ m → at + m * word_size ≤ length b → from ≤ to → to ≤ m
    → take from xs ≡ words_from b at from → drop to xs ≡ words_from b (at + to * word_size) (m - to)
    → put_words b at xs ≡ put_words b (at + from * word_size) (part xs from (to - from))
put_part xs b at m from to each long room order end before after =
    let mid = part xs from (to - from) in
    let lm : length mid ≡ to - from = simp (length-take, length-drop) (omega arith) in
    let lb : length (take from xs) ≡ from = simp length-take (omega arith) in
    let ef : from + (to - from) ≡ to = omega arith in
    let split : xs ≡ take from xs ++ (mid ++ drop to xs) =
    sym (take-append-drop from xs) ∙ ap (λ (l : List ℕ). take from xs ++ l) (sym (take-append-drop (to - from) (drop from xs)) ∙ ap (λ (l : List ℕ). mid ++ l) (drop-drop (to - from) from xs ∙ ap (λ (k : ℕ). drop k xs) ef)) in
    let af : at + length (take from xs) * word_size ≡ at + from * word_size = omega (arith, lb) in
    let at2 : at + from * word_size + length mid * word_size ≡ at + to * word_size = omega (arith, lm) in
    ap (put_words b at) split
    ∙ put_append (take from xs) (mid ++ drop to xs) b at
    ∙ ap₂ (λ (y : List ℕ) (k : ℕ). put_words y k (mid ++ drop to xs)) (ap (put_words b at) before ∙ own_words from at b b each refl (omega arith)) af
    ∙ put_append mid (drop to xs) b (at + from * word_size)
    ∙ ap₂ (put_words (put_words b (at + from * word_size) mid)) at2 after
    ∙ own_words (m - to) (at + to * word_size) (put_words b (at + from * word_size) mid) b each (put_rest mid b (at + from * word_size) (at + to * word_size) (omega (arith, lm))) (omega arith)

-- ---- bytes put are bytes

bytes_bytes : (n v : ℕ) → AllBytes (bytes_of n v)
bytes_bytes zero v j = lit< tt
bytes_bytes (suc n) v zero = omega arith
bytes_bytes (suc n) v (suc j) = bytes_bytes n (v / 256) j

pub put_bytes : (ws b : List ℕ) (at : ℕ) → AllBytes b → AllBytes (put_words b at ws)
put_bytes [] b at each = each
put_bytes (w ∷ ws) b at each = put_bytes ws (sets b at (bytes_of word_size w)) (at + word_size) (sets_below 256 (bytes_of word_size w) b at (bytes_bytes word_size w) each)

-- ---- words that are put are read back

-- words put further on leave what lies before
put_before : (ws y : List ℕ) (at d n : ℕ) → d + n ≤ at → part (put_words y at ws) d n ≡ part y d n
put_before [] y at d n h = refl
put_before (w ∷ ws) y at d n h =
    put_before ws (sets y at (bytes_of word_size w)) (at + word_size) d n (omega arith)
    ∙ get_other y at word_size w d n (inl h)

pub words_back : (ws y : List ℕ) (at : ℕ) → at + length ws * word_size ≤ length y → AllWords ws → words_from (put_words y at ws) at (length ws) ≡ ws
words_back [] y at h fit = refl
words_back (w ∷ ws) y at h fit =
    let z = sets y at (bytes_of word_size w) in
    let long : length z ≡ length y = length-sets y at (bytes_of word_size w) in
    let first : number_of (part (put_words z (at + word_size) ws) at word_size) ≡ w
    = ap number_of (put_before ws z (at + word_size) at word_size (omega arith)) ∙ get_put y at word_size w (omega arith) (fit 0) in
    cc (first, words_back ws z (at + word_size) (omega (arith, long)) (below_rest (2 ^ 64) w ws fit))

-- and the words that are read from bytes are words
each_read : (b : List ℕ) → AllBytes b → (n at : ℕ) → Each (2 ^ 64) (words_from b at n)
each_read b each zero at = tt
each_read b each (suc n) at = (read_below b each at word_size, each_read b each n (at + word_size))

pub words_read : (b : List ℕ) → AllBytes b → (at n : ℕ) → AllWords (words_from b at n)
words_read b each at n = each_below (2 ^ 64) (lit< tt) (words_from b at n) (each_read b each n at)

-- ---- words put over others, as many as they were

put_comm : (ws bs y : List ℕ) (at k : ℕ) → at + length bs ≤ k → sets (put_words y k ws) at bs ≡ put_words (sets y at bs) k ws
put_comm [] bs y at k h = refl
put_comm (w ∷ ws) bs y at k h =
    put_comm ws bs (sets y k (bytes_of word_size w)) at (k + word_size) (omega arith)
    ∙ ap (λ (z : List ℕ). put_words z (k + word_size) ws) (sets_comm bs (bytes_of word_size w) y k at (inl h))

pub put_over : (ws vs y : List ℕ) (at : ℕ) → length ws ≡ length vs → put_words (put_words y at ws) at vs ≡ put_words y at vs
put_over [] [] y at e = refl
put_over [] (v ∷ vs) y at e = absurd (omega arith)
put_over (w ∷ ws) [] y at e = absurd (omega arith)
put_over (w ∷ ws) (v ∷ vs) y at e =
    let same : length (bytes_of word_size w) ≡ length (bytes_of word_size v) = length_bytes word_size w ∙ sym (length_bytes word_size v) in
    ap (λ (z : List ℕ). put_words z (at + word_size) vs)
    (put_comm ws (bytes_of word_size v) (sets y at (bytes_of word_size w)) at (at + word_size) (omega (arith, length_bytes word_size v))
    ∙ ap (λ (z : List ℕ). put_words z (at + word_size) ws) (sets_over (bytes_of word_size w) (bytes_of word_size v) y at same))
    ∙ put_over ws vs (sets y at (bytes_of word_size v)) (at + word_size) (omega arith)

-- ---- words put after others: they may change places, and those before are as they were

pub words_comm : (us vs y : List ℕ) (b d : ℕ) → b + length us * word_size ≤ d → put_words (put_words y d vs) b us ≡ put_words (put_words y b us) d vs
words_comm [] vs y b d h = refl
words_comm (u ∷ us) vs y b d h =
    ap (λ (x : List ℕ). put_words x (b + word_size) us) (put_comm vs (bytes_of word_size u) y b d (omega arith))
    ∙ words_comm us vs (sets y b (bytes_of word_size u)) (b + word_size) d (omega arith)

part_before : (vs y : List ℕ) (d at n : ℕ) → at + n ≤ d → part (put_words y d vs) at n ≡ part y at n
part_before [] y d at n h = refl
part_before (v ∷ vs) y d at n h =
    part_before vs (sets y d (bytes_of word_size v)) (d + word_size) at n (omega arith) ∙ part_other (bytes_of word_size v) y d at n (inl h)

pub words_before : (vs y : List ℕ) (d at n : ℕ) → at + n * word_size ≤ d → words_from (put_words y d vs) at n ≡ words_from y at n
words_before vs y d at zero h = refl
words_before vs y d at (suc n) h =
    ap₂ ◌∷◌ (ap number_of (part_before vs y d at word_size (omega arith))) (words_before vs y d (at + word_size) n (omega arith))

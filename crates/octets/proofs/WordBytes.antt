-- Words and their bytes: one turn of each loop; what is put back over its own bytes; what lies past.
use mathlib.Core.Path.{◌≡◌, refl, sym, ap, ap₂, ◌∙◌}
use mathlib.Core.List.{List, [], ◌∷◌, ◌++◌}
use Prim.Native.Nat.{ℕ, zero, suc, ◌+◌, ◌*◌, ◌-◌, ◌/◌, ◌%◌, ◌≤◌, ◌<◌}
use native.Mathlib.Omega.{arith}
use native.Mathlib.Nat.{zero-add, suc-add}
use native.Mathlib.Numerals.{add-one}
use lib.Dec.{lit<}
use lib.ListN.{length, get_or, set, take, drop, length-take, length-drop}
use lib.Seq.{sets, length-sets, drop-cons, drop-length, drop-drop}
use Rattle.octets.specs.Octets.{bytes_of, number_of, part, AllBytes}
pub use Rattle.octets.specs.Words.{length_words}
use Rattle.octets.specs.Words.{word_size, words_from, put_words}
use Rattle.octets.proofs.Runs.{sets_self, drop_sets}
use Rattle.octets.proofs.PutAndGet.{length_bytes}
use Rattle.octets.proofs.Below.{below_rest, part_below}

pub in_turn : (words bytes : List ℕ) (at i n : ℕ) → i < n
    → sets (set words i (number_of (part bytes at word_size))) (i + 1) (words_from bytes (at + word_size) (n - (i + 1))) ≡ sets words i (words_from bytes at (n - i))
in_turn words bytes at i n h = let e : n - i ≡ suc (n - (i + 1)) = omega arith in rw (e, add-one)

pub in_end : (words bytes : List ℕ) (at i n : ℕ) → n ≤ i → sets words i (words_from bytes at (n - i)) ≡ words
in_end words bytes at i n h = let e : n - i ≡ 0 = omega arith in rw e

pub out_turn : (bytes words : List ℕ) (at i : ℕ) → i < length words
    → put_words (sets bytes at (bytes_of word_size (get_or words i 0))) (at + word_size) (drop (i + 1) words) ≡ put_words bytes at (drop i words)
out_turn bytes words at i h = rw (drop-cons words i 0 h, add-one)

pub out_end : (bytes words : List ℕ) (at i : ℕ) → i ≡ length words → put_words bytes at (drop i words) ≡ bytes
out_end bytes words at i e = rw (e, drop-length)

-- ---- bytes that are read as words, and put back

-- the bytes of a number that bytes make are those bytes
pub bytes_number : (l : List ℕ) (n : ℕ) → length l ≡ n → AllBytes l → bytes_of n (number_of l) ≡ l
bytes_number [] zero e each = refl
bytes_number [] (suc n) e each = absurd (omega arith)
bytes_number (b ∷ bs) zero e each = absurd (omega arith)
bytes_number (b ∷ bs) (suc n) e each =
    let low : (number_of bs * 256 + b) % 256 ≡ b = omega (arith, each 0) in
    let high : (number_of bs * 256 + b) / 256 ≡ number_of bs = omega (arith, each 0) in
    rw (low, high, bytes_number bs n (omega arith) (below_rest 256 b bs each))

-- the words of bytes that two lists have in common from a place on, put back there, change nothing
pub own_words :
    (n at : ℕ) (y l : List ℕ) → AllBytes l → drop at y ≡ drop at l → at + n * word_size ≤ length l → put_words y at (words_from l at n) ≡ y
own_words zero at y l each e h = refl
own_words (suc n) at y l each e h =
    let long : length (drop at y) ≡ length (drop at l) = ap length e in
    let room : at + word_size ≤ length y = omega (arith, long, length-drop at y, length-drop at l) in
    let whole : length (part l at word_size) ≡ word_size = simp (length-take, length-drop) (omega arith) in
    let same : part l at word_size ≡ part y at word_size = ap (take word_size) (sym e) in
    let put : sets y at (bytes_of word_size (number_of (part l at word_size))) ≡ y =
    ap (sets y at) (bytes_number (part l at word_size) word_size whole (part_below 256 (lit< tt) l at word_size each) ∙ same) ∙ sets_self y at word_size room in
    let next : drop (at + word_size) y ≡ drop (at + word_size) l =
    sym (drop-drop word_size at y) ∙ ap (drop word_size) e ∙ drop-drop word_size at l in
    ap (λ (z : List ℕ). put_words z (at + word_size) (words_from l (at + word_size) n)) put
    ∙ own_words n (at + word_size) y l each next (omega arith)

pub put_append : (xs zs y : List ℕ) (at : ℕ) → put_words y at (xs ++ zs) ≡ put_words (put_words y at xs) (at + length xs * word_size) zs
put_append [] zs y at = ap (λ (k : ℕ). put_words y k zs) (omega arith)
put_append (x ∷ xs) zs y at =
    put_append xs zs (sets y at (bytes_of word_size x)) (at + word_size)
    ∙ ap (λ (k : ℕ). put_words (put_words y at (x ∷ xs)) k zs) (omega arith)

pub put_rest : (ws y : List ℕ) (at d : ℕ) → at + length ws * word_size ≤ d → drop d (put_words y at ws) ≡ drop d y
put_rest [] y at d h = refl
put_rest (w ∷ ws) y at d h =
    put_rest ws (sets y at (bytes_of word_size w)) (at + word_size) d (omega arith)
    ∙ drop_sets (bytes_of word_size w) y at d (rw (length_bytes word_size w) (omega arith))

pub length_put_words : (ws y : List ℕ) (at : ℕ) → length (put_words y at ws) ≡ length y
length_put_words [] y at = refl
length_put_words (w ∷ ws) y at =
    length_put_words ws (sets y at (bytes_of word_size w)) (at + word_size) ∙ length-sets y at (bytes_of word_size w)

pub words_append : (l : List ℕ) (at n m : ℕ) → words_from l at (n + m) ≡ words_from l at n ++ words_from l (at + n * word_size) m
words_append l at zero m = ap₂ (words_from l) (omega arith) (zero-add m)
words_append l at (suc n) m =
    let e : at + word_size + n * word_size ≡ at + suc n * word_size = omega arith in
    rw (suc-add n m) (ap (◌∷◌ (number_of (part l at word_size))) (words_append l (at + word_size) n m ∙ ap (λ (k : ℕ). words_from l (at + word_size) n ++ words_from l k m) e))

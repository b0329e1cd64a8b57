-- Words and the bytes that they pass as.
use Rattle.std.proofs.Common.{◌≡◌, ℕ, zero, suc, ◌+◌, ◌*◌, ◌≤◌, List, [], ◌∷◌, ◌++◌, length, take, drop, arith, refl, sym, ap, ap₂, ◌∙◌, append_assoc, length-append, length-drop, length-take-le}
use Rattle.std.proofs.Math.ListN.{length-take}
use Rattle.std.proofs.Math.Seq.{drop-drop, length-sets, take-add}
use Rattle.std.proofs.lemmas.List.{append-nil, take_at}
use Rattle.std.proofs.lemmas.List.Edits.{sets, sets-eq}
use lib.Dec.{lit<}
use Rattle.octets.specs.Octets.{bytes_of, part, AllBytes}
use Rattle.octets.specs.Words.{word_size, words_from, put_words}
use Rattle.octets.proofs.Below.{part_below}
use Rattle.octets.proofs.PutAndGet.{length_bytes}
use Rattle.octets.proofs.WordBytes.{bytes_number}
use Rattle.streams.specs.Calls.{word_bytes}

-- words put among bytes are their bytes, after those before
put_after :
    (ws y : List ℕ) (at : ℕ) → at + length ws * word_size ≤ length y
    → take (at + length ws * word_size) (put_words y at ws) ≡ take at y ++ word_bytes ws
put_after [] y at h = ap (λ (n : ℕ). take n y) (omega arith) ∙ sym (append-nil (take at y))
put_after (w ∷ ws) y at h =
    let b = bytes_of word_size w in
    let z = sets y at b in
    let long : length b ≡ word_size = length_bytes word_size w in
    let room : at + length b ≤ length y = omega arith in
    let ends : length (take at y ++ b) ≡ at + word_size = omega (arith, length-append (take at y) b, length-take-le at y (omega arith)) in
    let first : take (at + word_size) z ≡ take at y ++ b =
    ap (take (at + word_size)) (sets-eq b y at room) ∙ take_at (take at y ++ b) (drop (at + length b) y) (at + word_size) ends in
    let same : at + suc (length ws) * word_size ≡ at + word_size + length ws * word_size = omega arith in
    ap (λ (n : ℕ). take n (put_words z (at + word_size) ws)) same
    ∙ put_after ws z (at + word_size) (omega (arith, length-sets y at b))
    ∙ ap (λ (l : List ℕ). l ++ word_bytes ws) first
    ∙ append_assoc (take at y) b (word_bytes ws)

pub put_bytes : (ws y : List ℕ) → length ws * word_size ≤ length y → take (length ws * word_size) (put_words y 0 ws) ≡ word_bytes ws
put_bytes ws y h = let e : length ws * word_size ≡ 0 + length ws * word_size = omega arith in
    ap (λ (n : ℕ). take n (put_words y 0 ws)) e ∙ put_after ws y 0 (omega arith)

-- words read from bytes have those bytes
read_from :
    (l : List ℕ) (at n : ℕ) → AllBytes l → at + n * word_size ≤ length l
    → word_bytes (words_from l at n) ≡ part l at (n * word_size)
read_from l at zero each h = refl
read_from l at (suc n) each h =
    let whole : length (part l at word_size) ≡ word_size = simp (length-take, length-drop) (omega arith) in
    let same : suc n * word_size ≡ word_size + n * word_size = omega arith in
    ap₂ ◌++◌ (bytes_number (part l at word_size) word_size whole (part_below 256 (lit< tt) l at word_size each))
    (read_from l (at + word_size) n each (omega arith))
    ∙ sym
    (ap (λ (k : ℕ). take k (drop at l)) same
    ∙ take-add word_size (n * word_size) (drop at l)
    ∙ ap (λ (x : List ℕ). part l at word_size ++ take (n * word_size) x) (drop-drop word_size at l))

pub read_bytes :
    (l : List ℕ) (n : ℕ) → AllBytes l → n * word_size ≤ length l
    → word_bytes (words_from l 0 n) ≡ take (n * word_size) l
read_bytes l n each h = read_from l 0 n each (omega arith)

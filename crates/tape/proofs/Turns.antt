-- What stands next on a tape: where it is whole it is all there, and the four are apart.
use mathlib.Core.Path.{◌≡◌, refl}
use mathlib.Core.Bool.{Bool, true, false}
use mathlib.Core.List.{List, [], ◌∷◌}
use Prim.Native.Nat.{ℕ, ◌+◌, ◌≤◌, ◌<◌}
use native.Mathlib.Omega.{arith}
use borrow.Author.Tests.{lt-ltb, leb-true}
use lib.Dec.{ltb, leb, eqb}
use lib.ListN.{length}
use Rattle.std.specs.Prelude.{if◌then◌else◌}
use Rattle.tape.specs.Tape.{item_size, attributes_kind, attributes_size, next_body, next_set, next_item}
use Rattle.tape.specs.Printout.{item_length, set_length}
use Rattle.tape.specs.Pieces.{most_counted, one_more}
use Rattle.tape.specs.declared.Next.TheVariants.{Whole, Short, Bad, Over}

-- ---- counting

pub counted : (n : ℕ) → n < most_counted → n + 1 ≡ one_more n
counted n h = rw (lt-ltb n most_counted h)

-- ---- what stands next is all there

whole_if : (here last : Bool) → (if here then Whole else (if last then Bad else Short)) ≡ Whole → here ≡ true
whole_if true last e = refl
whole_if false true e = let z : ◌≡◌ {A = ℕ} 0 1 = cc in absurd (omega arith)
whole_if false false e = let z : ◌≡◌ {A = ℕ} 0 1 = cc in absurd (omega arith)

pub whole_body : (size have : ℕ) (last : Bool) → next_body size have last ≡ Whole → size ≤ have
whole_body size have last e = leb-true size have (whole_if (leb size have) last e)

whole_set_if : (is_set : Bool) (size have : ℕ) (last : Bool) → (if is_set then next_body size have last else Over) ≡ Whole → size ≤ have
whole_set_if true size have last e = whole_body size have last e
whole_set_if false size have last e = let z : ◌≡◌ {A = ℕ} 0 1 = cc in absurd (omega arith)

whole_item_if : (is_item : Bool) (size have : ℕ) (last : Bool) → (if is_item then next_body size have last else Bad) ≡ Whole → size ≤ have
whole_item_if true size have last e = whole_body size have last e
whole_item_if false size have last e = let z : ◌≡◌ {A = ℕ} 0 1 = cc in absurd (omega arith)

-- more bytes are wanted, or something else is told
pub whole_apart : Whole ≡ Short → ⊥
whole_apart e = let z : ◌≡◌ {A = ℕ} 0 1 = cc in omega arith

pub bad_apart : Bad ≡ Short → ⊥
bad_apart e = let z : ◌≡◌ {A = ℕ} 0 1 = cc in omega arith

pub over_apart : Over ≡ Short → ⊥
over_apart e = let z : ◌≡◌ {A = ℕ} 0 1 = cc in omega arith

none_whole : (last : Bool) → (if last then Over else Short) ≡ Whole → ⊥
none_whole true e = let z : ◌≡◌ {A = ℕ} 0 1 = cc in omega arith
none_whole false e = let z : ◌≡◌ {A = ℕ} 0 1 = cc in omega arith

pub whole_set_there : (left : List ℕ) (last : Bool) → next_set left last ≡ Whole → set_length ≤ length left
whole_set_there [] last e = absurd (none_whole last e)
whole_set_there (k ∷ ks) last e = omega (arith, whole_set_if (eqb k attributes_kind) attributes_size (length ks) last e)

pub whole_item_there : (left : List ℕ) (last : Bool) → next_item left last ≡ Whole → item_length left ≤ length left
whole_item_there [] last e = absurd (none_whole last e)
whole_item_there (k ∷ ks) last e = omega (arith, whole_item_if (ltb 0 (item_size k)) (item_size k) (length ks) last e)

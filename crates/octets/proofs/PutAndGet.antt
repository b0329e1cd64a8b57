-- What is put is read back.
use mathlib.Core.Path.{◌≡◌, refl, sym, ap, ◌∙◌}
use mathlib.Core.List.{List}
use Prim.Native.Nat.{ℕ, zero, suc, ◌+◌, ◌/◌, ◌%◌, ◌^◌, ◌≤◌, ◌<◌}
use native.Mathlib.Nat.{pow-suc, mod-eq_of_lt, one-le-pow, mod-one}
use lib.Arith.{mod-mul}
use lib.Dec.{lit<}
use lib.ListN.{length}
use lib.Seq.{sets}
use Rattle.octets.specs.Octets.{bytes_of, number_of, part}
use Rattle.octets.proofs.Runs.{Apart, part_same, part_other}

pub length_bytes : (w v : ℕ) → length (bytes_of w v) ≡ w
length_bytes zero v = refl
length_bytes (suc w) v = ap suc (length_bytes w (v / 256))

-- of a number, as many bytes as were put
pub number_bytes : (w v : ℕ) → number_of (bytes_of w v) ≡ v % 256 ^ w
number_bytes zero v = sym (mod-one v)
number_bytes (suc w) v = rw (number_bytes w (v / 256), pow-suc) (sym (mod-mul v (one-le-pow w 256 (lit< tt)) (lit< tt)))

module _ (l : List ℕ) (at w v : ℕ) where
  pub part_put : at + w ≤ length l → part (sets l at (bytes_of w v)) at w ≡ bytes_of w v
  part_put h = part_same (bytes_of w v) l at w (length_bytes w v) h

  pub get_put : at + w ≤ length l → v < 256 ^ w → number_of (part (sets l at (bytes_of w v)) at w) ≡ v
  get_put h f = ap number_of (part_put h) ∙ number_bytes w v ∙ mod-eq_of_lt f

  pub get_other : (at' w' : ℕ) → Apart at w at' w' → part (sets l at (bytes_of w v)) at' w' ≡ part l at' w'
  get_other at' w' o = part_other (bytes_of w v) l at at' w' (rw (length_bytes w v) o)

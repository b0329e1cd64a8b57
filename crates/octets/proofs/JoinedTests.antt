-- What tests joined by and tell.
use mathlib.Core.Path.{◌≡◌, refl}
use mathlib.Core.Bool.{Bool, true, false, ◌&&◌, ◌||◌}

pub and_left : (a b : Bool) → a && b ≡ true → a ≡ true
and_left true b h = refl
and_left false b h = h

pub and_right : (a b : Bool) → a && b ≡ true → b ≡ true
and_right true b h = h
and_right false b h = cc

pub both : (a b : Bool) → a && b ≡ true → (a ≡ true) × (b ≡ true)
both a b h = (and_left a b h, and_right a b h)

pub together : (a b : Bool) → a ≡ true → b ≡ true → a && b ≡ true
together a b p q = rw (p, q)

pub left_false : (a b : Bool) → a || b ≡ false → a ≡ false
left_false true b h = h
left_false false b h = refl

pub right_false : (a b : Bool) → a || b ≡ false → b ≡ false
right_false true b h = cc
right_false false b h = h

pub second_false : (a b : Bool) → a ≡ true → a && b ≡ false → b ≡ false
second_false true b e h = h
second_false false b e h = cc

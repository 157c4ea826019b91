-- Tests joined by `&&` and `||`: what the whole says of its parts, and the parts of the whole.
use mathlib.Core.Bool.{Bool, true, false, not, ◌&&◌, ◌||◌}
use mathlib.Core.Path.{◌≡◌, refl}

pub and_left : (a b : Bool) → (a && b) ≡ true → a ≡ true
and_left true b e = refl
and_left false b e = e

pub and_right : (a b : Bool) → (a && b) ≡ true → b ≡ true
and_right true b e = e
and_right false b e = cc

pub and_both : (a b : Bool) → a ≡ true → b ≡ true → (a && b) ≡ true
and_both true b p q = q
and_both false b p q = p

pub or_left : (a b : Bool) → (a || b) ≡ false → a ≡ false
or_left true b e = e
or_left false b e = refl

pub or_right : (a b : Bool) → (a || b) ≡ false → b ≡ false
or_right true b e = cc
or_right false b e = e

pub or_both : (a b : Bool) → a ≡ false → b ≡ false → (a || b) ≡ false
or_both true b p q = p
or_both false b p q = q

-- a test under a condition that holds, and one beside a condition that does not
pub or_then : (a b : Bool) → a ≡ true → (not a || b) ≡ true → b ≡ true
or_then true b h t = t
or_then false b h t = cc

pub or_else_lem : (a b : Bool) → a ≡ false → (a || b) ≡ true → b ≡ true
or_else_lem true b h t = cc
or_else_lem false b h t = t

pub not-false : (b : Bool) → not b ≡ false → b ≡ true
not-false true e = refl
not-false false e = cc

-- A packet's parts: their bounds, and what a packet that is not malformed has.
use Prim.Native.Nat.{ℕ, ◌-◌, ◌/◌, ◌%◌, ◌≤◌, ◌<◌}
use native.Mathlib.Omega.{arith}
use mathlib.Core.Bool.{Bool, true, false, cond, not, ◌||◌}
use mathlib.Core.List.{List}
use mathlib.Core.Path.{◌≡◌, refl, sym, ◌∙◌}
use borrow.Author.Tests.{eq-eqb, ne_eqb, eqb-true, eqb-false, ltb-false, leb-false, not-false}
use lib.Dec.{leb, ltb, eqb}
use lib.ListN.{length, length-drop}
use Rattle.bits.proofs.Tests.{or_left, or_right}
use Rattle.parsing.specs.Packets.{address, control_in, link, index, lead, segment_in, descriptor, code, information, malformed_system, malformed}

-- ---- bounds of a packet's parts

pub index_le : (p : List ℕ) → index p ≤ 7
unfolding index
index_le p = omega arith

pub length-segment : (p : List ℕ) → length (segment_in p) ≡ length p - lead p
unfolding segment_in
length-segment p = length-drop (lead p) p

length-information : (p : List ℕ) → length (information p) ≡ length (segment_in p) - 1
unfolding information
length-information p = length-drop 1 (segment_in p)

-- ---- what a packet that is not malformed has: a segment of 1 to 16 bytes, and at FF hex a block code of at most 8 and at most 15 bytes behind the descriptor

code_le : (p : List ℕ) → malformed_system p ≡ false → code p ≤ 8
unfolding malformed_system
code_le p e =
    let earlier = not (eqb (link p) 3) || eqb (control_in p / 16 % 2) 1 in
    let other = not (eqb (descriptor p % 16) (length (information p))) in
    ltb-false 8 (code p) (or_right earlier (ltb 8 (code p)) (or_left (earlier || ltb 8 (code p)) other e))

information_le : (p : List ℕ) → malformed_system p ≡ false → length (information p) ≤ 15
unfolding malformed_system
information_le p e =
    let earlier = not (eqb (link p) 3) || eqb (control_in p / 16 % 2) 1 || ltb 8 (code p) in
    let same = eqb (descriptor p % 16) (length (information p)) in
    let last = not-false same (or_right earlier (not same) e) in
    omega (arith, eqb-true (descriptor p % 16) (length (information p)) last)

module _ (p : List ℕ) (right : malformed p ≡ false) where
  right_rest : cond (eqb (address p) 0xff) (malformed_system p) (ltb 16 (length (segment_in p)) || eqb (link p) 3) ≡ false
  unfolding malformed
  right_rest =
      or_right (leb (length p) (lead p)) (cond (eqb (address p) 0xff) (malformed_system p) (ltb 16 (length (segment_in p)) || eqb (link p) 3)) right

  pub right_code : address p ≡ 0xff → code p ≤ 8
  right_code e = code_le p (rw (eq-eqb (address p) 0xff e) at right_rest)

  pub right_information : address p ≡ 0xff → length (information p) ≤ 15
  right_information e = information_le p (rw (eq-eqb (address p) 0xff e) at right_rest)

  right_circuit : (address p ≡ 0xff → ⊥) → (ltb 16 (length (segment_in p)) || eqb (link p) 3) ≡ false
  right_circuit e = rw (ne_eqb (address p) 0xff e) at right_rest

  pub right_segment : length (segment_in p) ≤ 16
  right_segment = go (eqb (address p) 0xff) refl
    where
      go : (t : Bool) → eqb (address p) 0xff ≡ t → length (segment_in p) ≤ 16
      go true e = omega (arith, right_information (eqb-true (address p) 0xff e), length-information p)
      go false e =
          ltb-false 16 (length (segment_in p))
          (or_left (ltb 16 (length (segment_in p))) (eqb (link p) 3) (right_circuit (eqb-false (address p) 0xff e)))

-- it has a segment
pub malformed-lead : (p : List ℕ) (b : Bool) → b ≡ malformed p → b ≡ false → lead p < length p
unfolding malformed
malformed-lead p b e f = leb-false _ _ (or_left _ _ (sym e ∙ f))

-- A packet with its FCS behind it: how long it is, that the packet is read from it again, and that its FCS is right.
use Prim.Native.Nat.{ℕ, ◌+◌, ◌-◌, ◌*◌, ◌/◌, ◌%◌, ◌≤◌, ◌<◌}
use mathlib.Core.Bool.{true}
use mathlib.Core.List.{List, [], ◌∷◌}
use mathlib.Core.Path.{◌≡◌}
use native.Mathlib.Omega.{arith}
use borrow.Author.Tests.{eq-eqb}
use lib.ListN.{length, take, get_or, length-append}
use lib.Seq.{length-take-le, take-take, get_or-take, take-append_seam, get_or-append_seam, get_or-append-add}
use lib.Dec.{eqb}
use Rattle.bits.specs.Bits.{bits_of}
use Rattle.bits.proofs.Bits.{length-bits_of}
use Rattle.fcs.specs.Fcs.{fcs_of, low_first}
use Rattle.fcs.proofs.Laws.{low_first_value}
use Rattle.hdlc.specs.Frames.{with_fcs}
use Rattle.hdlc.specs.Bodies.{fcs_right, packet}

pub length-with_fcs : (p : List ℕ) → length (with_fcs p) ≡ length p + 2
unfolding with_fcs low_first
length-with_fcs p = length-append p (low_first (fcs_of p))

pub length_bits_with_fcs : (p : List ℕ) → length (bits_of (with_fcs p)) ≡ 8 * (length p + 2)
length_bits_with_fcs p = rw (length-bits_of, length-with_fcs)

pub packet-with_fcs : (p : List ℕ) → packet (with_fcs p) ≡ p
unfolding packet with_fcs
packet-with_fcs p =
    let e : length (with_fcs p) - 2 ≡ length p = omega (arith, length-with_fcs p) in
    rw e (take-append_seam p (low_first (fcs_of p)))

pub fcs_right-with_fcs : (p : List ℕ) → fcs_right (with_fcs p) ≡ true
unfolding fcs_right with_fcs low_first
fcs_right-with_fcs p =
    let e : length (with_fcs p) - 2 ≡ length p = omega (arith, length-with_fcs p) in
    let low : get_or (with_fcs p) (length p) 0 ≡ fcs_of p % 256 = get_or-append_seam p (fcs_of p % 256) (fcs_of p / 256 ∷ []) 0 in
    let high : get_or (with_fcs p) (length p + 1) 0 ≡ fcs_of p / 256 = get_or-append-add p (low_first (fcs_of p)) 1 0 in
    rw (e, take-append_seam p (low_first (fcs_of p)), low, high)
    (eq-eqb (fcs_of p % 256 + 256 * (fcs_of p / 256)) (fcs_of p) (low_first_value (fcs_of p)))

-- the FCS of the first n bytes, read where it stands among all of them
pub fcs_right-take : (n : ℕ) (bytes : List ℕ) → 2 ≤ n → n ≤ length bytes
    → fcs_right (take n bytes) ≡ eqb (get_or bytes (n - 2) 0 + 256 * get_or bytes (n - 2 + 1) 0) (fcs_of (take (n - 2) bytes))
unfolding fcs_right
fcs_right-take n bytes h l =
    let a : n - 2 < n = omega arith in
    let b : n - 2 + 1 < n = omega arith in
    let c : n - 2 ≤ n = omega arith in
    rw (
      length-take-le n bytes l,
      get_or-take n bytes (n - 2) 0 a,
      get_or-take n bytes (n - 2 + 1) 0 b,
      take-take (n - 2) n bytes c,
    )

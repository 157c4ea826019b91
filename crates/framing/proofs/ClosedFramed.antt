-- What is closed in the framing that keeps the unstuffed bits x of a body: those bits, if they are at most 168, whether the body
-- ends in five ones, and what the declared judgement of x gives.
use Prim.Native.Nat.{ℕ, ◌+◌, ◌-◌, ◌/◌, ◌%◌, ◌≤◌, ◌<◌}
use native.Mathlib.Omega.{arith}
use mathlib.Core.Bool.{Bool, true, false, cond, ◌&&◌}
use mathlib.Core.List.{List}
use mathlib.Core.Path.{◌≡◌, refl, ap}
use lib.ListN.{length, take}
use lib.Seq.{take-append_seam, take-take}
use lib.Dec.{leb, ltb, eqb}
use borrow.Author.Tests.{eqb-true, eqb-false, lt-ltb, le-leb, lt-leb}
use Rattle.bits.specs.Bits.{bits_of, fill_bytes, bytes_of}
use Rattle.bits.proofs.Bits.{length-fill_bytes, bits_of-fill_bytes, take-fill_bytes}
use Rattle.hdlc.specs.Bodies.{passes, spoilt, nothing, fcs_right, packet, passing, judge_bits}
use Rattle.framing.specs.declared.Check.TheVariants.{Packet, Spoilt, Nothing}
use Rattle.framing.specs.Machine.{phase_after, whole, check}
use Rattle.framing.specs.Closings.{Closing, at_most168, given_by, closed}
use Rattle.framing.proofs.Framed.{framed, short, long, framed_cases}

-- an answer of the body check by its two tests
given_by-cond : (right long : Bool) (bytes : List ℕ) (n : ℕ)
    → given_by (cond right (Packet n) (cond long Spoilt Nothing)) bytes
    ≡ cond right (passes (take n bytes)) (cond long spoilt nothing)
unfolding given_by
given_by-cond true long bytes n = refl
given_by-cond false true bytes n = refl
given_by-cond false false bytes n = refl

-- a check of the first n bytes is the declared one of all that the bits fill, where they are n whole bytes
judged_first : (before whole long : Bool) (bytes all : List ℕ) (n : ℕ)
    → (whole ≡ true → take n bytes ≡ all) → (whole ≡ true → length all ≡ n)
    → cond (before && whole && fcs_right (take n bytes)) (passes (take (n - 2) bytes)) (cond long spoilt nothing)
    ≡ cond (before && whole && fcs_right all) (passes (packet all)) (cond long spoilt nothing)
unfolding packet
judged_first before true long bytes all n same size =
    let first : take (n - 2) bytes ≡ take (length all - 2) all =
    rw (size refl, ← same refl, take-take (n - 2) n bytes (omega arith)) in
    rw (same refl, first)
judged_first true false long bytes all n same size = refl
judged_first false false long bytes all n same size = refl

-- whole bytes: the first bytes of 21 are those that the bits fill
module _ (x : List Bool) (fits : length x ≤ 168) (even : eqb (length x % 8) 0 ≡ true) where
  bytes_filled : (length x + 7) / 8 ≡ length x / 8
  bytes_filled = omega (arith, eqb-true (length x % 8) 0 even)

  take_filled : take (length x / 8) (fill_bytes 21 x) ≡ bytes_of x
  unfolding bytes_of
  take_filled = rw (bytes_filled, take-fill_bytes (length x / 8) 21 x (omega arith))

  length_filled : length (bytes_of x) ≡ length x / 8
  unfolding bytes_of
  length_filled = rw (bytes_filled, length-fill_bytes)

-- what is kept are the bits
kept-bits : (x : List Bool) → length x ≤ 168 → take (length x) (bits_of (fill_bytes 21 x)) ≡ x
kept-bits x fits = rw (bits_of-fill_bytes 21 x fits, take-append_seam)

-- a test that fails at its third part
and_stops : (t u v : Bool) → (t && true && false && u && v) ≡ false
and_stops true u v = refl
and_stops false u v = refl

-- what is closed in a phase that tells whether the body ends in fewer than five ones, which e do
closed_framed : (p e o n : ℕ) (x : List Bool) → eqb p 3 ≡ ltb e 5 → eqb p 4 ≡ leb 5 e
    → closed (framed p o x) n ≡ record { read = n; bits = at_most168 x; five = leb 5 e; gives = judge_bits e x }
unfolding closed check whole short long given_by at_most168 judge_bits passing
closed_framed p e o n x plain five =
    framed_cases (λ f. closed f n ≡ record { read = n; bits = at_most168 x; five = leb 5 e; gives = judge_bits e x }) p o x
    (λ fits.
    rw (kept-bits x fits, given_by-cond, plain, five)
    (ap {B = Closing} (λ g. record { read = n; bits = at_most168 x; five = leb 5 e; gives = g })
    (judged_first (ltb e 5 && leb 32 (length x) && leb (length x) 168) (eqb (length x % 8) 0) (leb 32 (length x)) (fill_bytes 21 x)
    (bytes_of x) (length x / 8) (take_filled x fits) (length_filled x fits))))
    (λ more. simp (five, lt-leb (length x) 168 more, le-leb 32 (length x) (omega arith), and_stops))

-- what is closed behind a body that e ones end
pub closed-phase_after : (e o n : ℕ) (x : List Bool) → e < 6
    → closed (framed (phase_after e) o x) n ≡ record { read = n; bits = at_most168 x; five = leb 5 e; gives = judge_bits e x }
unfolding phase_after
closed-phase_after e o n x few = go (eqb e 5) refl
  where
    go : (t : Bool) → eqb e 5 ≡ t
        → closed (framed (phase_after e) o x) n ≡ record { read = n; bits = at_most168 x; five = leb 5 e; gives = judge_bits e x }
    go true is =
        let five : e ≡ 5 = eqb-true e 5 is in
        rw is (closed_framed 4 e o n x (rw five) (rw five))
    go false is =
        let other : e ≡ 5 → ⊥ = eqb-false e 5 is in
        let fewer : e < 5 = omega arith in
        rw is (closed_framed 3 e o n x (rw (lt-ltb e 5 fewer)) (rw (lt-leb 5 e fewer)))

-- A scan stops at the first body that passes or is spoilt, tells what it gives, and leaves the framing that the bits read leave.
use Prim.Native.Nat.{ℕ, suc, ◌-◌, ◌≤◌}
use mathlib.Core.Bool.{Bool, true, false, cond}
use mathlib.Core.List.{List, [], ◌∷◌}
use mathlib.Core.Path.{◌≡◌, refl}
use native.Mathlib.Omega.{arith}
use lib.ListN.{take}
use Rattle.framing.specs.declared.Framing.{Framing}
use Rattle.framing.specs.declared.Check.{Check}
use Rattle.framing.specs.declared.Check.TheVariants.{Packet, Spoilt, Nothing}
use Rattle.framing.specs.declared.Scan.{Scan}
use Rattle.framing.specs.Machine.{step, run, closes, check}
use Rattle.framing.specs.Closings.{given_by, closed, closings}
use Rattle.framing.specs.Scanning.{ended, stopped, scan, giving, first_giving, stopped_by}
use Rattle.framing.proofs.Scanned.{scan_cons, scan-least}

-- what a stop at a bit tells is what the body closed there gives, or what comes later
stopped_gives : (c : Check) (f : Framing) (b : Bool) (at : ℕ) (later : Scan) →
    stopped_by (stopped c f b at later) ≡ giving (given_by c f.bits) (suc at) (stopped_by later)
unfolding stopped_by stopped giving given_by
stopped_gives (Packet n) f b at later = refl
stopped_gives Spoilt f b at later = refl
stopped_gives Nothing f b at later = refl

pub scan_finds_first : (bs : List Bool) (f : Framing) (at : ℕ) → stopped_by (scan f at bs) ≡ first_giving (closings f at bs)
unfolding scan ended closings closed first_giving stopped_by giving given_by
scan_finds_first [] f at = refl
scan_finds_first (b ∷ bs) f at = go (closes f b) refl (scan_finds_first bs (step f b) (suc at))
  where
    go : (t : Bool) → closes f b ≡ t → stopped_by (scan (step f b) (suc at) bs) ≡ first_giving (closings (step f b) (suc at) bs) →
        stopped_by (cond (closes f b) (stopped (check f) f b at (scan (step f b) (suc at) bs)) (scan (step f b) (suc at) bs))
        ≡ first_giving (cond (closes f b) (closed f (suc at) ∷ closings (step f b) (suc at) bs) (closings (step f b) (suc at) bs))
    go true e later = rw (e, stopped_gives (check f) f b at (scan (step f b) (suc at) bs), later)
    go false e later = rw e later

-- ---- the framing that a scan leaves

-- the bits up to one behind the first
pub take_behind : (n at : ℕ) (b : Bool) (bs : List Bool) → suc at ≤ n → take (n - at) (b ∷ bs) ≡ b ∷ take (n - suc at) bs
take_behind n at b bs h =
    let e : n - at ≡ suc (n - suc at) = omega arith in
    rw e

-- the framing is the one that the bits read leave
LeavesRun : Framing → ℕ → List Bool → Scan → Type 0
LeavesRun f at bs s = s.framing ≡ run f (take (s.at - at) bs)

later_leaves : (f : Framing) (at : ℕ) (b : Bool) (bs : List Bool) (s : Scan) → suc at ≤ s.at → LeavesRun (step f b) (suc at) bs s →
    LeavesRun f at (b ∷ bs) s
unfolding LeavesRun run
later_leaves f at b bs s h later = rw (take_behind s.at at b bs h) later

stop_leaves : (f : Framing) (at : ℕ) (b : Bool) (bs : List Bool) → step f b ≡ run f (take (suc at - at) (b ∷ bs))
unfolding run
stop_leaves f at b bs =
    let e : suc at - at ≡ 1 = omega arith in
    rw e

stopped_leaves : (c : Check) (f : Framing) (at : ℕ) (b : Bool) (bs : List Bool) (later : Scan) → LeavesRun f at (b ∷ bs) later →
    LeavesRun f at (b ∷ bs) (stopped c f b at later)
unfolding LeavesRun stopped
stopped_leaves (Packet n) f at b bs later l = stop_leaves f at b bs
stopped_leaves Spoilt f at b bs later l = stop_leaves f at b bs
stopped_leaves Nothing f at b bs later l = l

leaves_run : (bs : List Bool) (f : Framing) (at : ℕ) → LeavesRun f at bs (scan f at bs)
unfolding LeavesRun scan ended run
leaves_run [] f at = let e : at - at ≡ 0 = omega arith in rw e
leaves_run (b ∷ bs) f at =
    let later = later_leaves f at b bs (scan (step f b) (suc at) bs) (scan-least bs (step f b) (suc at)) (leaves_run bs (step f b) (suc at)) in
    scan_cons (LeavesRun f at (b ∷ bs)) f at b bs later
    (stopped_leaves (check f) f at b bs (scan (step f b) (suc at) bs) later)

pub scan_leaves : (bs : List Bool) (f : Framing) (at : ℕ) → (scan f at bs).framing ≡ run f (take ((scan f at bs).at - at) bs)
unfolding LeavesRun
scan_leaves bs f at = leaves_run bs f at

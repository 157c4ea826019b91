-- Cutting the bits at any place changes nothing: what a scan finds in bits that are read in two parts is what it finds when they
-- are read in one. (`Runs` has the same of what bits leave and close.)
use Prim.Native.Nat.{ℕ, suc}
use mathlib.Core.Bool.{Bool, true, false, cond}
use mathlib.Core.List.{List, [], ◌∷◌, ◌++◌}
use mathlib.Core.Path.{◌≡◌, refl}
use Rattle.framing.specs.declared.Framing.{Framing}
use Rattle.framing.specs.declared.Check.{Check}
use Rattle.framing.specs.declared.Check.TheVariants.{Packet, Spoilt, Nothing}
use Rattle.framing.specs.declared.Scan.{Scan}
use Rattle.framing.specs.Machine.{step, closes, check}
use Rattle.framing.specs.Scanning.{ended, stopped, scan, resumed_by, resumed}

-- a stop at a bit, with what comes later
resumed-stopped : (t : Bool) (k : Check) (f : Framing) (x : Bool) (at : ℕ) (later : Scan) (b : List Bool)
    → cond t (stopped k f x at (resumed later b)) (resumed later b) ≡ resumed (cond t (stopped k f x at later) later) b
unfolding resumed resumed_by stopped
resumed-stopped false k f x at later b = refl
resumed-stopped true (Packet n) f x at later b = refl
resumed-stopped true Spoilt f x at later b = refl
resumed-stopped true Nothing f x at later b = refl

pub scan_append : (f : Framing) (at : ℕ) (a b : List Bool) → scan f at (a ++ b) ≡ resumed (scan f at a) b
unfolding scan resumed resumed_by ended
scan_append f at [] b = refl
scan_append f at (x ∷ a) b =
    rw (scan_append (step f x) (suc at) a b) (resumed-stopped (closes f x) (check f) f x at (scan (step f x) (suc at) a) b)

-- A scan from a framing in range leaves one in range. The bits of a framing stand in 21 bytes: a step and a scan keep them so, and the bytes that a scan
-- tells are 21 too.
use Prim.Native.Nat.{ℕ, zero, suc, ◌+◌, ◌-◌}
use mathlib.Core.Bool.{Bool, true, false, cond}
use mathlib.Core.List.{List, [], ◌∷◌, ◌++◌}
use mathlib.Core.Path.{◌≡◌, refl, ap, ◌∙◌}
use lib.ListN.{length, replicate, take}
use lib.Dec.{leb, ltb, eqb, lit<}
use Rattle.bits.specs.Bits.{fill_bytes, Bytes}
use Rattle.bits.proofs.Bits.{length-fill_bytes, Bytes-fill_bytes}
use Rattle.framing.specs.declared.Framing.{Framing}
use Rattle.framing.specs.declared.Check.{Check}
use Rattle.framing.specs.declared.Check.TheVariants.{Packet, Spoilt, Nothing}
use Rattle.framing.specs.declared.Scan.{Scan}
use Rattle.framing.specs.Machine.{empty, fresh, one_read, held, keep, zero_read, step, run, check}
use Rattle.framing.specs.Range.{LeftBy, in_range}
use Rattle.framing.specs.Scanning.{ended, stopped, scan}
use Rattle.framing.proofs.Runs.{run_append}
use Rattle.framing.proofs.RangeExact.{left_in_range, in-range-left}
use Rattle.framing.proofs.Scanned.{scan_cons}
use Rattle.framing.proofs.ScanFindsFirst.{scan_leaves}

-- 21 bytes
pub record Array21 (bytes : List ℕ) : Type 0 where
  pub long : length bytes ≡ 21
  pub each : Bytes bytes

Array21_zeros : Array21 (replicate 21 0)
unfolding Bytes
Array21_zeros = record { long = refl; each = zeros 21 }
  where
    zeros : (n : ℕ) → Bytes (replicate n 0)
    zeros zero = tt
    zeros (suc n) = (lit< tt, zeros n)

Array21-fill_bytes : (bs : List Bool) → Array21 (fill_bytes 21 bs)
Array21-fill_bytes bs = record { long = length-fill_bytes 21 bs; each = Bytes-fill_bytes 21 bs }

Array21-empty : (phase : ℕ) → Array21 (empty phase).bits
unfolding empty
Array21-empty phase = Array21_zeros

pub Array21-fresh : Array21 fresh.bits
unfolding fresh
Array21-fresh = Array21-empty 0

-- either of two framings
Array21-cond : (t : Bool) (f g : Framing) → Array21 f.bits → Array21 g.bits → Array21 (cond t f g).bits
Array21-cond true f g h k = h
Array21-cond false f g h k = k

-- ---- a step

Array21-keep : (f : Framing) → Array21 (keep f).bits
unfolding keep
Array21-keep f = Array21-cond (leb (f.count + length (held f)) 168) _ _ (Array21-fill_bytes _) Array21_zeros

Array21-step : (f : Framing) (b : Bool) → Array21 f.bits → Array21 (step f b).bits
unfolding step one_read zero_read
Array21-step f true h = Array21-cond (eqb f.phase 0) _ _ h (Array21-cond (ltb f.ones 6) _ _ h Array21-fresh)
Array21-step f false h =
    Array21-cond (eqb f.phase 0) _ _ (Array21-empty 1)
    (Array21-cond (ltb f.ones 6) _ _ (Array21-cond (eqb f.phase 1) _ _ (Array21-empty 1) (Array21-keep f)) (Array21-empty 2))

-- ---- a scan: the framing it leaves and the bytes it tells

pub record Arrays (s : Scan) : Type 0 where
  pub left : Array21 s.framing.bits
  pub told : Array21 s.bytes

Arrays-stopped : (c : Check) (f : Framing) (b : Bool) (at : ℕ) (later : Scan) → Array21 f.bits → Arrays later →
    Arrays (stopped c f b at later)
unfolding stopped
Arrays-stopped (Packet n) f b at later h l = record { left = Array21-step f b h; told = h }
Arrays-stopped Spoilt f b at later h l = record { left = Array21-step f b h; told = h }
Arrays-stopped Nothing f b at later h l = l

pub Arrays-scan : (bs : List Bool) (f : Framing) (at : ℕ) → Array21 f.bits → Arrays (scan f at bs)
unfolding scan ended
Arrays-scan [] f at h = record { left = h; told = Array21_zeros }
Arrays-scan (b ∷ bs) f at h =
    let later : Arrays (scan (step f b) (suc at) bs) = Arrays-scan bs (step f b) (suc at) (Array21-step f b h) in
    scan_cons Arrays f at b bs later (Arrays-stopped (check f) f b at (scan (step f b) (suc at) bs) h later)

-- ---- the range

pub fresh_in_range : in_range fresh ≡ true
unfolding LeftBy run
fresh_in_range = left_in_range fresh ([], refl)

-- bits read on from a framing that bits leave
pub LeftBy-run : (f : Framing) (bs : List Bool) → LeftBy f → LeftBy (run f bs)
unfolding LeftBy
LeftBy-run f bs (cs, e) = (cs ++ bs, run_append cs bs fresh ∙ ap (λ g. run g bs) e)

pub scan_in_range : (bs : List Bool) (f : Framing) (at : ℕ) → Array21 f.bits → in_range f ≡ true → in_range (scan f at bs).framing ≡ true
scan_in_range bs f at h e =
    let read : List Bool = take ((scan f at bs).at - at) bs in
    rw (scan_leaves bs f at) (left_in_range (run f read) (LeftBy-run f read (in-range-left f h.long h.each e)))

-- A scan: bits are read up to the first body that passes or is spoilt (document 01, "Notices").
use Rattle.std.specs.Prelude.{ℕ, suc, Bool, cond, List, [], ◌∷◌, replicate}
use Rattle.std.proofs.Math.Option.{Option, none, some}
use Rattle.hdlc.specs.Bodies.{Judged, passes, spoilt, nothing}
use Rattle.framing.specs.declared.Framing.{Framing}
use Rattle.framing.specs.declared.Check.{Check}
use Rattle.framing.specs.declared.Check.TheVariants.{Packet, Spoilt, Nothing}
use Rattle.framing.specs.declared.Scan.{Scan}
use Rattle.framing.specs.Machine.{step, closes, check}
use Rattle.framing.specs.Closings.{Closing, given_by}

-- the end of the bits: every bit is read, and no body stopped the scan
unfoldable pub ended : Framing → ℕ → Scan
ended f at = record { framing = f; at = at; check = Nothing; bytes = replicate 21 0 }

-- a body closed by bit b, number at, in the framing f: the scan stops behind that bit unless the body gives nothing;
-- `later` is what the bits behind it give
unfoldable pub stopped : Check → Framing → Bool → ℕ → Scan → Scan
stopped (Packet n) f b at later = record { framing = step f b; at = suc at; check = Packet n; bytes = f.bits }
stopped Spoilt f b at later = record { framing = step f b; at = suc at; check = Spoilt; bytes = f.bits }
stopped Nothing f b at later = later

-- the bits from number at on, read from the framing f
unfoldable pub scan : Framing → ℕ → List Bool → Scan
scan f at [] = ended f at
scan f at (b ∷ bs) =
    let later = scan (step f b) (suc at) bs in
    cond (closes f b) (stopped (check f) f b at later) later

-- the further bits read from where a scan ended: one that a body stopped stays as it is
unfoldable pub resumed_by : Check → Scan → List Bool → Scan
resumed_by (Packet n) s bs = s
resumed_by Spoilt s bs = s
resumed_by Nothing s bs = scan s.framing s.at bs

unfoldable pub resumed : Scan → List Bool → Scan
resumed s bs = resumed_by s.check s bs

-- what a body gives, and after how many bits, or what comes later where it gives nothing
unfoldable pub giving : Judged → ℕ → Option (ℕ × Judged) → Option (ℕ × Judged)
giving (passes p) read later = some (read, passes p)
giving spoilt read later = some (read, spoilt)
giving nothing read later = later

-- the first of the bodies closed that gives something
unfoldable pub first_giving : List Closing → Option (ℕ × Judged)
first_giving [] = none
first_giving (c ∷ cs) = giving c.gives c.read (first_giving cs)

-- what stopped a scan, and after how many bits
unfoldable pub stopped_by : Scan → Option (ℕ × Judged)
stopped_by s = giving (given_by s.check s.bytes) s.at none

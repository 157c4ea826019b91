-- How far bits are read at once, and a turn of a scan.
use Rattle.std.specs.Prelude.{ℕ, ◌+◌, ◌≤◌, Bool, cond, List, ◌≡◌, replicate}
use Rattle.std.proofs.Math.Seq.{slice}
use Rattle.framing.specs.declared.Framing.{Framing}
use Rattle.framing.specs.declared.Check.{Check}
use Rattle.framing.specs.declared.Scan.{Scan}
use Rattle.framing.specs.Machine.{step, closes, check}
use Rattle.framing.specs.Range.{LeftBy}
use Rattle.framing.specs.Scanning.{stopped, scan}

-- outside a body, behind a zero and so many ones
abbrev pub outside : ℕ → Framing
outside ones = record { phase = 1; ones = ones; count = 0; bits = replicate 21 0 }

-- bits `from` to `at` read at once, from the framing f: the framing g then is one that bits leave too, and a scan of what is left, up to `to`, gives what
-- a scan of all gives
pub record ReadAhead (f g : Framing) (bits : List Bool) (from at to : ℕ) : Type 0 where
  pub least : from ≤ at
  pub most : at ≤ to
  pub left : LeftBy g
  pub same : scan g at (slice at to bits) ≡ scan f from (slice from to bits)

-- a scan's end at bit b, number `at`, that closes a body in the framing f, by what that gives
abbrev pub stop : Framing → Bool → ℕ → Check → Scan
stop f b at check = record { framing = step f b; at = at + 1; check = check; bytes = f.bits }

-- a scan's turn at that bit, whether it closes a body or not; `later` is what the bits behind it give
abbrev pub turn : Framing → Bool → ℕ → Scan → Scan
turn f b at later = cond (closes f b) (stopped (check f) f b at later) later

-- One turn of a scan: what reading the bit at a number makes of what is still to be read.
use Prim.Native.Nat.{ℕ, suc, ◌+◌, ◌≤◌, ◌<◌}
use mathlib.Core.Bool.{Bool, true, false}
use mathlib.Core.List.{List}
use mathlib.Core.Path.{◌≡◌, refl, sym, ◌∙◌}
use native.Mathlib.Numerals.{add-one}
use lib.ListN.{length, get_or}
use lib.Seq.{slice, slice_empty, slice-cons}
use Rattle.framing.specs.declared.Framing.{Framing}
use Rattle.framing.specs.declared.Check.{Check}
use Rattle.framing.specs.declared.Check.TheVariants.{Packet, Spoilt, Nothing}
use Rattle.framing.specs.declared.Scan.{Scan}
use Rattle.framing.specs.Machine.{step, closes, check}
use Rattle.framing.specs.Scanning.{ended, stopped, scan}
use Rattle.bits.specs.Bits.{bits_of}
use Rattle.scanning.specs.declared.stretch.Stretch.{Stretch}
use Rattle.scanning.specs.Ahead.{ReadAhead, stop, turn}

-- ---- what a closed body gives

-- an answer of which the code knows that it is not `Nothing` stops a scan
stopped_by_lem : (k : Check) (f : Framing) (b : Bool) (at : ℕ) (later : Scan) → (k ≡ Nothing → ⊥)
    → stopped k f b at later ≡ record { framing = step f b; at = suc at; check = k; bytes = f.bits }
unfolding stopped
stopped_by_lem (Packet n) f b at later t = refl
stopped_by_lem Spoilt f b at later t = refl
stopped_by_lem Nothing f b at later t = absurd (t refl)

module _ (f : Framing) (b t : Bool) (at : ℕ) (closing : t ≡ closes f b) where
  -- it closes none
  pub turn_open : t ≡ false → (later : Scan) → turn f b at later ≡ later
  turn_open e later = rw (← closing, e)

  -- it closes one; k is what that gives
  module _ (k : Check) (e : t ≡ true) (ck : k ≡ check f) where
    pub turn_nothing : k ≡ Nothing → (later : Scan) → turn f b at later ≡ later
    unfolding stopped
    turn_nothing n later = rw (← closing, e, ← ck, n)

    pub turn_stopped : (s : Scan) → (k ≡ Nothing → ⊥) → s ≡ stop f b at k → (later : Scan) → turn f b at later ≡ s
    turn_stopped s n is later = rw (← closing, e, ← ck, is, add-one) (stopped_by_lem k f b at later n)

-- ---- the bit at number at

module _ (f : Framing) (bs : List Bool) (at to : ℕ) (b : Bool) (below : at < to) (there : to ≤ length bs) (bit : b ≡ get_or bs at false) where
  scan_cons : scan f at (slice at to bs) ≡ turn f b at (scan (step f b) (at + 1) (slice (at + 1) to bs))
  unfolding scan
  scan_cons = rw (slice-cons at to bs false below there, ← bit, add-one)

  pub scan_goes_on : (r : Framing) → r ≡ step f b → ((later : Scan) → turn f b at later ≡ later)
      → scan r (at + 1) (slice (at + 1) to bs) ≡ scan f at (slice at to bs)
  scan_goes_on r s e = rw s (sym (scan_cons ∙ e (scan (step f b) (at + 1) (slice (at + 1) to bs))))

  pub scan_stops : (s : Scan) → ((later : Scan) → turn f b at later ≡ s) → s ≡ scan f at (slice at to bs)
  scan_stops s e = sym (scan_cons ∙ e (scan (step f b) (at + 1) (slice (at + 1) to bs)))

-- no bit is left
pub scan_end : (f : Framing) (bs : List Bool) (at to n : ℕ) → at ≡ to → n ≡ to → ended f n ≡ scan f at (slice at to bs)
unfolding scan
scan_end f bs at to n q e = rw (q, e, slice_empty)

-- what is read of the bits of a stretch behind some of them
pub behind_read : {f g : Framing} (rest s : Stretch) (at : ℕ) {to : ℕ} → (rest.bytes ≡ s.bytes) × (rest.from ≡ at) × (rest.to ≡ s.to)
    → ReadAhead f g (bits_of rest.bytes.now) rest.from to rest.to → ReadAhead f g (bits_of s.bytes.now) at to s.to
behind_read rest s at e r = rw (e.0, e.1, e.2) at r

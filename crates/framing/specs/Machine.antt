-- The framing: what a receiver keeps between two bits to find flags and bodies (document 01, "Frames and bits").
-- `phase` is 0 where no zero is read that could start a flag (fresh, or after seven ones), 1 behind such a zero outside a body,
-- and in a body 2, 3 or 4: the last zero is the opening flag's own, a plain bit, or a zero behind five ones.
-- `ones` counts the ones behind that zero, `count` the unstuffed bits of the body before it, or is 169 for more than 168;
-- `bits` holds those bits, all unused places 0. So the last zero and the ones behind it are held back: where they turn out to
-- begin the closing flag, exactly the body's unstuffed bits are there, and the body ends in five ones exactly in phase 4.
use Rattle.std.specs.Prelude.{ℕ, Option, None, Some, ◌+◌, ◌-◌, ◌/◌, ◌%◌, Bool, true, false, cond, not, ◌&&◌, List, [], ◌∷◌, length, take, replicate, leb, ltb, eqb}
use Rattle.std.proofs.lemmas.List.Edits.{sets}
use Rattle.bits.specs.Bits.{bits_of, fill_bytes}
use Rattle.hdlc.specs.Bodies.{fcs_right}
use Rattle.framing.specs.declared.Framing.{Framing}
use Rattle.framing.specs.declared.Check.{Check}
use Rattle.framing.specs.declared.Check.TheVariants.{Packet, Spoilt, Nothing}

-- no bit kept, in a phase
unfoldable pub empty : ℕ → Framing
empty phase = record { phase = phase; ones = 0; count = 0; bits = replicate 21 0 }

-- before the first bit, and after seven ones
unfoldable pub fresh : Framing
fresh = empty 0

-- a one read
unfoldable pub one_read : Framing → Framing
one_read f =
    cond (eqb f.phase 0) f
    (cond (ltb f.ones 6) (record { phase = f.phase; ones = f.ones + 1; count = f.count; bits = f.bits }) fresh)

-- the bits held back that belong to the body once it goes on: a plain zero, and the ones behind the last zero
unfoldable pub held : Framing → List Bool
held f = cond (eqb f.phase 3) (false ∷ replicate f.ones true) (replicate f.ones true)

-- the phase in which a zero behind a number of ones is held back
unfoldable pub phase_after : ℕ → ℕ
phase_after ones = cond (eqb ones 5) 4 3

-- a zero read in a body: the bits held back are kept, if there is room, and the new zero is held back
unfoldable pub keep : Framing → Framing
keep f =
    cond (leb (f.count + length (held f)) 168)
    (record {
      phase = phase_after f.ones;
      ones = 0;
      count = f.count + length (held f);
      bits = fill_bytes 21 (sets (bits_of f.bits) f.count (held f));
    })
    (record { phase = phase_after f.ones; ones = 0; count = 169; bits = replicate 21 0 })

-- a zero read: behind six ones it ends a flag, which opens a body
unfoldable pub zero_read : Framing → Framing
zero_read f =
    cond (eqb f.phase 0) (empty 1)
    (cond (ltb f.ones 6) (cond (eqb f.phase 1) (empty 1) (keep f)) (empty 2))

-- the framing after one more bit
unfoldable pub step : Framing → Bool → Framing
step f true = one_read f
step f false = zero_read f

-- the framing after bits
unfoldable pub run : Framing → List Bool → Framing
run f [] = f
run f (b ∷ bs) = run (step f b) bs

-- the next bit ends a flag that closes a body
unfoldable pub closes : Framing → Bool → Bool
closes f b = not b && leb 6 f.ones && leb 3 f.phase

-- the body that is closed passes
unfoldable pub whole : Framing → Bool
whole f =
    eqb f.phase 3 && leb 32 f.count && leb f.count 168 && eqb (f.count % 8) 0 &&
    fcs_right (take (f.count / 8) f.bits)

-- the same as an answer, with the length of the packet
unfoldable pub verdict_of : Framing → Option ℕ
verdict_of f = cond (whole f) (Some (f.count / 8 - 2)) None

-- the answer of the body check where a body is closed: the length of the packet at the start of `bits`, or why there is none
unfoldable pub check : Framing → Check
check f = cond (whole f) (Packet (f.count / 8 - 2)) (cond (leb 32 f.count) Spoilt Nothing)

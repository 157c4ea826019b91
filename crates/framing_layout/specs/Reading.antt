-- Reading with a framing alone: the bits are scanned up to the first body that passes or is spoilt, whatever circuit its packet is of.
use Rattle.std.specs.Prelude.{ℕ, ◌-◌, ◌*◌, cond, not, ◌||◌, List, length, take, ltb, eqb}
use Rattle.std.proofs.Math.Seq.{slice}
use Rattle.std.proofs.lemmas.List.Edits.{sets}
use Rattle.bits.specs.Bits.{bits_of}
use Rattle.framing.specs.declared.Framing.{Framing}
use Rattle.framing.specs.declared.Scan.{Scan}
use Rattle.framing.specs.Range.{in_range}
use Rattle.framing.specs.Scanning.{scan}
use Rattle.framing_layout.specs.FramingBytes.{framing_bytes, framing_in, length_given, framing_answer_bytes}

-- the scan of a reading call
unfoldable pub framing_scan : Framing → List ℕ → ℕ → ℕ → Scan
framing_scan f bits from to = scan f from (slice from to (bits_of bits))

-- 14 for a framing that no bits leave; "15 from above to, or to past the bytes lent"; 0 if the call is accepted
unfoldable pub framing_refusal : Framing → List ℕ → ℕ → ℕ → ℕ
framing_refusal f bits from to = cond (not (in_range f)) 14 (cond (ltb to from || ltb (8 * length bits) to) 15 0)

-- what the bytes of the framing, those lent for the packet and those of the answer are then; a refused call leaves them as they were
unfoldable pub framing_after : List ℕ → List ℕ → ℕ → ℕ → List ℕ
framing_after bytes bits from to =
    cond (eqb (framing_refusal (framing_in bytes 0) bits from to) 0) (sets bytes 0 (framing_bytes (framing_scan (framing_in bytes 0) bits from to).framing)) bytes

unfoldable pub packet_after : List ℕ → List ℕ → ℕ → ℕ → List ℕ → List ℕ
packet_after bytes bits from to packet =
    let s = framing_scan (framing_in bytes 0) bits from to in
    cond (eqb (framing_refusal (framing_in bytes 0) bits from to) 0) (sets packet 0 (take (length_given s.check) s.bytes)) packet

unfoldable pub answer_after : List ℕ → List ℕ → ℕ → ℕ → List ℕ → List ℕ
answer_after bytes bits from to answer =
    let s = framing_scan (framing_in bytes 0) bits from to in
    cond (eqb (framing_refusal (framing_in bytes 0) bits from to) 0) (sets answer 0 (framing_answer_bytes s.check (s.at - from))) answer

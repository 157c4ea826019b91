-- A reading call that is not refused reads a bit or more, and none from the end on.
use Rattle.std.proofs.Common.{◌≡◌, ℕ, ◌+◌, ◌<◌, ◌≤◌, List, Result, Ok, sym, ap, ◌∙◌, arith}
use Rattle.bits.specs.Bits.{bits_of}
use Rattle.bits.proofs.Bits.{length-bits_of}
use Rattle.framing.proofs.Scanned.{scan-between}
use Rattle.packet.specs.declared.Refusal.{Refusal}
use Rattle.packet.specs.Stores.{Stores}
use Rattle.receiver.specs.declared.Receiver.{Receiver}
use Rattle.receiver.specs.declared.Told.{Told}
use Rattle.receiver.specs.Reading.{ReadCalled, read_by, read_scan, read_refusal, bits_read, told_by_read}
use Rattle.receiver.proofs.ReadLaws.{told_by, accepted}

pub record ReadOn (from to bits : ℕ) : Type 0 where
  pub some : 0 < bits
  pub within : from + bits ≤ to

pub read_on_lem : (r : Receiver) (l : Stores) (bytes : List ℕ) (from to : ℕ) → from < to → {left : Receiver} {new : Stores} {a : Result Told Refusal}
    → ReadCalled r l bytes from to left new a → {t : Told} → a ≡ Ok t → ReadOn from to t.bits
unfolding told_by_read bits_read read_scan
read_on_lem r l bytes from to h called {t} e =
    let (none, is) = told_by (read_refusal r l bytes from to) _ t (sym e ∙ called.told) in
    let k = accepted r l bytes from to none in
    let s = scan-between r.framing (bits_of bytes) from to h (omega (arith, length-bits_of bytes, k.lent)) in
    let n = rw none at (ap (λ (told : Told). told.bits) is) in
    record { some = omega (arith, s, n); within = omega (arith, s, n) }

-- The laws of packets as bytes: how long a packet is, and that its bytes are bytes.
use Prim.Native.Nat.{ℕ, ◌≤◌, ◌<◌}
use native.Mathlib.Omega.{arith}
use mathlib.Core.Bool.{Bool, true, false, cond}
use mathlib.Core.List.{List, [], ◌∷◌}
use lib.Dec.{eqb}
use lib.ListN.{length, length-append}
use Rattle.bits.specs.Bits.{Bytes}
use Rattle.bits.proofs.Bits.{Bytes_append}
use Rattle.packet.specs.declared.Circuit.{Circuit}
use Rattle.packet.specs.Packets.{control, extension_of, packet_of}

-- an extension is one byte, or none
length-extension_of : (c : Circuit) → length (extension_of c) ≤ 1
unfolding extension_of
length-extension_of c = go (eqb c.extended 0)
  where
    go : (t : Bool) → length (cond t [] (c.extension ∷ [])) ≤ 1
    go true = omega arith
    go false = omega arith

extension_of-Bytes : (c : Circuit) → c.extension < 256 → Bytes (extension_of c)
unfolding extension_of Bytes
extension_of-Bytes c h = go (eqb c.extended 0)
  where
    go : (t : Bool) → Bytes (cond t [] (c.extension ∷ []))
    go true = tt
    go false = (h, tt)

-- a packet of a segment of 1 to 16 bytes has 3 to 19
pub length-packet_of : (c : Circuit) (link index priority : ℕ) (s : List ℕ) → 1 ≤ length s → length s ≤ 16
    → (3 ≤ length (packet_of c link index priority s)) × (length (packet_of c link index priority s) ≤ 19)
unfolding packet_of
length-packet_of c link index priority s some most = simp length-append (omega (arith, length-extension_of c))

-- control is a byte, and so are a packet's bytes
control_lt : (link extended index priority : ℕ) → link < 4 → extended < 2 → index < 8 → priority < 4
    → control link extended index priority < 256
unfolding control
control_lt link extended index priority l e i p = omega arith

pub packet_of-Bytes : (c : Circuit) (link index priority : ℕ) (s : List ℕ) → c.address < 256 → c.extended < 2 → c.extension < 256
    → link < 4 → index < 8 → priority < 4 → Bytes s → Bytes (packet_of c link index priority s)
unfolding packet_of Bytes
packet_of-Bytes c link index priority s a e x l i p h =
    (a, (control_lt link c.extended index priority l e i p, Bytes_append (extension_of c) s (extension_of-Bytes c x) h))

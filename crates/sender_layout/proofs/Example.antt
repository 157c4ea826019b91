-- The bytes of the record of no circuits, which a refused listing returns.
use mathlib.Core.Path.{◌≡◌, refl}
use Prim.Native.Nat.{ℕ}
use mathlib.Core.List.{List, [], ◌∷◌, ◌++◌}
use lib.ListN.{replicate}
use Rattle.packet.specs.Circuits.{no_circuit, record_of}
use Rattle.offering.specs.Record as sender
use Rattle.layout.specs.Layout.{low_bytes, circuit_bytes, circuits_bytes}
use Rattle.sender_layout.specs.SenderBytes as senders

empty_slot : List ℕ
empty_slot = 0 ∷ 0 ∷ 0 ∷ 0 ∷ 0 ∷ 0 ∷ 1 ∷ 0 ∷ 0 ∷ 0 ∷ []

sender-empty : senders.sender_bytes (sender.fresh (record_of [])) ≡ replicate 13 0 ++ empty_slot ++ empty_slot ++ empty_slot ++ empty_slot ++ 3 ∷ 15 ∷ []
unfolding empty_slot senders.sender_bytes senders.slots_bytes senders.slot_bytes sender.fresh sender.fresh_slot low_bytes circuits_bytes circuit_bytes record_of no_circuit
sender-empty = refl

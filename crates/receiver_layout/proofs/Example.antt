-- The bytes of the record of no circuits, which a refused listing returns.
use mathlib.Core.Path.{◌≡◌, refl}
use mathlib.Core.List.{[]}
use lib.ListN.{replicate}
use Rattle.bits.specs.Bits.{bit_value}
use Rattle.packet.specs.Circuits.{no_circuit, record_of}
use Rattle.framing.specs.Machine as framing
use Rattle.notices.specs.Slots.{fresh_slot}
use Rattle.receiver.specs.Record as receiver
use Rattle.layout.specs.Layout.{low_bytes, circuit_bytes, circuits_bytes}
use Rattle.framing_layout.specs.FramingBytes.{framing_bytes}
use Rattle.receiver_layout.specs.ReceiverBytes as receivers

receiver-empty : receivers.receiver_bytes (receiver.fresh (record_of [])) ≡ replicate 61 0
unfolding receivers.receiver_bytes receivers.slots_bytes receivers.slot_bytes framing_bytes receiver.fresh fresh_slot framing.fresh framing.empty
    bit_value low_bytes circuits_bytes circuit_bytes record_of no_circuit
receiver-empty = refl

-- `receiver_layout::put_receiver` meets its contract: circuits, slots and framing are written one behind the other.
use Rattle.layout.specs.Layout.{low_bytes, circuit_bytes, circuits_bytes}
use Rattle.receiver_layout.specs.ReceiverBytes.{slot_bytes, slots_bytes, receiver_bytes}
use Rattle.receiver_layout.proofs.put_receiver.Goals as goal

pub returns : goal.returns
unfolding receiver_bytes circuits_bytes circuit_bytes slots_bytes slot_bytes low_bytes
returns c =
    rw (
      c.put_framing.ensures,
      c.put_slots.ensures,
      c.copy_in.ensures,
      c.circuits_bytes-front.ensures,
    )

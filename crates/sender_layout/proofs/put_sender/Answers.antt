-- `sender_layout::put_sender` meets its contract: circuits, slots, the circuit last served and the enable bits are written one behind the other.
use Rattle.layout.specs.Layout.{low_bytes, circuit_bytes, circuits_bytes}
use Rattle.sender_layout.specs.SenderBytes.{slot_bytes, slots_bytes, sender_bytes}
use Rattle.sender_layout.proofs.put_sender.Goals as goal

pub returns : goal.returns
unfolding sender_bytes circuits_bytes circuit_bytes slots_bytes slot_bytes low_bytes
returns c =
    rw (
      c.copy_at.ensures,
      c.put_slots.ensures,
      c.copy_in.ensures,
      c.circuits_bytes-front.ensures,
    )

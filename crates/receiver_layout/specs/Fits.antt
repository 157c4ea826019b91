-- A receiver's fields fit their types.
use Rattle.std.specs.Prelude.{◌≡◌, ◌<◌, length}
use Rattle.bits.specs.Bits.{Bytes}
use Rattle.framing.specs.declared.Framing.{Framing}
use Rattle.notices.specs.declared.Slot.{Slot}
use Rattle.receiver.specs.declared.Receiver.{Receiver}
use Rattle.layout.specs.Fits.{Four, CircuitsFit}

-- `seen` is a Bool
pub record ReceiverSlotFits (t : Slot) : Type 0 where
  pub last : t.last < 256
  pub length_fits : t.length < 65536
  pub place : t.place < 65536

pub record FramingFits (f : Framing) : Type 0 where
  pub phase : f.phase < 256
  pub ones : f.ones < 256
  pub count : f.count < 256
  pub twenty_one : length f.bits ≡ 21
  pub bits : Bytes f.bits

pub record ReceiverFits (r : Receiver) : Type 0 where
  pub circuits : CircuitsFit r.circuits
  pub slots : Four ReceiverSlotFits r.slots
  pub framing : FramingFits r.framing

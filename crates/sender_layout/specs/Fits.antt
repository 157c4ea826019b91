-- A sender's fields fit their types.
use Rattle.std.specs.Prelude.{◌<◌}
use Rattle.offering.specs.declared.Slot.{Slot}
use Rattle.offering.specs.declared.Sender.{Sender}
use Rattle.layout.specs.Fits.{Four, CircuitsFit}

pub record SenderSlotFits (t : Slot) : Type 0 where
  pub index : t.index < 256
  pub priority : t.priority < 256
  pub repetition : t.repetition < 256
  pub copy : t.copy < 256
  pub length_fits : t.length < 65536
  pub place : t.place < 65536
  pub left : t.left < 65536

pub record SenderFits (s : Sender) : Type 0 where
  pub circuits : CircuitsFit s.circuits
  pub slots : Four SenderSlotFits s.slots
  pub last : s.last < 256
  pub enable : s.enable < 256

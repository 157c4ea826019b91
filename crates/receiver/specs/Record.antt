-- A receiver's record (document 01, "Circuits and records" and refusal 14): its circuits, the slot of each, and the framing.
use Rattle.std.specs.Prelude.{Bool, ◌&&◌, take, replicate, leb, eqb}
use Rattle.packet.specs.declared.Circuits.{Circuits}
use Rattle.packet.specs.Circuits.{circuits_refusal, listed}
use Rattle.framing.specs.Machine.{fresh as fresh_framing}
use Rattle.framing.specs.Range.{in_range as framing_in_range}
use Rattle.notices.specs.Slots.{fresh_slot, slots_in_range}
use Rattle.receiver.specs.declared.Receiver.{Receiver}

-- "A fresh .. receiver is the record that an accepted listing returned"
unfoldable pub fresh : Circuits → Receiver
fresh cs = record { circuits = cs; slots = replicate 4 fresh_slot; framing = fresh_framing }

-- "14 a record out of range (more than four circuits, circuits that listing refuses by 2, 3 or 4, .. or a framing that no bits leave)"; a long buffer is
-- `given` or not
unfoldable pub in_range : Bool → Receiver → Bool
in_range given r =
    leb r.circuits.count 4 && eqb (circuits_refusal (listed r.circuits)) 0 &&
    slots_in_range given 0 (take r.circuits.count r.slots) && framing_in_range r.framing

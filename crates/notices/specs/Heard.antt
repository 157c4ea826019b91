-- A packet that passed is heard (document 01, "Notices").
use Rattle.std.specs.Prelude.{ℕ, Bool, false, cond, List, length, Option, None, Some, ◌==◌, slice_set}
use Rattle.packet.specs.declared.Circuits.{Circuits}
use Rattle.packet.specs.Circuits.{listed, number_from}
use Rattle.packet.specs.Stores.{takes_long}
use Rattle.parsing.specs.Packets.{address, link, circuit_in, code, information, enable, malformed}
use Rattle.notices.specs.declared.Slot.{Slot}
use Rattle.notices.specs.declared.Notice.TheVariants.{Malformed, System, Elsewhere, Circuit}
use Rattle.notices.specs.declared.Hearing.{Hearing}
use Rattle.notices.specs.Slots.{slot_at}
use Rattle.notices.specs.Fates.{is_copy, loss_of, fate_of, slot_after}

-- "a notice names the circuit by number, the loss, and what became of the packet"; "Copy, loss 0"; link 10 is a message's first packet
unfoldable pub heard_at : Bool → ℕ → List Slot → List ℕ → Hearing
heard_at given c slots p =
    let t = slot_at slots c in
    let fate = fate_of (takes_long given c) t p in
    record {
      slots = slice_set slots c (slot_after fate t p);
      notice = Circuit c (cond (is_copy t p) 0 (loss_of t p)) fate;
      first = (link p == 2);
    }

-- "Elsewhere: no listed circuit"
unfoldable pub heard_by : Bool → Option ℕ → List Slot → List ℕ → Hearing
heard_by given (Some c) slots p = heard_at given c slots p
heard_by given None slots p = record { slots = slots; notice = Elsewhere; first = false }

-- "System: enable bits, code, length"
unfoldable pub system_heard : List Slot → List ℕ → Hearing
system_heard slots p = record { slots = slots; notice = System (enable p) (code p) (length (information p)); first = false }

-- what a packet that passed leaves and tells, at the circuits with these slots, where a long buffer is given or not
unfoldable pub heard : Bool → Circuits → List Slot → List ℕ → Hearing
heard given cs slots p =
    cond (malformed p) (record { slots = slots; notice = Malformed; first = false })
    (cond (address p == 0xff) (system_heard slots p) (heard_by given (number_from (listed cs) (circuit_in p) 0) slots p))

-- The next frame of a circuit at which a copy waits, in a record in range: what writing it asks holds, and it has at most
-- 209 bits with its flag, since its packet has at most 19 bytes.
use Prim.Native.Nat.{ℕ, ◌*◌, ◌≤◌, ◌<◌}
use native.Mathlib.Omega.{arith}
use mathlib.Core.Bool.{Bool, true, false, cond}
use mathlib.Core.List.{List, ◌++◌}
use mathlib.Core.Path.{◌≡◌, refl}
use borrow.Author.Tests.{ltb-true, ltb-false}
use lib.Dec.{ltb}
use lib.ListN.{length, take, drop, get_or, length-take, length-drop, get_or-eq_default}
use Rattle.hdlc.specs.Frames.{flag, frame}
use Rattle.hdlc.proofs.FrameLength.{length-frame-flag}
use Rattle.packet.specs.declared.Circuit.{Circuit}
use Rattle.packet.specs.Circuits.{no_circuit}
use Rattle.packet.specs.Messages.{longest, longest_long, packets, segment, link_of}
use Rattle.packet.specs.Stores.{region, Stores, long_short}
use Rattle.packet.proofs.LongBuffers.{longest_at_bounds, longer_given}
use Rattle.packet.proofs.CircuitLists.{circuits_refusal-extended}
use Rattle.packet.proofs.Segments.{length-segment}
use Rattle.packet.proofs.PacketBytes.{length-packet_of}
use Rattle.offering.specs.declared.Slot.{Slot}
use Rattle.offering.specs.declared.Sender.{Sender}
use Rattle.offering.specs.Record.{store_length, slot_at, pending, in_range, LongEnough, message_of, message_at}
use Rattle.offering.proofs.Ranges.{slot_in_range_facts, in_range_facts, slot_in_range-slot_at}
use Rattle.writing.specs.NextFrame.{next_packet, next_frame}
use Rattle.writing.specs.PacketParts.{packet_at}

-- the length of a slot's next packet, and of its frame
length-packet_at : (c : Circuit) (t : Slot) (m : List ℕ) → pending t ≡ true → length m ≡ t.length → length (packet_at c t m) ≤ 19
unfolding pending packet_at
length-packet_at c t m h e =
    let within : t.place < packets (length m) = rw e (ltb-true t.place (packets t.length) h) in
    let (some, most) = length-segment m t.place within in
    (length-packet_of c (link_of t.place (packets t.length)) t.index t.priority (segment m t.place) some most).1

length_frame_at : (c : Circuit) (t : Slot) (m : List ℕ) → pending t ≡ true → length m ≡ t.length
    → length (frame (packet_at c t m) ++ flag) ≤ 209
length_frame_at c t m h e = length-frame-flag (packet_at c t m) (length-packet_at c t m h e)

-- the next packet is the slot's, and the next frame is that of the slot's next packet
pub next_packet-packet_at : (s : Sender) (store : Stores) (c : ℕ)
    → next_packet s store c ≡ packet_at (get_or s.circuits.list c no_circuit) (slot_at s c) (message_at s store c)
unfolding next_packet
next_packet-packet_at s store c = refl

pub next_frame-packet_at : (s : Sender) (store : Stores) (c : ℕ)
    → next_frame s store c ≡ frame (packet_at (get_or s.circuits.list c no_circuit) (slot_at s c) (message_at s store c)) ++ flag
unfolding next_frame
next_frame-packet_at s store c = rw next_packet-packet_at

-- a listed circuit of a record in range: its number, its slot and its message, its next frame, its extension
module _ (s : Sender) (store : Stores) (c : ℕ) (e : in_range store.given s ≡ true) (h : c < s.circuits.count) (l : LongEnough store) where
  pub circuit_lt : c < 4
  circuit_lt = omega (arith, (in_range_facts s e).count)

  -- a long one lies in the long buffer, any other in the region
  pub long_within : longest < (slot_at s c).length → (slot_at s c).length ≤ length store.long
  unfolding long_short
  long_within more =
      let short = (slot_in_range_facts (slot_at s c) (slot_in_range-slot_at _ s c e h)).short in
      let given = (longer_given store.given c (slot_at s c).length short more).0 in
      let enough : longest_long ≤ length store.long = ltb-false (length store.long) longest_long (rw given at l.buffer) in
      omega (arith, short, (longest_at_bounds store.given c).1)

  pub length-message_at : length (message_at s store c) ≡ (slot_at s c).length
  unfolding message_at message_of store_length region longest
  length-message_at = go (ltb longest (slot_at s c).length) refl
    where
      n : ℕ
      n = (slot_at s c).length

      go : (t : Bool) → ltb longest n ≡ t → length (cond t (take n store.long) (take n (drop (region * c) store.store))) ≡ n
      go true t = simp (length-take) (omega (arith, long_within (ltb-true longest n t)))
      go false t = simp (length-take, length-drop) (omega (arith, circuit_lt, ltb-false longest n t, l.store))

  module _ (w : pending (slot_at s c) ≡ true) where
    pub length-next_frame : length (next_frame s store c) ≤ 209
    length-next_frame =
        rw next_frame-packet_at (length_frame_at (get_or s.circuits.list c no_circuit) (slot_at s c) (message_at s store c) w length-message_at)

  pub extended_lt : (get_or s.circuits.list c no_circuit).extended < 2
  unfolding no_circuit
  extended_lt = go (ltb c (length s.circuits.list)) refl
    where
      go : (t : Bool) → ltb c (length s.circuits.list) ≡ t → (get_or s.circuits.list c no_circuit).extended < 2
      go true t = circuits_refusal-extended s.circuits c h (ltb-true c (length s.circuits.list) t) (in_range_facts s e).circuits
      go false t = rw (get_or-eq_default s.circuits.list no_circuit (ltb-false c (length s.circuits.list) t)) (omega arith)

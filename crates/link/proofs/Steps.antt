-- What the steps of the proof hand to each other.
use Prim.Native.Nat.{ℕ, suc, ◌+◌, ◌≤◌, ◌<◌}
use mathlib.Core.Bool.{Bool, true, false, cond}
use mathlib.Core.List.{List, [], ◌∷◌, ◌++◌, map}
use Rattle.std.proofs.Common.{Option, None, Some}
use mathlib.Core.Path.{◌≡◌}
use lib.ListN.{length, take, drop, replicate}
use Rattle.bits.specs.Bits.{Bytes}
use Rattle.hdlc.specs.Frames.{flag, frame}
use Rattle.hdlc.specs.Bodies.{Judged, passes, spoilt, nothing}
use Rattle.packet.specs.declared.Circuit.{Circuit}
use Rattle.packet.specs.Circuits.{alike}
use Rattle.packet.specs.Messages.{longest, longest_long, packets}
use Rattle.packet.specs.Packets.{system_packet}
use Rattle.packet.specs.Lists.{AllAre}
use Rattle.packet.specs.Stores.{Stores}
use Rattle.framing.specs.Closings.{Closing}
use Rattle.queues.specs.Queues.{Copy, copy_of, Placed}
use Rattle.queues.specs.Sent.{Sent}
use Rattle.notices.specs.declared.Slot.{Slot}
use Rattle.receiver.specs.declared.Receiver.{Receiver}
use Rattle.receiver.specs.Reading.{Noticed, passed}
use Rattle.notices.specs.Fates.{is_copy, loss_of, fate_of, slot_after}
use Rattle.notices.specs.Stores.{stores_after_fate}
use Rattle.receiver.specs.Reads.{Report}
use Rattle.link.specs.Demand3.{Frame, frame_length, InBlock, handed_from}

-- ---- packets that pass

-- the packets that closed bodies give, in order
unfoldable pub packet_given : Judged → List (List ℕ)
packet_given (passes packet) = packet ∷ []
packet_given spoilt = []
packet_given nothing = []

unfoldable pub given : List Closing → List (List ℕ)
given [] = []
given (c ∷ cs) = packet_given c.gives ++ given cs

-- what packets tell, one after another
unfoldable pub told_by_packets : Receiver → Stores → List (List ℕ) → List Report
told_by_packets r l [] = []
told_by_packets r l (p ∷ ps) =
    let h : Noticed = passed r l p in
    record { notice = h.notice; store = h.store } ∷ told_by_packets h.receiver h.store ps

-- ---- frames in the joined bits

-- a frame lies in bits, with both its flags
pub record LaidAt (bits : List Bool) (f : Frame) : Type 0 where
  pub bytes : Bytes f.packet
  pub least : 2 ≤ length f.packet
  pub most : length f.packet ≤ 19
  pub there : take (frame_length f) (drop f.from bits) ≡ flag ++ frame f.packet ++ flag

abbrev pub Laid : List Bool → List Frame → Type 0
Laid bits fs = AllAre (LaidAt bits) fs

-- the packets alone of those in a block
abbrev pub alone : List InBlock → List (List ℕ)
alone xs = map (λ (x : InBlock). x.packet) xs

-- each ends behind number n and behind the one before it
unfoldable pub Ascending : ℕ → List Frame → Type 0
Ascending n [] = Unit {0}
Ascending n (f ∷ fs) = (n < f.from + frame_length f) × Ascending (f.from + frame_length f) fs

-- ---- what the sender puts into frames

-- a circuit that a list of bytes may have
pub record RightCircuit (k : Circuit) : Type 0 where
  pub address : k.address < 255
  pub extended : k.extended < 2
  pub extension : k.extension < 256
  pub none : k.extended ≡ 0 → k.extension ≡ 0

-- a copy of a packet that the sender makes of a message
pub record Made (k : Circuit) (c : Copy) : Type 0 where
  pub text : List ℕ
  pub part : ℕ
  pub is : c ≡ copy_of k c.priority text c.number part
  pub few : c.priority ≤ 3
  pub bytes : Bytes text
  pub inside : part < packets (length text)

-- a frame's packet is a copy of a listed circuit's, or a system packet
pub record MadeSystem (packet : List ℕ) : Type 0 where
  pub enable : ℕ
  pub code : ℕ
  pub information : List ℕ
  pub is : packet ≡ system_packet enable code information
  pub enable_le : enable ≤ 15
  pub code_le : code ≤ 8
  pub short : length information ≤ 15
  pub bytes : Bytes information

unfoldable pub MadeBy : Option Placed → List ℕ → Type 0
MadeBy None packet = MadeSystem packet
MadeBy (Some q) packet = (packet ≡ q.copy.packet) × RightCircuit q.circuit × Made q.circuit q.copy

abbrev pub AllMade : List Frame → Type 0
AllMade fs = AllAre (λ (f : Frame). MadeBy f.whose f.packet) fs

-- ---- one circuit

-- the packets of frames that are a circuit's
unfoldable pub is_of : Circuit → Option Placed → Bool
is_of k None = false
is_of k (Some q) = alike k q.circuit

unfoldable pub packets_at : Circuit → List Frame → List (List ℕ)
packets_at k [] = []
packets_at k (f ∷ fs) = cond (is_of k f.whose) (f.packet ∷ []) [] ++ packets_at k fs

-- the most bytes that a message may have where long ones are taken or not
unfoldable pub most_if : Bool → ℕ
most_if taken = cond taken longest_long longest

-- what packets of one circuit tell, at which long messages are taken or not: its slot, its region and, if they are taken, the long buffer are all that counts
unfoldable pub losses_heard : Bool → Slot → List (List ℕ) → ℕ
losses_heard taken t [] = 0
losses_heard taken t (p ∷ ps) = cond (is_copy t p) 0 (loss_of t p) + losses_heard taken (slot_after (fate_of taken t p) t p) ps

unfoldable pub handed_heard : Bool → Slot → Stores → List (List ℕ) → List (List ℕ)
handed_heard taken t l [] = []
handed_heard taken t l (p ∷ ps) =
    let after = stores_after_fate (fate_of taken t p) 0 t p l in
    handed_from (fate_of taken t p) 0 after ++ handed_heard taken (slot_after (fate_of taken t p) t p) after ps

-- ---- what came of one circuit

-- of the packets sent, those that came are heard once or more, the others not at all
unfoldable pub ThinnedBy : Bool → List ℕ → (List (List ℕ) → Type 0) → List (List ℕ) → Type 0
ThinnedBy true packet later heard =
    (copies : ℕ) × (rest : List (List ℕ)) × (heard ≡ replicate (suc copies) packet ++ rest) × later rest
ThinnedBy false packet later heard = later heard

unfoldable pub Thinned : (ℕ → Bool) → List Sent → List (List ℕ) → Type 0
Thinned comes [] heard = heard ≡ []
Thinned comes (p ∷ ps) heard = ThinnedBy (comes p.original.number) p.original.packet (Thinned comes ps) heard

-- of the packets sent, whether each came
unfoldable pub came_of : (ℕ → Bool) → List Sent → List Bool
came_of comes ps = map (λ (s : Sent). comes s.original.number) ps

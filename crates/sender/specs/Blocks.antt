-- Block making (document 01, "Blocks" and "Calls and their refusals"; document 02, asks 4, 6 and 7).
use Rattle.std.specs.Prelude.{ℕ, zero, suc, ◌+◌, ◌-◌, ◌*◌, ◌/◌, Bool, true, cond, not, ◌&&◌, ◌||◌, List, [], ◌∷◌, ◌++◌, map, length, drop, take, replicate, leb, ltb, eqb, Option, None, Some}
use Rattle.bits.specs.Bits.{bytes_of}
use Rattle.hdlc.specs.Frames.{flag, frame, added_in}
use Rattle.packet.specs.Packets.{system_packet}
use Rattle.packet.specs.Stores.{Stores, long_short}
use Rattle.offering.specs.declared.Slot.{Slot}
use Rattle.offering.specs.declared.Sender.{Sender}
use Rattle.offering.specs.Record.{store_length, in_range}
use Rattle.picking.specs.Picking.{pick, served, copies_waiting}
use Rattle.writing.specs.NextFrame.{next_packet, next_frame}

-- ---- the bits of frames

-- frames of packets, "each with a flag after it"
unfoldable pub frames_bits : List (List ℕ) → List Bool
frames_bits [] = []
frames_bits (p ∷ ps) = (frame p ++ flag) ++ frames_bits ps

-- "the sum over its frames" (document 02, ask 6): the zeros that stuffing adds to the frames of packets
unfoldable pub added_in_frames : List (List ℕ) → ℕ
added_in_frames [] = 0
added_in_frames (p ∷ ps) = added_in p + added_in_frames ps

-- "a flag; ..; then frames, each with a flag after it, neighbours sharing flags"
unfoldable pub flagged_frames : List (List ℕ) → List Bool
flagged_frames ps = flag ++ frames_bits ps

-- the N bits of a block that has these packets: ".. then ones up to N"
unfoldable pub block_of : ℕ → List (List ℕ) → List Bool
block_of n ps = flagged_frames ps ++ replicate (n - length (flagged_frames ps)) true

-- ---- filling

-- a frame placed: its circuit's number, and its packet
pub record PlacedFrame : Type 0 where
  pub number : ℕ
  pub packet : List ℕ

-- the packets of frames placed, in order
unfoldable pub placed_packets : List PlacedFrame → List (List ℕ)
placed_packets fs = map (λ (f : PlacedFrame). f.packet) fs

-- what filling leaves: the record, and the frames placed, in order
pub record Filled : Type 0 where
  pub sender : Sender
  pub frames : List PlacedFrame

unfoldable pub full : Sender → Filled
full s = record { sender = s; frames = [] }

-- a frame before those behind it
unfoldable pub and_then : PlacedFrame → Filled → Filled
and_then p f = record { sender = f.sender; frames = p ∷ f.frames }

-- what a picked circuit gives: its next frame, and what comes later, unless "the picked frame and its flag would pass U"
unfoldable pub placing : Option ℕ → Sender → Stores → ℕ → ℕ → (ℕ → Filled) → Filled
placing None s l at u later = full s
placing (Some c) s l at u later =
    let more = and_then (record { number = c; packet = next_packet s l c }) (later c) in
    cond (leb (at + length (next_frame s l c)) u) more (full s)

-- at most n frames, each with a flag after it, from bit `at` on
unfoldable pub fill : ℕ → Sender → Stores → ℕ → ℕ → ℕ → Filled
fill zero s l at enable u = full s
fill (suc n) s l at enable u =
    placing (pick s enable) s l at u
    (λ c. fill n (served s c) l (at + length (next_frame s l c)) enable u)

-- the copies that wait in all
unfoldable pub copies_in : List Slot → ℕ
copies_in [] = 0
copies_in (t ∷ ts) = copies_waiting t + copies_in ts

unfoldable pub waiting : Sender → ℕ
waiting s = copies_in (take s.circuits.count s.slots)

-- "Picking ends when none waits or the picked frame and its flag would pass U": no more frames than copies wait (`fill_up-step`)
unfoldable pub fill_up : Sender → Stores → ℕ → ℕ → ℕ → Filled
fill_up s l at enable u = fill (waiting s) s l at enable u

-- ---- blocks

-- what is asked for in a block: a system packet, or none
pub record System : Type 0 where
  pub wanted : Bool
  pub enable : ℕ
  pub code : ℕ
  pub information : List ℕ

-- "the system packet's frame .., if one is wanted": the packets before ours
unfoldable pub system_packets : System → List (List ℕ)
system_packets y = cond y.wanted (system_packet y.enable y.code y.information ∷ []) []

-- its enable bits, if one is wanted
unfoldable pub enable_bits : System → Option ℕ
enable_bits y = cond y.wanted (Some y.enable) None

-- "its enable bits rule its own block and all later ones, until another system packet is sent" (document 02, ask 4): those in force, where
-- `held` were before
unfoldable pub in_force : ℕ → Option ℕ → ℕ
in_force held None = held
in_force held (Some enable) = enable

-- the record that a block is made from, with the enable bits in force in it
unfoldable pub ruled : Sender → Option ℕ → Sender
ruled s new_enable = record { circuits = s.circuits; slots = s.slots; last = s.last; enable = in_force s.enable new_enable }

-- our frames in a block, behind those of the packets before them, under the enable bits in force
unfoldable pub block_filled : Sender → Stores → ℕ → List (List ℕ) → Option ℕ → Filled
block_filled s l u before new_enable =
    let under = ruled s new_enable in
    fill_up under l (length (flagged_frames before)) under.enable u

-- all packets in a block, in order
unfoldable pub block_packets : Sender → Stores → ℕ → List (List ℕ) → Option ℕ → List (List ℕ)
block_packets s l u before new_enable = before ++ placed_packets (block_filled s l u before new_enable).frames

-- the bits used, "which are those before the closing ones"
unfoldable pub used_bits : Sender → Stores → ℕ → List (List ℕ) → Option ℕ → List Bool
used_bits s l u before new_enable = flagged_frames (block_packets s l u before new_enable)

-- its N bits
unfoldable pub block_bits : Sender → Stores → ℕ → ℕ → List (List ℕ) → Option ℕ → List Bool
block_bits s l n u before new_enable = block_of n (block_packets s l u before new_enable)

-- "Bits fill bytes lowest first; spare bits of the last byte are 0; bytes behind it keep their values"
unfoldable pub block_buffer : List ℕ → List Bool → List ℕ
block_buffer old bits = bytes_of bits ++ drop ((length bits + 7) / 8) old

-- ---- block calls

-- "11 N outside 256 to 27,000 or U outside 256 to N"
unfoldable pub wrong_size : ℕ → ℕ → Bool
wrong_size n u = ltb n 256 || ltb 27000 n || ltb u 256 || ltb n u

-- "12 buffer under N bits"
unfoldable pub short_buffer : List ℕ → ℕ → Bool
short_buffer buffer n = ltb (8 * length buffer) n

-- "13, only if a system packet is wanted, enable bits above 15, code above 8 or information above 15 bytes"
unfoldable pub wrong_system : System → Bool
wrong_system y = y.wanted && (ltb 15 y.enable || ltb 8 y.code || ltb 15 (length y.information))

-- the refusal of a block call, the first that holds in the order of document 01, with "19 .. after 5" (document 02, ask 7); 0 if it is accepted
unfoldable pub block_refusal : Sender → Stores → List ℕ → ℕ → ℕ → System → ℕ
block_refusal s l buffer n u y =
    cond (not (in_range l.given s)) 14
    (cond (ltb (length l.store) store_length) 5
    (cond (long_short l) 19
    (cond (wrong_size n u) 11
    (cond (short_buffer buffer n) 12
    (cond (wrong_system y) 13 0)))))

-- "All refusals return .. the record given, and leave every lent byte unchanged"; "A refused block changes nothing here" (document
-- 02, ask 4)
unfoldable pub sender_after_block : Sender → Stores → List ℕ → ℕ → ℕ → System → Sender
sender_after_block s l buffer n u y =
    cond (eqb (block_refusal s l buffer n u y) 0) (block_filled s l u (system_packets y) (enable_bits y)).sender s

unfoldable pub buffer_after_block : Sender → Stores → List ℕ → ℕ → ℕ → System → List ℕ
buffer_after_block s l buffer n u y =
    cond (eqb (block_refusal s l buffer n u y) 0) (block_buffer buffer (block_bits s l n u (system_packets y) (enable_bits y))) buffer

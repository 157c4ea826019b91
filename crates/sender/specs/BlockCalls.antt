-- What the functions of block making say of the record, the answer and the buffer (document 01, "Blocks" and "Calls and their refusals"; document
-- 02, ask 6).
use Rattle.std.specs.Prelude.{ℕ, ◌+◌, ◌-◌, ◌*◌, ◌/◌, ◌≤◌, Bool, true, false, List, [], ◌≡◌, length, replicate, Option, None, Some, Result}
use Rattle.std.proofs.lemmas.List.Edits.{sets}
use Rattle.bits.specs.Bits.{bits_of}
use Rattle.hdlc.specs.Writing.{Written}
use Rattle.hdlc.specs.declared.zeros.Framed.{Framed}
use Rattle.packet.specs.declared.Refusal.{Refusal}
use Rattle.packet.specs.Answers.{answered, answer_number}
use Rattle.packet.specs.Stores.{Stores}
use Rattle.offering.specs.declared.Sender.{Sender}
use Rattle.sender.specs.declared.Block.{Block}
use Rattle.sender.specs.declared.SystemPacket.{SystemPacket}
use Rattle.sender.specs.Blocks.{
  frames_bits,
  added_in_frames,
  flagged_frames,
  placed_packets,
  Filled,
  System,
  system_packets,
  enable_bits,
  block_filled,
  block_packets,
  used_bits,
  block_refusal,
  sender_after_block,
  buffer_after_block,
}

-- what a block call asks for
abbrev pub system : Bool → ℕ → ℕ → List ℕ → System
system wanted enable code information = record { wanted = wanted; enable = enable; code = code; information = information }

-- what a request asks for
unfoldable pub asked : Option SystemPacket → System
asked None = system false 0 0 []
asked (Some packet) = system true packet.enable packet.code packet.information.now

-- a system packet that refusal 13 lets pass
pub record Allowed (e c : ℕ) (bytes : List ℕ) : Type 0 where
  pub enable : e ≤ 15
  pub code : c ≤ 8
  pub information : length bytes ≤ 15

-- a flag and the frames of packets are written over the buffer's first bits, and `r` tells of them
pub record OpeningWritten (old : List ℕ) (packets : List (List ℕ)) (new : List ℕ) (r : Framed) : Type 0 where
  pub written : Written old 0 (flagged_frames packets) new r.at
  pub zeros : r.zeros ≡ added_in_frames packets

-- the frames are written behind what `front` tells of, `after` is the record then, and `r` tells of them; its zeros are those of both
pub record FramesWritten (old : List ℕ) (front : Framed) (f : Filled) (new : List ℕ) (after : Sender) (r : Block) : Type 0 where
  pub sender : after ≡ f.sender
  pub written : Written old front.at (frames_bits (placed_packets f.frames)) new r.used
  pub placed : r.placed ≡ length f.frames
  pub zeros : r.zeros ≡ front.zeros + added_in_frames (placed_packets f.frames)

-- the block of n bits is closed: ones from bit `used` to n, and the spare bits of the last byte 0
pub record Closed (old : List ℕ) (used n : ℕ) (new : List ℕ) : Type 0 where
  pub bits : bits_of new ≡ sets (sets (bits_of old) used (replicate (n - used) true)) n (replicate (8 * ((n + 7) / 8) - n) false)

-- the answer to a block call: "The answer has frames placed (system excluded) and bits used", with the added zeros (document 02, ask 6), or the
-- refusal's number
unfoldable pub made_of : ℕ → ℕ → ℕ → ℕ → Result Block Refusal
made_of refusal placed used zeros = answered refusal (record { placed = placed; used = used; zeros = zeros })

-- the number of an answer in the documents: 0 stands for a block
unfoldable pub made_number : Result Block Refusal → ℕ
made_number made = answer_number made

-- "frames placed (system excluded)", and "bits used, which are those before the closing ones"
abbrev pub frames_placed : Sender → Stores → ℕ → System → ℕ
frames_placed s l u y = length (block_filled s l u (system_packets y) (enable_bits y)).frames

abbrev pub bits_used : Sender → Stores → ℕ → System → ℕ
bits_used s l u y = length (used_bits s l u (system_packets y) (enable_bits y))

-- added zeros, "the sum over its frames, the system frame included"
abbrev pub zeros_added : Sender → Stores → ℕ → System → ℕ
zeros_added s l u y = added_in_frames (block_packets s l u (system_packets y) (enable_bits y))

unfoldable pub answer_to_block : Sender → Stores → List ℕ → ℕ → ℕ → System → Result Block Refusal
answer_to_block s l buffer n u y =
    made_of (block_refusal s l buffer n u y) (frames_placed s l u y) (bits_used s l u y) (zeros_added s l u y)

-- the block of an accepted call is written, `after` is the record then, and `r` tells of it
pub record BlockWritten (s : Sender) (l : Stores) (old : List ℕ) (n u : ℕ) (y : System) (new : List ℕ) (after : Sender) (r : Block) : Type 0 where
  pub sender : after ≡ sender_after_block s l old n u y
  pub placed : r.placed ≡ frames_placed s l u y
  pub used : r.used ≡ bits_used s l u y
  pub zeros : r.zeros ≡ zeros_added s l u y
  pub buffer : new ≡ buffer_after_block s l old n u y

-- what a block call returns and leaves
pub record BlockCalled (s : Sender) (l : Stores) (old : List ℕ) (n u : ℕ) (y : System) (new : List ℕ) (after : Sender) (r : Result Block Refusal)
    : Type 0 where
  pub sender : after ≡ sender_after_block s l old n u y
  pub made : r ≡ answer_to_block s l old n u y
  pub buffer : new ≡ buffer_after_block s l old n u y

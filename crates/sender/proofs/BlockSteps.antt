-- Making a block step by step: the opening, the frames, the closing ones and the spare zeros leave the record, the answer and the buffer that the
-- definitions say, and a refused call leaves those that were given.
use Rattle.std.proofs.Common.{Ok, Err, Option, None, Some, IfSome}
use mathlib.Core.Path.{◌≡◌, refl, sym, ◌∙◌}
use Prim.Native.Nat.{ℕ, ◌*◌, ◌≤◌}
use native.Mathlib.Nat.{zero-add}
use native.Mathlib.Omega.{arith}
use mathlib.Core.Bool.{Bool, true, false}
use mathlib.Core.List.{List}
use lib.ListN.{length}
use lib.Dec.{eqb}
use Rattle.bits.specs.Bits.{Bytes}
use Rattle.hdlc.specs.Writing.{Written}
use Rattle.hdlc.specs.declared.zeros.Framed.{Framed}
use Rattle.hdlc.proofs.Writing.{Written_append}
use Rattle.packet.specs.declared.Refusal.{Refusal}
use Rattle.packet.specs.Answers.{answered, answer_of}
use Rattle.packet.proofs.AnswerNumbers.{answered-Err}
use Rattle.sender.proofs.MadeNumbers.{answer_of-Err}
use Rattle.packet.specs.Stores.{Stores}
use Rattle.offering.specs.declared.Sender.{Sender}
use Rattle.offering.specs.Record.{in_range, LongEnough}
use Rattle.sender.specs.declared.Block.{Block}
use Rattle.sender.specs.declared.SystemPacket.{SystemPacket}
use Rattle.sender.specs.Blocks.{
  frames_bits,
  added_in_frames,
  flagged_frames,
  block_of,
  placed_packets,
  fill_up,
  System,
  system_packets,
  enable_bits,
  in_force,
  ruled,
  block_filled,
  block_packets,
  used_bits,
  block_bits,
  block_refusal,
  sender_after_block,
  buffer_after_block,
}
use Rattle.sender.specs.BlockCalls.{asked, Allowed, OpeningWritten, FramesWritten, Closed, made_of, answer_to_block, BlockWritten, BlockCalled}
use Rattle.sender.proofs.UsedBits.{added_in_frames_append, added_within, used_bits-behind}
use Rattle.sender.proofs.UsedAtMostU.{used_at_most_U}
use Rattle.sender.proofs.OpeningBits.{length_opening}
use Rattle.sender.proofs.BlockRefusals.{Accepted, accepted}
use Rattle.sender.proofs.InForce.{accepted-ruled_in_range}
use Rattle.sender.proofs.BlockBits.{Closed-block_buffer}

-- frames written behind those of any packets before them
module _ (s : Sender) (store : Stores) (u : ℕ) (before : List (List ℕ)) (new_enable : Option ℕ) {old b₁ b₂ : List ℕ} {front : Framed} {after : Sender} {r : Block}
    (opened : OpeningWritten old before b₁ front)
    (f : FramesWritten b₁ front (fill_up (ruled s new_enable) store front.at (ruled s new_enable).enable u) b₂ after r) where
  FramesWritten-block : FramesWritten b₁ front (block_filled s store u before new_enable) b₂ after r
  unfolding block_filled
  FramesWritten-block =
      let e : front.at ≡ length (flagged_frames before) = opened.written.behind ∙ zero-add (length (flagged_frames before)) in
      rw (← e) f

  Written_used : Written old 0 (used_bits s store u before new_enable) b₂ r.used
  Written_used =
      let ours = placed_packets (block_filled s store u before new_enable).frames in
      rw (used_bits-behind s store u before new_enable)
      (Written_append (flagged_frames before) (frames_bits ours) opened.written FramesWritten-block.written)

  used_end : r.used ≡ length (used_bits s store u before new_enable)
  used_end = Written_used.behind ∙ zero-add (length (used_bits s store u before new_enable))

  zeros_all : r.zeros ≡ added_in_frames (block_packets s store u before new_enable)
  unfolding block_packets
  zeros_all =
      let ours = placed_packets (block_filled s store u before new_enable).frames in
      rw (added_in_frames_append before ours) (omega (arith, FramesWritten-block.zeros, opened.zeros))

module _ (s : Sender) (store : Stores) (old : List ℕ) (n u : ℕ) (y : System) where
  -- the record with these enable bits
  abbrev under : ℕ → Sender
  under enable = record { circuits = s.circuits; slots = s.slots; last = s.last; enable = enable }

  -- a refused call
  pub BlockCalled_refused : (r : Refusal) → answer_of (block_refusal s store old n u y) ≡ Err r → BlockCalled s store old n u y old s (Err r)
  unfolding sender_after_block buffer_after_block answer_to_block made_of
  BlockCalled_refused r e =
      let no : eqb (block_refusal s store old n u y) 0 ≡ false = answer_of-Err _ r e in
      record { sender = rw no; made = sym (answered-Err _ _ r e); buffer = rw no }

  module _ (h : block_refusal s store old n u y ≡ 0) where
    known : Accepted s store old n u y
    known = accepted s store old n u y h

    -- the opening is written
    module _ {b₁ : List ℕ} {front : Framed} (opened : OpeningWritten old (system_packets y) b₁ front) (l₁ : length b₁ ≡ length old) where
      pub before_frames : {enable : ℕ} → enable ≡ in_force s.enable (enable_bits y)
          → (in_range store.given (under enable) ≡ true)
          × ((LongEnough store) × ((front.zeros ≤ front.at) × (front.at ≤ u) × (u ≤ 8 * length b₁) × (u ≤ 27000)))
      unfolding ruled
      before_frames {enable} e =
          let few : front.zeros ≤ front.at = omega (arith, opened.zeros, opened.written.behind, added_within (system_packets y)) in
          let within : front.at ≤ u = omega (arith, opened.written.behind, length_opening y known.allowed, known) in
          let range : in_range store.given (under enable) ≡ true = rw e (accepted-ruled_in_range s store old n u y h) in
          (range, (known.long_enough, (few, within, omega (arith, l₁, known), omega (arith, known))))

      -- and the frames are, under the enable bits in force
      module _ {enable : ℕ} {b₂ : List ℕ} {after : Sender} {r : Block} (e : enable ≡ in_force s.enable (enable_bits y))
          (f : FramesWritten b₁ front (fill_up (under enable) store front.at enable u) b₂ after r) (l₂ : length b₂ ≡ length b₁) where
        frames : FramesWritten b₁ front (fill_up (ruled s (enable_bits y)) store front.at (ruled s (enable_bits y)).enable u) b₂ after r
        unfolding ruled
        frames = rw (← e) f

        abbrev used : List Bool
        used = used_bits s store u (system_packets y) (enable_bits y)

        end : r.used ≡ length used
        end = used_end s store u (system_packets y) (enable_bits y) opened frames

        used_le : length used ≤ u
        used_le = used_at_most_U s store old n u y h

        pub before_closing : (r.used ≤ n) × (n ≤ 27000) × (n ≤ 8 * length b₂)
        before_closing = (omega (arith, end, used_le, known), omega (arith, known), omega (arith, l₁, l₂, known))

        -- and the block is closed
        pub BlockWritten-closed : {new : List ℕ} → Closed b₂ r.used n new → Bytes old → Bytes new → BlockWritten s store old n u y new after r
        unfolding sender_after_block buffer_after_block used_bits block_bits block_of
        BlockWritten-closed {new} closed ho hn =
            let filling = FramesWritten-block s store u (system_packets y) (enable_bits y) opened frames in
            let written = Written_used s store u (system_packets y) (enable_bits y) opened frames in
            record {
              sender = rw h filling.sender;
              placed = filling.placed;
              used = end;
              zeros = zeros_all s store u (system_packets y) (enable_bits y) opened frames;
              buffer = rw h (Closed-block_buffer old used n (omega (arith, used_le, known)) known.buffer_long written closed ho hn);
            }

    -- what the call returns then
    pub BlockCalled-made : {new : List ℕ} {after : Sender} {r : Block} → BlockWritten s store old n u y new after r
        → BlockCalled s store old n u y new after (Ok r)
    unfolding answer_to_block made_of answered
    BlockCalled-made w = record { sender = w.sender; made = rw (h, ← w.placed, ← w.used, ← w.zeros); buffer = w.buffer }

-- what a request asks for
module _ (s : Sender) (store : Stores) (old : List ℕ) (n u : ℕ) (system : Option SystemPacket) (h : block_refusal s store old n u (asked system) ≡ 0) where
  -- where a system packet is asked for, it is allowed
  allowed : (o : Option SystemPacket) → ((asked o).wanted ≡ true → Allowed (asked o).enable (asked o).code (asked o).information)
      → IfSome o (λ packet. Allowed packet.enable packet.code packet.information.now)
  unfolding asked
  allowed None a = tt
  allowed (Some packet) a = a refl

  pub before_opening : (256 ≤ 8 * length old) × IfSome system (λ packet. Allowed packet.enable packet.code packet.information.now)
  before_opening =
      let known : Accepted s store old n u (asked system) = accepted s store old n u (asked system) h in
      (omega (arith, known), allowed system known.allowed)

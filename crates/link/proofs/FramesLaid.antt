-- Where the frames lie in the joined bits: each with both its flags, and each ends behind the one before it.
use Prim.Native.Nat.{ℕ, ◌+◌, ◌-◌, ◌%◌, ◌≤◌, ◌<◌}
use native.Mathlib.Omega.{arith}
use mathlib.Core.Bool.{Bool, true}
use mathlib.Core.List.{List, [], ◌∷◌, ◌++◌, map, flatten, append_assoc}
use Rattle.std.proofs.Common.{Option, None, Some}
use mathlib.Core.Path.{◌≡◌, refl, sym, ap, ◌∙◌}
use lib.ListN.{length, take, drop, replicate, length-append}
use lib.Seq.{take-append_seam, drop-append_seam}
use Rattle.bits.specs.Bits.{Bytes}
use Rattle.hdlc.specs.Frames.{flag, frame}
use Rattle.hdlc.proofs.Ending.{length-flag}
use Rattle.packet.specs.declared.Circuit.{Circuit}
use Rattle.packet.specs.Circuits.{list_refusal}
use Rattle.packet.specs.Messages.{packets, segment, link_of}
use Rattle.packet.specs.Packets.{system_packet}
use Rattle.packet.specs.Lists.{AllAre}
use Rattle.packet.proofs.PacketBytes.{length-packet_of, packet_of-Bytes}
use Rattle.packet.proofs.Segments.{length-segment, segment-Bytes, link_of_lt}
use Rattle.packet.proofs.Lists.{AllAre_append}
use Rattle.sender.specs.Blocks.{frames_bits, flagged_frames, block_of}
use Rattle.queues.specs.Queues.{Copy, copy_of, Placed}
use Rattle.queues.specs.Effects.{TakenBlock, packets_taken, bits_of_block}
use Rattle.queues.proofs.BlocksAreQueues.{blocks_are_queues}
use Rattle.link.specs.Demand3.{Pass, joined_bits, blocks, Frame, frame_length, InBlock, not_ours, ours, packets_in, frames_from, frames_in_blocks, frames, BytesIn}
use Rattle.link.proofs.Steps.{Laid, alone, Ascending, RightCircuit, Made, MadeBy, AllMade}
use Rattle.link.proofs.FramesMade.{frames-made}

-- ---- where they lie

-- each frame's bits and flags stand in bits from its number on
abbrev ThereAt : List Bool → Frame → Type 0
ThereAt bits f = take (frame_length f) (drop f.from bits) ≡ flag ++ frame f.packet ++ flag

abbrev There : List Bool → List Frame → Type 0
There bits fs = AllAre (ThereAt bits) fs

-- a stretch that lies between others
take-between : (pre mid post bits : List Bool) (n : ℕ) → n ≡ length pre → bits ≡ pre ++ (mid ++ post) → take (length mid) (drop n bits) ≡ mid
take-between pre mid post bits n e is = rw (e, is, drop-append_seam, take-append_seam)

-- the packets in a block
pub alone_packets_in : (b : TakenBlock) → alone (packets_in b) ≡ b.before ++ packets_taken b.frames
unfolding packets_in packets_taken
alone_packets_in b = first b.before
  where
    rest : (qs : List Placed)
        → alone (map ours qs) ≡ map (λ (q : Placed). q.copy.packet) qs
    rest [] = refl
    rest (q ∷ qs) = ap (λ l. q.copy.packet ∷ l) (rest qs)

    first : (ps : List (List ℕ))
        → alone (map not_ours ps ++ map ours b.frames) ≡ ps ++ map (λ (q : Placed). q.copy.packet) b.frames
    first [] = rest b.frames
    first (p ∷ ps) = ap (λ l. p ∷ l) (first ps)

-- their frames, behind a flag that begins with bit n
there_frames : (xs : List InBlock) (n : ℕ) (pre post bits : List Bool) → n ≡ length pre → bits ≡ pre ++ (flag ++ (frames_bits (alone xs) ++ post))
    → There bits (frames_from n xs)
unfolding AllAre frames_from frame_length frames_bits
there_frames [] n pre post bits e is = tt
there_frames (x ∷ xs) n pre post bits e is =
    let f : List Bool = frame x.packet in
    let next : n + length (f ++ flag) ≡ length (pre ++ (flag ++ f)) = simp length-append (omega arith) in (
      take-between pre (flag ++ f ++ flag) (frames_bits (alone xs) ++ post) bits n e (is ∙ simp append_assoc),
      there_frames xs (n + length (f ++ flag)) (pre ++ (flag ++ f)) post bits next (is ∙ simp append_assoc),
    )

-- the frames of a block that begins with bit n, and those of blocks
there_block : (b : TakenBlock) (n : ℕ) (pre post bits : List Bool) → n ≡ length pre → bits ≡ pre ++ (bits_of_block b ++ post)
    → There bits (frames_from n (packets_in b))
unfolding bits_of_block block_of flagged_frames
there_block b n pre post bits e is =
    let ps : List (List ℕ) = b.before ++ packets_taken b.frames in
    there_frames (packets_in b) n pre (replicate (b.size - length (flag ++ frames_bits ps)) true ++ post) bits e
    (is ∙ rw (alone_packets_in b) (simp append_assoc))

there_blocks : (bs : List TakenBlock) (n : ℕ) (pre bits : List Bool) → n ≡ length pre → bits ≡ pre ++ flatten (map bits_of_block bs)
    → There bits (frames_in_blocks n bs)
unfolding AllAre frames_in_blocks flatten
there_blocks [] n pre bits e is = tt
there_blocks (b ∷ bs) n pre bits e is =
    let next : n + length (bits_of_block b) ≡ length (pre ++ bits_of_block b) = rw length-append (omega arith) in
    AllAre_append (ThereAt bits) (frames_from n (packets_in b)) (frames_in_blocks (n + length (bits_of_block b)) bs)
    (there_block b n pre (flatten (map bits_of_block bs)) bits e is)
    (there_blocks bs (n + length (bits_of_block b)) (pre ++ bits_of_block b) bits next
    (is ∙ sym (append_assoc pre (bits_of_block b) (flatten (map bits_of_block bs)))))

-- ---- their packets

-- bytes, 2 to 19 of them
abbrev Right : List ℕ → Type 0
Right packet = Bytes packet × (2 ≤ length packet) × (length packet ≤ 19)

-- a system packet, a copy, and what a frame has in it
right_system : (enable code : ℕ) (information : List ℕ) → enable ≤ 15 → code ≤ 8 → length information ≤ 15 → Bytes information
    → Right (system_packet enable code information)
unfolding system_packet Bytes
right_system enable code information e c l h = ((omega arith, (omega arith, (omega arith, h))), omega arith, omega arith)

pub right_copy_of : (k : Circuit) (priority : ℕ) (text : List ℕ) (number part : ℕ) → RightCircuit k → priority ≤ 3
    → Bytes text → part < packets (length text) → Right (copy_of k priority text number part).packet
unfolding copy_of
right_copy_of k priority text number part r few h inside =
    let (least, most) = length-segment text part inside in
    let l = length-packet_of k (link_of part (packets (length text))) (number % 8) priority (segment text part) least most in (
      packet_of-Bytes k (link_of part (packets (length text))) (number % 8) priority (segment text part) (omega arith) r.extended r.extension
          (omega (arith, link_of_lt part (packets (length text)))) (omega arith) (omega arith) (segment-Bytes text part h),
      omega arith,
      l.1,
    )

right_made : (whose : Option Placed) (packet : List ℕ) → MadeBy whose packet → Right packet
unfolding MadeBy
right_made None packet m =
    rw m.is (right_system m.enable m.code m.information m.enable_le m.code_le m.short m.bytes)
right_made (Some q) packet m =
    let c : Made q.circuit q.copy = m.2 in
    let is : packet ≡ (copy_of q.circuit q.copy.priority c.text q.copy.number c.part).packet =
    m.0 ∙ ap (λ (x : Copy). x.packet) c.is in
    rw is (right_copy_of q.circuit q.copy.priority c.text q.copy.number c.part m.1 c.few c.bytes c.inside)

-- frames that stand in bits and have such packets
laid : (fs : List Frame) (bits : List Bool) → AllMade fs → There bits fs → Laid bits fs
unfolding AllAre
laid [] bits h t = tt
laid (f ∷ fs) bits h t =
    let r = right_made f.whose f.packet h.0 in
    (record { bytes = r.0; least = r.1; most = r.2; there = t.0 }, laid fs bits h.1 t.1)

-- every frame lies in the joined bits
pub frames_laid : (p : Pass) → list_refusal p.sender_list ≡ 0 → Bytes p.sender_list → AllAre BytesIn p.calls → Laid (joined_bits p) (frames p)
unfolding frames blocks joined_bits
frames_laid p listed bytes call_bytes =
    laid (frames p) (joined_bits p) (frames-made p listed bytes call_bytes)
    (there_blocks (blocks p) 0 [] (joined_bits p) refl (ap flatten (blocks_are_queues p.sender_list p.sender_store p.calls listed)))

-- ---- their order

-- frames behind a flag that begins with bit n, and the rest behind them
ascending_frames : (xs : List InBlock) (m n : ℕ) (rest : List Frame) → m ≤ n + 8
    → ((k : ℕ) → k ≤ n + 8 + length (frames_bits (alone xs)) → Ascending k rest) → Ascending m (frames_from n xs ++ rest)
unfolding frames_from frames_bits frame_length Ascending
ascending_frames [] m n rest h later = later m (omega arith)
ascending_frames (x ∷ xs) m n rest h later =
    let f : List Bool = frame x.packet in
    let long : length (flag ++ f ++ flag) ≡ 16 + length f = simp length-append (omega (arith, length-flag)) in
    let short : length (f ++ flag) ≡ 8 + length f = simp length-append (omega (arith, length-flag)) in (
      omega arith,
      ascending_frames xs (n + length (flag ++ f ++ flag)) (n + length (f ++ flag)) rest (omega arith)
          (λ k le. later k (rw length-append (omega arith))),
    )

-- the frames of a block that begins with bit n and the rest behind them, and those of blocks
ascending_block : (b : TakenBlock) (m n : ℕ) (rest : List Frame) → m ≤ n
    → ((k : ℕ) → k ≤ n + length (bits_of_block b) → Ascending k rest) → Ascending m (frames_from n (packets_in b) ++ rest)
unfolding bits_of_block block_of flagged_frames
ascending_block b m n rest h later =
    ascending_frames (packets_in b) m n rest (omega arith)
    (λ k le.
    let ps : List (List ℕ) = b.before ++ packets_taken b.frames in
    let same : k ≤ n + 8 + length (frames_bits ps) = rw (alone_packets_in b) at le in
    later k (simp length-append (omega (arith, same, length-flag))))

ascending_blocks : (bs : List TakenBlock) (m n : ℕ) → m ≤ n → Ascending m (frames_in_blocks n bs)
unfolding frames_in_blocks Ascending
ascending_blocks [] m n h = tt
ascending_blocks (b ∷ bs) m n h =
    ascending_block b m n (frames_in_blocks (n + length (bits_of_block b)) bs) h
    (λ k le. ascending_blocks bs k (n + length (bits_of_block b)) le)

-- every frame ends behind the one before it
pub frames_ascending : (p : Pass) → Ascending 0 (frames p)
unfolding frames
frames_ascending p = ascending_blocks (blocks p) 0 0 (omega arith)

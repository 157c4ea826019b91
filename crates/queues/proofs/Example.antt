-- The queues at work: two circuits, a message at each, the second in two copies and of the higher priority, and a block of 256 bits. The copies
-- of the higher priority come first, and all of them have room. Then the same messages in blocks whose enable bits hold over, and blocks that
-- have room for a copy and for the rest, with the packets still to go.
use Prim.Native.Nat.{ℕ}
use mathlib.Core.Bool.{true, false, xor}
use mathlib.Core.List.{List, [], ◌∷◌, map}
use mathlib.Core.Path.{◌≡◌, refl, ap, ◌∙◌}
use lib.ListN.{length, take, replicate}
use Rattle.bits.specs.Bits.{odd, low_bits, byte_bits, bits_of}
use Rattle.fcs.specs.Fcs.{poly, divided, fcs_bit, fcs_run, preset, complement, fcs_of, low_first}
use Rattle.hdlc.specs.Stuffing.{stuff_from, stuff}
use Rattle.hdlc.specs.Frames.{flag, with_fcs, frame}
use Rattle.packet.specs.Circuits.{circuits_of, wrong_length, address_ff, wrong_extension, alike, two_alike, circuits_refusal, list_refusal, listed, no_circuit, record_of, listing}
use Rattle.packet.specs.Messages.{longest, header, headed, segment, packets, link_of}
use Rattle.packet.specs.Packets.{control, extension_of, packet_of, system_packet}
use Rattle.packet.specs.Lists.{any_of, those}
use Rattle.packet.specs.Stores.{region, store_alone, takes_long, longest_at, long_short}
use Rattle.offering.specs.Record.{store_length, fresh_slot, fresh, slot_at, pending, message_of, message_at, slot_in_range, slots_in_range, in_range}
use Rattle.offering.specs.Offering.{offer_refusal, offered_slot, offered_sender, offered_stores, sender_after_offer, stores_after_offer}
use Rattle.picking.specs.Picking.{enabled, waits_at, going_round, first_waiting, or_else, pick_from, pick, advanced, served, copies_waiting}
use Rattle.writing.specs.PacketParts.{packet_at}
use Rattle.writing.specs.NextFrame.{next_packet, next_frame}
use Rattle.sender.specs.Blocks.{frames_bits, flagged_frames, full, and_then, placing, fill, copies_in, waiting, fill_up, System, system_packets, enable_bits, in_force, ruled, block_filled, wrong_size, short_buffer, wrong_system, block_refusal, sender_after_block}
use Rattle.queues.specs.Queues.{fresh_queue, fresh_queues, queue_at, copy_of, copies_from, message_copies, message_for, offered, offer_queues, front_has, first_queue, pick_queue_from, pick_queue, behind_first, behind, serve_queues, ruled_queues, Placed, taken_none, and_taken, taking_first, taking, take_up_to, copies_in_queues, take_frames}
use Rattle.queues.specs.Effects.{taken_for, TakenBlock, packets_taken, bits_of_block, queues_after_effect, taken_by, queues_after, blocks_taken}
use Rattle.queues.specs.Calls.{Call, offer, block, fresh_end, accepted, after_call, after_calls, effect, effect_of, effects, queues_after_calls, blocks_made}
use Rattle.queues.specs.Sent.{each_once, frames_of}
use Rattle.queues.specs.EnableBits.{enable_asked, enables_sent, last_or, enable_after, packets_placed}
use Rattle.queues.proofs.BlocksAreQueues.{blocks_are_queues}

list : List ℕ
list = 0x11 ∷ 0 ∷ 0 ∷ 0x22 ∷ 1 ∷ 0x33 ∷ []

nothing_wanted : System
nothing_wanted = record { wanted = false; enable = 0; code = 0; information = [] }

calls : List Call
calls = offer 0 1 0 (0xff ∷ []) ∷ offer 1 2 1 (0x7e ∷ 0x7e ∷ []) ∷ block 256 256 (replicate 32 0) nothing_wanted ∷ []

first : Placed
first =
    record {
      circuit = record { address = 0x11; extended = 0; extension = 0 };
      copy = record { packet = 0x11 ∷ 0x81 ∷ 0x01 ∷ 0xff ∷ []; number = 0; priority = 1 };
    }

second : Placed
second =
    record {
      circuit = record { address = 0x22; extended = 1; extension = 0x33 };
      copy = record { packet = 0x22 ∷ 0xa2 ∷ 0x33 ∷ 0x02 ∷ 0x7e ∷ 0x7e ∷ []; number = 0; priority = 2 };
    }

-- the block that the rule takes
expected : TakenBlock
expected = record { size = 256; before = []; frames = second ∷ second ∷ first ∷ [] }

taken_example : blocks_taken (fresh_queues (circuits_of list)) (effects (fresh_end list (store_alone (replicate 16384 0))) calls) ≡ expected ∷ []
unfolding list nothing_wanted calls first second expected
    odd low_bits byte_bits bits_of xor poly divided fcs_bit fcs_run preset complement fcs_of low_first stuff_from stuff flag with_fcs frame
    circuits_of any_of wrong_length address_ff wrong_extension alike two_alike circuits_refusal list_refusal listed no_circuit record_of listing
    longest header headed segment packets link_of control extension_of packet_of
    region takes_long longest_at long_short store_length fresh_slot fresh slot_at pending slot_in_range slots_in_range in_range
    offer_refusal offered_slot offered_sender offered_stores sender_after_offer stores_after_offer enabled going_round or_else
    frames_bits flagged_frames system_packets enable_bits in_force wrong_size short_buffer wrong_system block_refusal
    fresh_queue fresh_queues queue_at copy_of copies_from message_copies message_for offered offer_queues
    front_has first_queue pick_queue_from pick_queue behind_first behind serve_queues ruled_queues
    taken_none and_taken taking_first taking take_up_to copies_in_queues take_frames
    taken_for queues_after_effect taken_by blocks_taken accepted after_call effect effect_of effects
taken_example = refl

-- and the bits in the buffer
made_example : blocks_made (fresh_end list (store_alone (replicate 16384 0))) calls ≡ map bits_of_block (expected ∷ [])
unfolding list circuits_of any_of wrong_length address_ff wrong_extension alike two_alike circuits_refusal list_refusal
made_example = blocks_are_queues list (store_alone (replicate 16384 0)) calls refl ∙ ap (map bits_of_block) taken_example

-- enable bits that hold over: a system packet with only priority 1 enabled, blocks without one, which are lent other bits, a refused one, and one with
-- all enabled
wanting : ℕ → System
wanting enable = record { wanted = true; enable = enable; code = 0; information = [] }

not_wanting : ℕ → System
not_wanting enable = record { wanted = false; enable = enable; code = 0; information = [] }

held_calls : List Call
held_calls =
    offer 0 1 0 (0xff ∷ []) ∷
    offer 1 2 1 (0x7e ∷ 0x7e ∷ []) ∷
    block 256 256 (replicate 32 0) (wanting 2) ∷
    block 256 256 (replicate 32 0) (not_wanting 15) ∷
    block 256 256 (replicate 32 0) (wanting 16) ∷
    block 256 256 (replicate 32 0) (not_wanting 15) ∷
    block 256 256 (replicate 32 0) (wanting 15) ∷
    []

-- circuit 1 waits until the last block, and the refused one is not among them
held_blocks : List TakenBlock
held_blocks =
    record { size = 256; before = (0xff ∷ 0xc2 ∷ 0 ∷ []) ∷ []; frames = first ∷ [] } ∷
    record { size = 256; before = []; frames = [] } ∷
    record { size = 256; before = []; frames = [] } ∷
    record { size = 256; before = (0xff ∷ 0xcf ∷ 0 ∷ []) ∷ []; frames = second ∷ second ∷ [] } ∷
    []

-- the blocks, the bits in force behind the refused one, and what the first places under its own
held_example : (blocks_taken (fresh_queues (circuits_of list)) (effects (fresh_end list (store_alone (replicate 16384 0))) held_calls) ≡ held_blocks)
    × (enable_after list (store_alone (replicate 16384 0)) (take 6 held_calls) ≡ 2)
    × (packets_placed list (store_alone (replicate 16384 0)) (take 2 held_calls) (block 256 256 (replicate 32 0) (wanting 2)) ≡ first.copy.packet ∷ [])
unfolding list not_wanting wanting held_calls held_blocks first second
    odd low_bits byte_bits bits_of xor poly divided fcs_bit fcs_run preset complement fcs_of low_first stuff_from stuff flag with_fcs frame
    circuits_of any_of wrong_length address_ff wrong_extension alike two_alike circuits_refusal list_refusal listed no_circuit record_of listing
    longest header headed segment packets link_of control extension_of packet_of system_packet
    region takes_long longest_at long_short store_length fresh_slot fresh slot_at pending message_of message_at slot_in_range slots_in_range in_range
    offer_refusal offered_slot offered_sender offered_stores sender_after_offer stores_after_offer enabled going_round or_else
    waits_at first_waiting pick_from pick advanced served copies_waiting packet_at next_packet next_frame
    frames_bits flagged_frames full and_then placing fill copies_in waiting fill_up system_packets enable_bits in_force ruled block_filled
    wrong_size short_buffer wrong_system block_refusal sender_after_block
    fresh_queue fresh_queues queue_at copy_of copies_from message_copies message_for offered offer_queues
    front_has first_queue pick_queue_from pick_queue behind_first behind serve_queues ruled_queues
    taken_none and_taken taking_first taking take_up_to copies_in_queues take_frames
    taken_for queues_after_effect taken_by blocks_taken accepted after_call effect effect_of effects
    packets_taken queues_after after_calls frames_of enable_asked enables_sent last_or enable_after packets_placed
held_example = (refl, refl, refl)

-- a message of one packet, and one of two packets in two copies each; a block has room for one of the first packet's copies, and the last one for all
-- that still wait
left_calls : List Call
left_calls =
    offer 0 1 0 (0xff ∷ []) ∷
    offer 1 2 1 (replicate 16 0) ∷
    block 256 256 (replicate 32 0) nothing_wanted ∷
    block 256 256 (replicate 32 0) nothing_wanted ∷
    block 256 256 (replicate 32 0) nothing_wanted ∷
    []

-- the packets still to go at numbers 0, 1 and 2, the last of which is not listed, after the first n calls: in the queues and in the record
left_in_queues : ℕ → List ℕ
left_in_queues n =
    let q = queues_after_calls list (store_alone (replicate 16384 0)) (take n left_calls) in
    length (each_once (queue_at q 0).copies) ∷ length (each_once (queue_at q 1).copies) ∷ length (each_once (queue_at q 2).copies) ∷ []

left_in_record : ℕ → List ℕ
left_in_record n =
    let s = (after_calls (fresh_end list (store_alone (replicate 16384 0))) (take n left_calls)).sender in
    (slot_at s 0).left ∷ (slot_at s 1).left ∷ (slot_at s 2).left ∷ []

left_expected : List (List ℕ)
left_expected =
    (0 ∷ 0 ∷ 0 ∷ []) ∷
    (1 ∷ 0 ∷ 0 ∷ []) ∷
    (1 ∷ 2 ∷ 0 ∷ []) ∷
    (1 ∷ 2 ∷ 0 ∷ []) ∷
    (1 ∷ 1 ∷ 0 ∷ []) ∷
    (0 ∷ 0 ∷ 0 ∷ []) ∷
    []

left_example : (map left_in_queues (0 ∷ 1 ∷ 2 ∷ 3 ∷ 4 ∷ 5 ∷ []) ≡ left_expected) × (map left_in_record (0 ∷ 1 ∷ 2 ∷ 3 ∷ 4 ∷ 5 ∷ []) ≡ left_expected)
unfolding list nothing_wanted left_calls left_in_queues left_in_record left_expected
    odd low_bits byte_bits bits_of xor poly divided fcs_bit fcs_run preset complement fcs_of low_first stuff_from stuff flag with_fcs frame
    circuits_of any_of wrong_length address_ff wrong_extension alike two_alike circuits_refusal list_refusal listed no_circuit record_of listing
    longest header headed segment packets link_of control extension_of packet_of
    region takes_long longest_at long_short store_length fresh_slot fresh slot_at pending message_of message_at slot_in_range slots_in_range in_range
    offer_refusal offered_slot offered_sender offered_stores sender_after_offer stores_after_offer enabled going_round or_else
    waits_at first_waiting pick_from pick advanced served copies_waiting packet_at next_packet next_frame
    frames_bits flagged_frames full and_then placing fill copies_in waiting fill_up system_packets enable_bits in_force ruled block_filled
    wrong_size short_buffer wrong_system block_refusal sender_after_block
    fresh_queue fresh_queues queue_at copy_of copies_from message_copies message_for offered offer_queues
    front_has first_queue pick_queue_from pick_queue behind_first behind serve_queues ruled_queues
    taken_none and_taken taking_first taking take_up_to copies_in_queues take_frames
    taken_for queues_after_effect accepted after_call after_calls effect effect_of effects queues_after queues_after_calls those each_once
left_example = (refl, refl)

-- Demand 3 on closed passes: one in which all that is taken as given holds, a packet and a message are lost and messages are handed over; and for each of
-- the two things taken as given one in which the other holds and the claim is false, so that neither can be left out.
use Prim.Native.Nat.{ℕ, ◌+◌}
use native.Mathlib.Omega.{arith}
use mathlib.Core.Bool.{Bool, true, false, xor}
use mathlib.Core.List.{List, [], ◌∷◌, ◌++◌, map, flatten, append-nil, nil≢cons}
use mathlib.Core.Path.{◌≡◌, refl, sym, ap, ◌∙◌}
use lib.ListN.{length, take, drop, replicate, take-append-drop}
use lib.Seq.{drop-drop}
use lib.Dec.{ltb}
use borrow.Author.Tests.{ltb-true}
use Rattle.bits.proofs.Tests.{and_left, and_right}
use Rattle.bits.specs.Bits.{odd, low_bits, byte_bits, bits_of, bit_value, number_of, fill_bytes, bytes_of, Bytes}
use Rattle.fcs.specs.Fcs.{poly, divided, fcs_bit, fcs_run, preset, complement, fcs_of, low_first}
use Rattle.hdlc.specs.Stuffing.{stuff_from, stuff, unstuff_from, unstuff, end_ones}
use Rattle.hdlc.specs.Frames.{flag, with_fcs, frame}
use Rattle.hdlc.specs.Bodies.{starts_with, holds, flags_from, flags, bodies_after, between_flags, bodies, void, fcs_right, passing, packet, judge_bits, judge}
use Rattle.packet.specs.Circuits.{circuits_of, wrong_length, address_ff, wrong_extension, alike, two_alike, circuits_refusal, list_refusal, listed, no_circuit, record_of, listing, number_from}
use Rattle.packet.specs.Messages.{longest, longest_long, header, headed, segment, packets, link_of}
use Rattle.packet.specs.Packets.{control, extension_of, packet_of, system_packet}
use Rattle.packet.specs.Answers.{answered}
use Rattle.packet.specs.Lists.{any_of, all_of, those, first_from, AllAre}
use Rattle.framing.specs.Machine.{empty, one_read, held, phase_after, keep, zero_read, step, closes, whole, check}
use Rattle.framing.specs.Machine.{fresh as fresh_framing}
use Rattle.framing.specs.Range.{in_range as framing_in_range, kept as framing_kept, all_zero, phase_right, in_fives}
use Rattle.framing.specs.Scanning.{ended, stopped, scan}
use Rattle.offering.specs.Record.{message_of, message_at, pending, fresh_slot as fresh_send_slot, slot_at as send_slot_at, slot_in_range as send_slot_in_range, slots_in_range as send_slots_in_range, in_range as send_in_range, store_length as send_store_length, fresh as fresh_sender}
use Rattle.offering.specs.Offering.{offer_refusal, offered_slot, offered_sender, offered_stores, sender_after_offer, stores_after_offer}
use Rattle.picking.specs.Picking.{enabled, going_round, or_else, first_waiting, waits_at, pick_from, pick, advanced, served, copies_waiting}
use Rattle.writing.specs.PacketParts.{packet_at}
use Rattle.writing.specs.NextFrame.{next_packet, next_frame}
use Rattle.sender.specs.Blocks.{frames_bits, flagged_frames, block_of, full, and_then, placing, fill, copies_in, waiting, fill_up, System, system_packets, enable_bits, in_force, ruled, block_filled, wrong_size, short_buffer, wrong_system, block_refusal, sender_after_block}
use Rattle.queues.specs.Queues.{fresh_queue, fresh_queues, queue_at, copy_of, copies_from, message_copies, message_for, offered, offer_queues, front_has, first_queue, pick_queue_from, pick_queue, behind_first, behind, serve_queues, ruled_queues, Message, taken_none, and_taken, taking_first, taking, take_up_to, copies_in_queues, take_frames}
use Rattle.queues.specs.Effects.{taken_for, packets_taken, bits_of_block, queues_after_effect, sent_by, taken_by, messages_sent, blocks_taken}
use Rattle.queues.specs.Calls.{Call, offer, block, fresh_end, accepted, after_call, effect, effect_of, effects, blocks_made}
use Rattle.queues.specs.Sent.{messages_at, placed_at, each_once, frames_of}
use Rattle.queues.proofs.BlocksAreQueues.{blocks_are_queues}
use Rattle.packet.specs.Stores.{region, store_alone, takes_long, longest_at, long_short}
use Rattle.notices.specs.Stores.{system_place, store_length, place_of, is_long, with_part, writes, stores_after_fate, stores_after_notice}
use Rattle.notices.specs.Slots.{fresh_slot, slot_at, open_message, slot_in_range, slots_in_range}
use Rattle.receiver.specs.Record.{fresh, in_range}
use Rattle.parsing.specs.Packets.{address, control_in, link, extended, index, lead, segment_in, circuit_in, descriptor, code, information, enable, malformed_system, malformed}
use Rattle.parsing.specs.Headers.{two_bytes, header_length, message_length, wrong_header, message_part}
use Rattle.notices.specs.Fates.{is_copy, loss_of, still_open, first_fate, last_fate, fate_of, open_length, closed_slot, slot_after}
use Rattle.notices.specs.Heard.{heard_at, heard_by, system_heard, heard}
use Rattle.receiver.specs.Reading.{with_framing, passed, noticed, read_by, read_scan, read_refusal, receiver_after_read, stores_after_read, bits_read, read_of, answer_to_read}
use Rattle.receiver.specs.Reads.{ReadCall, after_read, bits_of_read, bits_of_reads, report_of, told, told_by_reads}
use Rattle.link.specs.Demand3.{Piece, kept, replaced, Pass, messages, all_from, messages_that_came, joined_bits, blocks, packets_in, frames_from, frames_in_blocks, frames, frame_length, originals, kept_bits, new_bit, resulting, result, values, is_number, begin_with, together, came_whole, is_copy_of, comes, came, from_first, up_to_last, from_first_to_last, lost, receiver, loss_at, losses_at, handed_from, handed_at, handed_over, notices, is_passed, is_frame, no_other_passes, at_most_six_lost, Given, BytesIn, circuit_at, sent_long, takes_all_sent, Claim}
use Rattle.link.specs.WithoutLong.{is_of01, without_long, ClaimWithoutLong, Demand3WithoutLong}
use Rattle.link.proofs.WithoutLong.{demand-3-without-long}

-- ---- what the passes are made of

list : List ℕ
list = 0x11 ∷ 0 ∷ 0 ∷ []

nothing_wanted : System
nothing_wanted = record { wanted = false; enable = 0; code = 0; information = [] }

-- the bits of the blocks that calls make
bits_sent : List ℕ → List Call → List Bool
bits_sent circuits calls =
    flatten (map bits_of_block (blocks_taken (fresh_queues (circuits_of circuits)) (effects (fresh_end circuits (store_alone (replicate 16384 0))) calls)))

-- the bits with the m behind the first n replaced
torn : ℕ → ℕ → List Bool → List Bool → List Piece
torn n m new bits = kept (take n bits) ∷ replaced (take m (drop n bits)) new ∷ kept (drop (n + m) bits) ∷ []

reads_of : List Bool → List (ℕ × ℕ) → List ReadCall
reads_of bits places = map (λ (p : ℕ × ℕ). record { bytes = bytes_of bits; from = p.0; to = p.1 }) places

-- ---- three messages at a circuit; some bits in the first packet of the second are torn, by which that packet and its message are lost; beside them a system
-- packet, a message in two copies at a circuit with an extension, and an offer that is refused

two_circuits : List ℕ
two_circuits = 0x11 ∷ 0 ∷ 0 ∷ 0x22 ∷ 1 ∷ 0x33 ∷ []

abbrev pub second : List ℕ
second = 0 ∷ 1 ∷ 2 ∷ 3 ∷ 4 ∷ 5 ∷ 6 ∷ 7 ∷ 8 ∷ 9 ∷ 10 ∷ 11 ∷ 12 ∷ 13 ∷ 14 ∷ 15 ∷ 16 ∷ 17 ∷ 18 ∷ 19 ∷ []

torn_calls : List Call
torn_calls =
    offer 0 0 0 (0x47 ∷ []) ∷ offer 1 2 1 (0x51 ∷ 0x52 ∷ []) ∷ offer 2 0 0 (0x53 ∷ []) ∷
    block 360 360 (replicate 45 0) (record { wanted = true; enable = 15; code = 1; information = 0xaa ∷ [] }) ∷
    offer 0 0 0 second ∷ block 280 280 (replicate 35 0) nothing_wanted ∷
    offer 0 0 0 (0x48 ∷ []) ∷ block 256 256 (replicate 32 0) nothing_wanted ∷ []

torn_bits : List Bool
torn_bits = bits_sent two_circuits torn_calls

-- the receiver lists the circuits the other way round, cuts inside a frame, and makes a call that is refused
torn_pass : Pass
torn_pass =
    record {
      sender_list = two_circuits;
      sender_store = store_alone (replicate 16384 0);
      calls = torn_calls;
      pieces = torn 404 3 (true ∷ false ∷ true ∷ true ∷ []) torn_bits;
      receiver_list = 0x22 ∷ 1 ∷ 0x33 ∷ 0x11 ∷ 0 ∷ 0 ∷ [];
      receiver_store = store_alone (replicate 16400 0);
      reads =
          reads_of (values (resulting 0 (torn 404 3 (true ∷ false ∷ true ∷ true ∷ []) torn_bits)))
          ((0, 50) ∷ (50, 897) ∷ (67, 66) ∷ (67, 897) ∷ (139, 897) ∷ (211, 897) ∷ (267, 897) ∷ (537, 897) ∷ (625, 897) ∷ (706, 897) ∷ []);
    }

-- ---- a forged frame: nothing is sent, and an empty message is handed over

forged : List Bool
forged = flag ++ frame (0x11 ∷ 0x80 ∷ 0x00 ∷ []) ++ flag

forged_pass : Pass
forged_pass =
    record {
      sender_list = list;
      sender_store = store_alone [];
      calls = [];
      pieces = replaced [] forged ∷ [];
      receiver_list = list;
      receiver_store = store_alone (replicate 16400 0);
      reads = reads_of forged ((0, length forged) ∷ []);
    }

-- ---- seven lost in a row: of a message's nine packets the first and the last come; the index of the last is that of the first, and so it is taken for a copy

seven_calls : List Call
seven_calls = offer 0 0 0 (replicate 127 0) ∷ block 1402 1402 (replicate 176 0) nothing_wanted ∷ []

seven_bits : List Bool
seven_bits = bits_sent list seven_calls

seven_pass : Pass
seven_pass =
    record {
      sender_list = list;
      sender_store = store_alone (replicate 16384 0);
      calls = seven_calls;
      pieces = torn 177 1168 [] seven_bits;
      receiver_list = list;
      receiver_store = store_alone (replicate 16400 0);
      reads = reads_of (values (resulting 0 (torn 177 1168 [] seven_bits))) ((0, 234) ∷ (177, 234) ∷ []);
    }

-- ---- all of it computed

record Computed : Type 0 where
  torn_taken : bits_of_reads (receiver torn_pass) torn_pass.reads ≡ values (result torn_pass)
  torn_no_other : no_other_passes (result torn_pass) (frames torn_pass) ≡ true
  torn_came : came torn_pass (circuit_at torn_pass 1) ≡ true ∷ false ∷ true ∷ true ∷ []
  torn_sent : map (λ (m : Message). m.text) (messages torn_pass (circuit_at torn_pass 1)) ≡ (0x47 ∷ []) ∷ second ∷ (0x48 ∷ []) ∷ []
  torn_messages : messages_that_came torn_pass (circuit_at torn_pass 1) ≡ (0x47 ∷ []) ∷ (0x48 ∷ []) ∷ []
  copies_came : came torn_pass (circuit_at torn_pass 0) ≡ true ∷ []
  copies_messages : messages_that_came torn_pass (circuit_at torn_pass 0) ≡ (0x51 ∷ 0x52 ∷ []) ∷ []
  forged_taken : bits_of_reads (receiver forged_pass) forged_pass.reads ≡ values (result forged_pass)
  forged_came : came forged_pass (circuit_at forged_pass 0) ≡ []
  forged_handed : handed_over 0 (notices forged_pass) ≡ [] ∷ []
  forged_messages : messages_that_came forged_pass (circuit_at forged_pass 0) ≡ []
  forged_takes : takes_all_sent forged_pass 0 ≡ true
  seven_taken : bits_of_reads (receiver seven_pass) seven_pass.reads ≡ values (result seven_pass)
  seven_no_other : no_other_passes (result seven_pass) (frames seven_pass) ≡ true
  seven_losses : losses_at 0 (notices seven_pass) ≡ 0
  seven_lost : lost (from_first_to_last (came seven_pass (circuit_at seven_pass 0))) ≡ 7

computed : Computed
unfolding list nothing_wanted bits_sent torn reads_of two_circuits torn_calls torn_bits torn_pass forged forged_pass seven_calls seven_bits seven_pass
    odd low_bits byte_bits bits_of bit_value number_of fill_bytes bytes_of xor poly divided fcs_bit fcs_run preset complement fcs_of low_first
    stuff_from stuff unstuff_from unstuff end_ones flag with_fcs frame
    starts_with holds flags_from flags bodies_after between_flags bodies void fcs_right passing packet judge_bits judge
    circuits_of any_of wrong_length address_ff wrong_extension alike two_alike circuits_refusal list_refusal listed no_circuit record_of listing
    longest longest_long takes_long longest_at long_short header headed segment packets link_of control extension_of packet_of system_packet
    send_store_length fresh_send_slot fresh_sender send_slot_at pending send_slot_in_range send_slots_in_range send_in_range
    offer_refusal offered_slot offered_sender offered_stores sender_after_offer stores_after_offer enabled going_round or_else
    waits_at first_waiting pick_from pick message_of message_at packet_at next_packet advanced served copies_waiting full and_then next_frame placing fill copies_in waiting fill_up
    frames_bits flagged_frames block_of system_packets enable_bits in_force ruled block_filled wrong_size short_buffer wrong_system block_refusal sender_after_block
    fresh_queue fresh_queues queue_at copy_of copies_from message_copies message_for offered offer_queues
    front_has first_queue pick_queue_from pick_queue behind_first behind serve_queues ruled_queues
    taken_none and_taken taking_first taking take_up_to copies_in_queues take_frames
    taken_for packets_taken bits_of_block queues_after_effect sent_by taken_by messages_sent blocks_taken
    accepted after_call effect effect_of effects blocks_made messages_at placed_at frames_of
    empty one_read held phase_after keep zero_read step closes whole check fresh_framing all_zero phase_right in_fives framing_kept framing_in_range
    ended stopped scan
    region system_place store_length fresh_slot fresh slot_at open_message slot_in_range slots_in_range in_range
    address control_in link extended index lead segment_in circuit_in first_from number_from descriptor code information enable malformed_system malformed
    two_bytes header_length message_length wrong_header is_copy loss_of still_open first_fate last_fate fate_of message_part open_length closed_slot slot_after place_of is_long with_part writes stores_after_fate stores_after_notice
    heard_at heard_by system_heard heard passed with_framing noticed read_by read_scan read_refusal receiver_after_read stores_after_read bits_read
    after_read bits_of_read bits_of_reads read_of answered answer_to_read report_of told told_by_reads flatten
    blocks packets_in frames_from frames_in_blocks frames frame_length kept_bits new_bit resulting result values
    is_number begin_with together came_whole is_copy_of all_of comes those each_once came from_first up_to_last from_first_to_last lost
    loss_at losses_at handed_from handed_at handed_over messages all_from messages_that_came is_passed is_frame no_other_passes circuit_at sent_long takes_all_sent
computed =
    record {
      torn_taken = refl;
      torn_no_other = refl;
      torn_came = refl;
      torn_sent = refl;
      torn_messages = refl;
      copies_came = refl;
      copies_messages = refl;
      forged_taken = refl;
      forged_came = refl;
      forged_handed = refl;
      forged_messages = refl;
      forged_takes = refl;
      seven_taken = refl;
      seven_no_other = refl;
      seven_losses = refl;
      seven_lost = refl;
    }

-- ---- what is given

-- torn bits are those of the blocks
torn_originals : (n m : ℕ) (new bits : List Bool) → originals (torn n m new bits) ≡ bits
unfolding torn originals
torn_originals n m new bits =
    rw (append-nil (drop (n + m) bits), ← drop-drop m n bits)
    (ap (◌++◌ (take n bits)) (take-append-drop m (drop n bits)) ∙ take-append-drop n bits)

torn_joined : (n m : ℕ) (new : List Bool) (circuits : List ℕ) (calls : List Call) → list_refusal circuits ≡ 0
    → originals (torn n m new (bits_sent circuits calls)) ≡ flatten (blocks_made (fresh_end circuits (store_alone (replicate 16384 0))) calls)
unfolding bits_sent
torn_joined n m new circuits calls e =
    torn_originals n m new (bits_sent circuits calls) ∙ ap flatten (sym (blocks_are_queues circuits (store_alone (replicate 16384 0)) calls e))

-- numbers that are bytes by their test
Bytes_tested : (bytes : List ℕ) → all_of (λ b. ltb b 256) bytes ≡ true → Bytes bytes
unfolding Bytes all_of
Bytes_tested [] e = tt
Bytes_tested (b ∷ bytes) e =
    (ltb-true b 256 (and_left (ltb b 256) (all_of (λ b. ltb b 256) bytes) e), Bytes_tested bytes (and_right (ltb b 256) (all_of (λ b. ltb b 256) bytes) e))

given_torn : Given torn_pass
unfolding two_circuits torn_calls torn_pass torn_bits nothing_wanted all_of AllAre BytesIn joined_bits
    circuits_of any_of wrong_length address_ff wrong_extension alike two_alike circuits_refusal list_refusal
given_torn =
    record {
      sender_listed = refl;
      receiver_listed = refl;
      sender_bytes = Bytes_tested _ refl;
      receiver_bytes = Bytes_tested _ refl;
      call_bytes =
          let later : AllAre BytesIn (drop 4 torn_calls) = (Bytes_tested _ refl, (Bytes_tested _ refl, (Bytes_tested _ refl, (Bytes_tested _ refl, tt)))) in
          (Bytes_tested _ refl, (Bytes_tested _ refl, (Bytes_tested _ refl, (Bytes_tested _ refl, later))));
      in_pieces = torn_joined 404 3 (true ∷ false ∷ true ∷ true ∷ []) two_circuits torn_calls refl;
      takes = computed.torn_taken;
    }

given_forged : Given forged_pass
unfolding list forged_pass all_of AllAre BytesIn flatten blocks_made joined_bits originals
    circuits_of any_of wrong_length address_ff wrong_extension alike two_alike circuits_refusal list_refusal
given_forged =
    record {
      sender_listed = refl;
      receiver_listed = refl;
      sender_bytes = Bytes_tested _ refl;
      receiver_bytes = Bytes_tested _ refl;
      call_bytes = tt;
      in_pieces = refl;
      takes = computed.forged_taken;
    }

given_seven : Given seven_pass
unfolding list seven_pass seven_calls seven_bits nothing_wanted all_of AllAre BytesIn joined_bits
    circuits_of any_of wrong_length address_ff wrong_extension alike two_alike circuits_refusal list_refusal
given_seven =
    record {
      sender_listed = refl;
      receiver_listed = refl;
      sender_bytes = Bytes_tested _ refl;
      receiver_bytes = Bytes_tested _ refl;
      call_bytes = (Bytes_tested _ refl, (Bytes_tested _ refl, tt));
      in_pieces = torn_joined 177 1168 [] list seven_calls refl;
      takes = computed.seven_taken;
    }

-- ---- what they show

-- "no frame passes but those that came whole" and "never more than six packets in a row" hold; one packet is lost, and with it the second of three messages
pub a_torn_pass :
    (p : Pass) × Given p × (no_other_passes (result p) (frames p) ≡ true) × (at_most_six_lost (came p (circuit_at p 1)) ≡ true) ×
    (map (λ (m : Message). m.text) (messages p (circuit_at p 1)) ≡ (0x47 ∷ []) ∷ second ∷ (0x48 ∷ []) ∷ []) ×
    (losses_at 1 (notices p) ≡ 1) × (handed_over 1 (notices p) ≡ (0x47 ∷ []) ∷ (0x48 ∷ []) ∷ []) ×
    (losses_at 0 (notices p) ≡ 0) × (handed_over 0 (notices p) ≡ (0x51 ∷ 0x52 ∷ []) ∷ [])
unfolding Demand3WithoutLong without_long is_of01 all_of at_most_six_lost from_first_to_last from_first up_to_last lost any_of holds starts_with torn_pass torn_calls
    circuits_of
a_torn_pass =
    let six : at_most_six_lost (came torn_pass (circuit_at torn_pass 1)) ≡ true = rw computed.torn_came refl in
    let claim : ClaimWithoutLong torn_pass 1 = demand-3-without-long torn_pass refl given_torn computed.torn_no_other 1 (omega arith) six in
    let none : at_most_six_lost (came torn_pass (circuit_at torn_pass 0)) ≡ true = rw computed.copies_came refl in
    let copies : ClaimWithoutLong torn_pass 0 = demand-3-without-long torn_pass refl given_torn computed.torn_no_other 0 (omega arith) none in (
      torn_pass,
      given_torn,
      computed.torn_no_other,
      six,
      computed.torn_sent,
      claim.losses ∙ rw computed.torn_came refl,
      claim.handed ∙ computed.torn_messages,
      copies.losses ∙ rw computed.copies_came refl,
      copies.handed ∙ computed.copies_messages,
    )

-- without the first the claim is false
pub no_other_passes_needed : (p : Pass) × Given p × (at_most_six_lost (came p (circuit_at p 0)) ≡ true) × (Claim p 0 → ⊥)
unfolding at_most_six_lost from_first_to_last from_first up_to_last holds starts_with
no_other_passes_needed = (
  forged_pass,
  given_forged,
  rw computed.forged_came refl,
  λ c. nil≢cons (sym computed.forged_messages ∙ sym (c.handed computed.forged_takes) ∙ computed.forged_handed),
)

-- and without the second
pub at_most_six_lost_needed : (p : Pass) × Given p × (no_other_passes (result p) (frames p) ≡ true) × (Claim p 0 → ⊥)
at_most_six_lost_needed = (
  seven_pass,
  given_seven,
  computed.seven_no_other,
  λ c. let e : ◌≡◌ {A = ℕ} 0 7 = sym computed.seven_losses ∙ c.losses ∙ computed.seven_lost in omega arith,
)

-- The answers to block calls are those by the packets in their blocks: the bits used follow from the packets' bytes and the zeros added, which are at most a
-- fifth of each frame's unstuffed bits.
use Prim.Native.Nat.{ℕ, ◌+◌, ◌≤◌}
use native.Mathlib.Omega.{arith}
use mathlib.Core.Bool.{true}
use mathlib.Core.List.{List, [], ◌∷◌, map}
use mathlib.Core.Path.{◌≡◌, refl, sym, ap, ◌∙◌}
use borrow.Author.Tests.{eqb-true}
use lib.ListN.{length, length-append, length-map}
use Rattle.hdlc.proofs.AddedZeros.{length_flagged_added, added-zeros}
use Rattle.hdlc.proofs.Ending.{length-flag}
use Rattle.packet.specs.Answers.{answered}
use Rattle.packet.specs.Circuits.{listed, listing}
use Rattle.sender.specs.Blocks.{
  frames_bits,
  added_in_frames,
  flagged_frames,
  PlacedFrame,
  placed_packets,
  system_packets,
  enable_bits,
  block_filled,
  block_packets,
  used_bits,
  block_refusal,
}
use Rattle.sender.specs.BlockCalls.{made_of, answer_to_block}
use Rattle.sender.proofs.InForce.{in_force_at_most_15}
use Rattle.queues.specs.Queues.{Queues, fresh_queues, Placed}
use Rattle.queues.specs.Effects.{BlockAsked, packets_taken, taken_for, taken_by}
use Rattle.queues.specs.Calls.{Call, offer, offer_long, block, End, fresh_end, accepted, effect}
use Rattle.queues.specs.Stands.{Stands}
use Rattle.queues.specs.AddedZeros.{used_for, fifths, answer_by_packets, answer_to, answers_to, ZerosCounted}
use Rattle.queues.proofs.StandsBlock.{stands_block}
use Rattle.queues.proofs.StandsCalls.{stands_listing}
use Rattle.queues.proofs.BlocksAreQueues.{told_calls}

-- the bits of frames with their flags, and of the flag before them
length-frames_bits : (ps : List (List ℕ)) → 8 + length (frames_bits ps) ≡ used_for ps
unfolding frames_bits used_for
length-frames_bits [] = refl
length-frames_bits (p ∷ ps) = rw length-append (omega (arith, length_flagged_added p, length-frames_bits ps))

used-for : (ps : List (List ℕ)) → length (flagged_frames ps) ≡ used_for ps
unfolding flagged_frames
used-for ps = rw length-append (omega (arith, length-flag, length-frames_bits ps))

added-fifths : (ps : List (List ℕ)) → added_in_frames ps ≤ fifths ps
unfolding added_in_frames fifths
added-fifths [] = omega arith
added-fifths (p ∷ ps) = omega (arith, added-zeros.fifth p, added-fifths ps)

-- as many frames as packets, on both sides
as_many : (fs : List PlacedFrame) (ps : List Placed) → placed_packets fs ≡ packets_taken ps → length fs ≡ length ps
unfolding placed_packets packets_taken
as_many fs ps same =
    sym (length-map fs (λ (f : PlacedFrame). f.packet)) ∙ ap length same ∙ length-map ps (λ (p : Placed). p.copy.packet)

-- the answer of one call
pub answered_accepted : (call : Call) (e : End) (q : Queues) → Stands e.sender e.store q → accepted e call ≡ true
    → answer_to e call ≡ map answer_by_packets (taken_by q (effect call))
unfolding answer_to taken_by accepted effect answer_by_packets answer_to_block made_of answered used_bits block_packets
answered_accepted (offer c priority repetition message) e q h a = refl
answered_accepted (offer_long priority repetition message) e q h a = refl
answered_accepted (block n u buffer y) e q h a =
    let z : block_refusal e.sender e.store buffer n u y ≡ 0 = eqb-true (block_refusal e.sender e.store buffer n u y) 0 a in
    let t : BlockAsked = record { size = n; before = system_packets y; new_enable = enable_bits y; usable = u } in
    let ours = (block_filled e.sender e.store u (system_packets y) (enable_bits y)).frames in
    let theirs = (taken_for q t).frames in
    let same : placed_packets ours ≡ packets_taken theirs =
    (stands_block e.sender e.store q t h (in_force_at_most_15 e.sender e.store buffer n u y z)).packets in
    rw (z, same, as_many ours theirs same, used-for)

pub zeros-counted : ZerosCounted
unfolding answers_to
zeros-counted =
    record {
      told = λ bytes store calls.
          told_calls answer_by_packets answer_to answered_accepted answers_to (λ e. refl) (λ e call calls. refl) calls (fresh_end bytes store)
          (fresh_queues (listed (listing bytes))) (stands_listing bytes store);
      fifth = added-fifths;
    }

-- At each circuit: what was sent there, which of its packets came, and what of it is heard.
use Prim.Native.Nat.{ℕ, ◌+◌}
use mathlib.Core.Bool.{Bool, true, false, cond, ◌&&◌}
use mathlib.Core.List.{List, [], ◌∷◌, ◌++◌, map}
use Rattle.std.proofs.Common.{None, Some}
use mathlib.Core.Path.{◌≡◌, refl, sym, ap, ◌∙◌}
use lib.ListN.{length, replicate}
use Rattle.bits.proofs.Tests.{and_both}
use Rattle.hdlc.specs.Frames.{flag, frame}
use Rattle.packet.specs.declared.Circuit.{Circuit}
use Rattle.packet.specs.Circuits.{alike, list_refusal}
use Rattle.packet.specs.Lists.{any_of, all_of, those}
use Rattle.queues.specs.Queues.{Copy, queue_for, Message, Placed}
use Rattle.queues.specs.Effects.{TakenBlock, bits_of_block, queues_after}
use Rattle.queues.specs.Sent.{placed_at, frames_of}
use Rattle.queues.proofs.AtCircuit.{Offered}
use Rattle.queues.proofs.FirstInFirstOut.{first_in_first_out}
use Rattle.queues.proofs.IndexCounts.{sent_packets, numbered_offers, copies_sent-packets, offered_calls}
use Rattle.link.specs.Demand3.{Pass, queues, effects_of_calls, messages, blocks, Frame, InBlock, not_ours, ours, packets_in, frames_from, frames_in_blocks, frames, result, came_whole, is_copy_of, comes, came}
use Rattle.link.proofs.Steps.{is_of, packets_at, Thinned, came_of}
use Rattle.link.proofs.CopiesThinned.{Arrival, copies_in, comes_in, heard_in, arrived}

-- ---- the frames of a circuit

-- of frames, which have the copies placed in them: what comes of circuit k, what is heard, and that all came whole if all frames did
pub record Arrives (k : Circuit) (whole : Frame → Bool) (fs : List Frame) (ps : List Placed) : Type 0 where
  pub arrivals : List Arrival
  pub copies : copies_in arrivals ≡ placed_at k ps
  pub comes : (i : ℕ) → any_of (λ f. is_copy_of k i f.whose && whole f) fs ≡ comes_in arrivals i
  pub heard : packets_at k (those whole fs) ≡ heard_in arrivals
  pub wholes : ((f : Frame) → whole f ≡ true) → all_of (λ (a : Arrival). a.whole) arrivals ≡ true

-- a frame that came whole is heard if it is the circuit's
module _ (k : Circuit) where
  heard_own : (f : Frame) (b : Bool) (fs : List Frame) → is_of k f.whose ≡ true
      → packets_at k (cond b (f ∷ []) [] ++ fs) ≡ cond b (f.packet ∷ []) [] ++ packets_at k fs
  unfolding packets_at
  heard_own f true fs e = rw e
  heard_own f false fs e = refl

  heard_other : (f : Frame) (b : Bool) (fs : List Frame) → is_of k f.whose ≡ false → packets_at k (cond b (f ∷ []) [] ++ fs) ≡ packets_at k fs
  unfolding packets_at
  heard_other f true fs e = rw e
  heard_other f false fs e = refl

module _ (k : Circuit) (whole : Frame → Bool) where
  -- the frames of packets before ours, then ours, and those of blocks
  arrives_before : (before : List (List ℕ)) (n : ℕ) (xs : List InBlock) (fs : List Frame) (ps : List Placed)
      → ((m : ℕ) → Arrives k whole (frames_from m xs ++ fs) ps)
      → Arrives k whole (frames_from n (map not_ours before ++ xs) ++ fs) ps
  unfolding frames_from any_of those is_copy_of is_of
  arrives_before [] n xs fs ps later = later n
  arrives_before (p ∷ before) n xs fs ps later =
      let behind = arrives_before before (n + length (frame p ++ flag)) xs fs ps later in
      let f : Frame = record { from = n; packet = p; whose = None } in
      record {
        arrivals = behind.arrivals;
        copies = behind.copies;
        comes = behind.comes;
        heard = heard_other k f (whole f) _ refl ∙ behind.heard;
        wholes = behind.wholes;
      }

  arrives_copy : (n : ℕ) (q : Placed) (fs : List Frame) (ps : List Placed) → Arrives k whole fs ps
      → Arrives k whole (record { from = n; packet = q.copy.packet; whose = Some q } ∷ fs) (q ∷ ps)
  unfolding any_of all_of those is_copy_of is_of placed_at comes_in heard_in
  arrives_copy n q fs ps later = go (alike k q.circuit) refl
    where
      f : Frame
      f = record { from = n; packet = q.copy.packet; whose = Some q }

      go : (b : Bool) → alike k q.circuit ≡ b → Arrives k whole (f ∷ fs) (q ∷ ps)
      go true e =
          record {
            arrivals = record { copy = q.copy; whole = whole f } ∷ later.arrivals;
            copies = rw e (ap (λ l. q.copy ∷ l) later.copies);
            comes = λ i. rw (e, later.comes i);
            heard = heard_own k f (whole f) (those whole fs) e ∙ ap (◌++◌ (cond (whole f) (q.copy.packet ∷ []) [])) later.heard;
            wholes = λ all. and_both (whole f) _ (all f) (later.wholes all);
          }
      go false e =
          record {
            arrivals = later.arrivals;
            copies = rw e later.copies;
            comes = λ i. rw e (later.comes i);
            heard = heard_other k f (whole f) (those whole fs) e ∙ later.heard;
            wholes = later.wholes;
          }

  arrives_placed : (qs : List Placed) (n : ℕ) (fs : List Frame) (ps : List Placed) → Arrives k whole fs ps
      → Arrives k whole (frames_from n (map ours qs) ++ fs) (qs ++ ps)
  unfolding frames_from
  arrives_placed [] n fs ps later = later
  arrives_placed (q ∷ qs) n fs ps later =
      let next : ℕ = n + length (frame q.copy.packet ++ flag) in
      arrives_copy n q _ (qs ++ ps) (arrives_placed qs next fs ps later)

  pub arrives_blocks : (bs : List TakenBlock) (n : ℕ) → Arrives k whole (frames_in_blocks n bs) (frames_of bs)
  unfolding frames_in_blocks packets_in frames_of any_of all_of those placed_at comes_in heard_in packets_at
  arrives_blocks [] n = record { arrivals = []; copies = refl; comes = λ i. refl; heard = refl; wholes = λ all. refl }
  arrives_blocks (b ∷ bs) n =
      let later = arrives_blocks bs (n + length (bits_of_block b)) in
      arrives_before b.before n _ _ _ (λ m. arrives_placed b.frames m _ (frames_of bs) later)

-- ---- all together

-- the messages sent at circuit k are offered from packet 0 on, those of their packets that come are heard, and the first of them are placed
pub record SentAt (p : Pass) (k : Circuit) : Type 0 where
  pub right : Offered k 0 (messages p k)
  pub thinned : Thinned (comes p k) (sent_packets (messages p k)) (packets_at k (those (came_whole (result p)) (frames p)))
  pub unplaced : ℕ
  pub placed : came_of (comes p k) (sent_packets (messages p k)) ≡ came p k ++ replicate unplaced false

pub sent_at : (p : Pass) → list_refusal p.sender_list ≡ 0 → (k : Circuit) → SentAt p k
unfolding messages blocks frames comes came
sent_at p accepts k =
    let ms : List Message = messages p k in
    let right : Offered k 0 ms = offered_calls p.sender_list p.sender_store p.calls k accepts in
    let waiting : List Copy = (queue_for (queues_after (queues p) (effects_of_calls p)).queues k).copies in
    let first = first_in_first_out p.sender_list p.sender_store p.calls k accepts in
    let a = arrives_blocks k (came_whole (result p)) (blocks p) 0 in
    let r = arrived (sent_packets ms) 0 a.arrivals waiting (comes p k) (numbered_offers ms k 0 right)
    (rw a.copies (sym first ∙ copies_sent-packets ms)) (λ i h. a.comes i) in
    record { right = right; thinned = rw a.heard r.thinned; unplaced = r.unplaced; placed = rw a.copies at r.placed }

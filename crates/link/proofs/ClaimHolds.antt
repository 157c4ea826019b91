-- Demand 3 holds.
use Prim.Native.Nat.{ℕ, ◌≤◌, ◌<◌}
use native.Mathlib.Omega.{arith}
use mathlib.Core.Bool.{Bool, true, false, not, ◌||◌}
use mathlib.Core.List.{List, [], ◌∷◌, ◌++◌, map}
use mathlib.Core.Path.{◌≡◌, refl, sym, ap, ◌∙◌}
use lib.ListN.{length, replicate, length-take, length-drop, length-replicate}
use lib.Dec.{ltb, eqb}
use borrow.Author.Tests.{ltb-false}
use Rattle.bits.proofs.Tests.{and_left, or_left, or_right}
use Rattle.packet.specs.declared.Circuit.{Circuit}
use Rattle.packet.specs.Circuits.{circuits_of, listing}
use Rattle.packet.specs.Messages.{longest, longest_long}
use Rattle.packet.specs.Lists.{any_of, those, AllAre}
use Rattle.packet.proofs.CircuitLists.{list_refusal-length}
use Rattle.framing.specs.Machine.{fresh as fresh_framing}
use Rattle.framing.specs.Closings.{closings}
use Rattle.packet.specs.Stores.{region, Stores, stores, takes_long}
use Rattle.notices.specs.Stores.{system_place, store_length}
use Rattle.receiver.specs.Record.{fresh}
use Rattle.receiver.specs.Reads.{bits_of_reads}
use Rattle.receiver.proofs.ReadLaws.{long_enough}
use Rattle.packet.proofs.Choices.{cond_either}
use Rattle.queues.specs.Queues.{Message}
use Rattle.queues.proofs.AtCircuit.{Offered}
use Rattle.queues.proofs.IndexCounts.{sent_packets, numbered_offers}
use Rattle.link.specs.Demand3.{Pass, messages, frames, result, came_whole, comes, came, messages_that_came, from_first_to_last, lost, receiver, losses_at, handed_over, notices, no_other_passes, at_most_six_lost, Given, circuit_at, sent_long, takes_all_sent, Demand3, Frame, originals}
use Rattle.link.proofs.Steps.{given, told_by_packets, Laid, MadeBy, AllMade, packets_at, most_if, came_of}
use Rattle.link.proofs.ReadsHear.{losses_of_reads, handed_of_reads, too_short, short_stores-read_nothing}
use Rattle.link.proofs.PassedAreWhole.{passed_are_whole}
use Rattle.link.proofs.FramesMade.{list_right, frames-made}
use Rattle.link.proofs.FramesLaid.{frames_laid, frames_ascending}
use Rattle.link.proofs.OneCircuit.{own_stores, losses_of_circuit, handed_of_circuit}
use Rattle.link.proofs.SentAt.{SentAt, sent_at}
use Rattle.link.proofs.Losses.{losses_thinned, from_first_to_last_unplaced}
use Rattle.link.proofs.Reassembly.{Room, handed_thinned}

-- ---- lists

-- what holds of all holds of those that pass a test
pub AllAre-those : {A : Type 0} (P : A → Type 0) (test : A → Bool) (xs : List A) → AllAre P xs → AllAre P (those test xs)
unfolding AllAre those
AllAre-those P test [] h = tt
AllAre-those P test (x ∷ xs) h =
    let later : AllAre P (those test xs) = AllAre-those P test xs h.1 in
    cond_either (λ l. AllAre P (l ++ those test xs)) (test x) _ _ (λ _. (h.0, later)) (λ _. later)

-- ---- messages sent

-- each is at most a long one, and at most the longest of the others where none is long
fits-long : (os : List Message) (k : Circuit) (i : ℕ) → Offered k i os → AllAre (λ (m : Message). length m.text ≤ longest_long) os
unfolding Offered AllAre
fits-long [] k i h = tt
fits-long (o ∷ os) k i (here, first, few, most, more) = (most, fits-long os k _ more)

fits_short : (os : List Message) → any_of (λ (m : Message). ltb longest (length m.text)) os ≡ false
    → AllAre (λ (m : Message). length m.text ≤ longest) os
unfolding AllAre any_of
fits_short [] e = tt
fits_short (o ∷ os) e = (ltb-false longest (length o.text) (or_left _ _ e), fits_short os (or_right (ltb longest (length o.text)) _ e))

-- so each fits where long ones are taken or none is sent
sent-fits : (taken : Bool) (os : List Message) (k : Circuit) (i : ℕ) → Offered k i os
    → (not (any_of (λ (m : Message). ltb longest (length m.text)) os) || taken) ≡ true
    → AllAre (λ (m : Message). length m.text ≤ most_if taken) os
unfolding most_if
sent-fits true os k i h e = fits-long os k i h
sent-fits false os k i h e = fits_short os (go (any_of (λ (m : Message). ltb longest (length m.text)) os) e)
  where
    go : (b : Bool) → (not b || false) ≡ true → b ≡ false
    go true f = sym f
    go false f = refl

module _ (p : Pass) (g : Given p) (no_other : no_other_passes (result p) (frames p) ≡ true) where
  -- the frames that came whole
  whole : List Frame
  whole = those (came_whole (result p)) (frames p)

  packets-of : List Frame → List (List ℕ)
  packets-of fs = map (λ (f : Frame). f.packet) fs

  -- the packets that pass in what the reading calls take are theirs
  heard_are_whole : given (closings fresh_framing 0 (bits_of_reads (receiver p) p.reads)) ≡ packets-of whole
  unfolding whole packets-of result
  heard_are_whole =
      let laid : Laid (originals p.pieces) (frames p) = rw g.in_pieces (frames_laid p g.sender_listed g.sender_bytes g.call_bytes) in
      rw g.takes
      (passed_are_whole p.pieces (frames p) laid (frames_ascending p) no_other)

  whole-made : AllMade whole
  unfolding whole
  whole-made =
      AllAre-those (λ (f : Frame). MadeBy f.whose f.packet) (came_whole (result p)) (frames p)
      (frames-made p g.sender_listed g.sender_bytes g.call_bytes)

  -- stores as long as reading wants them: where one of the receiver's is shorter, no bit is read and nothing is told
  record Enough : Type 0 where
    lent : Stores
    given : lent.given ≡ p.receiver_store.given
    store : store_length ≤ length lent.store
    long : lent.given ≡ true → longest_long ≤ length lent.long
    same :
        told_by_packets (fresh (listing p.receiver_list)) p.receiver_store (packets-of whole)
        ≡ told_by_packets (fresh (listing p.receiver_list)) lent (packets-of whole)

  enough : Enough
  unfolding told_by_packets given closings too_short
  enough = go (too_short p.receiver_store) refl
    where
      go : (b : Bool) → too_short p.receiver_store ≡ b → Enough
      go false e =
          record {
            lent = p.receiver_store;
            given = refl;
            store = ltb-false _ _ (or_left _ _ e);
            long = long_enough p.receiver_store (or_right (ltb (length p.receiver_store.store) store_length) _ e);
            same = refl;
          }
      go true e =
          let nothing : bits_of_reads (receiver p) p.reads ≡ [] = short_stores-read_nothing p.receiver_list p.receiver_store p.reads e in
          let none : packets-of whole ≡ [] = sym heard_are_whole ∙ ap (λ bits. given (closings fresh_framing 0 bits)) nothing in
          record {
            lent = stores (replicate store_length 0) p.receiver_store.given (replicate longest_long 0);
            given = refl;
            store = rw length-replicate (omega arith);
            long = λ _. rw length-replicate (omega arith);
            same = rw none;
          }

  module _ (n : ℕ) (there : n < length (circuits_of p.receiver_list)) (six : at_most_six_lost (came p (circuit_at p n)) ≡ true) where
    k : Circuit
    k = circuit_at p n

    s : SentAt p k
    s = sent_at p g.sender_listed k

    -- whether long messages are taken there
    taken : Bool
    taken = takes_long p.receiver_store.given n

    -- of all packets sent there, whether each came
    mask : List Bool
    mask = came_of (comes p k) (sent_packets (messages p k))

    -- those of which no copy was placed stand behind the last that came, and do not count
    mask_came : from_first_to_last mask ≡ from_first_to_last (came p k)
    unfolding mask
    mask_came = rw s.placed (from_first_to_last_unplaced (came p k) s.unplaced)

    mask_six : at_most_six_lost mask ≡ true
    unfolding at_most_six_lost k
    mask_six = rw mask_came six

    -- the losses told are those between the first that came and the last
    losses_told : losses_at n (notices p) ≡ lost (from_first_to_last (came p k))
    unfolding k mask circuit_at whole packets-of taken
    losses_told =
        losses_of_reads p.receiver_list p.receiver_store p.reads n
        ∙ ap (λ ps. losses_at n (told_by_packets (fresh (listing p.receiver_list)) p.receiver_store ps)) heard_are_whole
        ∙ losses_of_circuit p.receiver_list p.receiver_store g.receiver_listed n there whole whole-made
        ∙ losses_thinned taken (comes p k) (sent_packets (messages p k)) (packets_at k whole) (numbered_offers (messages p k) k 0 s.right) s.thinned mask_six
        ∙ ap lost mask_came

    -- the receiver lists at most four circuits, so that the region lies in the store
    room : Room taken (own_stores taken n enough.lent)
    unfolding taken takes_long store_length system_place region
    room =
        record {
          store =
              rw (length-take, length-drop) (omega (arith, there, list_refusal-length p.receiver_list g.receiver_listed, enough.store));
          long = λ e. rw e (enough.long (enough.given ∙ and_left p.receiver_store.given (eqb n 0) e));
        }

    -- the messages handed over are those of which every packet came
    messages-told : takes_all_sent p n ≡ true → handed_over n (notices p) ≡ messages_that_came p k
    unfolding k mask circuit_at whole packets-of messages_that_came taken takes_all_sent sent_long
    messages-told takes =
        handed_of_reads p.receiver_list p.receiver_store p.reads n
        ∙ ap (λ ps. handed_over n (told_by_packets (fresh (listing p.receiver_list)) p.receiver_store ps)) heard_are_whole
        ∙ ap (handed_over n) enough.same
        ∙ (rw enough.given at (handed_of_circuit p.receiver_list enough.lent g.receiver_listed n there whole whole-made))
        ∙ handed_thinned taken (comes p k) k (list_right p.receiver_list g.receiver_listed g.receiver_bytes n) (messages p k) s.right
        (sent-fits taken (messages p k) k 0 s.right takes) (own_stores taken n enough.lent) room (packets_at k whole) s.thinned mask_six

pub demand-3 : Demand3
unfolding Demand3 k
demand-3 p g no_other n there six = record { losses = losses_told p g no_other n there six; handed = messages-told p g no_other n there six }

-- Where nothing is replaced, whole blocks are dropped, or seven or more ones stand for what is replaced, the claim needs nothing of the bits that pass; and
-- on an undamaged channel nothing is taken as given: no loss is told, and every message of which every packet was placed is handed over, if the receiver takes
-- all that is sent.
use Prim.Native.Nat.{ℕ, ◌<◌}
use mathlib.Core.Bool.{Bool, true}
use mathlib.Core.List.{List, [], ◌∷◌, map, flatten}
use mathlib.Core.Path.{◌≡◌, ap, ◌∙◌}
use lib.ListN.{length}
use Rattle.packet.specs.Circuits.{circuits_of}
use Rattle.packet.specs.Messages.{packets}
use Rattle.packet.specs.Lists.{those}
use Rattle.queues.specs.Queues.{Message}
use Rattle.queues.proofs.BlocksAreQueues.{blocks_are_queues}
use Rattle.link.specs.Demand3.{Piece, kept, replaced, Pass, messages, joined_bits, blocks, frames, result, comes, came, all_from, messages_that_came, losses_at, handed_over, notices, Given, no_other_passes, at_most_six_lost, circuit_at, takes_all_sent, Claim, Demand3}
use Rattle.link.specs.WithoutLong.{without_long, ClaimWithoutLong}
use Rattle.link.specs.Channels.{Clean, is_placed, dropped_pieces, OnesOnly}
use Rattle.link.proofs.Steps.{Laid}
use Rattle.link.proofs.FramesLaid.{frames_laid}
use Rattle.link.proofs.ClaimHolds.{demand-3}
use Rattle.link.proofs.CleanChannel.{comes_clean, lost_clean, at_most_six_lost_clean}
use Rattle.link.proofs.DroppedBlocks.{dropped_blocks}
use Rattle.link.proofs.ReplacedByOnes.{replaced_by_ones}
use Rattle.link.proofs.WithoutLong.{takes_all, claim_without_long}

clean_ones : (pieces : List Piece) → Clean pieces → OnesOnly pieces
unfolding Clean OnesOnly
clean_ones [] clean = tt
clean_ones (kept bits ∷ pieces) clean = clean_ones pieces clean
clean_ones (replaced old new ∷ pieces) clean = absurd clean

module _ (p : Pass) (g : Given p) (n : ℕ) (there : n < length (circuits_of p.receiver_list)) where
  -- whole blocks are dropped
  pub claim_dropped : (keep : List Bool) → p.pieces ≡ dropped_pieces keep (blocks p) → at_most_six_lost (came p (circuit_at p n)) ≡ true → Claim p n
  unfolding Demand3 result frames blocks
  claim_dropped keep e six = demand-3 p g (rw e (dropped_blocks (blocks p) keep)) n there six

  -- seven or more ones stand for each stretch that is replaced: no frame passes but those that came whole
  no_other_ones : OnesOnly p.pieces → no_other_passes (result p) (frames p) ≡ true
  unfolding result frames joined_bits blocks
  no_other_ones ones =
      replaced_by_ones (blocks p) p.pieces
      (g.in_pieces ∙ ap flatten (blocks_are_queues p.sender_list p.sender_store p.calls g.sender_listed)) ones

  pub claim_ones : OnesOnly p.pieces → at_most_six_lost (came p (circuit_at p n)) ≡ true → Claim p n
  unfolding Demand3
  claim_ones ones six = demand-3 p g (no_other_ones ones) n there six

  laid : Laid (joined_bits p) (frames p)
  laid = frames_laid p g.sender_listed g.sender_bytes g.call_bytes

  -- nothing is replaced
  module _ (clean : Clean p.pieces) where
    claim_clean : Claim p n
    claim_clean = claim_ones (clean_ones p.pieces clean) (at_most_six_lost_clean p clean g.in_pieces laid (circuit_at p n))

    pub clean_losses : losses_at n (notices p) ≡ 0
    clean_losses = claim_clean.losses ∙ lost_clean p clean g.in_pieces laid (circuit_at p n)

    pub clean_handed : takes_all_sent p n ≡ true →
        handed_over n (notices p) ≡
        map (λ (m : Message). m.text)
        (those (λ (m : Message). all_from (is_placed p (circuit_at p n)) m.first (packets (length m.text))) (messages p (circuit_at p n)))
    unfolding messages_that_came is_placed
    clean_handed takes =
        let placed : comes p (circuit_at p n) ≡ is_placed p (circuit_at p n) =
        λ j i. comes_clean p clean g.in_pieces laid (circuit_at p n) i j in
        claim_clean.handed takes
        ∙ ap (λ test. map (λ (m : Message). m.text)
        (those (λ (m : Message). all_from test m.first (packets (length m.text))) (messages p (circuit_at p n)))) placed

-- where no long message is offered, each says what it said without such messages
module _ (p : Pass) (g : Given p) (n : ℕ) (there : n < length (circuits_of p.receiver_list)) (old : without_long p ≡ true) where
  pub dropped_without_long : (keep : List Bool) → p.pieces ≡ dropped_pieces keep (blocks p) → at_most_six_lost (came p (circuit_at p n)) ≡ true
      → ClaimWithoutLong p n
  dropped_without_long keep e six = claim_without_long p n old (claim_dropped p g n there keep e six)

  pub ones_without_long : OnesOnly p.pieces → at_most_six_lost (came p (circuit_at p n)) ≡ true → ClaimWithoutLong p n
  ones_without_long ones six = claim_without_long p n old (claim_ones p g n there ones six)

  pub clean_without_long : Clean p.pieces →
      handed_over n (notices p) ≡
      map (λ (m : Message). m.text)
      (those (λ (m : Message). all_from (is_placed p (circuit_at p n)) m.first (packets (length m.text))) (messages p (circuit_at p n)))
  clean_without_long clean = clean_handed p g n there clean (takes_all p n old)

-- Channels on which no frame passes but those that came whole, with nothing assumed of the bits (`clean_losses`, `clean_handed`, `claim_dropped`,
-- `claim_ones` of proofs/OnChannels).
use Rattle.std.specs.Prelude.{ℕ, ◌≤◌, Bool, true, false, List, [], ◌∷◌, ◌≡◌, length, replicate}
use Rattle.packet.specs.declared.Circuit.{Circuit}
use Rattle.packet.specs.Lists.{any_of}
use Rattle.queues.specs.Effects.{TakenBlock, bits_of_block}
use Rattle.link.specs.Demand3.{Piece, kept, replaced, Pass, frames, is_copy_of}

-- nothing is replaced: every piece is kept
unfoldable pub Clean : List Piece → Type 0
Clean [] = Unit {0}
Clean (kept bits ∷ pieces) = Clean pieces
Clean (replaced old new ∷ pieces) = ⊥

-- some copy of a circuit's packet number i is in a block
unfoldable pub is_placed : Pass → Circuit → ℕ → Bool
is_placed p k i = any_of (λ f. is_copy_of k i f.whose) (frames p)

-- whole blocks are dropped: each is kept or not, and those behind the end of `keep` are kept
unfoldable pub dropped_pieces : List Bool → List TakenBlock → List Piece
dropped_pieces keep [] = []
dropped_pieces [] (b ∷ bs) = kept (bits_of_block b) ∷ dropped_pieces [] bs
dropped_pieces (true ∷ keep) (b ∷ bs) = kept (bits_of_block b) ∷ dropped_pieces keep bs
dropped_pieces (false ∷ keep) (b ∷ bs) = replaced (bits_of_block b) [] ∷ dropped_pieces keep bs

-- every replaced stretch is replaced by seven or more ones
unfoldable pub OnesOnly : List Piece → Type 0
OnesOnly [] = Unit {0}
OnesOnly (kept bits ∷ pieces) = OnesOnly pieces
OnesOnly (replaced old new ∷ pieces) = (new ≡ replicate (length new) true) × (7 ≤ length new) × OnesOnly pieces

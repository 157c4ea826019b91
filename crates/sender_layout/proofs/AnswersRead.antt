-- The numbers in an answer's bytes are those that were put there, where they have room: what C reads of them is what the call told.
use mathlib.Core.Path.{◌≡◌, refl, ◌∙◌}
use Prim.Native.Nat.{ℕ, ◌^◌, ◌<◌}
use mathlib.Core.List.{List, ◌++◌, append_assoc}
use lib.ListN.{length, length-append}
use native.Mathlib.Omega.{arith}
use Rattle.layout.specs.Layout.{low_bytes}
use Rattle.sender_layout.specs.Answers.{block_answer_length, block_answer_bytes, placed_told, used_told, zeros_told}
use Rattle.layout.proofs.Parts.{length-low_bytes, number_unpacks, number_after}

pub length-block_answer_bytes : (placed used zeros : ℕ) → length (block_answer_bytes placed used zeros) ≡ block_answer_length
unfolding block_answer_bytes low_bytes
length-block_answer_bytes placed used zeros = refl

-- the first two numbers have eight bytes
pub length_placed_used : (placed used : ℕ) → length (low_bytes 4 placed ++ low_bytes 4 used) ≡ 8
length_placed_used placed used = rw length-append (omega (arith, length-low_bytes 4 placed, length-low_bytes 4 used))

-- what stands behind two numbers, and behind one
two_then : (placed used zeros : ℕ) (rest : List ℕ)
    → block_answer_bytes placed used zeros ++ rest ≡ (low_bytes 4 placed ++ low_bytes 4 used) ++ (low_bytes 4 zeros ++ rest)
unfolding block_answer_bytes
two_then placed used zeros rest = append_assoc (low_bytes 4 placed ++ low_bytes 4 used) (low_bytes 4 zeros) rest

one_then : (placed used zeros : ℕ) (rest : List ℕ)
    → block_answer_bytes placed used zeros ++ rest ≡ low_bytes 4 placed ++ (low_bytes 4 used ++ (low_bytes 4 zeros ++ rest))
one_then placed used zeros rest =
    two_then placed used zeros rest ∙ append_assoc (low_bytes 4 placed) (low_bytes 4 used) (low_bytes 4 zeros ++ rest)

pub block_answer_unpacks : (placed used zeros : ℕ) → placed < 2 ^ 32 → used < 2 ^ 32 → zeros < 2 ^ 32 → (rest : List ℕ)
    → (placed_told (block_answer_bytes placed used zeros ++ rest) ≡ placed) × (used_told (block_answer_bytes placed used zeros ++ rest) ≡ used)
    × (zeros_told (block_answer_bytes placed used zeros ++ rest) ≡ zeros)
block_answer_unpacks placed used zeros p u z rest =
    let first = low_bytes 4 placed in
    let second = low_bytes 4 used in
    let third = low_bytes 4 zeros ++ rest in (
      rw one_then (number_unpacks 4 placed p (second ++ third)),
      rw one_then (number_after 4 first (second ++ third) 4 (length-low_bytes 4 placed) ∙ number_unpacks 4 used u third),
      rw two_then (number_after 4 (first ++ second) third 8 (length_placed_used placed used) ∙ number_unpacks 4 zeros z rest),
    )

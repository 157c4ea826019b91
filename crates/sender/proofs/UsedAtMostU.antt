-- The bits of an accepted block: those used are at most U, and the N bits are as the call leaves them in the buffer.
use Prim.Native.Nat.{ℕ, ◌+◌, ◌*◌, ◌/◌, ◌≤◌}
use native.Mathlib.Omega.{arith}
use mathlib.Core.Bool.{Bool}
use mathlib.Core.List.{List, append_assoc}
use mathlib.Core.Path.{◌≡◌}
use lib.ListN.{length, take, length-append, length-replicate}
use lib.Seq.{take_at}
use Rattle.bits.specs.Bits.{bits_of, bytes_of}
use Rattle.bits.proofs.Bits.{bits_of_append, bits_of-fill_bytes}
use Rattle.packet.specs.Stores.{Stores}
use Rattle.offering.specs.declared.Sender.{Sender}
use Rattle.sender.specs.Blocks.{block_of, System, system_packets, enable_bits, used_bits, block_bits, block_buffer, block_refusal, buffer_after_block}
use Rattle.sender.proofs.BlockRefusals.{Accepted, accepted}
use Rattle.sender.proofs.OpeningBits.{length_opening}
use Rattle.sender.proofs.UsedBits.{used_within}

-- the bits that a block's buffer begins with
take-block_buffer : (old : List ℕ) (bits : List Bool) (n : ℕ) → length bits ≡ n → take n (bits_of (block_buffer old bits)) ≡ bits
unfolding block_buffer bytes_of
take-block_buffer old bits n e =
    let fits : length bits ≤ 8 * ((length bits + 7) / 8) = omega arith in
    rw (bits_of_append, bits_of-fill_bytes ((length bits + 7) / 8) bits fits, append_assoc) (take_at bits _ n e)

-- "A block has N user bits, of which U may be used"
module _ (s : Sender) (store : Stores) (buffer : List ℕ) (n u : ℕ) (y : System) (e : block_refusal s store buffer n u y ≡ 0) where
  pub used_at_most_U : length (used_bits s store u (system_packets y) (enable_bits y)) ≤ u
  used_at_most_U =
      let a : Accepted s store buffer n u y = accepted s store buffer n u y e in
      used_within s store u (system_packets y) (enable_bits y) (omega (arith, length_opening y a.allowed, a.least))

  length-block_bits : length (block_bits s store n u (system_packets y) (enable_bits y)) ≡ n
  unfolding used_bits block_bits block_of
  length-block_bits = rw (length-append, length-replicate) (omega (arith, used_at_most_U, (accepted s store buffer n u y e).used))

  -- the N bits that the buffer holds then
  pub take-buffer_after_block : take n (bits_of (buffer_after_block s store buffer n u y)) ≡ block_bits s store n u (system_packets y) (enable_bits y)
  unfolding buffer_after_block
  take-buffer_after_block = rw e (take-block_buffer buffer (block_bits s store n u (system_packets y) (enable_bits y)) n length-block_bits)

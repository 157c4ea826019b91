-- The bytes of a block: bits written from the first on, the spare bits of the last byte 0, fill bytes, and the bytes behind them keep their values.
use mathlib.Core.Path.{◌≡◌, sym, ap, ◌∙◌}
use Prim.Native.Nat.{ℕ, ◌+◌, ◌-◌, ◌*◌, ◌/◌, ◌≤◌}
use native.Mathlib.Nat.{zero-add}
use native.Mathlib.Omega.{arith}
use mathlib.Core.Bool.{Bool, true, false}
use mathlib.Core.List.{List, ◌++◌}
use lib.ListN.{length, drop, replicate, length-append, length-replicate}
use lib.Seq.{sets}
use Rattle.bits.specs.Bits.{bits_of, fill_bytes, bytes_of, Bytes}
use Rattle.bits.proofs.Lists.{sets_append, sets_front}
use Rattle.bits.proofs.Bits.{length-bits_of, bits_of_append, drop-bits_of, bits_of-fill_bytes, Bytes-fill_bytes, Bytes_append, Bytes-drop, bits_of_injective}
use Rattle.hdlc.specs.Writing.{Written}
use Rattle.sender.specs.Blocks.{block_buffer}
use Rattle.sender.specs.BlockCalls.{Closed}

module _ (old : List ℕ) (bits : List Bool) (fits : length bits ≤ 8 * length old) where
  abbrev bytes : ℕ
  bytes = (length bits + 7) / 8

  abbrev spare : List Bool
  spare = replicate (8 * bytes - length bits) false

  length_spare : length (bits ++ spare) ≡ 8 * bytes
  length_spare = rw (length-append, length-replicate) (omega arith)

  -- the bits of the bytes that they fill and of those behind them
  bits_of-block_buffer : bits_of (block_buffer old bits) ≡ sets (sets (bits_of old) 0 bits) (length bits) spare
  unfolding block_buffer bytes_of
  bits_of-block_buffer =
      let within : length bits ≤ 8 * bytes = omega arith in
      let inside : length (bits ++ spare) ≤ length (bits_of old) = rw (length_spare, length-bits_of) (omega arith) in
      let at : 0 + length bits ≡ length bits = zero-add (length bits) in
      bits_of_append (fill_bytes bytes bits) (drop bytes old)
      ∙ ap (λ (l : List Bool). l ++ bits_of (drop bytes old)) (bits_of-fill_bytes bytes bits within)
      ∙ ap (λ (l : List Bool). (bits ++ spare) ++ l) (sym (ap (λ (k : ℕ). drop k (bits_of old)) length_spare ∙ drop-bits_of bytes old))
      ∙ sym (sets_front (bits_of old) (bits ++ spare) inside)
      ∙ sets_append (bits_of old) 0 bits spare
      ∙ ap (λ (k : ℕ). sets (sets (bits_of old) 0 bits) k spare) at

  Bytes-block_buffer : Bytes old → Bytes (block_buffer old bits)
  unfolding block_buffer bytes_of
  Bytes-block_buffer h = Bytes_append (fill_bytes bytes bits) (drop bytes old) (Bytes-fill_bytes bytes bits) (Bytes-drop bytes old h)

  -- so a buffer with these bits is the block's
  block_buffer_bits : (new : List ℕ) → Bytes old → Bytes new
      → bits_of new ≡ sets (sets (bits_of old) 0 bits) (length bits) spare → new ≡ block_buffer old bits
  block_buffer_bits new ho hn e = bits_of_injective new (block_buffer old bits) hn (Bytes-block_buffer ho) (e ∙ sym bits_of-block_buffer)

-- bits written from the first on, and closed as a block of n bits
module _ (old : List ℕ) (bits : List Bool) (n : ℕ) (short : length bits ≤ n) (fits : n ≤ 8 * length old) where
  abbrev all : List Bool
  all = bits ++ replicate (n - length bits) true

  length_all : length all ≡ n
  length_all = rw (length-append, length-replicate) (omega arith)

  module _ {mid new : List ℕ} {at : ℕ} (w : Written old 0 bits mid at) (c : Closed mid at n new) where
    with_ones : sets (bits_of mid) at (replicate (n - at) true) ≡ sets (bits_of old) 0 all
    with_ones = cc (w.buffer, w.behind, zero-add (length bits), sets_append (bits_of old) 0 bits (replicate (n - length bits) true))

    pub Closed-block_buffer : Bytes old → Bytes new → new ≡ block_buffer old all
    Closed-block_buffer ho hn =
        let within : length all ≤ 8 * length old = rw length_all fits in
        block_buffer_bits old all within new ho hn
        (rw length_all (c.bits ∙ ap (λ (l : List Bool). sets l n (replicate (8 * ((n + 7) / 8) - n) false)) with_ones))

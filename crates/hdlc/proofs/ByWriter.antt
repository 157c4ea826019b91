-- Bits put through a bit writer, one piece behind another. A loop keeps that the buffer's bits, with those that the writer holds, are the old ones with all
-- stuffed bits put so far.
use Prim.Native.Nat.{ℕ, ◌+◌, ◌-◌, ◌*◌, ◌/◌, ◌%◌, ◌^◌, ◌≤◌, ◌<◌}
use native.Mathlib.Nat.{add-zero}
use native.Mathlib.Numerals.{add-one}
use native.Mathlib.Omega.{arith}
use mathlib.Core.Bool.{Bool}
use mathlib.Core.List.{List, [], ◌∷◌, ◌++◌, append-nil, append_assoc}
use mathlib.Core.Path.{◌≡◌, refl, sym, ap, ◌∙◌}
use lib.ListN.{length, take, drop, get_or, length-append, take-append-drop}
use lib.Seq.{sets, take-suc, take_all}
use Rattle.bits.specs.Bits.{low_bits, byte_bits, bits_of}
use Rattle.bits.specs.Writer.{PartHeld, next_bit, with_held}
use Rattle.bits.specs.declared.writer.BitWriter.{BitWriter}
use Rattle.bits.proofs.Bits.{length-low_bits, bits_of_append}
use Rattle.bits.proofs.Lists.{sets_append}
use Rattle.fcs.specs.Fcs.{fcs_run}
use Rattle.fcs.proofs.Laws.{fcs_run_append}
use Rattle.hdlc.specs.Stuffing.{stuff_from, free_after}
use Rattle.hdlc.specs.Writing.{Room, Written, Stuffed, stuffed_by}
use Rattle.hdlc.specs.Chunks.{StuffedByte, WriterRoom, WriterPut}
use Rattle.hdlc.specs.declared.Pen.{Pen}
use Rattle.hdlc.specs.declared.chunks.Chunk.{Chunk}
use Rattle.hdlc.proofs.Stuffing.{stuff_from_append, free_after_append, stuff_from-least}
use Rattle.hdlc.proofs.Writing.{Put-Stuffed}

-- the bits of a number put
pub WriterPut_number : {old new : List ℕ} {bits : List Bool} {w v : BitWriter} (n value : ℕ) → low_bits n value ≡ bits →
    PartHeld v × (next_bit v ≡ next_bit w + n) × (with_held new v ≡ sets (with_held old w) (next_bit w) (low_bits n value)) → WriterPut old w bits new v
WriterPut_number {w = w} n value e p =
    record {
      held = p.0;
      behind = rw (← e, length-low_bits n value) p.1;
      buffer = p.2 ∙ rw e;
    }

-- pieces put one behind another
WriterPut_nil : {l : List ℕ} {w : BitWriter} → PartHeld w → WriterPut l w [] l w
WriterPut_nil {w = w} h = record { held = h; behind = sym (add-zero (next_bit w)); buffer = refl }

pub WriterPut_append : {old mid new : List ℕ} {w v u : BitWriter} (a b : List Bool) → WriterPut old w a mid v → WriterPut mid v b new u → WriterPut old w (a ++ b) new u
WriterPut_append {old} {w = w} a b p q =
    record {
      held = q.held;
      behind = omega (arith, p.behind, q.behind, length-append a b);
      buffer = cc (p.buffer, p.behind, q.buffer, sets_append (with_held old w) (next_bit w) a b);
    }

pub WriterRoom_first : {l : List ℕ} {w : BitWriter} (a b : List Bool) → WriterRoom l w (a ++ b) → WriterRoom l w a
WriterRoom_first a b r = record { held = r.held; within = omega (arith, r.within, length-append a b) }

pub WriterRoom_next : {l m : List ℕ} {w v : BitWriter} (a b : List Bool) → WriterRoom l w (a ++ b) → WriterPut l w a m v → length m ≡ length l → WriterRoom m v b
WriterRoom_next a b r p e = record { held = p.held; within = omega (arith, r.within, p.behind, length-append a b) }

-- the same for pieces that are stuffed
module _ (a b : List Bool) (free : ℕ) {l : List ℕ} {w : BitWriter} where
  pub stuffed_first : WriterRoom l w (stuff_from (a ++ b) free) → WriterRoom l w (stuff_from a free)
  stuffed_first r = WriterRoom_first (stuff_from a free) (stuff_from b (free_after a free)) (rw stuff_from_append at r)

  module _ {m : List ℕ} {v : BitWriter} {free' : ℕ} (p : WriterPut l w (stuff_from a free) m v) (f : free' ≡ free_after a free) where
    pub stuffed_next : WriterRoom l w (stuff_from (a ++ b) free) → length m ≡ length l → WriterRoom m v (stuff_from b free')
    stuffed_next r e = rw f (WriterRoom_next (stuff_from a free) (stuff_from b (free_after a free)) (rw stuff_from_append at r) p e)

    pub stuffed_append : {new : List ℕ} {u : BitWriter} → WriterPut m v (stuff_from b free') new u → WriterPut l w (stuff_from (a ++ b) free) new u
    stuffed_append q = rw stuff_from_append (WriterPut_append (stuff_from a free) (stuff_from b (free_after a free)) p (rw f at q))

-- with a writer of its own
module _ {old : List ℕ} {at : ℕ} {w : BitWriter} (o : PartHeld w × (next_bit w ≡ at) × (with_held old w ≡ bits_of old)) {bits : List Bool} where
  pub WriterRoom-new : Room old at bits → WriterRoom old w bits
  WriterRoom-new r = record { held = o.0; within = omega (arith, o.1, r.within) }

  module _ {new : List ℕ} {v : BitWriter} (p : WriterPut old w bits new v) where
    pub Room-close : Room old at bits → length new ≡ length old → PartHeld v × (next_bit v ≤ 8 * length new) × (next_bit v < 2 ^ 64)
    Room-close r e = (p.held, omega (arith, o.1, p.behind, r.within), omega (arith, o.1, p.behind, r.small))

    pub Written-close : {last : List ℕ} {end : ℕ} → (end ≡ next_bit v) × (bits_of last ≡ with_held new v) → Written old at bits last end
    Written-close q =
        record { buffer = cc (o.1, o.2, p.buffer, q.1); behind = omega (arith, o.1, p.behind, q.0) }

-- a byte's chunk
pub chunk_length : {free byte : ℕ} {chunk : Chunk} → StuffedByte free byte chunk → length (stuff_from (byte_bits byte) free) ≡ chunk.len
chunk_length {chunk = chunk} c = ap length (sym c.bits) ∙ length-low_bits chunk.len chunk.value

-- where there is room for eight bits, stuffed, the next bit is one of the buffer's
pub Room-new : {old : List ℕ} (pen : Pen) (bits : List Bool) → Room old pen.at (stuffed_by pen bits) → 8 ≤ length bits → pen.at < 8 * length old
unfolding stuffed_by
Room-new pen bits r h = omega (arith, r.within, stuff_from-least bits pen.free)

-- bits stuffed and written at the pen leave the pen behind them
pub Stuffed_written : {old new : List ℕ} {at free fcs : ℕ} (pen : Pen) (bits : List Bool) → Written old pen.at (stuff_from bits pen.free) new at →
    free ≡ free_after bits pen.free → fcs ≡ fcs_run pen.fcs bits → Stuffed old pen bits new (record { at = at; free = free; fcs = fcs })
unfolding stuffed_by
Stuffed_written {at = at} {free = free} {fcs = fcs} pen bits w f r =
    Put-Stuffed {next = record { at = at; free = free; fcs = fcs }} bits (record { written = w; free = f }) r

-- the first bytes of a list, with the rest behind them, and with one or two more
with_rest : (bytes : List ℕ) (i : ℕ) → bits_of bytes ≡ bits_of (take i bytes) ++ bits_of (drop i bytes)
with_rest bytes i = ap bits_of (sym (take-append-drop i bytes)) ∙ bits_of_append (take i bytes) (drop i bytes)

pub one_byte_more : (bytes : List ℕ) (i : ℕ) → i < length bytes → bits_of (take (i + 1) bytes) ≡ bits_of (take i bytes) ++ byte_bits (get_or bytes i 0)
unfolding bits_of
one_byte_more bytes i h = rw (add-one, take-suc bytes i 0 h) (bits_of_append (take i bytes) (get_or bytes i 0 ∷ []) ∙ rw append-nil)

two_bytes_more : (bytes : List ℕ) (i : ℕ) → i + 2 ≤ length bytes
    → bits_of (take (i + 2) bytes) ≡ bits_of (take i bytes) ++ (byte_bits (get_or bytes i 0) ++ byte_bits (get_or bytes (i + 1) 0))
two_bytes_more bytes i h =
    let a : i + 2 ≡ i + 1 + 1 = omega arith in
    ap (λ (n : ℕ). bits_of (take n bytes)) a ∙ one_byte_more bytes (i + 1) (omega arith)
    ∙ ap (λ (l : List Bool). l ++ byte_bits (get_or bytes (i + 1) 0)) (one_byte_more bytes i (omega arith))
    ∙ append_assoc (bits_of (take i bytes)) (byte_bits (get_or bytes i 0)) (byte_bits (get_or bytes (i + 1) 0))

-- bytes in pairs: one pair more, and the byte behind the pairs, or none
module _ (bytes : List ℕ) (i : ℕ) where
  pub pair_more : i < length bytes / 2
      → bits_of (take (2 * (i + 1)) bytes) ≡ bits_of (take (2 * i) bytes) ++ (byte_bits (get_or bytes (2 * i) 0) ++ byte_bits (get_or bytes (2 * i + 1) 0))
  pair_more h =
      let next : 2 * (i + 1) ≡ 2 * i + 2 = omega arith in
      rw next (two_bytes_more bytes (2 * i) (omega arith))

  pub last_more : length bytes % 2 ≡ 1 → i ≡ length bytes / 2 → bits_of bytes ≡ bits_of (take (2 * i) bytes) ++ byte_bits (get_or bytes (length bytes - 1) 0)
  last_more h s =
      let place : length bytes - 1 ≡ 2 * i = omega arith in
      rw place (ap bits_of (sym (take_all (2 * i + 1) bytes (omega arith))) ∙ one_byte_more bytes (2 * i) (omega arith))

  pub none_more : length bytes % 2 ≡ 0 → i ≡ length bytes / 2 → bits_of bytes ≡ bits_of (take (2 * i) bytes)
  none_more h s = ap bits_of (sym (take_all (2 * i) bytes (omega arith)))

-- what is put of bits, stuffed: all those done
pub record Underway (old : List ℕ) (start : BitWriter) (first preset : ℕ) (done : List Bool) (buffer : List ℕ) (w : BitWriter) (free fcs : ℕ) : Type 0 where
  pub long : length buffer ≡ length old
  pub put : WriterPut old start (stuff_from done first) buffer w
  pub ones : free ≡ free_after done first
  pub register : fcs ≡ fcs_run preset done

pub Underway_start : {old : List ℕ} {w : BitWriter} (free fcs : ℕ) → PartHeld w → Underway old w free fcs [] old w free fcs
unfolding stuff_from free_after fcs_run
Underway_start free fcs o = record { long = refl; put = WriterPut_nil o; ones = refl; register = refl }

module _ {old : List ℕ} {start : BitWriter} {first preset : ℕ} {done : List Bool} {buffer : List ℕ} {w : BitWriter} {free fcs : ℕ}
    (u : Underway old start first preset done buffer w free fcs) where
  -- more bits, up to byte j
  pub Underway_room : (bytes : List ℕ) (j : ℕ) (a : List Bool) → bits_of (take j bytes) ≡ done ++ a →
      WriterRoom old start (stuff_from (bits_of bytes) first) → WriterRoom buffer w (stuff_from a free)
  Underway_room bytes j a e r =
      let upto = stuffed_first (bits_of (take j bytes)) (bits_of (drop j bytes)) first (rw (with_rest bytes j) at r) in
      stuffed_next done a first u.put u.ones (rw e at upto) u.long

  -- the same, under other names
  pub Underway_same : {buffer' : List ℕ} {w' : BitWriter} {free' fcs' : ℕ} {done' : List Bool} → done' ≡ done → buffer' ≡ buffer → free' ≡ free → fcs' ≡ fcs → w' ≡ w →
      Underway old start first preset done' buffer' w' free' fcs'
  Underway_same ed eb ef er ew = rw (ed, eb, ef, er, ew) u

  pub Underway-step : {more : List Bool} {next : List ℕ} {v : BitWriter} {free' fcs' : ℕ} (a : List Bool) → more ≡ done ++ a →
      WriterPut buffer w (stuff_from a free) next v → length next ≡ length buffer → free' ≡ free_after a free → fcs' ≡ fcs_run fcs a →
      Underway old start first preset more next v free' fcs'
  Underway-step a e p l f r =
      record {
        long = l ∙ u.long;
        put = rw e (stuffed_append done a first u.put u.ones p);
        ones = rw e (f ∙ ap (free_after a) u.ones ∙ sym (free_after_append done a first));
        register = rw e (r ∙ ap (λ (n : ℕ). fcs_run n a) u.register ∙ sym (fcs_run_append preset done a));
      }

-- The header in a message's first packet: its cases and bounds, and the message bytes in a later packet.
use Prim.Native.Nat.{ℕ, ◌+◌, ◌*◌, ◌%◌, ◌≤◌, ◌<◌}
use native.Mathlib.Omega.{arith}
use mathlib.Core.Bool.{Bool, true, false, cond, not, ◌&&◌, ◌||◌}
use mathlib.Core.List.{List}
use mathlib.Core.Path.{◌≡◌, refl}
use borrow.Author.Tests.{eq-eqb, ne_eqb, le-ltb, ltb-false, not-false}
use lib.Dec.{ltb, eqb}
use lib.ListN.{length, get_or}
use lib.Seq.{get_or-drop}
use Rattle.bits.proofs.Tests.{or_left, or_right}
use Rattle.packet.specs.Messages.{long_header}
use Rattle.parsing.specs.Packets.{link, lead, segment_in}
use Rattle.parsing.specs.Headers.{two_bytes, header_length, message_length, wrong_header, message_part}

-- ---- a first segment's header

module _ (s : List ℕ) where
  pub header_length_two : two_bytes s ≡ true → 2 ≡ header_length s
  unfolding header_length
  header_length_two e = rw e

  pub header_length_one : two_bytes s ≡ false → 1 ≡ header_length s
  unfolding header_length
  header_length_one e = rw e

  pub message_length_one : two_bytes s ≡ false → get_or s 0 0 % 16 ≡ message_length s
  unfolding message_length
  message_length_one e = rw e

  pub message_length_two : two_bytes s ≡ true → 256 * (get_or s 0 0 % 16) + get_or s 1 0 ≡ message_length s
  unfolding message_length
  message_length_two e = rw e

  -- it is at most 4,095
  pub message_length-most : get_or s 1 0 < 256 → message_length s ≤ long_header
  unfolding message_length
  message_length-most second = go (two_bytes s)
    where
      go : (t : Bool) → cond t (256 * (get_or s 0 0 % 16) + get_or s 1 0) (get_or s 0 0 % 16) ≤ long_header
      go true = omega (arith, second)
      go false = omega arith

  -- it is wrong, test by test
  module _ (taken : Bool) where
    pub wrong_header_one : two_bytes s ≡ false → false ≡ wrong_header taken s
    unfolding wrong_header
    wrong_header_one e = rw e

    module _ (n : ℕ) (is : n ≡ message_length s) (e : two_bytes s ≡ true) (h : 2 ≤ length s) where
      pub wrong_header_short : 16 ≤ n → (n ≡ long_header → ⊥) → false ≡ wrong_header taken s
      unfolding wrong_header
      wrong_header_short above other = rw (e, le-ltb (length s) 2 h, ← is, le-ltb n 16 above, ne_eqb n long_header other)

      pub wrong_header_long : n ≡ long_header → not taken ≡ wrong_header taken s
      unfolding wrong_header
      wrong_header_long long = rw (e, le-ltb (length s) 2 h, ← is, long)

  -- one that is not wrong lies within the segment, and holds that of a long message only where it is taken
  module _ (taken : Bool) (right : wrong_header taken s ≡ false) where
    right_two : two_bytes s ≡ true → (ltb (length s) 2 || ltb (message_length s) 16 || (eqb (message_length s) long_header && not taken)) ≡ false
    unfolding wrong_header
    right_two e = rw e at right

    pub header_length_le : 1 ≤ length s → header_length s ≤ length s
    header_length_le some = go (two_bytes s) refl
      where
        go : (t : Bool) → two_bytes s ≡ t → header_length s ≤ length s
        go true e =
            let long = ltb-false (length s) 2 (or_left (ltb (length s) 2) _ (or_left (ltb (length s) 2 || ltb (message_length s) 16) _ (right_two e))) in
            omega (arith, long, header_length_two e)
        go false e = omega (arith, some, header_length_one e)

    pub right_taken : message_length s ≡ long_header → taken ≡ true
    right_taken long = go (two_bytes s) refl
      where
        go : (t : Bool) → two_bytes s ≡ t → taken ≡ true
        go true e =
            let last = or_right (ltb (length s) 2 || ltb (message_length s) 16) _ (right_two e) in
            not-false taken (rw (eq-eqb (message_length s) long_header long) at last)
        go false e = absurd (omega (arith, long, message_length_one e))

-- ---- the message bytes in a packet, with s for its segment and k for its link

pub message_part_later : (p s : List ℕ) (k : ℕ) → s ≡ segment_in p → k ≡ link p → (k ≡ 2 → ⊥) → s ≡ message_part p
unfolding message_part
message_part_later p s k segment-is link-is e = rw (← link-is, ne_eqb k 2 e) segment-is

-- the second byte of a segment
pub segment_second : (s p : List ℕ) → s ≡ segment_in p → ((i : ℕ) → get_or p i 0 < 256) → get_or s 1 0 < 256
unfolding segment_in
segment_second s p e known = rw (e, get_or-drop (lead p) p 1 0) (known (lead p + 1))

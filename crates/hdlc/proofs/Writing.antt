-- Writing piece by piece: pieces written one after another are written as one, and room for all is room for each. So a loop
-- that writes keeps that to write what is left from here is to write all from the start.
use Prim.Native.Nat.{ℕ, suc, ◌+◌, ◌-◌, ◌/◌, ◌^◌, ◌≤◌, ◌<◌}
use native.Mathlib.Nat.{add-zero}
use native.Mathlib.Numerals.{add-one}
use native.Mathlib.Omega.{arith}
use mathlib.Core.Bool.{Bool}
use mathlib.Core.List.{List, [], ◌∷◌, ◌++◌}
use mathlib.Core.Path.{◌≡◌, refl, ap, ◌∙◌}
use lib.ListN.{length, get_or, drop, length-append, drop_of_length-le}
use lib.Pow.{shr-shr}
use lib.Seq.{drop-cons}
use Rattle.bits.specs.Bits.{odd, low_bits, byte_bits, bits_of}
use Rattle.bits.proofs.Lists.{sets_append}
use Rattle.fcs.specs.Fcs.{fcs_run}
use Rattle.hdlc.specs.Stuffing.{stuff_from, free_after}
use Rattle.hdlc.specs.Writing.{Room, Written, Put, Stuffed, stuffed_by, pen_after}
use Rattle.hdlc.specs.declared.Pen.{Pen}
use Rattle.hdlc.proofs.Stuffing.{stuff_from_append, free_after_append}

-- two pieces written in turn are written as one
pub Written_append : {old mid new : List ℕ} {at between end : ℕ} (a b : List Bool) →
    Written old at a mid between → Written mid between b new end → Written old at (a ++ b) new end
Written_append {old} {mid} {new} {at} {between} {end} a b v w =
    record {
      buffer = cc (v.buffer, v.behind, w.buffer, sets_append (bits_of old) at a b);
      behind = omega (arith, length-append a b, v.behind, w.behind);
    }

-- the same for pieces that are stuffed
stuffed_by_append : (pen next : Pen) (a b : List Bool) →
    next.free ≡ free_after a pen.free → stuffed_by pen (a ++ b) ≡ stuffed_by pen a ++ stuffed_by next b
unfolding stuffed_by
stuffed_by_append pen next a b e = rw e (stuff_from_append a b pen.free)

pub Put_nil : (buffer : List ℕ) (pen : Pen) → Put buffer pen [] buffer pen
unfolding stuffed_by stuff_from free_after
Put_nil buffer pen = record { written = record { buffer = refl; behind = rw add-zero }; free = refl }

pub Put_append : {old mid new : List ℕ} {pen between next : Pen} (a b : List Bool) →
    Put old pen a mid between → Put mid between b new next → Put old pen (a ++ b) new next
Put_append {pen = pen} {between = between} a b s t =
    record {
      written =
          rw (stuffed_by_append pen between a b s.free)
          (Written_append (stuffed_by pen a) (stuffed_by between b) s.written t.written);
      free = cc (s.free, t.free, free_after_append a b pen.free);
    }

-- what is written, stuffed, with and without the FCS register
pub Put-Stuffed : {old new : List ℕ} {pen next : Pen} {fcs : ℕ} (bits : List Bool) →
    Put old pen bits new next → fcs ≡ fcs_run pen.fcs bits →
    Stuffed old pen bits new (record { at = next.at; free = next.free; fcs = fcs })
unfolding pen_after
Put-Stuffed bits s e =
    record {
      buffer = s.written.buffer;
      behind = λ i. record { at = s.written.behind i; free = s.free i; fcs = e i };
    }

pub Stuffed-Put : {old new : List ℕ} {pen next : Pen} (bits : List Bool) →
    Stuffed old pen bits new next → Put old pen bits new next
unfolding pen_after
Stuffed-Put bits s =
    record {
      written = record { buffer = s.buffer; behind = ap (λ (p : Pen). p.at) s.behind };
      free = ap (λ (p : Pen). p.free) s.behind;
    }

pub Stuffed-fcs : {old new : List ℕ} {pen next : Pen} (bits : List Bool) →
    Stuffed old pen bits new next → next.fcs ≡ fcs_run pen.fcs bits
unfolding pen_after
Stuffed-fcs bits s = ap (λ (p : Pen). p.fcs) s.behind

-- room for two pieces is room for the first, and behind it for the second
pub Room_front : {l : List ℕ} {at : ℕ} (a b : List Bool) → Room l at (a ++ b) → Room l at a
Room_front a b r = omega (arith, length-append a b, r.within, r.small)

pub Room_back : {l l' : List ℕ} {at at' : ℕ} (a b : List Bool) →
    length l' ≡ length l → at' ≡ at + length a → Room l at (a ++ b) → Room l' at' b
Room_back a b e f r = omega (arith, length-append a b, r.within, r.small)

-- the same for pieces that are stuffed
pub Room_first : {l : List ℕ} (pen : Pen) (a b : List Bool) →
    Room l pen.at (stuffed_by pen (a ++ b)) → Room l pen.at (stuffed_by pen a)
unfolding stuffed_by
Room_first pen a b r =
    Room_front (stuffed_by pen a) (stuff_from b (free_after a pen.free)) (rw stuff_from_append at r)

pub Room_next : {old mid : List ℕ} {pen next : Pen} (a b : List Bool) →
    Put old pen a mid next → length mid ≡ length old → Room old pen.at (stuffed_by pen (a ++ b)) →
    Room mid next.at (stuffed_by next b)
Room_next {pen = pen} {next = next} a b s e r =
    Room_back (stuffed_by pen a) (stuffed_by next b) e s.written.behind (rw (stuffed_by_append pen next a b s.free) at r)

-- what a loop that writes keeps: there is room for what is left, and to write it from here is to write all from the start
pub record ToGo (old : List ℕ) (pen : Pen) (all : List Bool) (buffer : List ℕ) (here : Pen) (left : List Bool) : Type 0 where
  pub long : length buffer ≡ length old
  pub room : Room buffer here.at (stuffed_by here left)
  pub rest : (new : List ℕ) (next : Pen) → Put buffer here left new next → Put old pen all new next

pub ToGo_start : {old : List ℕ} {pen : Pen} {all : List Bool} →
    Room old pen.at (stuffed_by pen all) → ToGo old pen all old pen all
ToGo_start r = record { long = refl; room = r; rest = λ new next p. p }

module _ {old buffer : List ℕ} {pen here : Pen} {all left : List Bool} (g : ToGo old pen all buffer here left) where
  pub ToGo_room : (a b : List Bool) → left ≡ a ++ b → Room buffer here.at (stuffed_by here a)
  ToGo_room a b e = Room_first here a b (rw e at g.room)

  pub ToGo-step : {more : List ℕ} {next : Pen} (a b : List Bool) → left ≡ a ++ b →
      Put buffer here a more next → length more ≡ length buffer → ToGo old pen all more next b
  ToGo-step a b e p l =
      record {
        long = l ∙ g.long;
        room = Room_next a b p l (rw e at g.room);
        rest = λ new last q. g.rest new last (rw e (Put_append a b p q));
      }

  pub ToGo_end : left ≡ [] → Put old pen all buffer here
  ToGo_end e = g.rest buffer here (rw e (Put_nil buffer here))

-- what is left of a number's w lowest bits, and of bytes, one step on and at the end
pub low_bits-step : (w k n : ℕ) → k < w → low_bits (w - k) (n / 2 ^ k) ≡ odd (n / 2 ^ k) ∷ low_bits (w - (k + 1)) (n / 2 ^ (k + 1))
unfolding low_bits
low_bits-step w k n h =
    let e : w - k ≡ suc (w - (k + 1)) = omega arith in
    let half : n / 2 ^ k / 2 ≡ n / 2 ^ (k + 1) = shr-shr n k 1 in
    rw (e, half)

pub low_bits-none : (w k n : ℕ) → w ≤ k → low_bits (w - k) n ≡ []
unfolding low_bits
low_bits-none w k n h =
    let e : w - k ≡ 0 = omega arith in
    rw e

pub bits_of-step : (l : List ℕ) (i : ℕ) → i < length l →
    bits_of (drop i l) ≡ byte_bits (get_or l i 0) ++ bits_of (drop (i + 1) l)
unfolding bits_of
bits_of-step l i h = rw (drop-cons l i 0, add-one)

pub bits_of-none : (l : List ℕ) (i : ℕ) → length l ≤ i → bits_of (drop i l) ≡ []
unfolding bits_of
bits_of-none l i h = rw (drop_of_length-le l h)

-- The pen behind bits that are written piece by piece is the pen behind all of them.
use Prim.Native.Nat.{ℕ, ◌+◌}
use native.Mathlib.Nat.{add-zero}
use native.Mathlib.Omega.{arith}
use mathlib.Core.Bool.{Bool}
use mathlib.Core.List.{List, [], ◌++◌}
use mathlib.Core.Path.{◌≡◌}
use lib.ListN.{length, length-append}
use Rattle.fcs.specs.Fcs.{fcs_run}
use Rattle.fcs.proofs.Laws.{fcs_run_append}
use Rattle.hdlc.specs.Stuffing.{stuff_from, free_after}
use Rattle.hdlc.specs.Writing.{Stuffed, stuffed_by, pen_after}
use Rattle.hdlc.specs.declared.Pen.{Pen}
use Rattle.hdlc.proofs.Stuffing.{stuff_from_append, free_after_append}
use Rattle.hdlc.proofs.Writing.{Put_append, Stuffed-Put}

-- the bit behind two pieces
at_append : (pen : Pen) (a b : List Bool) →
    pen.at + length (stuff_from (a ++ b) pen.free) ≡
    pen.at + length (stuff_from a pen.free) + length (stuff_from b (free_after a pen.free))
at_append pen a b = rw (stuff_from_append, length-append) (omega arith)

-- two pieces in turn are written as one
pen_after_append : (pen : Pen) (a b : List Bool) → pen_after pen (a ++ b) ≡ pen_after (pen_after pen a) b
unfolding pen_after stuffed_by
pen_after_append pen a b =
    λ i.
    record {
      at = at_append pen a b i;
      free = free_after_append a b pen.free i;
      fcs = fcs_run_append pen.fcs a b i;
    }

pub Stuffed_append : {old mid new : List ℕ} {pen between next : Pen} (a b : List Bool) →
    Stuffed old pen a mid between → Stuffed mid between b new next → Stuffed old pen (a ++ b) new next
Stuffed_append {pen = pen} a b s t =
    record {
      buffer = (Put_append a b (Stuffed-Put a s) (Stuffed-Put b t)).written.buffer;
      behind = cc (s.behind, t.behind, pen_after_append pen a b);
    }

-- no bits leave the pen where it is
pub pen_after_nil : (pen : Pen) → pen_after pen [] ≡ pen
unfolding pen_after stuffed_by stuff_from free_after fcs_run
pen_after_nil pen = λ i. record { at = add-zero pen.at i; free = pen.free; fcs = pen.fcs }

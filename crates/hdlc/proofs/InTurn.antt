-- Bytes written in turn: what a straight sequence of calls keeps. `Going` holds from the start, and each piece takes it on.
use Prim.Native.Nat.{ℕ}
use mathlib.Core.Bool.{Bool}
use mathlib.Core.List.{List, [], ◌++◌}
use mathlib.Core.Path.{◌≡◌, refl, sym, ◌∙◌}
use lib.ListN.{length}
use Rattle.bits.specs.Bits.{bits_of}
use Rattle.hdlc.specs.Writing.{Room, Stuffed, stuffed_by}
use Rattle.hdlc.specs.declared.Pen.{Pen}
use Rattle.hdlc.proofs.Writing.{Stuffed-Put, Put_nil, Room_first, Room_next}
use Rattle.hdlc.proofs.PenAfter.{Stuffed_append, pen_after_nil}

-- there is room for the bytes that are left, and to write them from here is to write all from the start
pub record Going (old : List ℕ) (pen : Pen) (all : List ℕ) (buffer : List ℕ) (here : Pen) (left : List ℕ) : Type 0 where
  pub long : length buffer ≡ length old
  pub room : Room buffer here.at (stuffed_by here (bits_of left))
  pub rest : (new : List ℕ) (next : Pen) → Stuffed buffer here (bits_of left) new next → Stuffed old pen (bits_of all) new next

pub Going_start : {old : List ℕ} {pen : Pen} {all : List ℕ} → Room old pen.at (stuffed_by pen (bits_of all))
    → Going old pen all old pen all
Going_start r = record { long = refl; room = r; rest = λ new next s. s }

pub Stuffed_nil : (buffer : List ℕ) (pen : Pen) → Stuffed buffer pen [] buffer pen
Stuffed_nil buffer pen = record { buffer = (Put_nil buffer pen).written.buffer; behind = sym (pen_after_nil pen) }

module _ {old buffer : List ℕ} {pen here : Pen} {all left : List ℕ} (g : Going old pen all buffer here left) where
  -- the first piece of what is left
  pub Going_room : (a : List Bool) (bs : List ℕ) → bits_of left ≡ a ++ bits_of bs → Room buffer here.at (stuffed_by here a)
  Going_room a bs e = Room_first here a (bits_of bs) (rw e at g.room)

  pub Going-step : {more : List ℕ} {next : Pen} (a : List Bool) (bs : List ℕ) → bits_of left ≡ a ++ bits_of bs
      → Stuffed buffer here a more next → length more ≡ length buffer → Going old pen all more next bs
  Going-step a bs e s l =
      record {
        long = l ∙ g.long;
        room = Room_next a (bits_of bs) (Stuffed-Put a s) l (rw e at g.room);
        rest = λ new last t. g.rest new last (rw e (Stuffed_append a (bits_of bs) s t));
      }

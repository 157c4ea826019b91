-- What the machine closes in bits, and what the declared bodies of the same bits say: the two sides of the theorem
-- `framing_finds_bodies`. A closing tells after how many bits a body is closed, its unstuffed bits if they are at most 168,
-- whether it ends in five ones, and what it gives.
use Rattle.std.specs.Prelude.{ℕ, suc, ◌+◌, Bool, cond, List, [], ◌∷◌, length, take, leb, eqb}
use Rattle.std.proofs.Math.Option.{Option, none, some}
use Rattle.bits.specs.Bits.{bits_of}
use Rattle.hdlc.specs.Stuffing.{unstuff, end_ones}
use Rattle.hdlc.specs.Bodies.{Body, Judged, passes, spoilt, nothing, void, judge}
use Rattle.framing.specs.declared.Framing.{Framing}
use Rattle.framing.specs.declared.Check.{Check}
use Rattle.framing.specs.declared.Check.TheVariants.{Packet, Spoilt, Nothing}
use Rattle.framing.specs.Machine.{step, closes, check}

pub record Closing : Type 0 where
  pub read : ℕ
  pub bits : Option (List Bool)
  pub five : Bool
  pub gives : Judged

-- the bits, if they are at most 168: 21 bytes
unfoldable pub at_most168 : List Bool → Option (List Bool)
at_most168 bs = cond (leb (length bs) 168) (some bs) none

-- ---- of the declared bodies

unfoldable pub closing_of : Body → Closing
closing_of b =
    record {
      read = b.closing + 8;
      bits = at_most168 (unstuff b.bits);
      five = leb 5 (end_ones b.bits 0);
      gives = judge b.bits;
    }

-- the bodies that are not void
unfoldable pub not_void : List Body → List Body
not_void [] = []
not_void (b ∷ bs) = cond (void b.bits) (not_void bs) (b ∷ not_void bs)

-- what bodies give, without those that give nothing
unfoldable pub not_nothing : List Judged → List Judged
not_nothing [] = []
not_nothing (passes p ∷ js) = passes p ∷ not_nothing js
not_nothing (spoilt ∷ js) = spoilt ∷ not_nothing js
not_nothing (nothing ∷ js) = not_nothing js

-- ---- of the machine

-- what an answer of the body check gives, with the framing's bytes beside it
unfoldable pub given_by : Check → List ℕ → Judged
given_by (Packet n) bytes = passes (take n bytes)
given_by Spoilt bytes = spoilt
given_by Nothing bytes = nothing

-- the body that is closed in the framing f, after so many bits
unfoldable pub closed : Framing → ℕ → Closing
closed f read =
    record {
      read = read;
      bits = cond (leb f.count 168) (some (take f.count (bits_of f.bits))) none;
      five = eqb f.phase 4;
      gives = given_by (check f) f.bits;
    }

-- what is closed in bits, in order, from the framing f, which n bits have left
unfoldable pub closings : Framing → ℕ → List Bool → List Closing
closings f n [] = []
closings f n (b ∷ bs) =
    let later = closings (step f b) (suc n) bs in
    cond (closes f b) (closed f (suc n) ∷ later) later

-- Packets sent in copies of which the first are placed: a packet that comes is heard once or more, the others are not heard, and one of which no copy
-- is placed does not come.
use Prim.Native.Nat.{ℕ, zero, suc, ◌≤◌, ◌<◌}
use native.Mathlib.Omega.{arith}
use mathlib.Core.Bool.{Bool, true, false, cond, not, ◌&&◌, ◌||◌, or-false}
use mathlib.Core.List.{List, [], ◌∷◌, ◌++◌, map, cons≢nil, head-eq_of_cons-eq, tail-eq_of_cons-eq}
use mathlib.Core.Path.{◌≡◌, refl, ap, ◌∙◌}
use lib.ListN.{length, replicate}
use lib.Dec.{eqb}
use borrow.Author.Tests.{eq-eqb, ne_eqb}
use Rattle.packet.specs.Lists.{any_of, those}
use Rattle.queues.specs.Queues.{Copy}
use Rattle.queues.specs.Sent.{each_once, Sent, copies_of, Numbered}
use Rattle.queues.proofs.LeftCounts.{others_alike}
use Rattle.link.proofs.Steps.{ThinnedBy, Thinned, came_of}

-- a copy placed, and whether its frame came whole
pub record Arrival : Type 0 where
  pub copy : Copy
  pub whole : Bool

abbrev pub copies_in : List Arrival → List Copy
copies_in l = map (λ (a : Arrival). a.copy) l

-- packet number i comes, and the packets that are heard
unfoldable pub comes_in : List Arrival → ℕ → Bool
comes_in [] i = false
comes_in (a ∷ l) i = eqb a.copy.number i && a.whole || comes_in l i

unfoldable pub heard_in : List Arrival → List (List ℕ)
heard_in [] = []
heard_in (a ∷ l) = cond a.whole (a.copy.packet ∷ []) [] ++ heard_in l

-- ---- the copies of one packet

-- copies of one packet, and whether each came whole
abbrev each : Copy → List Bool → List Arrival
each o bs = map (λ (b : Bool). record { copy = o; whole = b }) bs

-- what is placed of a packet's copies and later ones: copies of this packet, and then what is placed of the later ones
record Split (o : Copy) (l : List Arrival) (later : List Copy) : Type 0 where
  wholes : List Bool
  rest : List Arrival
  waits : List Copy
  parts : l ≡ each o wholes ++ rest
  behind : copies_in rest ++ waits ≡ later

cons_eq : (o : Copy) (a : Arrival) (l m : List Arrival) → a.copy ≡ o → l ≡ m → a ∷ l ≡ record { copy = o; whole = a.whole } ∷ m
cons_eq o a l m e f = rw (← e, f)

split : (m : ℕ) (o : Copy) (l : List Arrival) (waiting later : List Copy) → copies_in l ++ waiting ≡ replicate m o ++ later → Split o l later
split zero o l waiting later e = record { wholes = []; rest = l; waits = waiting; parts = refl; behind = e }
split (suc m) o [] waiting later e = record { wholes = []; rest = []; waits = later; parts = refl; behind = refl }
split (suc m) o (a ∷ l) waiting later e =
    let s = split m o l waiting later (tail-eq_of_cons-eq e) in
    record {
      wholes = a.whole ∷ s.wholes;
      rest = s.rest;
      waits = s.waits;
      parts = cons_eq o a l (each o s.wholes ++ s.rest) (head-eq_of_cons-eq e) s.parts;
      behind = s.behind;
    }

module _ (o : Copy) (rest : List Arrival) where
  -- the packet comes if one of them came whole, and no other packet comes by them
  comes_in_same : (bs : List Bool) → comes_in (each o bs ++ rest) o.number ≡ (any_of (λ b. b) bs || comes_in rest o.number)
  unfolding comes_in any_of
  comes_in_same [] = refl
  comes_in_same (true ∷ bs) = rw (eq-eqb o.number o.number refl)
  comes_in_same (false ∷ bs) = rw (eq-eqb o.number o.number refl) (comes_in_same bs)

  comes_in_other : (bs : List Bool) (i : ℕ) → (o.number ≡ i → ⊥) → comes_in (each o bs ++ rest) i ≡ comes_in rest i
  unfolding comes_in
  comes_in_other [] i h = refl
  comes_in_other (b ∷ bs) i h = rw (ne_eqb o.number i h) (comes_in_other bs i h)

  -- it is heard if it comes
  heard_in_each : (bs : List Bool) (later : List (List ℕ) → Type 0) → later (heard_in rest)
      → ThinnedBy (any_of (λ b. b) bs) o.packet later (heard_in (each o bs ++ rest))
  unfolding heard_in any_of ThinnedBy
  heard_in_each [] later h = h
  heard_in_each (false ∷ bs) later h = heard_in_each bs later h
  heard_in_each (true ∷ bs) later h = go (any_of (λ b. b) bs) (heard_in (each o bs ++ rest)) (heard_in_each bs later h)
    where
      go : (b : Bool) (heard : List (List ℕ)) → ThinnedBy b o.packet later heard → ThinnedBy true o.packet later (o.packet ∷ heard)
      go true heard (n, more, e, t) = (suc n, more, ap (λ l. o.packet ∷ l) e, t)
      go false heard t = (0, heard, refl, t)

  copies_in_each : (bs : List Bool) → copies_in (each o bs ++ rest) ≡ replicate (length bs) o ++ copies_in rest
  copies_in_each [] = refl
  copies_in_each (b ∷ bs) = ap (λ l. o ∷ l) (copies_in_each bs)

  -- its number is among their numbers once
  each_once_each : (bs : List Bool)
      → those (λ i. not (eqb i o.number)) (each_once (copies_in rest)) ≡ each_once (copies_in rest)
      → those (λ i. not (eqb i o.number)) (each_once (copies_in (each o bs ++ rest))) ≡ each_once (copies_in rest)
  each_once_each bs e = rw (copies_in_each bs) (others_alike (length bs) o (copies_in rest) e)

-- ---- all packets

-- of packets counted from n on: which come, and which are placed; none has a number below n
pub record Arrived (comes : ℕ → Bool) (n : ℕ) (ps : List Sent) (l : List Arrival) : Type 0 where
  pub thinned : Thinned comes ps (heard_in l)
  pub unplaced : ℕ
  pub placed : came_of comes ps ≡ map comes (each_once (copies_in l)) ++ replicate unplaced false
  none-comes : (i : ℕ) → i < n → comes_in l i ≡ false
  none_placed : (i : ℕ) → i < n → those (λ j. not (eqb j i)) (each_once (copies_in l)) ≡ each_once (copies_in l)

module _ (comes : ℕ → Bool) (n : ℕ) (p : Sent) (ps : List Sent) (is : p.original.number ≡ n) where
  -- a packet of which nothing is placed, and nothing behind it
  arrived_none : comes p.original.number ≡ false → Arrived comes (suc n) ps [] → Arrived comes n (p ∷ ps) []
  unfolding Thinned ThinnedBy comes_in each_once those came_of
  arrived_none e later =
      record {
        thinned = rw e later.thinned;
        unplaced = suc later.unplaced;
        placed = rw e (ap (λ l. false ∷ l) later.placed);
        none-comes = λ i h. refl;
        none_placed = λ i h. refl;
      }

  -- a packet of which copies are placed, and what is placed behind them
  arrived_some : (b : Bool) (bs : List Bool) (rest : List Arrival)
      → comes p.original.number ≡ comes_in (each p.original (b ∷ bs) ++ rest) p.original.number
      → Arrived comes (suc n) ps rest → Arrived comes n (p ∷ ps) (each p.original (b ∷ bs) ++ rest)
  unfolding Thinned each_once those came_of
  arrived_some b bs rest e later =
      record {
        thinned = rw here (heard_in_each o rest (b ∷ bs) (Thinned comes ps) later.thinned);
        unplaced = later.unplaced;
        placed = rw once (ap (λ l. comes o.number ∷ l) later.placed);
        none-comes = λ i h. comes_in_other o rest (b ∷ bs) i (omega arith) ∙ later.none-comes i (omega arith);
        none_placed = λ i h. rw (once, ne_eqb o.number i (omega arith)) (ap (λ l. o.number ∷ l) (later.none_placed i (omega arith)));
      }
    where
      o : Copy
      o = p.original

      here : comes o.number ≡ any_of (λ b. b) (b ∷ bs)
      here = e ∙ comes_in_same o rest (b ∷ bs) ∙ rw (later.none-comes o.number (omega arith)) (or-false (any_of (λ b. b) (b ∷ bs)))

      once : those (λ i. not (eqb i o.number)) (each_once (copies_in (each o bs ++ rest))) ≡ each_once (copies_in rest)
      once = each_once_each o rest bs (later.none_placed o.number (omega arith))

-- the same arrivals, written otherwise
Arrived_same : {comes : ℕ → Bool} {n : ℕ} {ps : List Sent} {l m : List Arrival} → l ≡ m → Arrived comes n ps m → Arrived comes n ps l
Arrived_same e t = rw e t

-- packets counted from n on, of whose copies some are placed and the others wait
pub arrived : (ps : List Sent) (n : ℕ) (l : List Arrival) (waiting : List Copy) (comes : ℕ → Bool) → Numbered n ps
    → copies_in l ++ waiting ≡ copies_of ps → ((i : ℕ) → n ≤ i → comes i ≡ comes_in l i) → Arrived comes n ps l
unfolding Numbered copies_of comes_in Thinned heard_in each_once those came_of
arrived [] n [] waiting comes f e agree =
    record { thinned = refl; unplaced = 0; placed = refl; none-comes = λ i h. refl; none_placed = λ i h. refl }
arrived [] n (a ∷ l) waiting comes f e agree = absurd (cons≢nil e)
arrived (p ∷ ps) n [] waiting comes f e agree =
    arrived_none comes n p ps f.0 (agree p.original.number (omega arith))
    (arrived ps (suc n) [] (copies_of ps) comes f.2 refl (λ i h. agree i (omega arith)))
arrived (p ∷ ps) n (a ∷ l) waiting comes f e agree =
    let s = split p.repetition p.original l waiting (copies_of ps) (tail-eq_of_cons-eq e) in
    let bs : List Bool = a.whole ∷ s.wholes in
    let parts : a ∷ l ≡ each p.original bs ++ s.rest = cons_eq p.original a l _ (head-eq_of_cons-eq e) s.parts in
    let by : (i : ℕ) → n ≤ i → comes i ≡ comes_in (each p.original bs ++ s.rest) i = λ i h. agree i h ∙ ap (λ m. comes_in m i) parts in
    Arrived_same parts
    (arrived_some comes n p ps f.0 a.whole s.wholes s.rest (by p.original.number (omega arith))
    (arrived ps (suc n) s.rest s.waits comes f.2 s.behind
    (λ i h. by i (omega arith) ∙ comes_in_other p.original s.rest bs i (omega arith))))

-- What a scan gives is what the bodies give that are closed in the bits it reads; and those that are closed from a fresh framing on give what the declared
-- bodies of the bits give.
use Prim.Native.Nat.{ℕ, zero, suc, ◌+◌, ◌-◌, ◌≤◌, ◌<◌}
use native.Mathlib.Omega.{arith}
use mathlib.Core.Bool.{Bool, true, false, cond}
use mathlib.Core.List.{List, [], ◌∷◌, ◌++◌, map, map-append}
use mathlib.Core.Path.{◌≡◌, refl, sym, ap, ◌∙◌}
use lib.ListN.{length, take, drop, length-take}
use lib.Seq.{slice, take-nil, take-take}
use Rattle.hdlc.specs.Bodies.{Body, Judged, passes, spoilt, nothing, bodies, void, judge}
use Rattle.framing.specs.declared.Framing.{Framing}
use Rattle.framing.specs.declared.Check.{Check}
use Rattle.framing.specs.declared.Check.TheVariants.{Packet, Spoilt, Nothing}
use Rattle.framing.specs.declared.Scan.{Scan}
use Rattle.framing.specs.Machine.{fresh, step, run, closes, check}
use Rattle.framing.specs.Closings.{Closing, closing_of, not_void, not_nothing, given_by, closed, closings}
use Rattle.framing.specs.Scanning.{ended, stopped, scan}
use Rattle.framing.proofs.FramingFindsBodies.{framing_finds_bodies}
use Rattle.framing.proofs.Void.{void_gives_nothing}
use Rattle.framing.proofs.Runs.{closings_append}
use Rattle.framing.proofs.Scanned.{scan_cons, scan-least, scan-most}
use Rattle.framing.proofs.ScanFindsFirst.{take_behind}

-- ---- what closed bodies give

abbrev pub gives : List Closing → List Judged
gives cs = map (λ (c : Closing). c.gives) cs

-- it is the same wherever the bits are counted from
pub gives_from : (bits : List Bool) (f : Framing) (m n : ℕ) → gives (closings f m bits) ≡ gives (closings f n bits)
unfolding closings closed
gives_from [] f m n = refl
gives_from (b ∷ bits) f m n = go (closes f b) (gives_from bits (step f b) (suc m) (suc n))
  where
    go : (t : Bool) → gives (closings (step f b) (suc m) bits) ≡ gives (closings (step f b) (suc n) bits)
        → gives (cond t (closed f (suc m) ∷ closings (step f b) (suc m) bits) (closings (step f b) (suc m) bits))
        ≡ gives (cond t (closed f (suc n) ∷ closings (step f b) (suc n) bits) (closings (step f b) (suc n) bits))
    go true later = ap (λ js. given_by (check f) f.bits ∷ js) later
    go false later = later

pub gives_append : (a b : List Bool) (f : Framing) → gives (closings f 0 (a ++ b)) ≡ gives (closings f 0 a) ++ gives (closings (run f a) 0 b)
gives_append a b f =
    rw (
      closings_append a b f 0,
      map-append (λ (c : Closing). c.gives) (closings f 0 a) (closings (run f a) (0 + length a) b),
      gives_from b (run f a) (0 + length a) 0,
    )

-- behind a body, too, the same is given
more_given : (j : Judged) (js ks : List Judged) → not_nothing js ≡ not_nothing ks → not_nothing (j ∷ js) ≡ not_nothing (j ∷ ks)
unfolding not_nothing
more_given (passes p) js ks e = ap (λ ls. passes p ∷ ls) e
more_given spoilt js ks e = ap (λ ls. spoilt ∷ ls) e
more_given nothing js ks e = e

pub not_nothing_append : (js ks : List Judged) → not_nothing (js ++ ks) ≡ not_nothing js ++ not_nothing ks
unfolding not_nothing
not_nothing_append [] ks = refl
not_nothing_append (passes p ∷ js) ks = ap (λ ls. passes p ∷ ls) (not_nothing_append js ks)
not_nothing_append (spoilt ∷ js) ks = ap (λ ls. spoilt ∷ ls) (not_nothing_append js ks)
not_nothing_append (nothing ∷ js) ks = not_nothing_append js ks

-- ---- a scan

-- the bodies closed in the bits that a scan reads give what the scan gives, and nothing else
abbrev SameGiven : Framing → ℕ → List Bool → Scan → Type 0
SameGiven f at bits s = not_nothing (gives (closings f at (take (s.at - at) bits))) ≡ not_nothing (given_by s.check s.bytes ∷ [])

-- a bit, where the later bits' scan gives so
module _ (f : Framing) (at : ℕ) (b : Bool) (bits : List Bool) (later : Scan) (least : suc at ≤ later.at) (given : SameGiven (step f b) (suc at) bits later) where
  read_on_lem : take (later.at - at) (b ∷ bits) ≡ b ∷ take (later.at - suc at) bits
  read_on_lem = take_behind later.at at b bits least

  read_one : take (suc at - at) (b ∷ bits) ≡ b ∷ []
  read_one = let e : suc at - at ≡ 1 = omega arith in rw e

  -- it closes no body
  quiet_gives : closes f b ≡ false → SameGiven f at (b ∷ bits) later
  unfolding closings
  quiet_gives e = rw (read_on_lem, e) given

  -- it closes one
  stopped_gives : (c : Check) → check f ≡ c → closes f b ≡ true → SameGiven f at (b ∷ bits) (stopped c f b at later)
  unfolding stopped closings closed not_nothing given_by
  stopped_gives (Packet n) k e = rw (read_one, e, k)
  stopped_gives Spoilt k e = rw (read_one, e, k)
  stopped_gives Nothing k e = rw (read_on_lem, e, k) given

pub scan_gives : (bits : List Bool) (f : Framing) (at : ℕ) → SameGiven f at bits (scan f at bits)
unfolding scan ended closings not_nothing given_by
scan_gives [] f at = rw take-nil
scan_gives (b ∷ bits) f at = go (closes f b) refl (scan_gives bits (step f b) (suc at))
  where
    later : Scan
    later = scan (step f b) (suc at) bits

    go : (t : Bool) → closes f b ≡ t → SameGiven (step f b) (suc at) bits later → SameGiven f at (b ∷ bits) (cond t (stopped (check f) f b at later) later)
    go true e h = stopped_gives f at b bits later (scan-least bits (step f b) (suc at)) h (check f) refl e
    go false e h = quiet_gives f at b bits later (scan-least bits (step f b) (suc at)) h e

-- a body closed at a bit at which the scan does not stop
closed_quiet : (c : Check) (f : Framing) (b : Bool) (at j : ℕ) (later : Scan) (js : List Judged) → suc j < (stopped c f b at later).at - at
    → (j < later.at - suc at → not_nothing js ≡ []) → not_nothing (given_by c f.bits ∷ js) ≡ []
unfolding stopped given_by not_nothing
closed_quiet (Packet n) f b at j later js h quiet = absurd (omega arith)
closed_quiet Spoilt f b at j later js h quiet = absurd (omega arith)
closed_quiet Nothing f b at j later js h quiet = quiet (omega arith)

-- fewer bits than a scan reads give nothing
pub scan_quiet : (bits : List Bool) (f : Framing) (at j : ℕ) → j < (scan f at bits).at - at → not_nothing (gives (closings f at (take j bits))) ≡ []
unfolding scan closings closed not_nothing
scan_quiet [] f at j h = rw take-nil
scan_quiet (b ∷ bits) f at zero h = refl
scan_quiet (b ∷ bits) f at (suc j) h = go (closes f b) h (scan_quiet bits (step f b) (suc at) j)
  where
    later : Scan
    later = scan (step f b) (suc at) bits

    js : List Judged
    js = gives (closings (step f b) (suc at) (take j bits))

    go : (t : Bool) → suc j < (cond t (stopped (check f) f b at later) later).at - at → (j < later.at - suc at → not_nothing js ≡ [])
        → not_nothing (gives (cond t (closed f (suc at) ∷ closings (step f b) (suc at) (take j bits)) (closings (step f b) (suc at) (take j bits)))) ≡ []
    go true h quiet = closed_quiet (check f) f b at j later js h quiet
    go false h quiet = quiet (omega arith)

-- a scan that no body stopped has read all bits
abbrev pub EndsAt : Check → ℕ → ℕ → Type 0
EndsAt (Packet n) at end = Unit {0}
EndsAt Spoilt at end = Unit {0}
EndsAt Nothing at end = at ≡ end

stopped_ends : (c : Check) (f : Framing) (b : Bool) (at : ℕ) (later : Scan) (end : ℕ) → EndsAt later.check later.at end
    → EndsAt (stopped c f b at later).check (stopped c f b at later).at end
unfolding stopped
stopped_ends (Packet n) f b at later end l = tt
stopped_ends Spoilt f b at later end l = tt
stopped_ends Nothing f b at later end l = l

pub scan_ends : (bits : List Bool) (f : Framing) (at : ℕ) → EndsAt (scan f at bits).check (scan f at bits).at (at + length bits)
unfolding scan ended
scan_ends [] f at = omega arith
scan_ends (b ∷ bits) f at =
    let e : suc at + length bits ≡ at + suc (length bits) = omega arith in
    let later = rw e at (scan_ends bits (step f b) (suc at)) in
    scan_cons (λ (s : Scan). EndsAt s.check s.at (at + suc (length bits))) f at b bits later
    (stopped_ends (check f) f b at (scan (step f b) (suc at) bits) (at + suc (length bits)) later)

-- the bits that a scan reads, scanned again, give the same scan
pub scan_again : (bits : List Bool) (f : Framing) (at : ℕ) → scan f at (take ((scan f at bits).at - at) bits) ≡ scan f at bits
unfolding scan stopped
scan_again [] f at = rw take-nil
scan_again (b ∷ bits) f at = go (closes f b) refl (check f) refl (scan_again bits (step f b) (suc at))
  where
    later : Scan
    later = scan (step f b) (suc at) bits

    on : take (later.at - at) (b ∷ bits) ≡ b ∷ take (later.at - suc at) bits
    on = take_behind later.at at b bits (scan-least bits (step f b) (suc at))

    one : take (suc at - at) (b ∷ bits) ≡ b ∷ []
    one = let e : suc at - at ≡ 1 = omega arith in rw e

    go : (t : Bool) → closes f b ≡ t → (k : Check) → check f ≡ k → scan (step f b) (suc at) (take (later.at - suc at) bits) ≡ later
        → scan f at (take ((cond t (stopped k f b at later) later).at - at) (b ∷ bits)) ≡ cond t (stopped k f b at later) later
    go false e k h again = rw (on, e) again
    go true e (Packet n) h again = rw (one, e, h)
    go true e Spoilt h again = rw (one, e, h)
    go true e Nothing h again = rw (on, e, h) again

-- the front of a part
pub take_slice : {A : Type 0} (from to n : ℕ) (l : List A) → n ≤ length (slice from to l) → take n (slice from to l) ≡ take n (drop from l)
take_slice zero to n l h = take-take n to l (omega (arith, length-take to l))
take_slice (suc from) zero n l h = let e : n ≡ 0 = omega arith in rw e
take_slice (suc from) (suc to) n [] h = refl
take_slice (suc from) (suc to) n (x ∷ l) h = take_slice from to n l h

-- the bits that a scan reads
pub scan_takes : (f : Framing) (from to : ℕ) (l : List Bool)
    → (let s = scan f from (slice from to l) in take (s.at - from) (drop from l) ≡ take (s.at - from) (slice from to l))
scan_takes f from to l =
    let part : List Bool = slice from to l in
    sym (take_slice from to ((scan f from part).at - from) l (omega (arith, scan-most part f from)))

-- ---- declared bodies

-- those that are not void give what all give
not_void-given : (bs : List Body) → not_nothing (gives (map closing_of (not_void bs))) ≡ not_nothing (map (λ (b : Body). judge b.bits) bs)
unfolding closing_of not_void not_nothing
not_void-given [] = refl
not_void-given (b ∷ bs) = go (void b.bits) refl (not_void-given bs)
  where
    js : List Judged
    js = map (λ (b : Body). judge b.bits) bs

    go : (v : Bool) → void b.bits ≡ v → not_nothing (gives (map closing_of (not_void bs))) ≡ not_nothing js
        → not_nothing (gives (map closing_of (cond v (not_void bs) (b ∷ not_void bs)))) ≡ not_nothing (judge b.bits ∷ js)
    go true e later = rw (void_gives_nothing b.bits e) later
    go false e later = more_given (judge b.bits) (gives (map closing_of (not_void bs))) js later

pub bodies-given : (bits : List Bool) → not_nothing (gives (closings fresh 0 bits)) ≡ not_nothing (map (λ (b : Body). judge b.bits) (bodies bits))
bodies-given bits = ap (λ cs. not_nothing (gives cs)) (framing_finds_bodies bits) ∙ not_void-given (bodies bits)

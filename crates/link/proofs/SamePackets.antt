-- Bodies closed and frames, both in order: if each body that passes ends where a frame ends, and each frame that came whole ends where a body gives its
-- packet, then the bodies give the packets of the frames that came whole, in order.
use Prim.Native.Nat.{ℕ, suc, ◌+◌, ◌≤◌, ◌<◌}
use native.Mathlib.Omega.{arith}
use mathlib.Core.Bool.{Bool, true, false, cond, true≢false}
use mathlib.Core.List.{List, [], ◌∷◌, ◌++◌, map}
use mathlib.Core.List.Memᴰ
use mathlib.Core.List.{Memᴰ}
use mathlib.Core.Logic.{◌⊎◌, inl, inr}
use mathlib.Core.Path.{◌≡◌, refl, sym, ap, ◌∙◌}
use lib.ListN.{length-append}
use Rattle.hdlc.specs.Bodies.{Judged, passes, spoilt, nothing}
use Rattle.hdlc.proofs.Ending.{length-flag}
use Rattle.packet.specs.Lists.{those}
use Rattle.framing.specs.declared.Framing.{Framing}
use Rattle.framing.specs.Machine.{step, closes}
use Rattle.framing.specs.Closings.{Closing, closed, closings}
use Rattle.link.specs.Demand3.{Frame, frame_length, Bit, came_whole}
use Rattle.link.proofs.Steps.{packet_given, given, Ascending}
use Rattle.link.proofs.ResultingBits.{Numbered, row_together, Row, rows_same, rows_in_order}

-- ---- lists

-- what holds of one of a list holds of another if not of the first, and of the first if of no other
module _ {A : Type 0} (P : A → Type 0) (x : A) (xs : List A) (one : (y : A) × Memᴰ y (x ∷ xs) × P y) where
  other : (P x → ⊥) → (y : A) × Memᴰ y xs × P y
  other never = go (Memᴰ.cases_cons one.1)
    where
      go : (one.0 ≡ x) ⊎ Memᴰ one.0 xs → (y : A) × Memᴰ y xs × P y
      go (inl e) = absurd (never (rw e at one.2))
      go (inr m) = (one.0, m, one.2)

  first : ((y : A) → Memᴰ y xs → P y → ⊥) → P x
  first never = go (Memᴰ.cases_cons one.1)
    where
      go : (one.0 ≡ x) ⊎ Memᴰ one.0 xs → P x
      go (inl e) = rw e at one.2
      go (inr m) = absurd (never one.0 m one.2)

-- a test that none passes
those-none : {A : Type 0} (test : A → Bool) (xs : List A) → ((x : A) → Memᴰ x xs → test x ≡ true → ⊥) → those test xs ≡ []
unfolding those
those-none test [] never = refl
those-none test (x ∷ xs) never = go (test x) refl (those-none test xs (λ y m. never y (Memᴰ.tail m)))
  where
    go : (t : Bool) → test x ≡ t → those test xs ≡ [] → cond t (x ∷ []) [] ++ those test xs ≡ []
    go true is later = absurd (never x (Memᴰ.head refl) is)
    go false is later = later

-- ---- bodies and frames are in order

-- each body is closed behind n bits and behind the one before it
pub Later : ℕ → List Closing → Type 0
Later n [] = Unit {0}
Later n (c ∷ cs) = (n < c.read) × Later c.read cs

Later_less : (cs : List Closing) (n m : ℕ) → n ≤ m → Later m cs → Later n cs
unfolding Later
Later_less [] n m l h = tt
Later_less (c ∷ cs) n m l h = (omega arith, h.1)

pub Later_closings : (bs : List Bool) (f : Framing) (n : ℕ) → Later n (closings f n bs)
unfolding Later closings closed
Later_closings [] f n = tt
Later_closings (b ∷ bs) f n = go (closes f b) (Later_closings bs (step f b) (suc n))
  where
    go : (t : Bool) → Later (suc n) (closings (step f b) (suc n) bs)
        → Later n (cond t (closed f (suc n) ∷ closings (step f b) (suc n) bs) (closings (step f b) (suc n) bs))
    go true h = (omega arith, h)
    go false h = Later_less (closings (step f b) (suc n) bs) n (suc n) (omega arith) h

Later_each : (cs : List Closing) (n : ℕ) (c : Closing) → Later n cs → Memᴰ c cs → n < c.read
unfolding Later
Later_each [] n c h m = elim m [ ]
Later_each (d ∷ cs) n c h (Memᴰ.head e) = rw e h.0
Later_each (d ∷ cs) n c h (Memᴰ.tail m) = omega (arith, h.0, Later_each cs d.read c h.1 m)

-- the number behind a frame's last bit
abbrev end_of : Frame → ℕ
end_of f = f.from + frame_length f

Ascending_each : (fs : List Frame) (n : ℕ) (f : Frame) → Ascending n fs → Memᴰ f fs → n < end_of f
unfolding Ascending
Ascending_each [] n f h m = elim m [ ]
Ascending_each (g ∷ fs) n f h (Memᴰ.head e) = rw e h.0
Ascending_each (g ∷ fs) n f h (Memᴰ.tail m) = omega (arith, h.0, Ascending_each fs (end_of g) f h.1 m)

-- a frame has bits
pub frame_length-pos : (f : Frame) → 0 < frame_length f
unfolding frame_length
frame_length-pos f = rw length-append (omega (arith, length-flag))

-- ---- where they end

module _ (bits : List Bit) where
  -- the frame stands in the bits and ends before place r
  abbrev pub Ends : ℕ → Frame → Type 0
  Ends r f = Row bits f.from (frame_length f) r

  Ends_whole : (r : ℕ) (f : Frame) → Ends r f → came_whole bits f ≡ true
  unfolding came_whole
  Ends_whole r f h = row_together h.place bits f.from (frame_length f) h.row

  Ends_same : (f g : Frame) (r : ℕ) → Ends r f → Ends r g → end_of f ≡ end_of g
  Ends_same f g = rows_same bits f.from (frame_length f) g.from (frame_length g) (frame_length-pos f) (frame_length-pos g)

  -- a body gives the packet of a frame and ends where it ends
  pub record Gives (f : Frame) (c : Closing) : Type 0 where
    pub packet : c.gives ≡ passes f.packet
    pub ends : Ends c.read f

  -- each body that passes ends where a frame ends, and each frame that came whole ends where a body gives its packet
  abbrev pub EachFramed : List Closing → List Frame → Type 0
  EachFramed cs fs = (c : Closing) (p : List ℕ) → Memᴰ c cs → c.gives ≡ passes p → (f : Frame) × Memᴰ f fs × Ends c.read f

  abbrev pub EachGiven : List Closing → List Frame → Type 0
  EachGiven cs fs = (f : Frame) → Memᴰ f fs → came_whole bits f ≡ true → (c : Closing) × Memᴰ c cs × Gives f c

  -- the bodies give the packets of the frames that came whole
  abbrev Same : List Closing → List Frame → Type 0
  Same cs fs = given cs ≡ map (λ (f : Frame). f.packet) (those (came_whole bits) fs)

  abbrev SameIfEach : List Closing → Type 0
  SameIfEach cs = (fs : List Frame) (n : ℕ) → Ascending n fs → EachFramed cs fs → EachGiven cs fs → Same cs fs

-- ---- the same packets

module _ (joined : List Bool) (bits : List Bit) (numbered : Numbered joined 0 bits) where
  -- the first body passes, and the first frame came whole: the one gives the packet of the other, and those behind them are matched
  module _ (c : Closing) (cs : List Closing) (p : List ℕ) (f : Frame) (fs : List Frame) (passed : c.gives ≡ passes p) (whole : came_whole bits f ≡ true)
      (later : Later c.read cs) (up : Ascending (end_of f) fs) (framed : EachFramed bits (c ∷ cs) (f ∷ fs)) (givens : EachGiven bits (c ∷ cs) (f ∷ fs))
    where
      not_later : (d : Closing) → Memᴰ d cs → Ends bits d.read f → ⊥
      not_later d m h =
          let before : (g : Frame) → Ends bits c.read g → end_of g < end_of f =
          λ g k.
          rows_in_order bits g.from (frame_length g) f.from (frame_length f) (frame_length-pos g) (frame_length-pos f) c.read d.read numbered k h
          (Later_each cs c.read d later m) in
          let r = other (Ends bits c.read) f fs (framed c p (Memᴰ.head refl) passed) (λ k. omega (arith, before f k)) in
          omega (arith, before r.0 r.2, Ascending_each fs (end_of f) r.0 up r.1)

      gives_first : Gives bits f c
      gives_first = first (Gives bits f) c cs (givens f (Memᴰ.head refl) whole) (λ d m h. not_later d m h.ends)

      same_both : SameIfEach bits cs → p ∷ given cs ≡ f.packet ∷ map (λ (g : Frame). g.packet) (those (came_whole bits) fs)
      same_both behind =
          let h = gives_first in
          let e : Same bits cs fs =
          behind fs (end_of f) up (λ d q m e. other (Ends bits d.read) f fs (framed d q (Memᴰ.tail m) e) (not_later d m))
          (λ g m w.
          other (Gives bits g) c cs (givens g (Memᴰ.tail m) w)
          (λ k. omega (arith, Ends_same bits g f c.read k.ends h.ends, Ascending_each fs (end_of f) g up m))) in
          cc

  -- the first body passes: the frames that did not come whole are passed over
  same_first : (fs : List Frame) (c : Closing) (cs : List Closing) (p : List ℕ) (n : ℕ) → c.gives ≡ passes p → Later c.read cs → SameIfEach bits cs
      → Ascending n fs → EachFramed bits (c ∷ cs) fs → EachGiven bits (c ∷ cs) fs
      → p ∷ given cs ≡ map (λ (f : Frame). f.packet) (those (came_whole bits) fs)
  unfolding those Ascending
  same_first [] c cs p n e later behind up framed givens = absurd (Memᴰ.not-nil (framed c p (Memᴰ.head refl) e).1)
  same_first (f ∷ fs) c cs p n e later behind up framed givens =
      go (came_whole bits f) refl (same_first fs c cs p (end_of f) e later behind up.1)
    where
      go : (t : Bool) → came_whole bits f ≡ t
          → (EachFramed bits (c ∷ cs) fs → EachGiven bits (c ∷ cs) fs → p ∷ given cs ≡ map (λ (g : Frame). g.packet) (those (came_whole bits) fs))
          → p ∷ given cs ≡ map (λ (g : Frame). g.packet) (cond t (f ∷ []) [] ++ those (came_whole bits) fs)
      go true is rest = same_both c cs p f fs e is later up.1 framed givens behind
      go false is rest =
          rest
          (λ d q m k. other (Ends bits d.read) f fs (framed d q m k) (λ h. true≢false (sym (Ends_whole bits d.read f h) ∙ is)))
          (λ g m. givens g (Memᴰ.tail m))

  -- whatever the first body gives
  pub same_packets : (cs : List Closing) (m : ℕ) → Later m cs → SameIfEach bits cs
  unfolding given packet_given Later
  same_packets [] m later fs n up framed givens =
      sym (ap (map (λ (f : Frame). f.packet)) (those-none (came_whole bits) fs (λ f m w. Memᴰ.not-nil (givens f m w).1)))
  same_packets (c ∷ cs) m later fs n up framed givens = go c.gives refl (same_packets cs c.read later.1)
    where
      skip : ((p : List ℕ) → c.gives ≡ passes p → ⊥) → SameIfEach bits cs → Same bits cs fs
      skip never behind =
          behind fs n up (λ d q m. framed d q (Memᴰ.tail m))
          (λ f m w. other (Gives bits f) c cs (givens f m w) (λ h. never f.packet h.packet))

      go : (j : Judged) → c.gives ≡ j → SameIfEach bits cs → packet_given j ++ given cs ≡ map (λ (f : Frame). f.packet) (those (came_whole bits) fs)
      go (passes p) e behind = same_first fs c cs p n e later.1 behind up framed givens
      go spoilt e behind = skip (λ p q. let z : ◌≡◌ {A = ℕ} 0 1 = cc in omega arith) behind
      go nothing e behind = skip (λ p q. let z : ◌≡◌ {A = ℕ} 0 1 = cc in omega arith) behind

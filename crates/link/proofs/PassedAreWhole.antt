-- The packets that pass in the bits that result are those of the frames that came whole, in order.
use Prim.Native.Nat.{ℕ, ◌+◌, ◌-◌, ◌≤◌}
use native.Mathlib.Omega.{arith}
use mathlib.Core.Bool.{Bool, true, false, cond, not, ◌||◌, true≢false}
use mathlib.Core.List.{List, [], ◌∷◌, ◌++◌, map, append_assoc}
use mathlib.Core.List.Memᴰ
use mathlib.Core.List.{Memᴰ}
use mathlib.Core.Logic.{◌⊎◌, inl, inr}
use mathlib.Core.Option.{some}
use mathlib.Core.Path.{◌≡◌, refl, sym, ap, ◌∙◌}
use lib.ListN.{length, take, drop, length-append, length-take, length-drop, take-append-drop}
use lib.Seq.{length-take-le}
use lib.Dec.{eqb}
use borrow.Author.Tests.{eqb-true}
use Rattle.bits.specs.Bits.{bits_of, Bytes}
use Rattle.bits.proofs.Tests.{and_left, and_right}
use Rattle.hdlc.specs.Frames.{flag, with_fcs, frame}
use Rattle.hdlc.specs.Bodies.{Body, bodies, passes, void, judge}
use Rattle.hdlc.proofs.Ending.{length-flag}
use Rattle.packet.specs.Lists.{any_of, all_of, those, AllAre}
use Rattle.framing.specs.declared.Framing.{Framing}
use Rattle.framing.specs.Machine.{fresh, run}
use Rattle.framing.specs.Closings.{Closing, closing_of, not_void, closings}
use Rattle.framing.proofs.Runs.{closings_append}
use Rattle.framing.proofs.FramesPass.{frame-passes}
use Rattle.framing.proofs.FramingFindsBodies.{framing_finds_bodies}
use Rattle.link.specs.Demand3.{Frame, frame_length, Piece, originals, Bit, resulting, values, begin_with, came_whole}
use Rattle.link.specs.Demand3.{is_passed, is_frame, no_other_passes}
use Rattle.link.proofs.Steps.{given, LaidAt, Laid, Ascending}
use Rattle.link.proofs.ResultingBits.{Numbered, Numbered-resulting, row_values, together_row}
use Rattle.link.proofs.SamePackets.{Later_closings, frame_length-pos, Ends, EachFramed, EachGiven, same_packets}

-- ---- each body that passes ends where a frame ends

-- one passes a test
any_of_each : {A : Type 0} (test : A → Bool) (xs : List A) → any_of test xs ≡ true → (x : A) × Memᴰ x xs × (test x ≡ true)
unfolding any_of
any_of_each test [] e = absurd (true≢false (sym e))
any_of_each {A} test (x ∷ xs) e = go (test x) refl (any_of_each test xs)
  where
    go : (t : Bool) → test x ≡ t → (any_of test xs ≡ true → (y : A) × Memᴰ y xs × (test y ≡ true))
        → (y : A) × Memᴰ y (x ∷ xs) × (test y ≡ true)
    go true is later = (x, Memᴰ.head refl, is)
    go false is later = let r = later (rw is at e) in (r.0, Memᴰ.tail r.1, r.2)

module _ (bits : List Bit) (fs : List Frame) where
  -- a body that is a frame ends where it ends
  frame_ends : (b : Body) (f : Frame) → is_frame bits b f ≡ true → Ends bits (b.closing + 8) f
  unfolding is_frame
  frame_ends b f e =
      let long : Bool = eqb (b.closing + 8 - b.opening) (frame_length f) in
      let there : Bool = begin_with f.from (frame_length f) (drop b.opening bits) in
      let is : b.closing + 8 - b.opening ≡ frame_length f = eqb-true (b.closing + 8 - b.opening) (frame_length f) (and_left long there e) in
      record { place = b.opening; ends = omega (arith, frame_length-pos f); row = and_right long there e }

  -- the body does not pass, or is a frame
  abbrev is_right : Body → Bool
  is_right b = not (is_passed (judge b.bits)) || any_of (is_frame bits b) fs

  framed_body : (b : Body) (p : List ℕ) → is_right b ≡ true → judge b.bits ≡ passes p → (f : Frame) × Memᴰ f fs × Ends bits (b.closing + 8) f
  unfolding is_passed
  framed_body b p e is = let r = any_of_each (is_frame bits b) fs (rw is at e) in (r.0, r.1, frame_ends b r.0 r.2)

  framed_bodies : (bs : List Body) → all_of is_right bs ≡ true → EachFramed bits (map closing_of (not_void bs)) fs
  unfolding all_of not_void closing_of
  framed_bodies [] e c p m is = absurd (Memᴰ.not-nil m)
  framed_bodies (b ∷ bs) e c p m is = go (void b.bits) m (λ k. framed_bodies bs (and_right (is_right b) (all_of is_right bs) e) c p k is)
    where
      among : List Body → Type 0
      among bs' = Memᴰ c (map closing_of bs')

      found : Type 0
      found = (f : Frame) × Memᴰ f fs × Ends bits c.read f

      here : (c ≡ closing_of b) ⊎ among (not_void bs) → (among (not_void bs) → found) → found
      here (inl same) later = rw same (framed_body b p (and_left (is_right b) (all_of is_right bs) e) (rw same at is))
      here (inr k) later = later k

      go : (t : Bool) → among (cond t (not_void bs) (b ∷ not_void bs)) → (among (not_void bs) → found) → found
      go true k later = later k
      go false k later = here (Memᴰ.cases_cons k) later

-- ---- each frame that came whole ends where a body gives its packet

-- bits in which some stand from place i on
split_at_place : (i : ℕ) (bs a : List Bool) → take (length a) (drop i bs) ≡ a → bs ≡ take i bs ++ (a ++ drop (length a) (drop i bs))
split_at_place i bs a e =
    sym (take-append-drop i bs)
    ∙ ap (◌++◌ (take i bs)) (sym (take-append-drop (length a) (drop i bs)) ∙ ap (λ l. l ++ drop (length a) (drop i bs)) e)

-- where a frame and both its flags stand, a body is closed that gives its packet
module _ (p : List ℕ) (bytes : Bytes p) (least : 2 ≤ length p) (most : length p ≤ 19) where
  closing_behind : (pre rest : List Bool)
      → (c : Closing) × Memᴰ c (closings fresh 0 (pre ++ (flag ++ frame p ++ flag ++ rest))) × (c.gives ≡ passes p)
      × (length pre + length (flag ++ frame p ++ flag) ≡ c.read)
  closing_behind pre rest =
      let f : Framing = run fresh pre in
      let n : ℕ = 0 + length pre in (
        record { read = n + length flag + length (frame p ++ flag); bits = some (bits_of (with_fcs p)); five = false; gives = passes p },
        rw (
          append_assoc flag (frame p) flag,
          append_assoc flag (frame p ++ flag) rest,
          closings_append pre (flag ++ (frame p ++ flag ++ rest)) fresh 0,
          closings_append flag (frame p ++ flag ++ rest) f n,
          closings_append (frame p ++ flag) rest (run f flag) (n + length flag),
          frame-passes f (n + length flag) p bytes least most,
        )
            (Memᴰ.append_right (closings fresh 0 pre) (Memᴰ.append_right (closings f n flag) (Memᴰ.head refl))),
        refl,
        rw append_assoc (omega (arith, length-append flag (frame p ++ flag))),
      )

  closing_at : (i : ℕ) (bs : List Bool) → take (length (flag ++ frame p ++ flag)) (drop i bs) ≡ flag ++ frame p ++ flag
      → (c : Closing) × Memᴰ c (closings fresh 0 bs) × (c.gives ≡ passes p) × (i + length (flag ++ frame p ++ flag) ≡ c.read)
  closing_at i bs e =
      let a : List Bool = flag ++ frame p ++ flag in
      let fits : i ≤ length bs =
      omega (arith, length-append (flag ++ frame p) flag, length-flag, simp (length-take, length-drop) at (ap length e)) in
      rw (← length-take-le i bs fits) (rw (← split_at_place i bs a e) at (closing_behind (take i bs) (drop (length a) (drop i bs))))

-- each of the frames that lie in bits
Laid_each : (fs : List Frame) (joined : List Bool) (f : Frame) → Laid joined fs → Memᴰ f fs → LaidAt joined f
unfolding AllAre
Laid_each [] joined f h m = elim m [ ]
Laid_each (g ∷ fs) joined f h (Memᴰ.head e) = rw e h.0
Laid_each (g ∷ fs) joined f h (Memᴰ.tail m) = Laid_each fs joined f h.1 m

given-whole : (joined : List Bool) (bits : List Bit) (fs : List Frame) → Numbered joined 0 bits → Laid joined fs
    → EachGiven bits (closings fresh 0 (values bits)) fs
unfolding came_whole frame_length
given-whole joined bits fs numbered laid f m w =
    let h : LaidAt joined f = Laid_each fs joined f laid m in
    let r = together_row bits f.from (frame_length f) w in
    let there : take (frame_length f) (drop r.0 (values bits)) ≡ flag ++ frame f.packet ++ flag =
    row_values r.0 (frame_length f) f.from numbered r.1 ∙ h.there in
    let k = closing_at f.packet h.bytes h.least h.most r.0 (values bits) there in
    (k.0, k.1, record { packet = k.2; ends = record { place = r.0; ends = k.3; row = r.1 } })

-- ---- the theorem

pub passed_are_whole : (pieces : List Piece) (fs : List Frame) → Laid (originals pieces) fs → Ascending 0 fs
    → no_other_passes (resulting 0 pieces) fs ≡ true
    → given (closings fresh 0 (values (resulting 0 pieces))) ≡ map (λ (f : Frame). f.packet) (those (came_whole (resulting 0 pieces)) fs)
unfolding no_other_passes
passed_are_whole pieces fs laid up e =
    let bits : List Bit = resulting 0 pieces in
    let numbered : Numbered (originals pieces) 0 bits = Numbered-resulting (originals pieces) pieces 0 refl in
    same_packets (originals pieces) bits numbered (closings fresh 0 (values bits)) 0 (Later_closings (values bits) fresh 0) fs 0 up
    (rw framing_finds_bodies (framed_bodies bits fs (bodies (values bits)) e)) (given-whole (originals pieces) bits fs numbered laid)

-- Queues: what an offer and a copy taken change, and the block rule, in which the number of copies by which the definition recurses is never met
-- before picking ends (`take_frames-step`).
use Prim.Native.Nat.{ℕ, zero, suc, ◌+◌}
use native.Mathlib.Omega.{arith}
use mathlib.Core.Bool.{Bool, true, false, cond}
use mathlib.Core.List.{List, [], ◌∷◌, ◌++◌}
use Rattle.std.proofs.Common.{Option, None, Some}
use mathlib.Core.Path.{◌≡◌, refl, sym, ap, ◌∙◌}
use lib.ListN.{length, get_or, set}
use lib.Dec.{leb}
use Rattle.hdlc.specs.Frames.{flag, frame}
use Rattle.packet.specs.Circuits.{no_circuit}
use Rattle.queues.specs.Queues.{Copy, Queue, Queues, fresh_queue, queue_at, behind_first, behind, serve_queues, pick_queue, Taken, taken_none, and_taken, Placed, taking_first, taking, take_up_to, copies_in_queues, take_frames}

-- the copies behind a first one
pub behind_first_cons : (l : List Copy) (x : Copy) (xs : List Copy) → l ≡ x ∷ xs → behind_first l ≡ xs
unfolding behind_first
behind_first_cons l x xs e = ap behind_first e

pub cons_behind_first : (l : List Copy) (x : Copy) (xs : List Copy) → l ≡ x ∷ xs → l ≡ x ∷ behind_first l
cons_behind_first l x xs e = e ∙ ap (λ r. x ∷ r) (sym (behind_first_cons l x xs e))

-- one copy less waits where a first one is taken
copies_in_queues-behind : (qs : List Queue) (c : ℕ) (x : Copy) (xs : List Copy) → (get_or qs c (fresh_queue no_circuit)).copies ≡ x ∷ xs
    → copies_in_queues qs ≡ suc (copies_in_queues (set qs c (behind (get_or qs c (fresh_queue no_circuit)))))
unfolding copies_in_queues fresh_queue behind behind_first
copies_in_queues-behind [] c x xs e = absurd (let z : ◌≡◌ {A = ℕ} 0 1 = cc in omega arith)
copies_in_queues-behind (q ∷ qs) zero x xs e = rw e (omega arith)
copies_in_queues-behind (q ∷ qs) (suc c) x xs e = rw (copies_in_queues-behind qs c x xs e) (omega arith)

copies_in_queues-serve : (q : Queues) (c : ℕ) (x : Copy) (xs : List Copy) → (queue_at q c).copies ≡ x ∷ xs
    → copies_in_queues q.queues ≡ suc (copies_in_queues (serve_queues q c).queues)
unfolding queue_at serve_queues
copies_in_queues-serve q c x xs e = copies_in_queues-behind q.queues c x xs e

-- what comes later matters only where a first copy is taken
module _ (q : Queues) (at u : ℕ) where
  taking_later : (o : Option ℕ) (f g : ℕ → ℕ → Taken)
      → ((c : ℕ) (x : Copy) (xs : List Copy) → (queue_at q c).copies ≡ x ∷ xs → (next : ℕ) → f c next ≡ g c next)
      → taking o q at u f ≡ taking o q at u g
  unfolding taking taking_first
  taking_later None f g agree = refl
  taking_later (Some c) f g agree = go (queue_at q c).copies refl
    where
      go : (l : List Copy) → (queue_at q c).copies ≡ l → taking_first l q c at u (f c) ≡ taking_first l q c at u (g c)
      go [] e = refl
      go (x ∷ xs) e = rw (agree c x xs e)

  -- what holds where picking ends, and behind a frame that is taken
  pub taking_cases : (P : Taken → Type 0) (o : Option ℕ) (f : ℕ → ℕ → Taken) → P (taken_none q)
      → ((c : ℕ) (x : Copy) (xs : List Copy) → (queue_at q c).copies ≡ x ∷ xs → (next : ℕ)
      → P (and_taken (record { circuit = (queue_at q c).circuit; copy = x }) (f c next)))
      → P (taking o q at u f)
  unfolding taking taking_first
  taking_cases P None f ends goes = ends
  taking_cases P (Some c) f ends goes = go (queue_at q c).copies refl
    where
      test : (t : Taken) → P t → (b : Bool) → P (cond b t (taken_none q))
      test t h true = h
      test t h false = ends

      go : (l : List Copy) → (queue_at q c).copies ≡ l → P (taking_first l q c at u (f c))
      go [] e = ends
      go (x ∷ xs) e =
          let p : Placed = record { circuit = (queue_at q c).circuit; copy = x } in
          let next : ℕ = at + length (frame x.packet ++ flag) in
          test (and_taken p (f c next)) (goes c x xs e next) (leb next u)

-- the count in `take_up_to` is not seen
pub take_frames-step : (q : Queues) (at enable u : ℕ)
    → take_frames q at enable u ≡ taking (pick_queue q enable) q at u (λ c next. take_frames (serve_queues q c) next enable u)
unfolding take_frames take_up_to
take_frames-step q at enable u = go (copies_in_queues q.queues) refl
  where
    go : (n : ℕ) → copies_in_queues q.queues ≡ n
        → take_up_to n q at enable u ≡ taking (pick_queue q enable) q at u (λ c next. take_frames (serve_queues q c) next enable u)
    go zero e =
        taking_cases q at u (λ t. taken_none q ≡ t) (pick_queue q enable) _ refl
        (λ c x xs some next. absurd (omega (arith, copies_in_queues-serve q c x xs some)))
    go (suc n) e =
        taking_later q at u (pick_queue q enable) _ _
        (λ c x xs some next.
        let less : n ≡ copies_in_queues (serve_queues q c).queues = omega (arith, copies_in_queues-serve q c x xs some) in
        ap (λ m. take_up_to m (serve_queues q c) next enable u) less)

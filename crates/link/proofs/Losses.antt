-- The losses add up: what the packets heard of a circuit tell as lost is what was lost between the first that came and the last.
use Prim.Native.Nat.{ℕ, zero, suc, ◌+◌, ◌-◌, ◌%◌, ◌≤◌}
use native.Mathlib.Nat.{zero-add}
use native.Mathlib.Omega.{arith}
use mathlib.Core.Bool.{Bool, true, false, cond, not, ◌&&◌}
use mathlib.Core.List.{List, [], ◌∷◌, ◌++◌}
use mathlib.Core.Path.{◌≡◌, refl, sym, ap, ◌∙◌}
use lib.ListN.{length, replicate}
use lib.Dec.{leb, ltb, eqb}
use borrow.Author.Tests.{leb-true, eq-eqb, ne_eqb}
use Rattle.bits.proofs.Tests.{and_left, and_right}
use Rattle.packet.specs.Lists.{any_of}
use Rattle.packet.specs.Messages.{longest}
use Rattle.queues.specs.Sent.{Sent, Numbered}
use Rattle.notices.specs.declared.Slot.{Slot}
use Rattle.notices.specs.declared.Fate.{Fate}
use Rattle.notices.specs.declared.Fate.TheVariants.{Begun, Held, Whole, Orphan, Wrong}
use Rattle.notices.specs.Slots.{fresh_slot}
use Rattle.parsing.specs.Packets.{index, link, segment_in}
use Rattle.parsing.specs.Headers.{header_length, message_length, wrong_header}
use Rattle.notices.specs.Fates.{is_copy, loss_of, still_open, first_fate, between_fate, last_fate, fate_of, closed_slot, slot_after}
use Rattle.packet.proofs.Choices.{cond_either}
use Rattle.link.specs.Demand3.{from_first, up_to_last, from_first_to_last, lost, at_most_six_lost}
use Rattle.link.proofs.Steps.{losses_heard, ThinnedBy, Thinned, came_of}
use Rattle.link.proofs.Gaps.{gaps, gaps_given, up_to_last-none}

-- ---- the slot behind a packet

-- "every case but Copy"
data New : Fate → Type 0 where
  begun : New Begun
  held : New Held
  whole : {n : ℕ} → New (Whole n)
  orphan : New Orphan
  wrong : New Wrong

new_fate : (taken : Bool) (t : Slot) (p : List ℕ) → is_copy t p ≡ false → New (fate_of taken t p)
unfolding fate_of first_fate between_fate last_fate
new_fate taken t p e =
    let s : List ℕ = segment_in p in
    let body : ℕ = length s - header_length s in
    rw e
    (cond_either New (eqb (link p) 2) _ _
    (λ _. cond_either New (wrong_header taken s) _ _ (λ _. wrong)
    (λ _. cond_either New (eqb body (message_length s)) _ _ (λ _. whole)
    (λ _. cond_either New (eqb (length s) 16 && ltb body (message_length s)) _ _ (λ _. begun) (λ _. wrong))))
    (λ _. cond_either New (not (still_open t p)) _ _ (λ _. orphan)
    (λ _. cond_either New (eqb (link p) 0) _ _
    (λ _. cond_either New (eqb (length s) 16 && ltb (t.place + 16) t.length) _ _ (λ _. held) (λ _. wrong))
    (λ _. cond_either New (ltb longest t.length) _ _
    (λ _. cond_either New (ltb longest (t.place + length s) && leb (t.place + length s) t.length) _ _ (λ _. whole) (λ _. wrong))
    (λ _. cond_either New (eqb (t.place + length s) t.length) _ _ (λ _. whole) (λ _. wrong))))))

-- "After every case but Copy the circuit's last is this index"
record Last (p : List ℕ) (t : Slot) : Type 0 where
  seen : t.seen ≡ true
  last : t.last ≡ index p

last_new : (f : Fate) (t : Slot) (p : List ℕ) → New f → Last p (slot_after f t p)
unfolding slot_after closed_slot
last_new f t p begun = record { seen = refl; last = refl }
last_new f t p held = record { seen = refl; last = refl }
last_new f t p whole = record { seen = refl; last = refl }
last_new f t p orphan = record { seen = refl; last = refl }
last_new f t p wrong = record { seen = refl; last = refl }

-- ---- packets heard

-- a copy right behind a packet tells no loss, and leaves the slot
is_copy_last : (t : Slot) (p : List ℕ) → Last p t → is_copy t p ≡ true
unfolding is_copy
is_copy_last t p h = rw (h.seen, eq-eqb (index p) t.last (sym h.last))

losses_heard_copies : (taken : Bool) (k : ℕ) (t : Slot) (p : List ℕ) (rest : List (List ℕ)) → Last p t
    → losses_heard taken t (replicate k p ++ rest) ≡ losses_heard taken t rest
unfolding losses_heard fate_of slot_after
losses_heard_copies taken zero t p rest h = refl
losses_heard_copies taken (suc k) t p rest h = rw (is_copy_last t p h, zero-add) (losses_heard_copies taken k t p rest h)

-- a packet that is no copy, and copies of it
losses_heard_packet : (taken : Bool) (k : ℕ) (t : Slot) (p : List ℕ) (rest : List (List ℕ)) (n : ℕ) → is_copy t p ≡ false
    → ((u : Slot) → Last p u → losses_heard taken u rest ≡ n) → losses_heard taken t (replicate (suc k) p ++ rest) ≡ loss_of t p + n
unfolding losses_heard
losses_heard_packet taken k t p rest n e later =
    let u : Slot = slot_after (fate_of taken t p) t p in
    let h : Last p u = last_new (fate_of taken t p) t p (new_fate taken t p e) in
    rw e (ap (◌+◌ (loss_of t p)) (losses_heard_copies taken k u p rest h ∙ later u h))

-- a packet of number n, where one of number a came and d were lost since
module _ (t : Slot) (p : List ℕ) (n a d : ℕ) (seen : t.seen ≡ true) (last : t.last ≡ a % 8) (here : index p ≡ n % 8) (next : n ≡ a + 1 + d)
    (few : d ≤ 6) where
  pub is_copy_next : is_copy t p ≡ false
  unfolding is_copy
  is_copy_next = rw seen (ne_eqb (index p) t.last (omega arith))

  pub loss_of_next : loss_of t p ≡ d
  unfolding loss_of
  loss_of_next = rw seen (omega arith)

-- ---- the packets sent

-- a gap counts if another comes behind it
lost_behind : ℕ → List Bool → ℕ
lost_behind d bs = cond (any_of (λ b. b) bs) (d + lost (up_to_last bs)) 0

lost_behind_zero : (bs : List Bool) → lost_behind 0 bs ≡ lost (up_to_last bs)
unfolding lost_behind lost
lost_behind_zero bs = go (any_of (λ b. b) bs) refl
  where
    go : (t : Bool) → any_of (λ b. b) bs ≡ t → cond t (0 + lost (up_to_last bs)) 0 ≡ lost (up_to_last bs)
    go true some = zero-add (lost (up_to_last bs))
    go false none = rw (up_to_last-none bs none)

lost_behind_suc : (bs : List Bool) (d : ℕ) → lost_behind (suc d) bs ≡ lost_behind d (false ∷ bs)
unfolding lost_behind lost any_of up_to_last
lost_behind_suc bs d = go (any_of (λ b. b) bs)
  where
    go : (t : Bool) → cond t (suc d + lost (up_to_last bs)) 0 ≡ cond t (d + lost (cond t (false ∷ up_to_last bs) [])) 0
    go true = omega arith
    go false = refl

module _ (taken : Bool) (comes : ℕ → Bool) where
  -- where one of number a came and d were lost since, the rest adds up
  AddsUp : ℕ → ℕ → List Sent → Type 0
  AddsUp a d ps =
      (t : Slot) (heard : List (List ℕ)) → t.seen ≡ true → t.last ≡ a % 8 → Thinned comes ps heard → gaps true d (came_of comes ps) ≡ true →
      losses_heard taken t heard ≡ lost_behind d (came_of comes ps)

  -- a packet that comes, and what follows
  losses_came : (t : Slot) (p : List ℕ) (n : ℕ) (ps : List Sent) (heard : List (List ℕ)) → is_copy t p ≡ false → index p ≡ n % 8
      → ThinnedBy true p (Thinned comes ps) heard → gaps true 0 (came_of comes ps) ≡ true → AddsUp n 0 ps
      → losses_heard taken t heard ≡ loss_of t p + lost (up_to_last (came_of comes ps))
  unfolding ThinnedBy AddsUp
  losses_came t p n ps heard new here thinned few later =
      let (copies, rest, is, thin) = thinned in
      rw is
      (losses_heard_packet taken copies t p rest (lost (up_to_last (came_of comes ps))) new
      (λ u h. later u rest h.seen (h.last ∙ here) thin few ∙ lost_behind_zero (came_of comes ps)))

  -- one came
  losses_seen : (ps : List Sent) (n a d : ℕ) → n ≡ a + 1 + d → Numbered n ps → AddsUp a d ps
  unfolding AddsUp Numbered Thinned ThinnedBy came_of gaps losses_heard lost_behind any_of up_to_last lost
  losses_seen [] n a d next numbers t heard seen last thinned few = rw thinned
  losses_seen (p ∷ ps) n a d next numbers t heard seen last thinned few =
      go (comes p.original.number) thinned few (losses_seen ps (suc n) n 0 (omega arith) numbers.2)
      (losses_seen ps (suc n) a (suc d) (omega arith) numbers.2)
    where
      go : (b : Bool) → ThinnedBy b p.original.packet (Thinned comes ps) heard → gaps true d (b ∷ came_of comes ps) ≡ true
          → AddsUp n 0 ps → AddsUp a (suc d) ps → losses_heard taken t heard ≡ lost_behind d (b ∷ came_of comes ps)
      go true thin few came gone =
          let six : d ≤ 6 = leb-true d 6 (and_left (leb d 6) (gaps true 0 (came_of comes ps)) few) in
          let here : index p.original.packet ≡ n % 8 = numbers.1 in
          losses_came t p.original.packet n ps heard (is_copy_next t p.original.packet n a d seen last here next six) here thin
          (and_right (leb d 6) (gaps true 0 (came_of comes ps)) few) came
          ∙ rw (loss_of_next t p.original.packet n a d seen last here next six)
      go false thin few came gone = gone t heard seen last thin few ∙ lost_behind_suc (came_of comes ps) d

  -- none came yet
  losses_unseen : (ps : List Sent) (n d : ℕ) (heard : List (List ℕ)) → Numbered n ps → Thinned comes ps heard → gaps false d (came_of comes ps) ≡ true
      → losses_heard taken fresh_slot heard ≡ lost (up_to_last (from_first (came_of comes ps)))
  unfolding Numbered Thinned ThinnedBy came_of gaps from_first up_to_last lost losses_heard fresh_slot is_copy loss_of
  losses_unseen [] n d heard numbers thinned few = rw thinned
  losses_unseen (p ∷ ps) n d heard numbers thinned few =
      go (comes p.original.number) thinned few (losses_unseen ps (suc n) (suc d) heard numbers.2)
    where
      go : (b : Bool) → ThinnedBy b p.original.packet (Thinned comes ps) heard → gaps false d (b ∷ came_of comes ps) ≡ true
          → (Thinned comes ps heard → gaps false (suc d) (came_of comes ps) ≡ true
          → losses_heard taken fresh_slot heard ≡ lost (up_to_last (from_first (came_of comes ps))))
          → losses_heard taken fresh_slot heard ≡ lost (up_to_last (from_first (b ∷ came_of comes ps)))
      go true thin few gone =
          losses_came fresh_slot p.original.packet n ps heard refl numbers.1 thin few
          (losses_seen ps (suc n) n 0 (omega arith) numbers.2)
          ∙ zero-add (lost (up_to_last (came_of comes ps)))
      go false thin few gone = gone thin few

-- the losses that a circuit's packets tell are those between the first that came and the last
pub losses_thinned : (taken : Bool) (comes : ℕ → Bool) (ps : List Sent) (heard : List (List ℕ)) → Numbered 0 ps → Thinned comes ps heard
    → at_most_six_lost (came_of comes ps) ≡ true
    → losses_heard taken fresh_slot heard ≡ lost (from_first_to_last (came_of comes ps))
unfolding from_first_to_last
losses_thinned taken comes ps heard numbers thinned few = losses_unseen taken comes ps 0 0 heard numbers thinned (gaps_given (came_of comes ps) few)

-- ---- packets that were never placed

-- what did not come behind the last that came does not count
any_of_unplaced : (bs : List Bool) (m : ℕ) → any_of (λ b. b) (bs ++ replicate m false) ≡ any_of (λ b. b) bs
unfolding any_of
any_of_unplaced [] zero = refl
any_of_unplaced [] (suc m) = any_of_unplaced [] m
any_of_unplaced (true ∷ bs) m = refl
any_of_unplaced (false ∷ bs) m = any_of_unplaced bs m

up_to_last_unplaced : (bs : List Bool) (m : ℕ) → up_to_last (bs ++ replicate m false) ≡ up_to_last bs
unfolding up_to_last any_of
up_to_last_unplaced [] m = up_to_last-none (replicate m false) (any_of_unplaced [] m)
up_to_last_unplaced (true ∷ bs) m = ap (λ (l : List Bool). true ∷ l) (up_to_last_unplaced bs m)
up_to_last_unplaced (false ∷ bs) m = rw (any_of_unplaced bs m, up_to_last_unplaced bs m)

pub from_first_to_last_unplaced : (bs : List Bool) (m : ℕ) → from_first_to_last (bs ++ replicate m false) ≡ from_first_to_last bs
unfolding from_first_to_last from_first
from_first_to_last_unplaced [] zero = refl
from_first_to_last_unplaced [] (suc m) = from_first_to_last_unplaced [] m
from_first_to_last_unplaced (true ∷ bs) m = up_to_last_unplaced (true ∷ bs) m
from_first_to_last_unplaced (false ∷ bs) m = from_first_to_last_unplaced bs m

-- Slots in range: what a packet makes of its circuit's slot is in range if the slot was, and slots in range are so with another one that is.
use Rattle.std.proofs.Common.{◌≡◌, ℕ, zero, suc, ◌+◌, ◌-◌, ◌<◌, ◌≤◌, Bool, true, false, cond, not, ◌&&◌, eqb, ltb, leb, List, [], ◌∷◌, length, get_or, take, drop, set, replicate, refl, add-zero, add-suc, suc-add, zero-add, arith, length-drop, ltb-true, eq-eqb, eqb-true}
use Rattle.bits.specs.Bits.{Bytes}
use Rattle.bits.proofs.Bits.{get_or-Bytes}
use Rattle.bits.proofs.Tests.{and_left, and_right, and_both}
use Rattle.packet.specs.Messages.{longest, longest_long}
use Rattle.packet.specs.Stores.{takes_long, longest_at}
use Rattle.notices.specs.declared.Slot.{Slot}
use Rattle.notices.specs.declared.Fate.{Fate}
use Rattle.notices.specs.declared.Fate.TheVariants.{Begun, Held}
use Rattle.notices.specs.Slots.{fresh_slot, slot_in_range, slots_in_range}
use Rattle.parsing.specs.Packets.{index, link, segment_in}
use Rattle.parsing.specs.Headers.{header_length, message_length, wrong_header, message_part}
use Rattle.packet.proofs.Choices.{cond_either}
use Rattle.parsing.proofs.PacketParts.{index_le}
use Rattle.parsing.proofs.HeaderParts.{segment_second}
use Rattle.notices.specs.Fates.{is_copy, still_open, first_fate, between_fate, last_fate, fate_of, closed_slot, open_length, slot_after}
use Rattle.notices.proofs.FateLaws.{slot_in_range_facts, in_range_slot, open_length-least, open_length-taken}

-- ---- slots

fresh_slot-in_range : (most : ℕ) → slot_in_range most fresh_slot ≡ true
unfolding fresh_slot
fresh_slot-in_range most = in_range_slot most fresh_slot (omega arith) (omega arith) (omega arith)

module _ (given : Bool) where
  pub replicate-slots_in_range : (n m d : ℕ) → slots_in_range given d (take n (replicate m fresh_slot)) ≡ true
  unfolding slots_in_range
  replicate-slots_in_range zero m d = refl
  replicate-slots_in_range (suc n) zero d = refl
  replicate-slots_in_range (suc n) (suc m) d =
      and_both (slot_in_range (longest_at given d) fresh_slot) (slots_in_range given (suc d) (take n (replicate m fresh_slot)))
      (fresh_slot-in_range (longest_at given d)) (replicate-slots_in_range n m (suc d))

  -- a slot of the first n, all in range from number d on
  get_or_from : (n : ℕ) (l : List Slot) (d c : ℕ) → c < n → slots_in_range given d (take n l) ≡ true
      → slot_in_range (longest_at given (d + c)) (get_or l c fresh_slot) ≡ true
  unfolding slots_in_range
  get_or_from zero l d c h e = absurd (omega arith)
  get_or_from (suc n) [] d c h e = fresh_slot-in_range (longest_at given (d + c))
  get_or_from (suc n) (t ∷ l) d zero h e = rw (add-zero d) (and_left (slot_in_range (longest_at given d) t) (slots_in_range given (suc d) (take n l)) e)
  get_or_from (suc n) (t ∷ l) d (suc c) h e =
      rw (add-suc d c, ← suc-add d c)
      (get_or_from n l (suc d) c (omega arith) (and_right (slot_in_range (longest_at given d) t) (slots_in_range given (suc d) (take n l)) e))

  -- another slot in the place of one
  set_from : (n : ℕ) (l : List Slot) (d c : ℕ) (u : Slot) → (c < n → slot_in_range (longest_at given (d + c)) u ≡ true)
      → slots_in_range given d (take n l) ≡ true → slots_in_range given d (take n (set l c u)) ≡ true
  unfolding slots_in_range
  set_from zero l d c u h e = e
  set_from (suc n) [] d c u h e = e
  set_from (suc n) (t ∷ l) d zero u h e =
      and_both (slot_in_range (longest_at given d) u) (slots_in_range given (suc d) (take n l)) (rw (add-zero d) at (h (omega arith)))
      (and_right (slot_in_range (longest_at given d) t) (slots_in_range given (suc d) (take n l)) e)
  set_from (suc n) (t ∷ l) d (suc c) u h e =
      and_both (slot_in_range (longest_at given d) t) (slots_in_range given (suc d) (take n (set l c u)))
      (and_left (slot_in_range (longest_at given d) t) (slots_in_range given (suc d) (take n l)) e)
      (set_from n l (suc d) c u (λ k. rw (suc-add d c, ← add-suc d c) (h (omega arith)))
      (and_right (slot_in_range (longest_at given d) t) (slots_in_range given (suc d) (take n l)) e))

  -- both from number 0 on
  pub get_or-slots_in_range : (n : ℕ) (l : List Slot) (c : ℕ) → c < n → slots_in_range given 0 (take n l) ≡ true
      → slot_in_range (longest_at given c) (get_or l c fresh_slot) ≡ true
  get_or-slots_in_range n l c h e = rw (zero-add c) at (get_or_from n l 0 c h e)

  pub set-slots_in_range : (n : ℕ) (l : List Slot) (c : ℕ) (u : Slot) → (c < n → slot_in_range (longest_at given c) u ≡ true)
      → slots_in_range given 0 (take n l) ≡ true → slots_in_range given 0 (take n (set l c u)) ≡ true
  set-slots_in_range n l c u h e = set_from n l 0 c u (λ k. rw (zero-add c) (h k)) e

-- ---- what a packet makes of its circuit's slot

closed_slot-in_range : (most : ℕ) (p : List ℕ) → slot_in_range most (closed_slot p) ≡ true
unfolding closed_slot
closed_slot-in_range most p = in_range_slot most (closed_slot p) (index_le p) (omega arith) (omega arith)

module _ (taken : Bool) (t : Slot) (p : List ℕ) (b : Bytes p) where
  -- the length that a message may have
  abbrev most : ℕ
  most = cond taken longest_long longest

  -- what a fate makes of the slot is in range
  Good : Fate → Type 0
  Good f = slot_in_range most (slot_after f t p) ≡ true

  good_closed : slot_in_range most (closed_slot p) ≡ true
  good_closed = closed_slot-in_range most p

  good_Begun : link p ≡ 2 → wrong_header taken (segment_in p) ≡ false
      → length (segment_in p) - header_length (segment_in p) < message_length (segment_in p) → Good Begun
  unfolding Good slot_after message_part
  good_Begun first right more =
      let s : List ℕ = segment_in p in
      let second = segment_second s p refl (get_or-Bytes p b) in
      let part : length (drop (header_length s) s) ≤ open_length s = rw length-drop (omega (arith, more, open_length-least s second)) in
      rw (eq-eqb (link p) 2 first)
      (in_range_slot most (record { seen = true; last = index p; length = open_length s; place = length (drop (header_length s) s) })
      (index_le p) (open_length-taken s second taken right) part)

  good_first : link p ≡ 2 → Good (first_fate taken (segment_in p))
  unfolding Good slot_after first_fate
  good_first first =
      let s : List ℕ = segment_in p in
      let body : ℕ = length s - header_length s in
      cond_either Good (wrong_header taken s) _ _ (λ _. good_closed)
      (λ right. cond_either Good (eqb body (message_length s)) _ _ (λ _. search good_closed)
      (λ _. cond_either Good (eqb (length s) 16 && ltb body (message_length s)) _ _
      (λ e. good_Begun first right (ltb-true body (message_length s) (and_right (eqb (length s) 16) (ltb body (message_length s)) e)))
      (λ _. good_closed)))

  good_last : Good (last_fate t (segment_in p))
  unfolding Good slot_after last_fate
  good_last =
      let end : ℕ = t.place + length (segment_in p) in
      cond_either Good (ltb longest t.length) _ _
      (λ _. cond_either Good (ltb longest end && leb end t.length) _ _ (λ _. search good_closed) (λ _. good_closed))
      (λ _. cond_either Good (eqb end t.length) _ _ (λ _. search good_closed) (λ _. good_closed))

  module _ (r : slot_in_range most t ≡ true) where
    good_Held : t.place + 16 < t.length → Good Held
    unfolding Good slot_after
    good_Held more =
        in_range_slot most (record { seen = true; last = index p; length = t.length; place = t.place + 16 }) (index_le p)
        (slot_in_range_facts t r).short (omega arith)

    good_between : Good (between_fate t (segment_in p))
    unfolding Good slot_after between_fate
    good_between =
        let s : List ℕ = segment_in p in
        cond_either Good (eqb (length s) 16 && ltb (t.place + 16) t.length) _ _
        (λ e. good_Held (ltb-true (t.place + 16) t.length (and_right (eqb (length s) 16) (ltb (t.place + 16) t.length) e)))
        (λ _. good_closed)

    good_fate : Good (fate_of taken t p)
    unfolding Good slot_after fate_of
    good_fate =
        cond_either Good (is_copy t p) _ _ (λ _. r)
        (λ _. cond_either Good (eqb (link p) 2) _ _ (λ e. good_first (eqb-true (link p) 2 e))
        (λ _. cond_either Good (not (still_open t p)) _ _ (λ _. good_closed)
        (λ _. cond_either Good (eqb (link p) 0) _ _ (λ _. good_between) (λ _. good_last))))

pub slot_after_in_range : (given : Bool) (c : ℕ) (t : Slot) (p : List ℕ) → Bytes p → slot_in_range (longest_at given c) t ≡ true
    → slot_in_range (longest_at given c) (slot_after (fate_of (takes_long given c) t p) t p) ≡ true
unfolding longest_at Good
slot_after_in_range given c t p b r = good_fate (takes_long given c) t p b r

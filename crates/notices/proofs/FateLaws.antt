-- Fates: the tests and sums of the code against the definitions of a packet's fate.
use Rattle.std.proofs.Common.{◌≡◌, ℕ, ◌+◌, ◌-◌, ◌<◌, ◌≤◌, Bool, true, false, cond, not, ◌&&◌, eqb, ltb, leb, List, length, get_or, sym, ◌∙◌, arith, ltb-true, lt-ltb, eq-eqb, ne_eqb, eqb-true, le-leb, leb-true}
use borrow.Author.Tests.{eqb-false}
use Rattle.bits.proofs.Tests.{and_left, and_right}
use Rattle.packet.specs.Messages.{longest, longest_long, long_header}
use Rattle.packet.specs.Stores.{longest_at}
use Rattle.packet.proofs.LongBuffers.{longest_at_bounds}
use Rattle.packet.proofs.Choices.{cond_either}
use Rattle.notices.specs.declared.Slot.{Slot}
use Rattle.notices.specs.declared.Fate.{Fate}
use Rattle.notices.specs.declared.Fate.TheVariants.{Copy, Begun, Held, Whole, Orphan}
use Rattle.notices.specs.Slots.{open_message, slot_in_range}
use Rattle.parsing.specs.Packets.{link, segment_in}
use Rattle.parsing.specs.Headers.{header_length, message_length, wrong_header}
use Rattle.notices.specs.Fates.{is_copy, loss_of, still_open, first_fate, between_fate, last_fate, fate_of, open_length}
use Rattle.parsing.proofs.HeaderParts.{message_length-most, right_taken}

-- what is known of a slot in range
pub record SlotFacts (most : ℕ) (t : Slot) : Type 0 where
  pub last : t.last ≤ 7
  pub short : t.length ≤ most
  pub place : t.place ≤ t.length

pub slot_in_range_facts : {most : ℕ} (t : Slot) → slot_in_range most t ≡ true → SlotFacts most t
unfolding slot_in_range
slot_in_range_facts {most} t e =
    let two = and_left (leb t.last 7 && leb t.length most) _ e in
    record {
      last = leb-true _ _ (and_left (leb t.last 7) _ two);
      short = leb-true _ _ (and_right (leb t.last 7) _ two);
      place = leb-true _ _ (and_right (leb t.last 7 && leb t.length most) _ e);
    }

-- a slot in range, by its numbers
pub in_range_slot : (most : ℕ) (t : Slot) → t.last ≤ 7 → t.length ≤ most → t.place ≤ t.length → slot_in_range most t ≡ true
unfolding slot_in_range
in_range_slot most t a b c = rw (le-leb t.last 7 a, le-leb t.length most b, le-leb t.place t.length c)

-- at any number it is so with the length of a long message too
pub slot_in_range-wide : (given : Bool) (c : ℕ) (t : Slot) → slot_in_range (longest_at given c) t ≡ true → slot_in_range longest_long t ≡ true
slot_in_range-wide given c t e =
    let f = slot_in_range_facts t e in
    in_range_slot longest_long t f.last (omega (arith, f.short, (longest_at_bounds given c).1)) f.place

module _ (t : Slot) (p : List ℕ) where
  -- a message is open still where none was lost, and no first packet came
  pub still_open-link : t.place < t.length → (l : ℕ) → l ≡ loss_of t p → l ≡ 0 → (k : ℕ) → k ≡ link p → not (eqb k 2) ≡ still_open t p
  unfolding still_open open_message
  still_open-link h l e z k f =
      let begun : ltb t.place t.length ≡ true = lt-ltb t.place t.length h in
      let none : eqb (loss_of t p) 0 ≡ true = eq-eqb (loss_of t p) 0 (omega arith) in
      let same : eqb k 2 ≡ eqb (link p) 2 = rw f in
      cc

-- a first packet's segment
module _ (taken : Bool) (s : List ℕ) where
  module _ (w : Bool) (e : w ≡ wrong_header taken s) (f : w ≡ false) (m h : ℕ) (em : m ≡ message_length s) (eh : h ≡ header_length s) where
    pub first_fate-whole : length s - h ≡ m → Whole m ≡ first_fate taken s
    unfolding first_fate
    first_fate-whole k = rw (← e, f, ← em, ← eh, eq-eqb (length s - h) m k)

    pub first_fate_begun : (length s - h ≡ m → ⊥) → length s ≡ 16 → length s - h < m → Begun ≡ first_fate taken s
    unfolding first_fate
    first_fate_begun k n o = rw (← e, f, ← em, ← eh, ne_eqb (length s - h) m k, eq-eqb (length s) 16 n, lt-ltb (length s - h) m o)

-- any packet: a copy, and by its link number
module _ (taken : Bool) (t : Slot) (p : List ℕ) (b : Bool) (eb : b ≡ is_copy t p) where
  pub fate_of_copy : b ≡ true → Copy ≡ fate_of taken t p
  unfolding fate_of
  fate_of_copy e = rw (← eb, e)

  module _ (e : b ≡ false) (l : ℕ) (el : l ≡ link p) (o : Bool) (eo : o ≡ still_open t p) (s : List ℕ) (es : s ≡ segment_in p) where
    pub fate_of_first : l ≡ 2 → first_fate taken s ≡ fate_of taken t p
    unfolding fate_of
    fate_of_first k = rw (← eb, e, ← el, eq-eqb l 2 k, es)

    pub fate_of_orphan : (l ≡ 2 → ⊥) → o ≡ false → Orphan ≡ fate_of taken t p
    unfolding fate_of
    fate_of_orphan k n = rw (← eb, e, ← el, ne_eqb l 2 k, ← eo, n)

    pub fate_of-between : l ≡ 0 → o ≡ true → between_fate t s ≡ fate_of taken t p
    unfolding fate_of
    fate_of-between k n = rw (← eb, e, ← el, k, ← eo, n, es)

    pub fate_of_last : (l ≡ 2 → ⊥) → (l ≡ 0 → ⊥) → o ≡ true → last_fate t s ≡ fate_of taken t p
    unfolding fate_of
    fate_of_last k j n = rw (← eb, e, ← el, ne_eqb l 2 k, ne_eqb l 0 j, ← eo, n, es)

-- a packet is held only where more of its message are due
module _ (taken : Bool) (t : Slot) (p : List ℕ) where
  abbrev Due : Fate → Type 0
  Due f = f ≡ Held → ltb (t.place + 16) t.length ≡ true

  due_first : (s : List ℕ) → Due (first_fate taken s)
  unfolding first_fate
  due_first s =
      let body : ℕ = length s - header_length s in
      cond_either Due (wrong_header taken s) _ _ (λ _ e. cc)
      (λ _. cond_either Due (eqb body (message_length s)) _ _ (λ _ e. cc)
      (λ _. cond_either Due (eqb (length s) 16 && ltb body (message_length s)) _ _ (λ _ e. cc) (λ _ e. cc)))

  due_between : (s : List ℕ) → Due (between_fate t s)
  unfolding between_fate
  due_between s =
      cond_either Due (eqb (length s) 16 && ltb (t.place + 16) t.length) _ _ (λ more e. and_right (eqb (length s) 16) _ more) (λ _ e. cc)

  due_last : (s : List ℕ) → Due (last_fate t s)
  unfolding last_fate
  due_last s =
      let end : ℕ = t.place + length s in
      cond_either Due (ltb longest t.length) _ _
      (λ _. cond_either Due (ltb longest end && leb end t.length) _ _ (λ _ e. cc) (λ _ e. cc))
      (λ _. cond_either Due (eqb end t.length) _ _ (λ _ e. cc) (λ _ e. cc))

  pub held_within : {f : Fate} → f ≡ fate_of taken t p → f ≡ Held → t.place + 16 < t.length
  unfolding fate_of
  held_within is held =
      let s : List ℕ = segment_in p in
      ltb-true _ _
      (cond_either Due (is_copy t p) _ _ (λ _ e. cc)
      (λ _. cond_either Due (eqb (link p) 2) _ _ (λ _. due_first s)
      (λ _. cond_either Due (not (still_open t p)) _ _ (λ _ e. cc)
      (λ _. cond_either Due (eqb (link p) 0) _ _ (λ _. due_between s) (λ _. due_last s)))) (sym is ∙ held))

-- the length of the message that a first segment opens is at least the header's, and at most that of a long message, where that is taken
module _ (s : List ℕ) (second : get_or s 1 0 < 256) where
  pub open_length-least : message_length s ≤ open_length s
  unfolding open_length longest_long
  open_length-least =
      cond_either (λ (n : ℕ). message_length s ≤ n) (eqb (message_length s) long_header) _ _
      (λ _. omega (arith, message_length-most s second)) (λ _. omega arith)

  pub open_length-taken : (taken : Bool) → wrong_header taken s ≡ false → open_length s ≤ cond taken longest_long longest
  unfolding open_length longest longest_long
  open_length-taken taken right =
      cond_either (λ (n : ℕ). n ≤ cond taken longest_long longest) (eqb (message_length s) long_header) _ _
      (λ long. rw (right_taken s taken right (eqb-true (message_length s) long_header long)) (omega arith))
      (λ short. go taken (omega (arith, message_length-most s second, eqb-false (message_length s) long_header short)))
    where
      go : (b : Bool) → message_length s ≤ longest → message_length s ≤ cond b longest_long longest
      go true h = omega arith
      go false h = h

-- What becomes of the packets of a message that come one after another: the first tells the message's length, or that it is a long one, each writes its part
-- behind the parts before it, and with the last the message is handed over. Without the packet before it, a packet that is not the first hands nothing over.
use Prim.Native.Nat.{ℕ, zero, suc, ◌+◌, ◌-◌, ◌*◌, ◌/◌, ◌%◌, ◌≤◌, ◌<◌, min}
use native.Mathlib.Nat.{zero-add}
use native.Mathlib.Omega.{arith}
use mathlib.Core.Bool.{Bool, true, false, cond, not, ◌&&◌}
use mathlib.Core.List.{List, [], ◌∷◌, ◌++◌}
use mathlib.Core.Path.{◌≡◌, refl, sym, ap, ◌∙◌}
use borrow.Author.Tests.{eq-eqb, ne_eqb, lt-ltb, ltb-true, ltb-false, le-leb, leb-true, leb-false}
use lib.Dec.{leb, ltb, eqb, eqb-suc-zero}
use lib.ListN.{length, take, drop, get_or, replicate, length-append, length-drop}
use lib.Seq.{sets, sets-eq, length-sets, length-take-le, take-add, take_at, drop-append_seam, take-length}
use Rattle.packet.specs.Messages.{longest, longest_long, long_header, header, part_from, part_of, packets, link_of}
use Rattle.packet.specs.Messages.{segment as segment_of}
use Rattle.packet.proofs.Choices.{cond_either}
use Rattle.packet.proofs.Segments.{header_short, header_long, length-header, segment_part, part_of_le}
use Rattle.notices.specs.declared.Slot.{Slot}
use Rattle.notices.specs.declared.Fate.{Fate}
use Rattle.notices.specs.declared.Fate.TheVariants.{Begun, Held, Whole, Orphan, Wrong}
use Rattle.packet.specs.Stores.{region, Stores, stores}
use Rattle.parsing.specs.Packets.{link, index, segment_in}
use Rattle.parsing.specs.Headers.{two_bytes, header_length, message_length, wrong_header, message_part}
use Rattle.notices.specs.Fates.{is_copy, loss_of, still_open, between_fate, last_fate, fate_of, open_length, closed_slot, slot_after}
use Rattle.notices.specs.Stores.{place_of, is_long, with_part, writes, stores_after_fate}
use Rattle.parsing.proofs.HeaderParts.{header_length_one, header_length_two, message_length_one, message_length_two, wrong_header_one, wrong_header_short, wrong_header_long, message_part_later}
use Rattle.notices.proofs.FateLaws.{still_open-link, first_fate-whole, first_fate_begun, fate_of_copy, fate_of_first, fate_of_orphan, fate_of-between, fate_of_last}
use Rattle.notices.proofs.StoreLaws.{place_of_first, place_of_later, SameLengths, is_long_first, is_long_later}
use Rattle.link.specs.Demand3.{handed_from}
use Rattle.link.proofs.Steps.{most_if, handed_heard}

-- ---- the length of a message

-- a long one has room where it is taken
module _ (taken : Bool) (n : ℕ) (most : n ≤ most_if taken) where
  pub taken_long : longest < n → taken ≡ true
  unfolding most_if
  taken_long long = go taken most
    where
      go : (b : Bool) → n ≤ cond b longest_long longest → b ≡ true
      go true h = refl
      go false h = absurd (omega arith)

  pub most_long : n ≤ longest_long
  unfolding most_if longest longest_long
  most_long = go taken most
    where
      go : (b : Bool) → n ≤ cond b longest_long longest → n ≤ longest_long
      go true h = h
      go false h = omega arith

-- and any other everywhere
pub most_short : (taken : Bool) (n : ℕ) → n ≤ longest → n ≤ most_if taken
unfolding most_if longest longest_long
most_short true n h = omega arith
most_short false n h = h

-- while it is open its slot has the most of a long message, or its own length
unfoldable pub open_for : ℕ → ℕ
open_for n = cond (ltb longest n) longest_long n

-- the test by the length, by the header's number and by the slot's
header_test : (n : ℕ) → eqb (min n long_header) long_header ≡ ltb longest n
unfolding longest
header_test n = go (ltb longest n) refl
  where
    go : (b : Bool) → ltb longest n ≡ b → eqb (min n long_header) long_header ≡ b
    go true e = eq-eqb (min n long_header) long_header (omega (arith, ltb-true longest n e))
    go false e = ne_eqb (min n long_header) long_header (omega (arith, ltb-false longest n e))

open_test : (n : ℕ) → ltb longest (open_for n) ≡ ltb longest n
unfolding open_for longest longest_long
open_test n = go (ltb longest n) refl
  where
    go : (b : Bool) → ltb longest n ≡ b → ltb longest (cond b longest_long n) ≡ b
    go true e = refl
    go false e = e

open_least : (n : ℕ) → n ≤ longest_long → n ≤ open_for n
unfolding open_for
open_least n h = go (ltb longest n)
  where
    go : (b : Bool) → n ≤ cond b longest_long n
    go true = h
    go false = omega arith

-- ---- a header before some bytes, as the receiver reads it

-- what it tells: its own length, the message's or that of a long one, and that it is right
record HeaderTells (taken : Bool) (n : ℕ) (s : List ℕ) : Type 0 where
  size : length (header n) ≡ header_length s
  holds : min n long_header ≡ message_length s
  right : false ≡ wrong_header taken s

told : (taken : Bool) (n : ℕ) (rest : List ℕ) → n ≤ most_if taken → HeaderTells taken n (header n ++ rest)
unfolding two_bytes longest
told taken n rest h = go (leb n 15) refl
  where
    right : (s : List ℕ) → min n long_header ≡ message_length s → eqb (get_or s 0 0 / 16 % 2) 1 ≡ true → 2 ≤ length s → 15 < n
        → (b : Bool) → ltb longest n ≡ b → false ≡ wrong_header taken s
    right s is two there high true e =
        sym (ap not (taken_long taken n h (ltb-true longest n e)))
        ∙ wrong_header_long s taken (min n long_header) is two there (omega (arith, ltb-true longest n e))
    right s is two there high false e =
        wrong_header_short s taken (min n long_header) is two there (omega arith) (omega (arith, ltb-false longest n e))

    go : (t : Bool) → leb n 15 ≡ t → HeaderTells taken n (header n ++ rest)
    go true e =
        let low : n ≤ 15 = leb-true n 15 e in
        let one : eqb (n / 16 % 2) 1 ≡ false = ne_eqb (n / 16 % 2) 1 (omega arith) in
        let s : List ℕ = n ∷ rest in
        let is : min n long_header ≡ n % 16 = omega arith in
        let size : length (header n) ≡ header_length s = rw (header_short n low) (header_length_one s one) in
        let told : HeaderTells taken n s = record { size = size; holds = is ∙ message_length_one s one; right = wrong_header_one s taken one } in
        rw (header_short n low) told
    go false e =
        let high : 15 < n = leb-false n 15 e in
        let m : ℕ = min n long_header in
        let two : eqb ((16 + m / 256) / 16 % 2) 1 ≡ true = eq-eqb ((16 + m / 256) / 16 % 2) 1 (omega arith) in
        let s : List ℕ = (16 + m / 256) ∷ (m % 256) ∷ rest in
        let sum : m ≡ 256 * ((16 + m / 256) % 16) + m % 256 = omega arith in
        let is : m ≡ message_length s = sum ∙ message_length_two s two in
        let size : length (header n) ≡ header_length s = rw (header_long n high) (header_length_two s two) in
        let told : HeaderTells taken n s = record { size = size; holds = is; right = right s is two (omega arith) high (ltb longest n) refl } in
        rw (header_long n high) told

-- ---- the parts

-- a message's part in packet j
part : List ℕ → ℕ → List ℕ
part text j = take (part_of (length text) j).len (drop (part_of (length text) j).from text)

part_length : (text : List ℕ) (j : ℕ) → j < packets (length text) → length (part text j) ≡ (part_of (length text) j).len
unfolding part
part_length text j h = length-take-le _ _ (rw length-drop (omega (arith, part_of_le (length text) j h)))

-- it ends where the next one begins, or with the message
part_next : (text : List ℕ) (j : ℕ) → suc j < packets (length text)
    → part_from (length text) j + length (part text j) ≡ part_from (length text) (suc j)
unfolding part_of part_from packets
part_next text j h = rw (part_length text j (omega arith)) (omega (arith, length-header (length text)))

part_end : (text : List ℕ) (j : ℕ) → suc j ≡ packets (length text) → part_from (length text) j + length (part text j) ≡ length text
unfolding part_of part_from packets
part_end text j h = rw (part_length text j (omega arith)) (omega (arith, length-header (length text)))

-- a later one begins within the message, and the next 16 bytes behind it
part_from_lt : (n j : ℕ) → suc j < packets n → part_from n (suc j) < n
unfolding part_from packets
part_from_lt n j h = omega (arith, length-header n)

between_next : (n j : ℕ) → part_from n (suc j) + 16 ≡ part_from n (suc (suc j))
unfolding part_from
between_next n j = omega (arith, length-header n)

-- written behind the parts before it: then the bytes hold the message up to the part's end
part_written : (text : List ℕ) (j : ℕ) (area : List ℕ) → j < packets (length text) → length text ≤ length area
    → take (part_from (length text) j) area ≡ take (part_from (length text) j) text
    → take (part_from (length text) j + length (part text j)) (sets area (part_from (length text) j) (part text j))
    ≡ take (part_from (length text) j + length (part text j)) text
unfolding part part_of
part_written text j area inside room before =
    let n = length text in
    let from = part_from n j in
    let len : length (part text j) ≡ (part_of n j).len = part_length text j inside in
    let fits : from + length (part text j) ≤ length area = omega (arith, part_of_le n j inside) in
    let front : length (take from area ++ part text j) ≡ from + length (part text j) =
    length-append (take from area) (part text j) ∙ rw (length-take-le from area (omega arith)) in
    rw (sets-eq (part text j) area from fits)
    (take_at (take from area ++ part text j) _ (from + length (part text j)) front ∙ rw (before, len) (sym (take-add from (part_of n j).len text)))

-- where a message is put together: a long one in the long buffer, any other in the region, which stands for the store
unfoldable pub area_for : List ℕ → Stores → List ℕ
area_for text l = cond (ltb longest (length text)) l.long l.store

-- with the part written there
pub part_added : List ℕ → ℕ → Stores → Stores
part_added text j l =
    let from = part_from (length text) j in
    cond (ltb longest (length text)) (stores l.store l.given (sets l.long from (part text j)))
    (stores (sets l.store from (part text j)) l.given l.long)

area_for_added : (text : List ℕ) (j : ℕ) (l : Stores) → area_for text (part_added text j l) ≡ sets (area_for text l) (part_from (length text) j) (part text j)
unfolding area_for part_added
area_for_added text j l = go (ltb longest (length text))
  where
    from : ℕ
    from = part_from (length text) j

    go : (b : Bool)
        → (let m = cond b (stores l.store l.given (sets l.long from (part text j))) (stores (sets l.store from (part text j)) l.given l.long) in
        cond b m.long m.store)
        ≡ sets (cond b l.long l.store) from (part text j)
    go true = refl
    go false = refl

-- which leaves the lengths
pub lengths_added : (text : List ℕ) (j : ℕ) (l : Stores) → SameLengths l (part_added text j l)
unfolding part_added
lengths_added text j l =
    cond_either (SameLengths l) (ltb longest (length text)) _ _
    (λ _. record { store = refl; given = refl; long = length-sets l.long (part_from (length text) j) (part text j) })
    (λ _. record { store = length-sets l.store (part_from (length text) j) (part text j); given = refl; long = refl })

-- ---- a packet that carries a part

-- by its link number and its segment, packet p is number j of a message's packets
pub record Carries (taken : Bool) (text : List ℕ) (j : ℕ) (p : List ℕ) : Type 0 where
  pub most : length text ≤ most_if taken
  pub inside : j < packets (length text)
  pub linked : link p ≡ link_of j (packets (length text))
  pub segmented : segment_in p ≡ segment_of text j

-- it is due: it is no copy, and behind the first one the message is open up to its part and none was lost
pub record Due (taken : Bool) (text : List ℕ) (j : ℕ) (t : Slot) (p : List ℕ) : Type 0 where
  pub carries : Carries taken text j p
  pub new : is_copy t p ≡ false
  pub held : 0 < j → (t.length ≡ open_for (length text)) × (t.place ≡ part_from (length text) j) × (loss_of t p ≡ 0)

-- the slot of a circuit whose last packet is p, while a message is held up to part j
unfoldable pub held_slot : List ℕ → ℕ → List ℕ → Slot
held_slot text j p = record { seen = true; last = index p; length = open_for (length text); place = part_from (length text) j }

-- ---- what the slot and the bytes of an open message give

-- the length that a first segment opens
opened : (n : ℕ) (s : List ℕ) → min n long_header ≡ message_length s → open_length s ≡ open_for n
unfolding open_length open_for longest
opened n s holds = rw (← holds, header_test n) (go (ltb longest n) refl)
  where
    go : (b : Bool) → ltb longest n ≡ b → cond b longest_long (min n long_header) ≡ cond b longest_long n
    go true e = refl
    go false e = omega (arith, ltb-false longest n e)

-- the last packet's segment ends it
last_whole : (n : ℕ) (t : Slot) (s : List ℕ) → n ≤ longest_long → t.length ≡ open_for n → t.place + length s ≡ n → Whole n ≡ last_fate t s
unfolding last_fate open_for
last_whole n t s most size ends = rw (size, ends, open_test n) (go (ltb longest n) refl)
  where
    go : (b : Bool) → ltb longest n ≡ b
        → Whole n
        ≡ cond b (cond (ltb longest n && leb n (cond b longest_long n)) (Whole n) Wrong)
        (cond (eqb n (cond b longest_long n)) (Whole (cond b longest_long n)) Wrong)
    go true e = rw (e, le-leb n longest_long most)
    go false e = rw (eq-eqb n n refl)

-- a whole message is handed over from where it was put together
handed_area : (text : List ℕ) (l : Stores) → handed_from (Whole (length text)) 0 l ≡ take (length text) (area_for text l) ∷ []
unfolding handed_from area_for region
handed_area text l = go (ltb longest (length text))
  where
    go : (b : Bool)
        → cond b (take (length text) l.long) (take (length text) (drop (region * 0) l.store)) ∷ []
        ≡ take (length text) (cond b l.long l.store) ∷ []
    go true = refl
    go false = refl

-- and with a part more it is held there up to the next
pub written_more : (text : List ℕ) (j : ℕ) (l : Stores) → suc j < packets (length text) → length text ≤ length (area_for text l)
    → take (part_from (length text) j) (area_for text l) ≡ take (part_from (length text) j) text
    → take (part_from (length text) (suc j)) (area_for text (part_added text j l)) ≡ take (part_from (length text) (suc j)) text
written_more text j l more room before =
    rw (area_for_added text j l) (rw (part_next text j more) at (part_written text j (area_for text l) (omega arith) room before))

-- ---- where long messages are taken or not

module _ (taken : Bool) where
  -- the part in its segment, in the first packet behind the header
  carried_first : (text p : List ℕ) → Carries taken text 0 p → segment_in p ≡ header (length text) ++ part text 0
  unfolding part
  carried_first text p c = c.segmented ∙ segment_part text 0

  length_first : (text p : List ℕ) → Carries taken text 0 p → length (segment_in p) ≡ length (header (length text)) + length (part text 0)
  length_first text p c = rw (carried_first text p c) (length-append (header (length text)) (part text 0))

  carried_later : (text : List ℕ) (j : ℕ) (p : List ℕ) → Carries taken text (suc j) p → segment_in p ≡ part text (suc j)
  unfolding part
  carried_later text j p c = c.segmented ∙ rw (segment_part text (suc j), eqb-suc-zero)

  -- its link number
  link_first : (text p : List ℕ) → Carries taken text 0 p → 2 ≡ link p
  unfolding link_of
  link_first text p c = sym c.linked

  link_last : (text : List ℕ) (j : ℕ) (p : List ℕ) → Carries taken text (suc j) p → suc (suc j) ≡ packets (length text) → 1 ≡ link p
  unfolding link_of
  link_last text j p c e = sym (c.linked ∙ rw (eqb-suc-zero, eq-eqb (suc j + 1) (packets (length text)) (omega arith)))

  link-between : (text : List ℕ) (j : ℕ) (p : List ℕ) → Carries taken text (suc j) p → suc (suc j) < packets (length text) → 0 ≡ link p
  unfolding link_of
  link-between text j p c e = sym (c.linked ∙ rw (eqb-suc-zero, ne_eqb (suc j + 1) (packets (length text)) (omega arith)))

  link_later : (text : List ℕ) (j : ℕ) (p : List ℕ) → Carries taken text (suc j) p → link p ≡ 2 → ⊥
  unfolding link_of
  link_later text j p c = rw (c.linked, eqb-suc-zero) (go (eqb (suc j + 1) (packets (length text))))
    where
      go : (b : Bool) → ◌≡◌ {A = ℕ} (cond b 1 0) 2 → ⊥
      go true e = omega arith
      go false e = omega arith

  -- its message bytes are that part
  told_carried : (text p : List ℕ) → Carries taken text 0 p → HeaderTells taken (length text) (segment_in p)
  told_carried text p c = rw (carried_first text p c) (told taken (length text) (part text 0) c.most)

  message_part_carried : (text : List ℕ) (j : ℕ) (p : List ℕ) → Carries taken text j p → message_part p ≡ part text j
  unfolding message_part
  message_part_carried text zero p c =
      rw (← link_first text p c, ← (told_carried text p c).size, carried_first text p c) (drop-append_seam (header (length text)) (part text 0))
  message_part_carried text (suc j) p c =
      sym (message_part_later p (segment_in p) (link p) refl refl (link_later text j p c)) ∙ carried_later text j p c

  -- ---- a packet that is due

  -- its place
  place_of_due : (text : List ℕ) (j : ℕ) (t : Slot) (p : List ℕ) → Due taken text j t p → place_of t p ≡ part_from (length text) j
  unfolding part_from
  place_of_due text zero t p d =
      let none : 0 ≡ 16 * 0 - length (header (length text)) = omega arith in
      sym (place_of_first t p 2 (link_first text p d.carries) refl) ∙ none
  place_of_due text (suc j) t p d =
      sym (place_of_later t p (link p) refl (link_later text j p d.carries)) ∙ (d.held (omega arith)).1

  -- a later one finds the message open
  open_due : (text : List ℕ) (j l : ℕ) (t : Slot) (p : List ℕ) → Due taken text (suc j) t p → l ≡ link p → not (eqb l 2) ≡ still_open t p
  open_due text j l t p d e =
      let (size, place, none) = d.held (omega arith) in
      let least : length text ≤ open_for (length text) = open_least (length text) (most_long taken (length text) d.carries.most) in
      still_open-link t p (omega (arith, part_from_lt (length text) j d.carries.inside)) (loss_of t p) refl none l e

  -- the last packet: the message is whole
  fate_end : (text : List ℕ) (j : ℕ) (t : Slot) (p : List ℕ) → Due taken text j t p → suc j ≡ packets (length text) → Whole (length text) ≡ fate_of taken t p
  unfolding part_from packets
  fate_end text zero t p d e =
      let k = told_carried text p d.carries in
      let all : length (segment_in p) - length (header (length text)) ≡ length text = omega (arith, length_first text p d.carries, part_end text 0 e) in
      let short : length text ≡ min (length text) long_header = omega (arith, length-header (length text)) in
      first_fate-whole taken (segment_in p) false k.right refl (length text) (length (header (length text))) (short ∙ k.holds) k.size all
      ∙ fate_of_first taken t p false (sym d.new) refl 2 (link_first text p d.carries) (still_open t p) refl (segment_in p) refl refl
  fate_end text (suc j) t p d e =
      let (size, place, none) = d.held (omega arith) in
      let link-is = link_last text j p d.carries e in
      let ends : t.place + length (segment_in p) ≡ length text = rw (carried_later text j p d.carries, place) (part_end text (suc j) e) in
      last_whole (length text) t (segment_in p) (most_long taken (length text) d.carries.most) size ends
      ∙ fate_of_last taken t p false (sym d.new) refl 1 link-is true (open_due text j 1 t p d link-is) (segment_in p) refl (omega arith) (omega arith) refl

  -- one before it: the message is begun, or held on
  fate_begun : (text : List ℕ) (t : Slot) (p : List ℕ) → Due taken text 0 t p → 1 < packets (length text) → Begun ≡ fate_of taken t p
  unfolding part_from
  fate_begun text t p d more =
      let k = told_carried text p d.carries in
      let full : length (segment_in p) ≡ 16 =
      omega (arith, length_first text p d.carries, part_next text 0 more, length-header (length text)) in
      let left : length (segment_in p) - length (header (length text)) < min (length text) long_header = omega (arith, part_from_lt (length text) 0 more) in
      first_fate_begun taken (segment_in p) false k.right refl (min (length text) long_header) (length (header (length text))) k.holds k.size (omega arith)
      full left
      ∙ fate_of_first taken t p false (sym d.new) refl 2 (link_first text p d.carries) (still_open t p) refl (segment_in p) refl refl

  fate_held : (text : List ℕ) (j : ℕ) (t : Slot) (p : List ℕ) → Due taken text (suc j) t p → suc (suc j) < packets (length text) → Held ≡ fate_of taken t p
  unfolding between_fate
  fate_held text j t p d more =
      let (size, place, none) = d.held (omega arith) in
      let link-is = link-between text j p d.carries more in
      let full : length (part text (suc j)) ≡ 16 = omega (arith, part_next text (suc j) more, between_next (length text) j) in
      let least : length text ≤ open_for (length text) = open_least (length text) (most_long taken (length text) d.carries.most) in
      let left : part_from (length text) (suc j) + 16 < open_for (length text) =
      omega (arith, part_from_lt (length text) (suc j) more, between_next (length text) j) in
      let held : Held ≡ between_fate t (segment_in p) =
      rw (carried_later text j p d.carries, size, place, full, lt-ltb _ _ left) in
      held
      ∙ fate_of-between taken t p false (sym d.new) refl 0 link-is true (open_due text j 0 t p d link-is) (segment_in p) refl refl refl

  -- ---- packets heard

  -- copies of a packet change nothing
  copies_heard : (c : ℕ) (t : Slot) (l : Stores) (p : List ℕ) (rest : List (List ℕ)) → is_copy t p ≡ true
      → handed_heard taken t l (replicate c p ++ rest) ≡ handed_heard taken t l rest
  unfolding handed_heard handed_from slot_after writes stores_after_fate
  copies_heard zero t l p rest e = refl
  copies_heard (suc c) t l p rest e = rw (← fate_of_copy taken t p true (sym e) refl) (copies_heard c t l p rest e)

  -- a packet that is no copy, and its copies
  heard_once : (f : Fate) (t : Slot) (l : Stores) (p : List ℕ) (c : ℕ) (rest : List (List ℕ)) → f ≡ fate_of taken t p
      → (slot_after f t p).seen ≡ true → (slot_after f t p).last ≡ index p
      → handed_heard taken t l (replicate (suc c) p ++ rest)
      ≡ handed_from f 0 (stores_after_fate f 0 t p l) ++ handed_heard taken (slot_after f t p) (stores_after_fate f 0 t p l) rest
  unfolding handed_heard is_copy
  heard_once f t l p c rest e seen last =
      rw (← e)
      (ap (λ (later : List (List ℕ)). handed_from f 0 (stores_after_fate f 0 t p l) ++ later)
      (copies_heard c (slot_after f t p) (stores_after_fate f 0 t p l) p rest (rw (seen, last, eq-eqb (index p) (index p) refl))))

  -- what a packet that is due writes is its part
  is_long_due : (text : List ℕ) (j : ℕ) (t : Slot) (p : List ℕ) → Due taken text j t p → is_long t p ≡ ltb longest (length text)
  is_long_due text zero t p d =
      sym (is_long_first t p 2 (link_first text p d.carries) refl refl (told_carried text p d.carries).holds) ∙ header_test (length text)
  is_long_due text (suc j) t p d =
      sym (is_long_later t p (link p) refl (link_later text j p d.carries)) ∙ ap (ltb longest) (d.held (omega arith)).0 ∙ open_test (length text)

  written_due : (text : List ℕ) (j : ℕ) (t : Slot) (l : Stores) (p : List ℕ) → Due taken text j t p → with_part 0 t p l ≡ part_added text j l
  unfolding with_part region part_added
  written_due text j t l p d =
      rw (is_long_due text j t p d, message_part_carried text j p d.carries, place_of_due text j t p d, zero-add)

  -- with the last packet the message is handed over
  pub heard_end : (text : List ℕ) (j : ℕ) (t : Slot) (l : Stores) (p : List ℕ) (c : ℕ) (rest : List (List ℕ)) → Due taken text j t p
      → suc j ≡ packets (length text) → length text ≤ length (area_for text l)
      → take (part_from (length text) j) (area_for text l) ≡ take (part_from (length text) j) text
      → handed_heard taken t l (replicate (suc c) p ++ rest) ≡ text ∷ handed_heard taken (closed_slot p) (part_added text j l) rest
  unfolding slot_after closed_slot writes stores_after_fate
  heard_end text j t l p c rest d e room before =
      let all : take (length text) (area_for text (part_added text j l)) ≡ text =
      rw (area_for_added text j l)
      ((rw (part_end text j e) at (part_written text j (area_for text l) d.carries.inside room before)) ∙ take-length text) in
      heard_once (Whole (length text)) t l p c rest (fate_end text j t p d e) refl refl
      ∙ rw (written_due text j t l p d, handed_area text (part_added text j l), all)

  -- with one before it the message is held up to the next part
  pub heard_more : (text : List ℕ) (j : ℕ) (t : Slot) (l : Stores) (p : List ℕ) (c : ℕ) (rest : List (List ℕ)) → Due taken text j t p
      → suc j < packets (length text)
      → handed_heard taken t l (replicate (suc c) p ++ rest) ≡ handed_heard taken (held_slot text (suc j) p) (part_added text j l) rest
  unfolding slot_after writes stores_after_fate handed_from held_slot part_from
  heard_more text zero t l p c rest d more =
      let from : length (part text 0) ≡ part_from (length text) 1 = omega (arith, part_next text 0 more) in
      heard_once Begun t l p c rest (fate_begun text t p d more) refl refl
      ∙ rw (
        written_due text zero t l p d,
        opened (length text) (segment_in p) (told_carried text p d.carries).holds,
        message_part_carried text 0 p d.carries,
        from,
      )
  heard_more text (suc j) t l p c rest d more =
      let (size, place, none) = d.held (omega arith) in
      heard_once Held t l p c rest (fate_held text j t p d more) refl refl
      ∙ rw (written_due text (suc j) t l p d, size, place, between_next)

  -- one that is not the first and finds no message open hands nothing over
  pub heard_orphan : (text : List ℕ) (j : ℕ) (t : Slot) (l : Stores) (p : List ℕ) (c : ℕ) (rest : List (List ℕ)) → Carries taken text (suc j) p
      → is_copy t p ≡ false → still_open t p ≡ false → handed_heard taken t l (replicate (suc c) p ++ rest) ≡ handed_heard taken (closed_slot p) l rest
  unfolding slot_after closed_slot writes stores_after_fate handed_from
  heard_orphan text j t l p c rest d new shut =
      heard_once Orphan t l p c rest
      (fate_of_orphan taken t p false (sym new) refl (link p) refl false (sym shut) (segment_in p) refl (link_later text j p d) refl) refl refl

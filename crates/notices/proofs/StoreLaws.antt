-- Stores: where a packet's message bytes go, and stores keep their lengths.
use Rattle.std.proofs.Common.{◌≡◌, ℕ, ◌+◌, ◌*◌, ◌≤◌, Bool, true, false, cond, eqb, ltb, List, length, refl, arith, ltb-false, eq-eqb, ne_eqb}
use lib.Seq.{length-sets}
use Rattle.packet.specs.Messages.{longest, long_header}
use Rattle.packet.specs.Stores.{region, Stores}
use Rattle.packet.proofs.Choices.{cond_either}
use Rattle.notices.specs.declared.Slot.{Slot}
use Rattle.notices.specs.declared.Fate.{Fate}
use Rattle.notices.specs.declared.Notice.{Notice}
use Rattle.notices.specs.declared.Notice.TheVariants.{End, Spoilt, Malformed, System, Elsewhere, Circuit}
use Rattle.notices.specs.Stores.{system_place, place_of, is_long, with_part, writes, stores_after_fate, stores_after_notice}
use Rattle.notices.specs.Slots.{slot_at}
use Rattle.parsing.specs.Packets.{link, segment_in, information}
use Rattle.parsing.specs.Headers.{message_length, message_part}

-- the place in the region or in the long buffer
module _ (t : Slot) (p : List ℕ) where
  pub place_of_first : (l : ℕ) → l ≡ link p → l ≡ 2 → 0 ≡ place_of t p
  unfolding place_of
  place_of_first l e k = rw (← e, eq-eqb l 2 k)

  pub place_of_later : (l : ℕ) → l ≡ link p → (l ≡ 2 → ⊥) → t.place ≡ place_of t p
  unfolding place_of
  place_of_later l e k = rw (← e, ne_eqb l 2 k)

  -- whether the packet is of a long message
  pub is_long_first : (l : ℕ) → l ≡ link p → l ≡ 2 → {s : List ℕ} → s ≡ segment_in p → {m : ℕ} → m ≡ message_length s → eqb m long_header ≡ is_long t p
  unfolding is_long
  is_long_first l e k es em = rw (← e, k, em, es)

  pub is_long_later : (l : ℕ) → l ≡ link p → (l ≡ 2 → ⊥) → ltb longest t.length ≡ is_long t p
  unfolding is_long
  is_long_later l e k = rw (← e, ne_eqb l 2 k)

  -- of one that is not, the place is one of the region's
  pub place_of_most : t.place ≤ t.length → is_long t p ≡ false → place_of t p ≤ longest
  unfolding place_of is_long
  place_of_most within = go (eqb (link p) 2)
    where
      go : (b : Bool) → cond b (eqb (message_length (segment_in p)) long_header) (ltb longest t.length) ≡ false → cond b 0 t.place ≤ longest
      go true short = omega arith
      go false short = omega (arith, ltb-false longest t.length short, within)

-- ---- stores keep their lengths, and that a long buffer is given

pub record SameLengths (l m : Stores) : Type 0 where
  pub store : length m.store ≡ length l.store
  pub given : m.given ≡ l.given
  pub long : length m.long ≡ length l.long

pub same_lengths : (l : Stores) → SameLengths l l
same_lengths l = record { store = refl; given = refl; long = refl }

lengths_with_part : (c : ℕ) (t : Slot) (p : List ℕ) (l : Stores) → SameLengths l (with_part c t p l)
unfolding with_part
lengths_with_part c t p l =
    cond_either (SameLengths l) (is_long t p) _ _ (λ _. record { store = refl; given = refl; long = length-sets l.long (place_of t p) (message_part p) })
    (λ _. record { store = length-sets l.store (region * c + place_of t p) (message_part p); given = refl; long = refl })

lengths_stores_after_fate : (f : Fate) (c : ℕ) (t : Slot) (p : List ℕ) (l : Stores) → SameLengths l (stores_after_fate f c t p l)
unfolding stores_after_fate
lengths_stores_after_fate f c t p l =
    cond_either (SameLengths l) (writes f) _ _ (λ _. lengths_with_part c t p l) (λ _. same_lengths l)

pub lengths_stores_after_notice : (n : Notice) (slots : List Slot) (p : List ℕ) (l : Stores) → SameLengths l (stores_after_notice n slots p l)
unfolding stores_after_notice
lengths_stores_after_notice End slots p l = same_lengths l
lengths_stores_after_notice Spoilt slots p l = same_lengths l
lengths_stores_after_notice Malformed slots p l = same_lengths l
lengths_stores_after_notice (System enable code n) slots p l = record { store = length-sets l.store system_place (information p); given = refl; long = refl }
lengths_stores_after_notice Elsewhere slots p l = same_lengths l
lengths_stores_after_notice (Circuit c loss fate) slots p l = lengths_stores_after_fate fate c (slot_at slots c) p l

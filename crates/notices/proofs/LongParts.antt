-- What a packet writes into the long buffer stands in it: it is written where the buffer is given, and up to 65,535 bytes.
use Rattle.std.proofs.Common.{◌≡◌, ℕ, ◌+◌, ◌-◌, ◌≤◌, Bool, true, false, cond, not, ◌&&◌, ◌||◌, eqb, ltb, leb, List, length, drop, sym, refl, ◌∙◌, true≢false, arith, length-drop, ltb-true, eqb-true, le-leb, leb-true}
use Rattle.bits.proofs.Tests.{and_left, and_right}
use Rattle.packet.specs.Messages.{longest, longest_long, long_header}
use Rattle.packet.specs.Stores.{takes_long, longest_at}
use Rattle.packet.proofs.Choices.{cond_either}
use Rattle.parsing.specs.Packets.{link, segment_in}
use Rattle.parsing.specs.Headers.{header_length, message_length, wrong_header, message_part}
use Rattle.parsing.proofs.HeaderParts.{right_taken}
use Rattle.notices.specs.declared.Slot.{Slot}
use Rattle.notices.specs.declared.Fate.{Fate}
use Rattle.notices.specs.declared.Fate.TheVariants.{Copy, Begun, Held, Whole, Orphan, Wrong}
use Rattle.notices.specs.Slots.{slot_in_range}
use Rattle.notices.specs.Fates.{is_copy, still_open, first_fate, between_fate, last_fate, fate_of}
use Rattle.notices.specs.Stores.{place_of, is_long, writes, fits_long}
use Rattle.notices.proofs.FateLaws.{slot_in_range_facts}

module _ (given : Bool) (c : ℕ) (t : Slot) (p : List ℕ) (range : slot_in_range (longest_at given c) t ≡ true) where
  abbrev s : List ℕ
  s = segment_in p

  abbrev fate : Fate
  fate = fate_of (takes_long given c) t p

  abbrev Fits : Fate → Type 0
  Fits f = writes f ≡ true → is_long t p ≡ true → (takes_long given c ≡ true) × (place_of t p + length (message_part p) ≤ longest_long)

  unwritten : (f : Fate) → writes f ≡ false → Fits f
  unwritten f silent written = absurd (true≢false (sym written ∙ silent))

  fits_first : eqb (link p) 2 ≡ true → Fits (first_fate (takes_long given c) s)
  unfolding first_fate place_of is_long message_part writes longest_long
  fits_first first =
      let body : ℕ = length s - header_length s in
      let long : (f : Fate) → wrong_header (takes_long given c) s ≡ false → body ≤ message_length s → Fits f =
      λ f right most _ e.
      let header = eqb-true (message_length s) long_header (rw first at e) in
      (right_taken s (takes_long given c) right header, rw (first, length-drop) (omega (arith, header, most))) in
      cond_either Fits (wrong_header (takes_long given c) s) _ _ (λ _. unwritten Wrong refl)
      (λ right. cond_either Fits (eqb body (message_length s)) _ _
      (λ e. long (Whole (message_length s)) right (omega (arith, eqb-true body (message_length s) e)))
      (λ _. cond_either Fits (eqb (length s) 16 && ltb body (message_length s)) _ _
      (λ e. long Begun right (omega (arith, ltb-true body (message_length s) (and_right (eqb (length s) 16) _ e)))) (λ _. unwritten Wrong refl)))

  -- a later packet of a long message, where it ends
  later : eqb (link p) 2 ≡ false → (f : Fate) → t.place + length s ≤ t.length → Fits f
  unfolding place_of is_long message_part longest_at longest_long longest
  later other f end _ e = go (takes_long given c) (slot_in_range_facts t range).short
    where
      go : (taken : Bool) → t.length ≤ cond taken longest_long longest
          → (taken ≡ true) × (cond (eqb (link p) 2) 0 t.place + length (cond (eqb (link p) 2) (drop (header_length s) s) s) ≤ longest_long)
      go true most = (refl, rw other (omega (arith, most, end)))
      go false most = absurd (omega (arith, most, ltb-true longest t.length (rw other at e)))

  fits-between : eqb (link p) 2 ≡ false → Fits (between_fate t s)
  unfolding between_fate writes
  fits-between other =
      cond_either Fits (eqb (length s) 16 && ltb (t.place + 16) t.length) _ _
      (λ e. later other Held
      (omega (arith, eqb-true (length s) 16 (and_left (eqb (length s) 16) _ e), ltb-true (t.place + 16) t.length (and_right (eqb (length s) 16) _ e))))
      (λ _. unwritten Wrong refl)

  fits_last : eqb (link p) 2 ≡ false → Fits (last_fate t s)
  unfolding last_fate writes
  fits_last other =
      let end : ℕ = t.place + length s in
      cond_either Fits (ltb longest t.length) _ _
      (λ _. cond_either Fits (ltb longest end && leb end t.length) _ _
      (λ e. later other (Whole end) (leb-true end t.length (and_right (ltb longest end) _ e))) (λ _. unwritten Wrong refl))
      (λ _. cond_either Fits (eqb end t.length) _ _ (λ e. later other (Whole t.length) (omega (arith, eqb-true end t.length e))) (λ _. unwritten Wrong refl))

  fits_fate : Fits fate
  unfolding fate_of writes
  fits_fate =
      cond_either Fits (is_copy t p) _ _ (λ _. unwritten Copy refl)
      (λ _. cond_either Fits (eqb (link p) 2) _ _ fits_first
      (λ other. cond_either Fits (not (still_open t p)) _ _ (λ _. unwritten Orphan refl)
      (λ _. cond_either Fits (eqb (link p) 0) _ _ (λ _. fits-between other) (λ _. fits_last other))))

  -- so it stands in a buffer that is long enough where it is given
  pub fate_fits : (long : List ℕ) → (given ≡ true → longest_long ≤ length long) → fits_long fate t p long ≡ true
  unfolding fits_long takes_long
  fate_fits long enough = go (writes fate && is_long t p) refl
    where
      go : (b : Bool) → (writes fate && is_long t p) ≡ b
          → (not b || leb (place_of t p + length (message_part p)) (length long)) ≡ true
      go true e =
          let (taken, end) = fits_fate (and_left (writes fate) (is_long t p) e) (and_right (writes fate) (is_long t p) e) in
          le-leb (place_of t p + length (message_part p)) (length long) (omega (arith, end, enough (and_left given _ taken)))
      go false e = refl

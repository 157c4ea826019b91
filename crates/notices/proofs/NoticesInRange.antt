-- Notices in range: what a packet tells is, where the slots are in range.
use Rattle.std.proofs.Common.{◌≡◌, ℕ, ◌+◌, ◌-◌, ◌<◌, ◌≤◌, Bool, true, false, cond, not, ◌&&◌, eqb, ltb, leb, List, length, take, refl, arith, eqb-true, leb-true}
use Rattle.std.specs.Prelude.{Option, None, Some}
use borrow.Author.Tests.{eqb-false}
use Rattle.bits.specs.Bits.{Bytes}
use Rattle.bits.proofs.Bits.{get_or-Bytes}
use Rattle.bits.proofs.Tests.{and_right}
use Rattle.packet.specs.declared.Circuits.{Circuits}
use Rattle.packet.specs.Circuits.{listed, number_from}
use Rattle.packet.specs.Messages.{longest, longest_long}
use Rattle.packet.specs.Stores.{takes_long, longest_at}
use Rattle.packet.proofs.Choices.{cond_either}
use Rattle.parsing.specs.Packets.{address, link, index, segment_in, circuit_in, enable, malformed}
use Rattle.parsing.specs.Headers.{header_length, message_length, wrong_header}
use Rattle.parsing.proofs.PacketParts.{right_code, right_information}
use Rattle.parsing.proofs.HeaderParts.{segment_second}
use Rattle.notices.specs.declared.Slot.{Slot}
use Rattle.notices.specs.declared.Fate.{Fate}
use Rattle.notices.specs.declared.Fate.TheVariants.{Copy, Begun, Held, Whole, Orphan, Wrong}
use Rattle.notices.specs.declared.Notice.{Notice}
use Rattle.notices.specs.declared.Notice.TheVariants.{End, Spoilt, Malformed, System, Elsewhere, Circuit}
use Rattle.notices.specs.declared.Hearing.{Hearing}
use Rattle.notices.specs.Slots.{slot_at, slot_in_range, slots_in_range}
use Rattle.notices.specs.Fates.{is_copy, loss_of, still_open, first_fate, between_fate, last_fate, fate_of}
use Rattle.notices.specs.Heard.{heard_at, heard_by, system_heard, heard}
use Rattle.notices.proofs.FateLaws.{slot_in_range_facts, open_length-least, open_length-taken}
use Rattle.notices.proofs.Hearings.{number_slot}

-- ---- what is in range

-- a whole message has so many bytes at most
unfoldable pub FateInRange : ℕ → Fate → Type 0
FateInRange most Copy = Unit {0}
FateInRange most Begun = Unit {0}
FateInRange most Held = Unit {0}
FateInRange most (Whole n) = n ≤ most
FateInRange most Orphan = Unit {0}
FateInRange most Wrong = Unit {0}

-- by the length that its circuit number may have
pub record CircuitInRange (given : Bool) (c l : ℕ) (f : Fate) : Type 0 where
  pub number : c < 4
  pub loss : l ≤ 6
  pub fate : FateInRange (longest_at given c) f

pub record SystemInRange (e c n : ℕ) : Type 0 where
  pub enable : e ≤ 15
  pub code : c ≤ 8
  pub information : n ≤ 15

unfoldable pub NoticeInRange : Bool → Notice → Type 0
NoticeInRange given End = Unit {0}
NoticeInRange given Spoilt = Unit {0}
NoticeInRange given Malformed = Unit {0}
NoticeInRange given (System enable code n) = SystemInRange enable code n
NoticeInRange given Elsewhere = Unit {0}
NoticeInRange given (Circuit c loss fate) = CircuitInRange given c loss fate

-- ---- a circuit's packet

module _ (t : Slot) (p : List ℕ) where
  loss_in_range : t.last ≤ 7 → cond (is_copy t p) 0 (loss_of t p) ≤ 6
  unfolding loss_of is_copy index
  loss_in_range low =
      cond_either (λ (n : ℕ). n ≤ 6) (is_copy t p) _ _ (λ _. omega arith)
      (λ new. cond_either (λ (n : ℕ). n ≤ 6) t.seen _ _
      (λ seen. let other = eqb-false (index p) t.last (rw seen at new) in omega (arith, other, low)) (λ _. omega arith))

  module _ (taken : Bool) (bytes : Bytes p) (range : slot_in_range (cond taken longest_long longest) t ≡ true) where
    abbrev Right : Fate → Type 0
    Right = FateInRange (cond taken longest_long longest)

    -- a message in one packet has the length that the header holds
    first_in_range : Right (first_fate taken (segment_in p))
    unfolding first_fate FateInRange
    first_in_range =
        let s : List ℕ = segment_in p in
        let body : ℕ = length s - header_length s in
        let second = segment_second s p refl (get_or-Bytes p bytes) in
        cond_either Right (wrong_header taken s) _ _ (λ _. tt)
        (λ right. cond_either Right (eqb body (message_length s)) _ _ (λ _. omega (arith, open_length-least s second, open_length-taken s second taken right))
        (λ _. cond_either Right (eqb (length s) 16 && ltb body (message_length s)) _ _ (λ _. tt) (λ _. tt)))

    between_in_range : Right (between_fate t (segment_in p))
    unfolding between_fate FateInRange
    between_in_range =
        cond_either Right (eqb (length (segment_in p)) 16 && ltb (t.place + 16) t.length) _ _ (λ _. tt) (λ _. tt)

    -- one in several has the slot's, or of a long message at most that
    last_in_range : Right (last_fate t (segment_in p))
    unfolding last_fate FateInRange
    last_in_range =
        let end : ℕ = t.place + length (segment_in p) in
        let most = (slot_in_range_facts t range).short in
        cond_either Right (ltb longest t.length) _ _
        (λ _. cond_either Right (ltb longest end && leb end t.length) _ _
        (λ e. omega (arith, most, leb-true end t.length (and_right (ltb longest end) _ e))) (λ _. tt))
        (λ _. cond_either Right (eqb end t.length) _ _ (λ _. most) (λ _. tt))

    fate_in_range : Right (fate_of taken t p)
    unfolding fate_of FateInRange
    fate_in_range =
        cond_either Right (is_copy t p) _ _ (λ _. tt)
        (λ _. cond_either Right (eqb (link p) 2) _ _ (λ _. first_in_range)
        (λ _. cond_either Right (not (still_open t p)) _ _ (λ _. tt)
        (λ _. cond_either Right (eqb (link p) 0) _ _ (λ _. between_in_range) (λ _. last_in_range))))

-- ---- any packet

module _ (given : Bool) where
  system_in_range : (slots : List Slot) (p : List ℕ) → malformed p ≡ false → address p ≡ 0xff → NoticeInRange given (system_heard slots p).notice
  unfolding system_heard NoticeInRange enable
  system_in_range slots p right there =
      record { enable = omega arith; code = right_code p right there; information = right_information p right there }

  module _ (cs : Circuits) (slots : List Slot) (range : slots_in_range given 0 (take cs.count slots) ≡ true) (few : cs.count ≤ 4)
      (p : List ℕ) (bytes : Bytes p) where
    circuit_in_range : (o : Option ℕ) → ((n : ℕ) → o ≡ Some n → (n < 4) × (slot_in_range (longest_at given n) (slot_at slots n) ≡ true))
        → NoticeInRange given (heard_by given o slots p).notice
    unfolding heard_by heard_at NoticeInRange longest_at
    circuit_in_range None known = tt
    circuit_in_range (Some c) known =
        let t : Slot = slot_at slots c in
        let (number, right) = known c refl in
        record { number = number; loss = loss_in_range t p (slot_in_range_facts t right).last; fate = fate_in_range t p (takes_long given c) bytes right }

    pub heard_notice_in_range : NoticeInRange given (heard given cs slots p).notice
    unfolding heard NoticeInRange
    heard_notice_in_range =
        cond_either (λ (h : Hearing). NoticeInRange given h.notice) (malformed p) _ _ (λ _. tt)
        (λ right. cond_either (λ (h : Hearing). NoticeInRange given h.notice) (eqb (address p) 0xff) _ _
        (λ there. system_in_range slots p right (eqb-true (address p) 0xff there))
        (λ _. circuit_in_range (number_from (listed cs) (circuit_in p) 0) (number_slot given cs slots range few (circuit_in p))))

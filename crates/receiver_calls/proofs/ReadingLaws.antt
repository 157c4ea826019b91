-- Reading by the receiver whose record is in bytes: a packet that is heard there, and what a refusal, a scan without a packet and one with a packet make of
-- the bytes lent.
use Prim.Native.Nat.{ℕ, ◌-◌, ◌≤◌}
use mathlib.Core.Bool.{true}
use mathlib.Core.List.{List, [], ◌∷◌}
use mathlib.Core.Path.{◌≡◌, refl, sym, ap, ◌∙◌}
use native.Mathlib.Omega.{arith}
use lib.ListN.{length, take}
use lib.Seq.{slice, sets}
use types.Run.{OneOf}
use denote.Enum.Declared.{tag_of}
use Rattle.std.proofs.Common.{Result, Ok, Err}
use Rattle.bits.specs.Bits.{Bytes, bits_of}
use Rattle.packet.specs.declared.Refusal.{Refusal}
use Rattle.packet.specs.Answers.{answer_of}
use Rattle.packet.proofs.AnswerNumbers.{answer_of-Ok}
use Rattle.framing.specs.declared.Framing.{Framing}
use Rattle.framing.specs.declared.Scan.{Scan}
use Rattle.framing.specs.declared.Check.TheVariants.{Packet}
use Rattle.framing.specs.Range.{in_range as framing_in_range}
use Rattle.framing.specs.Scanning.{scan}
use Rattle.framing.specs.contracts.Check.{the_type}
use Rattle.framing.proofs.ScanInRange.{Array21}
use Rattle.packet.specs.Stores.{Stores}
use Rattle.notices.specs.declared.Notice.{Notice}
use Rattle.notices.specs.declared.Hearing.{Hearing}
use Rattle.notices.specs.Stores.{stores_after_notice}
use Rattle.notices.specs.Heard.{heard}
use Rattle.receiver.specs.declared.Receiver.{Receiver}
use Rattle.receiver.specs.declared.Told.{Told}
use Rattle.receiver.specs.Reading.{passed, quiet_notice, read_scan, read_refusal, stores_after_read, told_by_read, ReadCalled}
use Rattle.receiver.proofs.InRange.{arrays}
use Rattle.receiver.proofs.ReadLaws.{told_by, some_refusal, framing_in_range_lem, from_least, packed, packet_lengths, ReadCalled_quiet, ReadCalled-packet}
use Rattle.framing_layout.specs.FramingBytes.{framing_bytes, framing_in}
use Rattle.receiver_layout.specs.ReceiverBytes.{receiver_length, receiver_bytes, receiver_in, is_receiver}
use Rattle.receiver_layout.specs.Answers.{read_answer_bytes}
use Rattle.receiver_calls.specs.Reading.{record_after_read, answer_after_read}
use Rattle.receiver_layout.proofs.ReceiverRoundTrip.{receiver-fits}
use Rattle.receiver_calls.proofs.InPlace.{framing_in_place, same_in_place}

-- ---- a packet that is heard

module _ (bytes : List ℕ) (l : Stores) (p : List ℕ) where
  -- the notice, the bytes of the record and the stores then
  abbrev Passed : Notice → List ℕ → Stores → Type 0
  Passed n new after =
      (n ≡ (passed (receiver_in bytes) l p).notice) × (new ≡ sets bytes 0 (receiver_bytes (passed (receiver_in bytes) l p).receiver))
      × (after ≡ (passed (receiver_in bytes) l p).store)

  pub passed_by : {h : Hearing} → h ≡ heard l.given (receiver_in bytes).circuits (receiver_in bytes).slots p → {n : Notice} {new : List ℕ} {after : Stores} → n ≡ h.notice
      → new ≡ sets bytes 0 (receiver_bytes (record { circuits = (receiver_in bytes).circuits; slots = h.slots; framing = (receiver_in bytes).framing }))
      → after ≡ stores_after_notice h.notice (receiver_in bytes).slots p l → Passed n new after
  unfolding passed
  passed_by e told written stored = (told ∙ rw e, written ∙ rw e, stored ∙ rw e)

-- ---- what a call answers, and the bytes of the record, the stores and the answer then

module _ (bytes : List ℕ) (l : Stores) (bits : List ℕ) (from to : ℕ) (answer : List ℕ) where
  abbrev CallRead : Result (Unit {0}) Refusal → List ℕ → Stores → List ℕ → Type 0
  CallRead a new after new_answer =
      (a ≡ answer_of (read_refusal (receiver_in bytes) l bits from to)) × (new ≡ record_after_read bytes l bits from to)
      × (after ≡ stores_after_read (receiver_in bytes) l bits from to) × (new_answer ≡ answer_after_read bytes l bits from to answer)

  pub call_refused : {k : Refusal} → answer_of (read_refusal (receiver_in bytes) l bits from to) ≡ Err k → CallRead (Err k) bytes l answer
  unfolding record_after_read stores_after_read answer_after_read
  call_refused {k} e = let no = some_refusal (read_refusal (receiver_in bytes) l bits from to) k e in (sym e, rw no, rw no, rw no)

  -- an accepted call, on bytes that are a record's, of which the bits are scanned
  module _ {u : Unit {0}} (ok : answer_of (read_refusal (receiver_in bytes) l bits from to) ≡ Ok u) where
    none : read_refusal (receiver_in bytes) l bits from to ≡ 0
    none = answer_of-Ok (read_refusal (receiver_in bytes) l bits from to) u ok

    told : {left : Receiver} {after : Stores} {a : Told} → ReadCalled (receiver_in bytes) l bits from to left after (Ok a)
        → {new new_answer : List ℕ} → new ≡ sets bytes 0 (receiver_bytes left) → new_answer ≡ sets answer 0 (read_answer_bytes a.notice a.bits)
        → CallRead (Ok u) new after new_answer
    unfolding record_after_read answer_after_read told_by_read
    told {a = a} c written answered =
        let (zero, is) = told_by (read_refusal (receiver_in bytes) l bits from to) _ a c.told in
        (sym ok, written ∙ rw (none, c.receiver), c.store, answered ∙ rw (none, is))

    module _ (long : receiver_length ≤ length bytes) (are : Bytes bytes) where
      array : Array21 (receiver_in bytes).framing.bits
      array = let f = (receiver-fits bytes are long).framing in record { long = f.twenty_one; each = f.bits }

      module _ {f : Framing} (g : f ≡ framing_in bytes 37) where
        pub framing_left : framing_in_range f ≡ true
        unfolding receiver_in
        framing_left = rw g (framing_in_range_lem (receiver_in bytes) l bits from to none)

        module _ {s : Scan} (scanned : s ≡ scan f from (slice from to (bits_of bits))) where
          e : s ≡ scan (receiver_in bytes).framing from (slice from to (bits_of bits))
          unfolding receiver_in
          e = scanned ∙ rw g

          pub from_first : from ≤ s.at
          from_first = from_least (receiver_in bytes) l bits from to none e

          left : length s.framing.bits ≡ 21
          unfolding read_scan
          left = rw e (arrays (receiver_in bytes) l bits from to array).left.long

          module _ (is : is_receiver bytes ≡ true) where
            -- no packet passed
            pub call_quiet : OneOf (1 ∷ 2 ∷ []) (tag_of the_type s.check) → {n : Notice} → n ≡ quiet_notice s.check → {new new_answer : List ℕ}
                → new ≡ sets bytes 37 (framing_bytes s.framing) → new_answer ≡ sets answer 0 (read_answer_bytes n (s.at - from))
                → CallRead (Ok u) new l new_answer
            call_quiet t q written answered =
                told (ReadCalled_quiet (receiver_in bytes) l bits from to none e t q)
                (written ∙ ap (λ b. sets b 37 (framing_bytes s.framing)) (sym (same_in_place bytes long are is))
                ∙ framing_in_place bytes long (receiver_in bytes) array.long s.framing left)
                answered

          -- a packet passed, and is heard
          module _ {n : ℕ} (p : s.check ≡ Packet n) where
            pub packet_within : n ≤ 19
            packet_within = omega (arith, packed (receiver_in bytes) l bits from to none e p)

            pub lengths : n ≤ length s.bytes → (2 ≤ length (take n s.bytes)) × (length (take n s.bytes) ≤ 19)
            lengths inside = packet_lengths (receiver_in bytes) l bits from to none e p inside

            pub call_packet : {notice : Notice} {heard : List ℕ} {after : Stores} → Passed bytes l (take n s.bytes) notice heard after → {new new_answer : List ℕ}
                → new ≡ sets heard 37 (framing_bytes s.framing) → new_answer ≡ sets answer 0 (read_answer_bytes notice (s.at - from))
                → CallRead (Ok u) new after new_answer
            unfolding passed receiver_in
            call_packet {notice} h written answered =
                let receiver = (passed (receiver_in bytes) l (take n s.bytes)).receiver in
                told
                (ReadCalled-packet (receiver_in bytes) l bits from to none e p {left = receiver} {notice = notice} (h.0, refl, h.2))
                (written ∙ ap (λ b. sets b 37 (framing_bytes s.framing)) h.1 ∙ framing_in_place bytes long receiver array.long s.framing left)
                answered

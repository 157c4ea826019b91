-- Calls leave receivers in range: a fresh one is, and so is what a packet or a read leaves. So no reading call is refused with 14 whose receiver comes
-- from a listing and reading calls.
use Prim.Native.Nat.{ℕ, ◌*◌}
use mathlib.Core.Bool.{Bool, true, false, cond, ◌&&◌, ◌||◌}
use mathlib.Core.List.{List, [], ◌∷◌}
use mathlib.Core.Path.{◌≡◌, refl}
use native.Mathlib.Omega.{arith}
use lib.ListN.{length, take}
use lib.Seq.{slice}
use lib.Dec.{leb, ltb, eqb}
use borrow.Author.Tests.{le-leb, eq-eqb}
use Rattle.bits.specs.Bits.{bits_of, Bytes}
use Rattle.bits.proofs.Bits.{Bytes-take}
use Rattle.bits.proofs.Tests.{and_left, and_right}
use Rattle.packet.specs.Circuits.{circuits_refusal, listed, listing}
use Rattle.packet.specs.Stores.{Stores, long_short}
use Rattle.packet.proofs.AnswerNumbers.{is_ok-answer_of}
use Rattle.packet.proofs.CircuitLists.{listing-count, listing-refusal}
use Rattle.packet.proofs.Choices.{cond_either}
use Rattle.framing.specs.declared.Framing.{Framing}
use Rattle.framing.specs.declared.Check.{Check}
use Rattle.framing.specs.declared.Check.TheVariants.{Packet, Spoilt, Nothing}
use Rattle.framing.specs.declared.Scan.{Scan}
use Rattle.framing.specs.Range.{in_range as framing_in_range}
use Rattle.framing.proofs.ScanInRange.{Array21, Array21-fresh, Arrays, Arrays-scan, scan_in_range}
use Rattle.framing.proofs.ScanInRange.{fresh_in_range as framing-fresh-in-range}
use Rattle.notices.specs.Slots.{slots_in_range}
use Rattle.notices.specs.Stores.{store_length}
use Rattle.notices.proofs.SlotsInRange.{replicate-slots_in_range}
use Rattle.notices.proofs.Hearings.{heard_slots_in_range}
use Rattle.notices.proofs.StoreLaws.{SameLengths, same_lengths, lengths_stores_after_notice}
use Rattle.receiver.specs.declared.Receiver.{Receiver}
use Rattle.receiver.specs.Record.{fresh, in_range}
use Rattle.receiver.specs.Reading.{with_framing, Noticed, passed, noticed, read_by, read_scan, read_refusal, receiver_after_read, stores_after_read}
use Rattle.receiver.specs.Reads.{ReadCall, ReceiverEnd, fresh_receiver_end, after_read, after_reads}

-- the code asks of circuits whether listing them is accepted
pub ruleset listed_right = (is_ok-answer_of)

-- a record in range, by its parts
pub record Parts (given : Bool) (r : Receiver) : Type 0 where
  pub count : leb r.circuits.count 4 ≡ true
  pub circuits : eqb (circuits_refusal (listed r.circuits)) 0 ≡ true
  pub slots : slots_in_range given 0 (take r.circuits.count r.slots) ≡ true
  pub framing : framing_in_range r.framing ≡ true

pub in_range_parts : (given : Bool) (r : Receiver) → in_range given r ≡ true → Parts given r
unfolding in_range
in_range_parts given r e =
    let a : Bool = leb r.circuits.count 4 in
    let b : Bool = eqb (circuits_refusal (listed r.circuits)) 0 in
    let c : Bool = slots_in_range given 0 (take r.circuits.count r.slots) in
    let d : Bool = framing_in_range r.framing in
    let abc = and_left (a && b && c) d e in
    let ab = and_left (a && b) c abc in
    record { count = and_left a b ab; circuits = and_right a b ab; slots = and_right (a && b) c abc; framing = and_right (a && b && c) d e }

parts_in_range : (given : Bool) (r : Receiver) → Parts given r → in_range given r ≡ true
unfolding in_range
parts_in_range given r h = rw (h.count, h.circuits, h.slots, h.framing)

-- ---- a fresh receiver

pub fresh_in_range : (given : Bool) (bytes : List ℕ) → in_range given (fresh (listing bytes)) ≡ true
unfolding fresh
fresh_in_range given bytes =
    parts_in_range given (fresh (listing bytes))
    (record {
      count = le-leb (listing bytes).count 4 (listing-count bytes);
      circuits = eq-eqb (circuits_refusal (listed (listing bytes))) 0 (listing-refusal bytes);
      slots = replicate-slots_in_range given (listing bytes).count 4 0;
      framing = framing-fresh-in-range;
    })

-- ---- a packet

pub passed_in_range : (r : Receiver) (l : Stores) (p : List ℕ) → Bytes p → in_range l.given r ≡ true → in_range l.given (passed r l p).receiver ≡ true
unfolding passed
passed_in_range r l p b e =
    let k = in_range_parts l.given r e in
    parts_in_range l.given (passed r l p).receiver
    (record {
      count = k.count;
      circuits = k.circuits;
      slots = heard_slots_in_range l.given r.circuits r.slots k.slots p b;
      framing = k.framing;
    })

-- a packet does not look at the framing: what it leaves and tells, with another framing left
unfoldable pub with_framing_left : Noticed → Framing → Noticed
with_framing_left h f = record { receiver = with_framing h.receiver f; store = h.store; notice = h.notice }

pub passed-with_framing : (r : Receiver) (f : Framing) (l : Stores) (p : List ℕ) → passed (with_framing r f) l p ≡ with_framing_left (passed r l p) f
unfolding passed with_framing with_framing_left
passed-with_framing r f l p = refl

-- ---- a reading call

-- another framing
with_framing_in_range : (given : Bool) (r : Receiver) (f : Framing) → framing_in_range f ≡ true → in_range given r ≡ true
    → in_range given (with_framing r f) ≡ true
unfolding with_framing
with_framing_in_range given r f h e =
    let k = in_range_parts given r e in
    parts_in_range given (with_framing r f) (record { count = k.count; circuits = k.circuits; slots = k.slots; framing = h })

noticed_in_range : (c : Check) (bytes : List ℕ) (r : Receiver) (l : Stores) → Bytes bytes → in_range l.given r ≡ true
    → in_range l.given (noticed c bytes r l).receiver ≡ true
unfolding noticed
noticed_in_range (Packet n) bytes r l b e = passed_in_range r l (take n bytes) (Bytes-take n bytes b) e
noticed_in_range Spoilt bytes r l b e = e
noticed_in_range Nothing bytes r l b e = e

pub noticed-framing : (c : Check) (bytes : List ℕ) (r : Receiver) (l : Stores) → (noticed c bytes r l).receiver.framing ≡ r.framing
unfolding noticed passed
noticed-framing (Packet n) bytes r l = refl
noticed-framing Spoilt bytes r l = refl
noticed-framing Nothing bytes r l = refl

-- the stores keep their lengths, and that a long buffer is given
lengths_noticed : (c : Check) (bytes : List ℕ) (r : Receiver) (l : Stores) → SameLengths l (noticed c bytes r l).store
unfolding noticed passed
lengths_noticed (Packet n) bytes r l = lengths_stores_after_notice _ _ _ l
lengths_noticed Spoilt bytes r l = same_lengths l
lengths_noticed Nothing bytes r l = same_lengths l

pub lengths_stores_after_read : (r : Receiver) (l : Stores) (bytes : List ℕ) (from to : ℕ) → SameLengths l (stores_after_read r l bytes from to)
unfolding stores_after_read read_by
lengths_stores_after_read r l bytes from to =
    let s = read_scan r bytes from to in
    cond_either (SameLengths l) (eqb (read_refusal r l bytes from to) 0) _ _
    (λ _. lengths_noticed s.check s.bytes (with_framing r s.framing) l) (λ _. same_lengths l)

module _ (r : Receiver) (l : Stores) (bytes : List ℕ) (from to : ℕ) (h : Array21 r.framing.bits) where
  pub arrays : Arrays (read_scan r bytes from to)
  unfolding read_scan
  arrays = Arrays-scan (slice from to (bits_of bytes)) r.framing from h

  -- with the framing that the scan leaves
  pub scanned_in_range : in_range l.given r ≡ true → in_range l.given (with_framing r (read_scan r bytes from to).framing) ≡ true
  unfolding read_scan
  scanned_in_range e =
      with_framing_in_range l.given r (read_scan r bytes from to).framing
      (scan_in_range (slice from to (bits_of bytes)) r.framing from h (in_range_parts l.given r e).framing) e

  pub read_in_range : in_range l.given r ≡ true → in_range l.given (receiver_after_read r l bytes from to) ≡ true
  unfolding receiver_after_read read_by
  read_in_range e =
      let s : Scan = read_scan r bytes from to in
      cond_either (λ (q : Receiver). in_range l.given q ≡ true) (eqb (read_refusal r l bytes from to) 0) _ _
      (λ _. noticed_in_range s.check s.bytes (with_framing r s.framing) l arrays.told.each (scanned_in_range e))
      (λ _. e)

  -- and its framing's bits stand in 21 bytes again
  pub read_array : Array21 (receiver_after_read r l bytes from to).framing.bits
  unfolding receiver_after_read read_by with_framing
  read_array =
      let s : Scan = read_scan r bytes from to in
      cond_either (λ (q : Receiver). Array21 q.framing.bits) (eqb (read_refusal r l bytes from to) 0) _ _
      (λ _. rw (noticed-framing s.check s.bytes (with_framing r s.framing) l) arrays.left)
      (λ _. h)

-- ---- reading calls from a listing on

-- a call leaves the record in range, of an end that has the long buffer or none as before
pub after_read_in_range : (e : ReceiverEnd) (c : ReadCall) → Array21 e.receiver.framing.bits → in_range e.store.given e.receiver ≡ true
    → in_range (after_read e c).store.given (after_read e c).receiver ≡ true
unfolding after_read
after_read_in_range e c h k =
    rw (lengths_stores_after_read e.receiver e.store c.bytes c.from c.to).given
    (read_in_range e.receiver e.store c.bytes c.from c.to h k)

reads_in_range : (cs : List ReadCall) (e : ReceiverEnd) → Array21 e.receiver.framing.bits → in_range e.store.given e.receiver ≡ true
    → in_range (after_reads e cs).store.given (after_reads e cs).receiver ≡ true
unfolding after_reads after_read
reads_in_range [] e h k = k
reads_in_range (c ∷ cs) e h k =
    reads_in_range cs (after_read e c) (read_array e.receiver e.store c.bytes c.from c.to h) (after_read_in_range e c h k)

-- no record that calls made is refused with 14
in-range-not-14 : (r : Receiver) (l : Stores) (bytes : List ℕ) (from to : ℕ) → in_range l.given r ≡ true → read_refusal r l bytes from to ≡ 14 → ⊥
unfolding read_refusal
in-range-not-14 r l bytes from to e h =
    go (ltb (length l.store) store_length) (long_short l) (ltb to from || ltb (8 * length bytes) to) (rw e at h)
  where
    go : (a b c : Bool) → ◌≡◌ {A = ℕ} (cond a 5 (cond b 19 (cond c 15 0))) 14 → ⊥
    go true b c k = omega arith
    go false true c k = omega arith
    go false false true k = omega arith
    go false false false k = omega arith

pub never_14 : (list : List ℕ) (l : Stores) (calls : List ReadCall) (bytes : List ℕ) (from to : ℕ)
    → (let e = after_reads (fresh_receiver_end list l) calls in read_refusal e.receiver e.store bytes from to ≡ 14) → ⊥
unfolding fresh
never_14 list l calls bytes from to =
    let e : ReceiverEnd = after_reads (fresh_receiver_end list l) calls in
    in-range-not-14 e.receiver e.store bytes from to
    (reads_in_range calls (fresh_receiver_end list l) Array21-fresh (fresh_in_range l.given list))

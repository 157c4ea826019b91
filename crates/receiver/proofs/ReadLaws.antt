-- Reading calls: the code's tests are those of the definition of the refusals, what is known where none of them holds, and what a refusal, a scan without
-- a packet and a packet that is heard make of the call.
use Prim.Native.Nat.{ℕ, ◌-◌, ◌*◌, ◌≤◌}
use mathlib.Core.Bool.{Bool, true, false, cond, not, ◌||◌}
use mathlib.Core.List.{List, [], ◌∷◌}
use mathlib.Core.Logic.{⊎_elim}
use mathlib.Core.Path.{◌≡◌, refl, sym, ◌∙◌}
use native.Mathlib.Omega.{arith}
use Rattle.std.proofs.Common.{Result, Ok, Err}
use lib.ListN.{length, take}
use lib.Seq.{slice, length-take-le}
use lib.Dec.{ltb, eqb}
use types.Run.{OneOf}
use denote.Enum.Declared.{tag_of}
use borrow.Author.Rules.{rules}
use borrow.Author.Tests.{ltb-false, leb-true, eqb-true, not-false}
use Rattle.bits.specs.Bits.{bits_of}
use Rattle.bits.proofs.Tests.{or_left, or_right}
use Rattle.packet.specs.declared.Refusal.{Refusal}
use Rattle.packet.specs.Answers.{refusal_of, answered, answer_of}
use Rattle.packet.specs.Messages.{longest_long}
use Rattle.packet.specs.Stores.{Stores, long_short}
use Rattle.packet.proofs.AnswerNumbers.{answer_number-answered, answer_of-Ok, answered-Err}
use Rattle.framing.specs.declared.Check.{Check}
use Rattle.framing.specs.declared.Check.TheVariants.{Packet, Spoilt, Nothing}
use Rattle.framing.specs.declared.Scan.{Scan}
use Rattle.framing.specs.Range.{in_range as framing_in_range}
use Rattle.framing.specs.Scanning.{scan}
use Rattle.framing.specs.contracts.Check.{the_type}
use Rattle.framing.proofs.Scanned.{Packed, scan-least, scan-packet}
use Rattle.notices.specs.declared.Notice.{Notice}
use Rattle.notices.specs.declared.Hearing.{Hearing}
use Rattle.notices.specs.Slots.{slots_in_range}
use Rattle.notices.specs.Stores.{store_length, stores_after_notice, writable}
use Rattle.notices.specs.Heard.{heard}
use Rattle.notices.proofs.Hearings.{heard-writable}
use Rattle.receiver.specs.declared.Receiver.{Receiver}
use Rattle.receiver.specs.Record.{in_range}
use Rattle.receiver.specs.Reading.{
  with_framing,
  Noticed,
  passed,
  noticed,
  quiet_notice,
  read_by,
  read_scan,
  read_refusal,
  receiver_after_read,
  stores_after_read,
  bits_read,
  read_of,
  read_number,
  answer_to_read,
  told_by_read,
  ReadCalled,
}
use Rattle.receiver.proofs.InRange.{in_range_parts, with_framing_left, passed-with_framing}

-- an answer's number is the refusal's, and 0 for a notice
pub read_number-read_of : (refusal : ℕ) (notice : Notice) → refusal ≤ 19 → read_number (read_of refusal notice) ≡ refusal
unfolding read_number read_of
read_number-read_of refusal notice most = answer_number-answered refusal notice most

-- what an accepted call answers
pub told_by : {A : Type 0} (n : ℕ) (a b : A) → Ok b ≡ answered n a → (n ≡ 0) × (b ≡ a)
unfolding answered
told_by {A} n a b = go (eqb n 0) refl
  where
    go : (t : Bool) → eqb n 0 ≡ t → ◌≡◌ {A = Result A Refusal} (Ok b) (cond t (Ok a) (Err (refusal_of n))) → (n ≡ 0) × (b ≡ a)
    go true e f = (eqb-true n 0 e, cc)
    go false e f = (cc, cc)

-- a call whose answer accepts is given no number
pub accepts : {n : ℕ} {a : Result (Unit {0}) Refusal} {u : Unit {0}} → a ≡ answer_of n → a ≡ Ok u → n ≡ 0
accepts {n} {u = u} made is = answer_of-Ok n u (sym made ∙ is)

-- the number of an answer that refuses
pub some_refusal : (n : ℕ) (r : Refusal) → answer_of n ≡ Err r → eqb n 0 ≡ false
unfolding answer_of answered
some_refusal n r = go (eqb n 0)
  where
    go : (t : Bool) → ◌≡◌ {A = Result (Unit {0}) Refusal} (cond t (Ok tt) (Err (refusal_of n))) (Err r) → t ≡ false
    go true h = cc
    go false h = refl

-- so an answer has the number of its call's refusal
pub read_refusal-most : (r : Receiver) (l : Stores) (bytes : List ℕ) (from to : ℕ) → read_refusal r l bytes from to ≤ 19
unfolding read_refusal
read_refusal-most r l bytes from to =
    go (not (in_range l.given r)) (ltb (length l.store) store_length) (long_short l) (ltb to from || ltb (8 * length bytes) to)
  where
    go : (a b c d : Bool) → cond a 14 (cond b 5 (cond c 19 (cond d 15 0))) ≤ 19
    go true b c d = omega arith
    go false true c d = omega arith
    go false false true d = omega arith
    go false false false true = omega arith
    go false false false false = omega arith

pub answer_to_read-number : (r : Receiver) (l : Stores) (bytes : List ℕ) (from to : ℕ)
    → read_number (answer_to_read r l bytes from to) ≡ read_refusal r l bytes from to
unfolding answer_to_read
answer_to_read-number r l bytes from to = read_number-read_of (read_refusal r l bytes from to) _ (read_refusal-most r l bytes from to)

-- ---- an accepted call

-- no test holds if no number is given
none-holds : (a b c d : Bool) → ◌≡◌ {A = ℕ} (cond a 14 (cond b 5 (cond c 19 (cond d 15 0)))) 0 → (a ≡ false) × (b ≡ false) × (c ≡ false) × (d ≡ false)
none-holds true b c d h = absurd (omega arith)
none-holds false true c d h = absurd (omega arith)
none-holds false false true d h = absurd (omega arith)
none-holds false false false true h = absurd (omega arith)
none-holds false false false false h = (refl, refl, refl, refl)

-- what is known of a reading call that is accepted
pub record Accepted (r : Receiver) (l : Stores) (bytes : List ℕ) (from to : ℕ) : Type 0 where
  pub range : in_range l.given r ≡ true
  pub enough : store_length ≤ length l.store
  pub long : l.given ≡ true → longest_long ≤ length l.long
  pub order : from ≤ to
  pub lent : to ≤ 8 * length bytes

-- a long buffer that is given is long enough, or too short
pub long_enough : (l : Stores) → long_short l ≡ false → l.given ≡ true → longest_long ≤ length l.long
unfolding long_short
long_enough l right given = ltb-false (length l.long) longest_long (rw given at right)

pub accepted : (r : Receiver) (l : Stores) (bytes : List ℕ) (from to : ℕ) → read_refusal r l bytes from to ≡ 0 → Accepted r l bytes from to
unfolding read_refusal
accepted r l bytes from to e =
    let (range, short, right, bits) =
    none-holds (not (in_range l.given r)) (ltb (length l.store) store_length) (long_short l) (ltb to from || ltb (8 * length bytes) to) e in
    record {
      range = not-false (in_range l.given r) range;
      enough = ltb-false (length l.store) store_length short;
      long = long_enough l right;
      order = ltb-false to from (or_left (ltb to from) (ltb (8 * length bytes) to) bits);
      lent = ltb-false (8 * length bytes) to (or_right (ltb to from) (ltb (8 * length bytes) to) bits);
    }

-- ---- what a packet makes

module _ (r : Receiver) (l : Stores) (p : List ℕ) where
  -- it can be heard, and what its notice writes can be written
  module _ (range : in_range l.given r ≡ true) where
    pub before_hearing : (r.circuits.count ≤ 4) × (slots_in_range l.given 0 (take r.circuits.count r.slots) ≡ true)
    before_hearing = let k = in_range_parts l.given r range in (leb-true r.circuits.count 4 k.count, k.slots)

    pub before_writing : (l.given ≡ true → longest_long ≤ length l.long) → {h : Hearing} → h ≡ heard l.given r.circuits r.slots p
        → writable h.notice r.slots p l.long ≡ true
    before_writing long e = rw e (heard-writable l.given r.circuits r.slots before_hearing.1 before_hearing.0 p l.long long)

  -- what is heard of it, and what is written then
  pub passed-made : {h : Hearing} {new : Stores} → h ≡ heard l.given r.circuits r.slots p → new ≡ stores_after_notice h.notice r.slots p l
      → (h.notice ≡ (passed r l p).notice) × (record { circuits = r.circuits; slots = h.slots; framing = r.framing } ≡ (passed r l p).receiver)
      × (new ≡ (passed r l p).store)
  unfolding passed
  passed-made e written = (rw e, rw e, written ∙ rw e)

-- ---- what a call makes

-- a body that gave no packet is spoilt, or nothing
pub quiet_check : (k : Check) → ((n : ℕ) → k ≡ Packet n → ⊥) → OneOf (1 ∷ 2 ∷ []) (tag_of the_type k)
quiet_check (Packet n) h = absurd (h n refl)
quiet_check Spoilt h = search rules
quiet_check Nothing h = search rules

-- a body of which the code knows that it gave no packet
noticed_quiet : (k : Check) (bytes : List ℕ) (r : Receiver) (l : Stores) → OneOf (1 ∷ 2 ∷ []) (tag_of the_type k)
    → noticed k bytes r l ≡ record { receiver = r; store = l; notice = quiet_notice k }
unfolding noticed quiet_notice
noticed_quiet (Packet n) bytes r l t = absurd (⊎_elim (λ z. omega arith) (λ z. omega arith) t)
noticed_quiet Spoilt bytes r l t = refl
noticed_quiet Nothing bytes r l t = refl

module _ (r : Receiver) (l : Stores) (bytes : List ℕ) (from to : ℕ) where
  -- a refused call
  pub ReadCalled_refused : (k : Refusal) → answer_of (read_refusal r l bytes from to) ≡ Err k → ReadCalled r l bytes from to r l (Err k)
  unfolding receiver_after_read stores_after_read told_by_read
  ReadCalled_refused k e =
      let no = some_refusal (read_refusal r l bytes from to) k e in
      record { receiver = rw no; told = sym (answered-Err (read_refusal r l bytes from to) _ k e); store = rw no }

  module _ (h : read_refusal r l bytes from to ≡ 0) where
    known : Accepted r l bytes from to
    known = accepted r l bytes from to h

    pub framing_in_range_lem : framing_in_range r.framing ≡ true
    framing_in_range_lem = (in_range_parts l.given r known.range).framing

    pub before_scan : (from ≤ to) × (to ≤ 8 * length bytes)
    before_scan = (known.order, known.lent)

    -- the bits are scanned
    module _ {s : Scan} (e : s ≡ scan r.framing from (slice from to (bits_of bytes))) where
      pub from_least : from ≤ s.at
      from_least = rw e (scan-least (slice from to (bits_of bytes)) r.framing from)

      -- what is heard of them makes the call
      called : (a : Noticed) → read_by s r l ≡ a
          → ReadCalled r l bytes from to a.receiver a.store (Ok (record { notice = a.notice; bits = s.at - from }))
      unfolding receiver_after_read stores_after_read bits_read told_by_read answered read_scan
      called a d = record { receiver = rw (h, ← e, d); told = rw (h, ← e, d); store = rw (h, ← e, d) }

      -- no packet passed
      pub ReadCalled_quiet : OneOf (1 ∷ 2 ∷ []) (tag_of the_type s.check) → {n : Notice} → n ≡ quiet_notice s.check
          → ReadCalled r l bytes from to (with_framing r s.framing) l (Ok (record { notice = n; bits = s.at - from }))
      unfolding read_by
      ReadCalled_quiet t d =
          rw d
          (called (record { receiver = with_framing r s.framing; store = l; notice = quiet_notice s.check })
          (noticed_quiet s.check s.bytes (with_framing r s.framing) l t))

      -- a packet passed
      module _ {n : ℕ} (p : s.check ≡ Packet n) where
        pub packed : Packed n
        packed = scan-packet (slice from to (bits_of bytes)) r.framing from n (rw e at p)

        pub packet_lengths : n ≤ length s.bytes → (2 ≤ length (take n s.bytes)) × (length (take n s.bytes) ≤ 19)
        packet_lengths h =
            let long : length (take n s.bytes) ≡ n = length-take-le n s.bytes h in
            (omega (arith, packed), omega (arith, packed))

        pub ReadCalled-packet : {left : Receiver} {new : Stores} {notice : Notice}
            → (notice ≡ (passed r l (take n s.bytes)).notice) × (left ≡ (passed r l (take n s.bytes)).receiver)
            × (new ≡ (passed r l (take n s.bytes)).store)
            → ReadCalled r l bytes from to (with_framing left s.framing) new (Ok (record { notice = notice; bits = s.at - from }))
        unfolding read_by noticed with_framing_left
        ReadCalled-packet (told, receiver, after) =
            rw (told, receiver, after)
            (called (with_framing_left (passed r l (take n s.bytes)) s.framing) (rw p (passed-with_framing r s.framing l (take n s.bytes))))

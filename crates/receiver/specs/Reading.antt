-- Reading (document 01, "Notices" and "Calls and their refusals"): "A read goes bit by bit and stops after the first notice, or at the end with End. It
-- returns record, notice and bits read."
use Rattle.std.specs.Prelude.{ℕ, ◌-◌, ◌*◌, cond, not, ◌||◌, List, Result, ◌≡◌, length, take, ltb, eqb}
use Rattle.std.proofs.Math.Seq.{slice}
use Rattle.bits.specs.Bits.{bits_of}
use Rattle.packet.specs.declared.Refusal.{Refusal}
use Rattle.packet.specs.Answers.{answered, answer_number}
use Rattle.packet.specs.Stores.{Stores, long_short}
use Rattle.framing.specs.declared.Framing.{Framing}
use Rattle.framing.specs.declared.Check.{Check}
use Rattle.framing.specs.declared.Check.TheVariants.{Packet, Nothing}
use Rattle.framing.specs.declared.Check.TheVariants.{Spoilt as SpoiltBody}
use Rattle.framing.specs.declared.Scan.{Scan}
use Rattle.framing.specs.Scanning.{scan}
use Rattle.notices.specs.declared.Notice.{Notice}
use Rattle.notices.specs.declared.Notice.TheVariants.{End, Spoilt}
use Rattle.notices.specs.declared.Hearing.{Hearing}
use Rattle.notices.specs.Stores.{store_length, stores_after_notice}
use Rattle.notices.specs.Heard.{heard}
use Rattle.receiver.specs.declared.Receiver.{Receiver}
use Rattle.receiver.specs.declared.Told.{Told}
use Rattle.receiver.specs.Record.{in_range}

-- the record with another framing
unfoldable pub with_framing : Receiver → Framing → Receiver
with_framing r f = record { circuits = r.circuits; slots = r.slots; framing = f }

-- receiver and stores after a body, and the notice
pub record Noticed : Type 0 where
  pub receiver : Receiver
  pub store : Stores
  pub notice : Notice

-- what a packet that passed leaves and tells
unfoldable pub passed : Receiver → Stores → List ℕ → Noticed
passed r l p =
    let h : Hearing = heard l.given r.circuits r.slots p in
    record {
      receiver = record { circuits = r.circuits; slots = h.slots; framing = r.framing };
      store = stores_after_notice h.notice r.slots p l;
      notice = h.notice;
    }

-- "Each body that passes gives one notice; one that does not, and unstuffs to 32 bits or more, gives Spoilt. Others, void ones too, give none"
unfoldable pub noticed : Check → List ℕ → Receiver → Stores → Noticed
noticed (Packet n) bytes r l = passed r l (take n bytes)
noticed SpoiltBody bytes r l = record { receiver = r; store = l; notice = Spoilt }
noticed Nothing bytes r l = record { receiver = r; store = l; notice = End }

-- the notice where no packet passed
unfoldable pub quiet_notice : Check → Notice
quiet_notice (Packet n) = End
quiet_notice SpoiltBody = Spoilt
quiet_notice Nothing = End

-- what a scan of bits leaves and tells
unfoldable pub read_by : Scan → Receiver → Stores → Noticed
read_by s r l = noticed s.check s.bytes (with_framing r s.framing) l

-- the scan of a reading call
unfoldable pub read_scan : Receiver → List ℕ → ℕ → ℕ → Scan
read_scan r bytes from to = scan r.framing from (slice from to (bits_of bytes))

-- "Reading (from bit, to bit): 14; 5; 15 from above to, or to past the bytes lent"; "19 long buffer too short, after 5 in every call given one" (document
-- 02, ask 7); 0 if it is accepted
unfoldable pub read_refusal : Receiver → Stores → List ℕ → ℕ → ℕ → ℕ
read_refusal r l bytes from to =
    cond (not (in_range l.given r)) 14
    (cond (ltb (length l.store) store_length) 5
    (cond (long_short l) 19
    (cond (ltb to from || ltb (8 * length bytes) to) 15 0)))

-- "All refusals return .. the record given, and leave every lent byte unchanged"; "These stop at no bit read"
unfoldable pub receiver_after_read : Receiver → Stores → List ℕ → ℕ → ℕ → Receiver
receiver_after_read r l bytes from to =
    cond (eqb (read_refusal r l bytes from to) 0) (read_by (read_scan r bytes from to) r l).receiver r

unfoldable pub stores_after_read : Receiver → Stores → List ℕ → ℕ → ℕ → Stores
stores_after_read r l bytes from to =
    cond (eqb (read_refusal r l bytes from to) 0) (read_by (read_scan r bytes from to) r l).store l

unfoldable pub bits_read : Receiver → Stores → List ℕ → ℕ → ℕ → ℕ
bits_read r l bytes from to = cond (eqb (read_refusal r l bytes from to) 0) ((read_scan r bytes from to).at - from) 0

-- the answer to a reading call: the notice, or the refusal with a number
unfoldable pub read_of : ℕ → Notice → Result Notice Refusal
read_of refusal notice = answered refusal notice

-- the number of an answer in the documents: 0 stands for a notice
unfoldable pub read_number : Result Notice Refusal → ℕ
read_number a = answer_number a

unfoldable pub answer_to_read : Receiver → Stores → List ℕ → ℕ → ℕ → Result Notice Refusal
answer_to_read r l bytes from to = read_of (read_refusal r l bytes from to) (read_by (read_scan r bytes from to) r l).notice

-- the answer with the bits read beside the notice
unfoldable pub told_by_read : Receiver → Stores → List ℕ → ℕ → ℕ → Result Told Refusal
told_by_read r l bytes from to =
    answered (read_refusal r l bytes from to)
    (record { notice = (read_by (read_scan r bytes from to) r l).notice; bits = bits_read r l bytes from to })

-- what a reading call returns and leaves
pub record ReadCalled (r : Receiver) (old : Stores) (bytes : List ℕ) (from to : ℕ) (left : Receiver) (new : Stores) (a : Result Told Refusal) : Type 0 where
  pub receiver : left ≡ receiver_after_read r old bytes from to
  pub told : a ≡ told_by_read r old bytes from to
  pub store : new ≡ stores_after_read r old bytes from to

-- What a receiver made by calls tells is in range: circuit numbers below 4, losses of at most 6, whole messages of at most as many bytes as the number
-- may have, a system packet's enable bits, code and length; and the stores with which it is told are as long as reading wants them.
use Prim.Native.Nat.{ℕ, ◌≤◌}
use mathlib.Core.Bool.{Bool, true}
use mathlib.Core.List.{List, [], ◌∷◌}
use mathlib.Core.Path.{◌≡◌, subst}
use Rattle.std.proofs.Common.{Result}
use borrow.Author.Tests.{eqb-true, leb-true}
use lib.ListN.{length, take}
use lib.Dec.{eqb}
use Rattle.bits.specs.Bits.{Bytes}
use Rattle.bits.proofs.Bits.{Bytes-take}
use Rattle.packet.specs.declared.Refusal.{Refusal}
use Rattle.packet.specs.Answers.{answered}
use Rattle.packet.specs.Lists.{AllAre}
use Rattle.packet.specs.Messages.{longest_long}
use Rattle.packet.specs.Stores.{Stores}
use Rattle.packet.proofs.Lists.{AllAre_append}
use Rattle.packet.proofs.Choices.{cond_either}
use Rattle.framing.specs.declared.Check.{Check}
use Rattle.framing.specs.declared.Check.TheVariants.{Packet, Spoilt, Nothing}
use Rattle.framing.specs.declared.Scan.{Scan}
use Rattle.framing.proofs.ScanInRange.{Array21, Array21-fresh}
use Rattle.notices.specs.declared.Notice.{Notice}
use Rattle.notices.specs.Stores.{store_length}
use Rattle.notices.proofs.NoticesInRange.{NoticeInRange, heard_notice_in_range}
use Rattle.receiver.specs.declared.Receiver.{Receiver}
use Rattle.receiver.specs.Record.{fresh, in_range}
use Rattle.receiver.specs.Reading.{with_framing, passed, noticed, read_by, read_scan, read_refusal, stores_after_read, read_of, answer_to_read}
use Rattle.receiver.specs.Reads.{ReadCall, ReceiverEnd, fresh_receiver_end, after_read, Report, report_of, told, told_by_reads}
use Rattle.receiver.proofs.InRange.{in_range_parts, fresh_in_range, arrays, lengths_stores_after_read, scanned_in_range, read_array, after_read_in_range}
use Rattle.notices.proofs.StoreLaws.{SameLengths}
use Rattle.receiver.proofs.ReadLaws.{accepted}

-- where a long buffer is given or not
pub record ReportInRange (given : Bool) (t : Report) : Type 0 where
  pub notice : NoticeInRange given t.notice
  pub enough : store_length ≤ length t.store.store
  pub long : given ≡ true → longest_long ≤ length t.store.long

-- ---- a body

noticed_notice_in_range : (c : Check) (bytes : List ℕ) (r : Receiver) (l : Stores) → Bytes bytes → in_range l.given r ≡ true
    → NoticeInRange l.given (noticed c bytes r l).notice
unfolding noticed passed NoticeInRange
noticed_notice_in_range (Packet n) bytes r l b e =
    let k = in_range_parts l.given r e in
    heard_notice_in_range l.given r.circuits r.slots k.slots (leb-true r.circuits.count 4 k.count) (take n bytes) (Bytes-take n bytes b)
noticed_notice_in_range Spoilt bytes r l b e = tt
noticed_notice_in_range Nothing bytes r l b e = tt

-- ---- a reading call

told_by_call : (e : ReceiverEnd) (c : ReadCall) → Array21 e.receiver.framing.bits → in_range e.store.given e.receiver ≡ true
    → AllAre (ReportInRange e.store.given) (told e c)
unfolding told answer_to_read read_of answered report_of read_by AllAre
told_by_call e c h k =
    let r : Receiver = e.receiver in
    let s : Scan = read_scan r c.bytes c.from c.to in
    let n : ℕ = read_refusal r e.store c.bytes c.from c.to in
    let after : Stores = stores_after_read r e.store c.bytes c.from c.to in
    let same : SameLengths e.store after = lengths_stores_after_read r e.store c.bytes c.from c.to in
    cond_either (λ (a : Result Notice Refusal). AllAre (ReportInRange e.store.given) (report_of a after)) (eqb n 0) _ _
    (λ zero. (
      record {
        notice =
            noticed_notice_in_range s.check s.bytes (with_framing r s.framing) e.store
            (arrays r e.store c.bytes c.from c.to h).told.each (scanned_in_range r e.store c.bytes c.from c.to h k);
        enough = rw same.store (accepted r e.store c.bytes c.from c.to (eqb-true n 0 zero)).enough;
        long = rw same.long (accepted r e.store c.bytes c.from c.to (eqb-true n 0 zero)).long;
      },
      tt,
    ))
    (λ _. tt)

-- ---- reading calls from a listing on

told_by_calls : (cs : List ReadCall) (e : ReceiverEnd) → Array21 e.receiver.framing.bits → in_range e.store.given e.receiver ≡ true
    → AllAre (ReportInRange e.store.given) (told_by_reads e cs)
unfolding told_by_reads after_read AllAre
told_by_calls [] e h k = tt
told_by_calls (c ∷ cs) e h k =
    let later = told_by_calls cs (after_read e c) (read_array e.receiver e.store c.bytes c.from c.to h) (after_read_in_range e c h k) in
    let same : (after_read e c).store.given ≡ e.store.given = (lengths_stores_after_read e.receiver e.store c.bytes c.from c.to).given in
    AllAre_append (ReportInRange e.store.given) (told e c) (told_by_reads (after_read e c) cs) (told_by_call e c h k)
    (subst (λ b. AllAre (ReportInRange b) (told_by_reads (after_read e c) cs)) same later)

pub told_in_range : (list : List ℕ) (l : Stores) (reads : List ReadCall)
    → AllAre (ReportInRange l.given) (told_by_reads (fresh_receiver_end list l) reads)
unfolding fresh
told_in_range list l reads = told_by_calls reads (fresh_receiver_end list l) Array21-fresh (fresh_in_range l.given list)

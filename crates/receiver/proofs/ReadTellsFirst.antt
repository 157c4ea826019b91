-- A reading call tells the first notice that the bits give, behind those that the calls before it read; one that tells End has read all bits up to `to`,
-- and nothing in them gives a notice.
use Prim.Native.Nat.{ℕ, ◌+◌, ◌-◌, ◌≤◌, ◌<◌}
use native.Mathlib.Omega.{arith}
use mathlib.Core.Bool.{Bool, true, cond, true≢false}
use mathlib.Core.List.{List, [], ◌∷◌, ◌++◌, append-nil}
use mathlib.Core.Path.{◌≡◌, sym, ap, ◌∙◌}
use Rattle.std.proofs.Common.{Ok}
use lib.ListN.{length, take, drop}
use lib.Seq.{slice, length-slice}
use Rattle.bits.specs.Bits.{bits_of}
use Rattle.bits.proofs.Bits.{length-bits_of}
use Rattle.hdlc.specs.Bodies.{Judged}
use Rattle.packet.specs.Circuits.{listing}
use Rattle.packet.specs.Stores.{Stores}
use Rattle.framing.specs.declared.Check.{Check}
use Rattle.framing.specs.declared.Check.TheVariants.{Packet, Nothing}
use Rattle.framing.specs.declared.Check.TheVariants.{Spoilt as SpoiltBody}
use Rattle.framing.specs.declared.Scan.{Scan}
use Rattle.framing.specs.Machine.{run}
use Rattle.framing.specs.Machine.{fresh as fresh_framing}
use Rattle.framing.specs.Closings.{not_nothing, closings}
use Rattle.framing.specs.Scanning.{scan}
use Rattle.framing.proofs.Scanned.{scan-least, scan-most}
use Rattle.notices.specs.declared.Notice.{Notice}
use Rattle.receiver.specs.declared.Receiver.{Receiver}
use Rattle.receiver.specs.Record.{fresh}
use Rattle.receiver.specs.Reading.{with_framing, noticed, read_by, read_scan, read_refusal, stores_after_read, bits_read, read_of, answer_to_read}
use Rattle.receiver.specs.Reads.{ReadCall, ReceiverEnd, fresh_receiver_end, after_reads, bits_of_read, bits_of_reads, Report, report_of, told, told_by_reads, told_by_judged, is_end, not_end}
use Rattle.receiver.specs.TellsFirst.{told_up_to, TellsFirst}
use Rattle.receiver.proofs.ReadLaws.{told_by, before_scan}
use Rattle.framing.proofs.ScanGives.{gives, gives_from, gives_append, take_slice, scan_quiet, EndsAt, scan_ends}
use Rattle.receiver.proofs.ReadsTell.{tell_same, passed_tells, read_tells, reads_tell-then, bodies-tell, reads_leave}

-- End is told only of a scan that no body stopped
end_ends : (c : Check) (bytes : List ℕ) (r : Receiver) (l : Stores) (at end : ℕ) → is_end (noticed c bytes r l).notice ≡ true → EndsAt c at end → at ≡ end
unfolding noticed is_end
end_ends (Packet n) bytes r l at end e h = absurd (true≢false (sym e ∙ passed_tells r l (take n bytes)))
end_ends SpoiltBody bytes r l at end e h = absurd (true≢false (sym e))
end_ends Nothing bytes r l at end e h = h

-- ---- a reading call, behind others

module _ (list : List ℕ) (l : Stores) (reads : List ReadCall) (c : ReadCall) where
  -- where the calls before leave the receiver, what they told, and the bits that are lent
  abbrev e : ReceiverEnd
  e = after_reads (fresh_receiver_end list l) reads

  abbrev before : List Report
  before = not_end (told_by_reads (fresh_receiver_end list l) reads)

  abbrev lent : List Bool
  lent = drop c.from (bits_of c.bytes)

  abbrev part : List Bool
  part = slice c.from c.to (bits_of c.bytes)

  -- the bits tell what was told before, and then what these tell the receiver that is left
  told_up_to_is : (j : ℕ) → told_up_to list l reads c j ≡ before ++ told_by_judged e.receiver e.store (gives (closings e.receiver.framing 0 (take j lent)))
  unfolding told_up_to fresh
  told_up_to_is j =
      let all : List Bool = bits_of_reads (fresh_receiver_end list l) reads in
      rw (reads_leave list l reads)
      (sym (bodies-tell (all ++ take j lent) (fresh (listing list)) l)
      ∙ ap (told_by_judged (fresh (listing list)) l) (gives_append all (take j lent) fresh_framing)
      ∙ reads_tell-then reads (fresh_receiver_end list l) (gives (closings (run fresh_framing all) 0 (take j lent))))

  -- none of them tell what was told before
  told_up_to-none : told_up_to list l reads c 0 ≡ before
  unfolding closings told_by_judged
  told_up_to-none = told_up_to_is 0 ∙ append-nil before

  module _ (n : Notice) (answer : answer_to_read e.receiver e.store c.bytes c.from c.to ≡ Ok n) where
    abbrev k : ℕ
    k = bits_read e.receiver e.store c.bytes c.from c.to

    abbrev after : Stores
    after = stores_after_read e.receiver e.store c.bytes c.from c.to

    abbrev s : Scan
    s = scan e.receiver.framing c.from part

    -- the call is accepted, and the notice is that of its scan
    told_is : (read_refusal e.receiver e.store c.bytes c.from c.to ≡ 0)
        × (n ≡ (read_by (read_scan e.receiver c.bytes c.from c.to) e.receiver e.store).notice)
    unfolding answer_to_read read_of
    told_is = told_by _ _ n (sym answer)

    k_is : k ≡ s.at - c.from
    unfolding bits_read read_scan
    k_is = rw told_is.0

    length_part : length part ≡ c.to - c.from
    length_part =
        let (order, enough) = before_scan e.receiver e.store c.bytes c.from c.to told_is.0 in
        length-slice c.from c.to (bits_of c.bytes) (omega (arith, length-bits_of c.bytes))

    -- the call reads no bit behind `to`
    k_within : c.from + k ≤ c.to
    k_within =
        let (order, enough) = before_scan e.receiver e.store c.bytes c.from c.to told_is.0 in
        omega (arith, k_is, length_part, scan-least part e.receiver.framing c.from, scan-most part e.receiver.framing c.from)

    -- fewer bits tell nothing
    fewer_quiet : (j : ℕ) → j < k → told_by_judged e.receiver e.store (gives (closings e.receiver.framing 0 (take j lent))) ≡ []
    unfolding told_by_judged not_nothing
    fewer_quiet j h =
        let short : j ≤ length part = omega (arith, k_within, length_part) in
        rw (← take_slice c.from c.to j (bits_of c.bytes) short, gives_from (take j part) e.receiver.framing 0 c.from)
        (tell_same (gives (closings e.receiver.framing c.from (take j part))) [] (scan_quiet part e.receiver.framing c.from j (rw k_is at h)) e.receiver e.store)

    -- all k tell the notice
    all_tell : told_by_judged e.receiver e.store (gives (closings e.receiver.framing 0 (take k lent)))
        ≡ cond (is_end n) [] (record { notice = n; store = after } ∷ [])
    unfolding told report_of bits_of_read not_end told_by_judged
    all_tell =
        let js : List Judged = gives (closings e.receiver.framing 0 (take k lent)) in
        ap (told_by_judged e.receiver e.store) (sym (append-nil js)) ∙ rw answer at (read_tells e c []) ∙ append-nil _

    all_read_lem : is_end n ≡ true → c.from + k ≡ c.to
    unfolding read_by read_scan
    all_read_lem end =
        let last : s.at ≡ c.from + length part
        = end_ends s.check s.bytes (with_framing e.receiver s.framing) e.store s.at (c.from + length part) (rw told_is.1 at end)
        (scan_ends part e.receiver.framing c.from) in
        omega (arith, k_is, length_part, last, k_within)

    tells_first : TellsFirst list l reads c n after k
    tells_first =
        record {
          within = k_within;
          fewer = λ j h. told_up_to_is j ∙ ap (◌++◌ before) (fewer_quiet j h) ∙ append-nil before ∙ sym told_up_to-none;
          more =
              λ new. told_up_to_is k ∙ ap (◌++◌ before) (all_tell ∙ rw new)
              ∙ ap (λ (l : List Report). l ++ record { notice = n; store = after } ∷ []) (sym told_up_to-none);
          at_end =
              λ end. (told_up_to_is k ∙ ap (◌++◌ before) (all_tell ∙ rw end) ∙ append-nil before ∙ sym told_up_to-none, all_read_lem end);
        }

pub read_tells_first : (list : List ℕ) (l : Stores) (reads : List ReadCall) (c : ReadCall) (n : Notice)
    → (let e = after_reads (fresh_receiver_end list l) reads in
    answer_to_read e.receiver e.store c.bytes c.from c.to ≡ Ok n
    → TellsFirst list l reads c n (stores_after_read e.receiver e.store c.bytes c.from c.to)
    (bits_read e.receiver e.store c.bytes c.from c.to))
read_tells_first list l reads c n = tells_first list l reads c n

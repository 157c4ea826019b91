-- What is read out of any bits equals what they give: whatever reading calls, accepted or refused, and wherever they cut the bits, their notices but End,
-- with the stores as each call left them, are those of the declared bodies of all bits read, in order; and they leave the framing that these bits leave.
use Prim.Native.Nat.{ℕ, ◌-◌}
use mathlib.Core.Bool.{Bool, true, false, cond}
use mathlib.Core.List.{List, [], ◌∷◌, ◌++◌, map, append_assoc, append-nil}
use Rattle.std.proofs.Common.{Option, None, Some, Ok, Err}
use mathlib.Core.Path.{◌≡◌, refl, sym, ap, ◌∙◌}
use lib.ListN.{take, drop}
use lib.Seq.{slice}
use lib.Dec.{eqb}
use Rattle.bits.specs.Bits.{bits_of}
use Rattle.hdlc.specs.Bodies.{Body, Judged, passes, spoilt, nothing, bodies, judge}
use Rattle.packet.specs.Circuits.{listed, listing, number_from}
use Rattle.packet.specs.Stores.{Stores}
use Rattle.packet.proofs.Choices.{cond_either}
use Rattle.parsing.specs.Packets.{address, circuit_in, malformed}
use Rattle.notices.specs.declared.Slot.{Slot}
use Rattle.notices.specs.declared.Hearing.{Hearing}
use Rattle.notices.specs.Heard.{heard_at, heard_by, system_heard, heard}
use Rattle.framing.specs.declared.Framing.{Framing}
use Rattle.framing.specs.declared.Check.{Check}
use Rattle.framing.specs.declared.Check.TheVariants.{Packet, Nothing}
use Rattle.framing.specs.declared.Check.TheVariants.{Spoilt as SpoiltBody}
use Rattle.framing.specs.declared.Scan.{Scan}
use Rattle.framing.specs.Machine.{run}
use Rattle.framing.specs.Machine.{fresh as fresh_framing}
use Rattle.framing.specs.Closings.{not_nothing, given_by, closings}
use Rattle.framing.specs.Scanning.{scan}
use Rattle.framing.proofs.ScanGives.{gives, gives_from, gives_append, not_nothing_append, scan_gives, scan_takes, bodies-given}
use Rattle.framing.proofs.Runs.{run_append}
use Rattle.framing.proofs.ScanFindsFirst.{scan_leaves}
use Rattle.receiver.specs.declared.Receiver.{Receiver}
use Rattle.receiver.specs.Record.{fresh}
use Rattle.packet.specs.Answers.{refusal_of, answered}
use Rattle.receiver.specs.Reading.{with_framing, Noticed, passed, noticed, read_by, read_scan, read_refusal, receiver_after_read, stores_after_read, bits_read, read_of, answer_to_read}
use Rattle.receiver.specs.Reads.{ReadCall, ReceiverEnd, fresh_receiver_end, after_read, after_reads, bits_of_read, bits_of_reads, Report, report_of, told, told_by_reads, told_by_judged, told_by_bodies, is_end, not_end}
use Rattle.receiver.proofs.InRange.{with_framing_left, passed-with_framing, noticed-framing}

-- ---- what bodies tell

-- those that give nothing tell nothing
not_nothing-tell : (js : List Judged) (r : Receiver) (l : Stores) → told_by_judged r l js ≡ told_by_judged r l (not_nothing js)
unfolding told_by_judged not_nothing
not_nothing-tell [] r l = refl
not_nothing-tell (passes p ∷ js) r l =
    rw (not_nothing-tell js (passed r l p).receiver (passed r l p).store)
not_nothing-tell (spoilt ∷ js) r l = rw (not_nothing-tell js r l)
not_nothing-tell (nothing ∷ js) r l = not_nothing-tell js r l

-- bodies that give the same tell the same, with bodies behind them too
pub tell_same : (js ks : List Judged) → not_nothing js ≡ not_nothing ks → (r : Receiver) (l : Stores) → told_by_judged r l js ≡ told_by_judged r l ks
tell_same js ks e r l = not_nothing-tell js r l ∙ rw e (sym (not_nothing-tell ks r l))

tell_same_then : (js ks ls : List Judged) → not_nothing js ≡ not_nothing ks
    → (r : Receiver) (l : Stores) → told_by_judged r l (js ++ ls) ≡ told_by_judged r l (ks ++ ls)
tell_same_then js ks ls e = tell_same (js ++ ls) (ks ++ ls) (rw (not_nothing_append, not_nothing_append, e))

-- ---- what packets tell

-- it does not depend on the framing
told_by_judged-with_framing : (js : List Judged) (r : Receiver) (f : Framing) (l : Stores)
    → told_by_judged (with_framing r f) l js ≡ told_by_judged r l js
unfolding told_by_judged with_framing_left
told_by_judged-with_framing [] r f l = refl
told_by_judged-with_framing (passes p ∷ js) r f l =
    rw (passed-with_framing r f l p, told_by_judged-with_framing js (passed r l p).receiver f (passed r l p).store)
told_by_judged-with_framing (spoilt ∷ js) r f l = rw (told_by_judged-with_framing js r f l)
told_by_judged-with_framing (nothing ∷ js) r f l = told_by_judged-with_framing js r f l

-- and is not End
heard_by_tells : (given : Bool) (n : Option ℕ) (slots : List Slot) (p : List ℕ) → is_end (heard_by given n slots p).notice ≡ false
unfolding heard_by heard_at is_end
heard_by_tells given None slots p = refl
heard_by_tells given (Some c) slots p = refl

pub passed_tells : (r : Receiver) (l : Stores) (p : List ℕ) → is_end (passed r l p).notice ≡ false
unfolding passed heard system_heard is_end
passed_tells r l p =
    cond_either (λ (h : Hearing). is_end h.notice ≡ false) (malformed p) _ _ (λ _. refl)
    (λ _. cond_either (λ (h : Hearing). is_end h.notice ≡ false) (eqb (address p) 0xff) _ _ (λ _. refl)
    (λ _. heard_by_tells l.given (number_from (listed r.circuits) (circuit_in p) 0) r.slots p))

-- ---- a reading call

not_end_append : (a b : List Report) → not_end (a ++ b) ≡ not_end a ++ not_end b
unfolding not_end
not_end_append [] b = refl
not_end_append (t ∷ a) b = rw (not_end_append a b) (go (is_end t.notice))
  where
    go : (e : Bool) → cond e (not_end a ++ not_end b) (t ∷ (not_end a ++ not_end b)) ≡ cond e (not_end a) (t ∷ not_end a) ++ not_end b
    go true = refl
    go false = refl

-- what a scan tells is what the body tells at which it stopped, with bodies behind it
noticed_tells : (c : Check) (bytes : List ℕ) (r : Receiver) (l : Stores) (js : List Judged)
    → (let h = noticed c bytes r l in
    told_by_judged r l (given_by c bytes ∷ js)
    ≡ not_end (record { notice = h.notice; store = h.store } ∷ []) ++ told_by_judged h.receiver h.store js)
unfolding noticed told_by_judged given_by not_end is_end
noticed_tells (Packet n) bytes r l js = rw (passed_tells r l (take n bytes))
noticed_tells SpoiltBody bytes r l js = refl
noticed_tells Nothing bytes r l js = refl

module _ (e : ReceiverEnd) (c : ReadCall) where
  -- the call's receiver, the bits lent to it, their scan, and what that leaves and tells
  abbrev r : Receiver
  r = e.receiver

  abbrev part : List Bool
  part = slice c.from c.to (bits_of c.bytes)

  abbrev s : Scan
  s = scan r.framing c.from part

  abbrev h : Noticed
  h = noticed s.check s.bytes (with_framing r s.framing) e.store

  -- it leaves the framing that the bits it reads leave
  read_leaves : (after_read e c).receiver.framing ≡ run r.framing (bits_of_read e c)
  unfolding after_read receiver_after_read bits_of_read bits_read read_scan read_by with_framing run
  read_leaves = go (eqb (read_refusal e.receiver e.store c.bytes c.from c.to) 0)
    where
      go : (t : Bool) → (cond t h.receiver r).framing ≡ run r.framing (take (cond t (s.at - c.from) 0) (drop c.from (bits_of c.bytes)))
      go false = refl
      go true =
          rw (noticed-framing s.check s.bytes (with_framing r s.framing) e.store, scan_takes r.framing c.from c.to (bits_of c.bytes))
          (scan_leaves part r.framing c.from)

  -- and tells what the bodies in these bits tell, with bodies behind them
  pub read_tells : (js : List Judged)
      → told_by_judged r e.store (gives (closings r.framing 0 (bits_of_read e c)) ++ js)
      ≡ not_end (told e c) ++ told_by_judged (after_read e c).receiver (after_read e c).store js
  unfolding told report_of answer_to_read read_of answered after_read receiver_after_read stores_after_read bits_of_read bits_read read_scan read_by closings not_end
  read_tells js = go (eqb (read_refusal e.receiver e.store c.bytes c.from c.to) 0)
    where
      go : (t : Bool)
          → told_by_judged r e.store (gives (closings r.framing 0 (take (cond t (s.at - c.from) 0) (drop c.from (bits_of c.bytes)))) ++ js)
          ≡ not_end (report_of (cond t (Ok h.notice) (Err (refusal_of (read_refusal r e.store c.bytes c.from c.to)))) (cond t h.store e.store))
          ++ told_by_judged (cond t h.receiver r) (cond t h.store e.store) js
      go false = refl
      go true =
          rw (
            scan_takes r.framing c.from c.to (bits_of c.bytes),
            gives_from (take (s.at - c.from) part) r.framing 0 c.from,
            tell_same_then (gives (closings r.framing c.from (take (s.at - c.from) part))) (given_by s.check s.bytes ∷ []) js (scan_gives part r.framing c.from) r e.store,
          )
          (sym (told_by_judged-with_framing (given_by s.check s.bytes ∷ js) r s.framing e.store)
          ∙ noticed_tells s.check s.bytes (with_framing r s.framing) e.store js)

-- ---- reading calls

-- they tell what the bodies tell that the machine closes in the bits they read, with bodies behind them
pub reads_tell-then : (reads : List ReadCall) (e : ReceiverEnd) (js : List Judged)
    → told_by_judged e.receiver e.store (gives (closings e.receiver.framing 0 (bits_of_reads e reads)) ++ js)
    ≡ not_end (told_by_reads e reads) ++ told_by_judged (after_reads e reads).receiver (after_reads e reads).store js
unfolding told_by_reads bits_of_reads after_reads closings not_end
reads_tell-then [] e js = refl
reads_tell-then (c ∷ cs) e js =
    let e' : ReceiverEnd = after_read e c in
    let later : List Judged = gives (closings e'.receiver.framing 0 (bits_of_reads e' cs)) in
    rw (
      gives_append (bits_of_read e c) (bits_of_reads e' cs) e.receiver.framing,
      ← read_leaves e c,
      append_assoc (gives (closings e.receiver.framing 0 (bits_of_read e c))) later js,
      read_tells e c (later ++ js),
      reads_tell-then cs e' js,
      not_end_append (told e c) (told_by_reads e' cs),
      append_assoc (not_end (told e c)) (not_end (told_by_reads e' cs)),
    )

pub reads_tell : (reads : List ReadCall) (e : ReceiverEnd)
    → not_end (told_by_reads e reads) ≡ told_by_judged e.receiver e.store (gives (closings e.receiver.framing 0 (bits_of_reads e reads)))
unfolding told_by_judged
reads_tell reads e =
    let all : List Judged = gives (closings e.receiver.framing 0 (bits_of_reads e reads)) in
    sym (append-nil (not_end (told_by_reads e reads))) ∙ sym (reads_tell-then reads e [])
    ∙ ap (told_by_judged e.receiver e.store) (append-nil all)

-- and leave the framing that these bits leave
after_reads_leaves : (reads : List ReadCall) (e : ReceiverEnd) → (after_reads e reads).receiver.framing ≡ run e.receiver.framing (bits_of_reads e reads)
unfolding after_reads bits_of_reads run
after_reads_leaves [] e = refl
after_reads_leaves (c ∷ cs) e =
    rw (run_append (bits_of_read e c) (bits_of_reads (after_read e c) cs) e.receiver.framing, ← read_leaves e c) (after_reads_leaves cs (after_read e c))

-- ---- declared bodies

-- what declared bodies tell, by those that the machine closes
pub bodies-tell : (bits : List Bool) (r : Receiver) (l : Stores) → told_by_judged r l (gives (closings fresh_framing 0 bits)) ≡ told_by_bodies r l (bodies bits)
unfolding told_by_bodies
bodies-tell bits = tell_same (gives (closings fresh_framing 0 bits)) (map (λ (b : Body). judge b.bits) (bodies bits)) (bodies-given bits)

-- ---- from a fresh receiver on

pub reads_tell-bodies : (list : List ℕ) (l : Stores) (reads : List ReadCall)
    → not_end (told_by_reads (fresh_receiver_end list l) reads)
    ≡ told_by_bodies (fresh (listing list)) l (bodies (bits_of_reads (fresh_receiver_end list l) reads))
unfolding fresh
reads_tell-bodies list l reads =
    let e : ReceiverEnd = fresh_receiver_end list l in
    reads_tell reads e ∙ bodies-tell (bits_of_reads e reads) e.receiver l

pub reads_leave : (list : List ℕ) (l : Stores) (reads : List ReadCall)
    → (after_reads (fresh_receiver_end list l) reads).receiver.framing ≡ run fresh_framing (bits_of_reads (fresh_receiver_end list l) reads)
unfolding fresh
reads_leave list l reads = after_reads_leaves reads (fresh_receiver_end list l)

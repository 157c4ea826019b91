-- Reading calls hear exactly the packets of the bodies that pass in the bits they take, wherever the calls cut these bits: they report the same losses and
-- hand over the same messages.
use Prim.Native.Nat.{ℕ, ◌+◌, ◌*◌}
use native.Mathlib.Nat.{zero-add}
use mathlib.Core.Bool.{Bool, true, false, cond, not, ◌||◌, true≢false}
use mathlib.Core.List.{List, [], ◌∷◌, ◌++◌}
use mathlib.Core.Path.{◌≡◌, refl, sym, ap, ◌∙◌}
use lib.ListN.{length}
use lib.Dec.{ltb, eqb}
use Rattle.hdlc.specs.Bodies.{Judged, passes, spoilt, nothing}
use Rattle.packet.specs.Circuits.{listing}
use Rattle.packet.specs.Stores.{Stores, long_short}
use Rattle.framing.specs.Machine.{fresh as fresh_framing}
use Rattle.framing.specs.Closings.{Closing, closings}
use Rattle.receiver.specs.declared.Receiver.{Receiver}
use Rattle.notices.specs.declared.Notice.{Notice}
use Rattle.notices.specs.declared.Notice.TheVariants.{End as EndNotice, Spoilt, Malformed, System as SystemNotice, Elsewhere, Circuit as CircuitNotice}
use Rattle.notices.specs.Stores.{store_length}
use Rattle.receiver.specs.Record.{fresh, in_range}
use Rattle.receiver.specs.Reading.{passed, read_refusal, bits_read}
use Rattle.receiver.specs.Reads.{ReadCall, ReceiverEnd, fresh_receiver_end, after_read, bits_of_read, bits_of_reads, Report, told_by_reads, told_by_judged, is_end, not_end}
use Rattle.notices.proofs.StoreLaws.{SameLengths}
use Rattle.receiver.proofs.InRange.{lengths_stores_after_read}
use Rattle.framing.proofs.ScanGives.{gives}
use Rattle.receiver.proofs.ReadsTell.{reads_tell}
use Rattle.link.specs.Demand3.{loss_at, losses_at, handed_at, handed_over}
use Rattle.link.proofs.Steps.{packet_given, given, told_by_packets}

-- what is made of what is told, one by one, and does not count End and Spoilt
record Counts {A : Type 0} (all : List Report → A) : Type 0 where
  more : (t : Report) (ts us : List Report) → all ts ≡ all us → all (t ∷ ts) ≡ all (t ∷ us)
  ends : (l : Stores) (ts : List Report) → all (record { notice = EndNotice; store = l } ∷ ts) ≡ all ts
  spoils : (l : Stores) (ts : List Report) → all (record { notice = Spoilt; store = l } ∷ ts) ≡ all ts

module _ {A : Type 0} {all : List Report → A} (counts : Counts all) where
  -- so it is the same of what is told but End
  end_uncounted : (n : Notice) (l : Stores) (ts us : List Report) → all ts ≡ all us
      → all (record { notice = n; store = l } ∷ ts) ≡ all (cond (is_end n) us (record { notice = n; store = l } ∷ us))
  unfolding is_end
  end_uncounted EndNotice l ts us later = counts.ends l ts ∙ later
  end_uncounted Spoilt l ts us later = counts.more _ ts us later
  end_uncounted Malformed l ts us later = counts.more _ ts us later
  end_uncounted (SystemNotice enable code length) l ts us later = counts.more _ ts us later
  end_uncounted Elsewhere l ts us later = counts.more _ ts us later
  end_uncounted (CircuitNotice c loss fate) l ts us later = counts.more _ ts us later

  not_end-counts : (ts : List Report) → all ts ≡ all (not_end ts)
  unfolding not_end
  not_end-counts [] = refl
  not_end-counts (t ∷ ts) = end_uncounted t.notice t.store ts (not_end ts) (not_end-counts ts)

  -- and of what the packets tell that bodies give
  judged_counts : (j : Judged) (js : List Judged) (ps : List (List ℕ))
      → ((r : Receiver) (l : Stores) → all (told_by_judged r l js) ≡ all (told_by_packets r l ps))
      → (r : Receiver) (l : Stores) → all (told_by_judged r l (j ∷ js)) ≡ all (told_by_packets r l (packet_given j ++ ps))
  unfolding told_by_judged told_by_packets packet_given
  judged_counts (passes p) js ps later = λ r l. counts.more _ _ _ (later (passed r l p).receiver (passed r l p).store)
  judged_counts spoilt js ps later = λ r l. counts.spoils l (told_by_judged r l js) ∙ later r l
  judged_counts nothing js ps later = later

  given-counts : (cs : List Closing) (r : Receiver) (l : Stores) → all (told_by_judged r l (gives cs)) ≡ all (told_by_packets r l (given cs))
  unfolding told_by_judged told_by_packets given
  given-counts [] = λ r l. refl
  given-counts (c ∷ cs) = judged_counts c.gives (gives cs) (given cs) (given-counts cs)

  reads_hear : (reads : List ReadCall) (e : ReceiverEnd)
      → all (told_by_reads e reads)
      ≡ all (told_by_packets e.receiver e.store (given (closings e.receiver.framing 0 (bits_of_reads e reads))))
  reads_hear reads e =
      not_end-counts (told_by_reads e reads) ∙ ap all (reads_tell reads e)
      ∙ given-counts (closings e.receiver.framing 0 (bits_of_reads e reads)) e.receiver e.store

-- losses and messages handed over count so
losses_count : (n : ℕ) → Counts (losses_at n)
unfolding losses_at loss_at
losses_count n =
    record { more = λ t ts us e. ap (λ (k : ℕ). loss_at n t.notice + k) e; ends = λ l ts. zero-add _; spoils = λ l ts. zero-add _ }

handed_count : (n : ℕ) → Counts (handed_over n)
unfolding handed_over handed_at
handed_count n =
    record {
      more = λ t ts us e. ap (λ (l : List (List ℕ)). handed_at n t.notice t.store ++ l) e;
      ends = λ l ts. refl;
      spoils = λ l ts. refl;
    }

-- ---- from a fresh receiver on

pub losses_of_reads : (list : List ℕ) (l : Stores) (reads : List ReadCall) (n : ℕ)
    → losses_at n (told_by_reads (fresh_receiver_end list l) reads)
    ≡ losses_at n (told_by_packets (fresh (listing list)) l (given (closings fresh_framing 0 (bits_of_reads (fresh_receiver_end list l) reads))))
unfolding fresh
losses_of_reads list l reads n = reads_hear (losses_count n) reads (fresh_receiver_end list l)

pub handed_of_reads : (list : List ℕ) (l : Stores) (reads : List ReadCall) (n : ℕ)
    → handed_over n (told_by_reads (fresh_receiver_end list l) reads)
    ≡ handed_over n (told_by_packets (fresh (listing list)) l (given (closings fresh_framing 0 (bits_of_reads (fresh_receiver_end list l) reads))))
unfolding fresh
handed_of_reads list l reads n = reads_hear (handed_count n) reads (fresh_receiver_end list l)

-- ---- stores that are too short

-- reading refuses them with 5 or 19
unfoldable pub too_short : Stores → Bool
too_short l = ltb (length l.store) store_length || long_short l

short_refused : (r : Receiver) (l : Stores) (bytes : List ℕ) (from to : ℕ) → too_short l ≡ true → eqb (read_refusal r l bytes from to) 0 ≡ false
unfolding read_refusal too_short
short_refused r l bytes from to h = go (in_range l.given r) (ltb (length l.store) store_length) (long_short l) h
  where
    go : (a b c : Bool) → (b || c) ≡ true
        → eqb (cond (not a) 14 (cond b 5 (cond c 19 (cond (ltb to from || ltb (8 * length bytes) to) 15 0)))) 0 ≡ false
    go false b c e = refl
    go true true c e = refl
    go true false true e = refl
    go true false false e = absurd (true≢false (sym e))

short_same : (l m : Stores) → SameLengths l m → too_short m ≡ too_short l
unfolding too_short long_short
short_same l m same = rw (same.store, same.given, same.long)

short_reads : (reads : List ReadCall) (e : ReceiverEnd) → too_short e.store ≡ true → bits_of_reads e reads ≡ []
unfolding bits_of_reads bits_of_read bits_read after_read
short_reads [] e h = refl
short_reads (c ∷ cs) e h =
    let same = lengths_stores_after_read e.receiver e.store c.bytes c.from c.to in
    rw (short_refused e.receiver e.store c.bytes c.from c.to h)
    (short_reads cs (after_read e c) (short_same e.store (after_read e c).store same ∙ h))

pub short_stores-read_nothing : (list : List ℕ) (l : Stores) (reads : List ReadCall) → too_short l ≡ true → bits_of_reads (fresh_receiver_end list l) reads ≡ []
short_stores-read_nothing list l reads h = short_reads reads (fresh_receiver_end list l) h

-- A record of pass totals in bytes, in which the answer of each accepted reading call is noted, is the record after all notices that document 01's calls tell.
use Prim.Native.Nat.{ℕ, ◌≤◌}
use mathlib.Core.Bool.{Bool, true, false, cond}
use mathlib.Core.List.{List, [], ◌∷◌, ◌++◌, map, map-append}
use mathlib.Core.Path.{◌≡◌, refl, sym, ap, subst, ◌∙◌}
use borrow.Author.Tests.{leb-true, eqb-true}
use lib.ListN.{length, replicate}
use lib.Dec.{eqb}
use Rattle.bits.specs.Bits.{Bytes}
use Rattle.packet.specs.Stores.{Stores}
use Rattle.packet.specs.Answers as packet_answers
use Rattle.packet.specs.Lists.{AllAre}
use Rattle.packet.proofs.Lists.{AllAre_parts}
use Rattle.receiver.specs.Reading.{read_by, read_scan, read_refusal, stores_after_read, bits_read, read_of, answer_to_read}
use Rattle.receiver.specs.Reads.{ReadCall, ReceiverEnd, fresh_receiver_end, after_read, Report, report_of, told, told_by_reads}
use Rattle.receiver.proofs.ToldInRange.{ReportInRange, told_in_range}
use Rattle.notices.specs.declared.Notice.{Notice}
use Rattle.receiver_layout.specs.ReceiverBytes.{receiver_length}
use Rattle.receiver_layout.specs.Answers.{read_answer_length}
use Rattle.totals.specs.declared.Totals.{Totals}
use Rattle.totals.specs.Totals.{empty_totals, noted, noted_all}
use Rattle.totals_layout.specs.TotalsBytes.{totals_length, totals_bytes}
use Rattle.totals_layout.specs.Fits.{TotalsFit}
use Rattle.totals_layout.proofs.Example.{totals_empty}
use Rattle.aes18.specs.Room.{no_room}
use Rattle.aes18.specs.ReceiverCalls.{list_record, read_answered}
use Rattle.exported.specs.Lent.{Lent, LentRead, read_has_room, after_lent_read, reads_of}
use Rattle.exported.specs.Noting.{noted_read, noted_reads}
use Rattle.exported.proofs.ReceiverCarried.{list_carries}
use Rattle.exported.proofs.ReceiverLists.{CarriedEnd, call_number, call_answer, call_carried}
use Rattle.exported.proofs.NoteCarried.{empty_fit, noted_fit, answer_noted}

-- the notices of what is told
abbrev notices_of : List Report → List Notice
notices_of ts = map (λ (t : Report). t.notice) ts

-- ---- what a call of document 01 tells

module _ (s : ReceiverEnd) (c : ReadCall) where
  -- its number
  number : ℕ
  number = read_refusal s.receiver s.store c.bytes c.from c.to

  -- its notice, where it is accepted
  notice_of_read : Notice
  notice_of_read = (read_by (read_scan s.receiver c.bytes c.from c.to) s.receiver s.store).notice

  told-accepted : number ≡ 0
      → told s c ≡ record { notice = notice_of_read; store = stores_after_read s.receiver s.store c.bytes c.from c.to } ∷ []
  unfolding number notice_of_read told answer_to_read read_of packet_answers.answered report_of
  told-accepted zero = rw zero

  told_refused : eqb number 0 ≡ false → told s c ≡ []
  unfolding number told answer_to_read read_of packet_answers.answered report_of
  told_refused refused = rw refused

-- ---- one call

module _ (bytes : List ℕ) (room : receiver_length ≤ length bytes) (e : Lent) (s : ReceiverEnd) (h : CarriedEnd bytes e s) (c : LentRead)
    (t : Totals) (fits : TotalsFit t) (rest : List ℕ) where
  answered : (b : Bool) → read_has_room c ≡ b
      → read_answered e.bytes e.store c.call.bytes c.call.from c.call.to c.answer ≡ cond b (number s c.call) no_room
  unfolding number
  answered b has = call_number bytes room e s h c ∙ rw has

  -- an accepted call's notice is noted
  accepted-noted : (given : Bool) → read_has_room c ≡ true → number s c.call ≡ 0 → AllAre (ReportInRange given) (told s c.call)
      → noted_read e c (totals_bytes t ++ rest) ≡ totals_bytes (noted t (notice_of_read s c.call)) ++ rest
  unfolding noted_read read_has_room notice_of_read AllAre
  accepted-noted given has zero range =
      let accepted = answered true has ∙ zero in
      let long : read_answer_length ≤ length c.answer = leb-true read_answer_length (length c.answer) has in
      let report = subst (AllAre (ReportInRange given)) (told-accepted s c.call zero) range in
      rw (accepted, call_answer bytes room e s h c accepted)
      (answer_noted t fits rest _ (notice_of_read s c.call) report.0.notice
      (bits_read s.receiver s.store c.call.bytes c.call.from c.call.to) c.answer long)

  -- a refused one leaves the record
  refused_left : (k : ℕ) → eqb k 0 ≡ false
      → read_answered e.bytes e.store c.call.bytes c.call.from c.call.to c.answer ≡ k
      → noted_read e c (totals_bytes t ++ rest) ≡ totals_bytes t ++ rest
  unfolding noted_read
  refused_left k refused is = rw (is, refused)

  -- a call that has room: what it tells is noted
  call_noted : (given : Bool) → read_has_room c ≡ true → AllAre (ReportInRange given) (told s c.call)
      → noted_read e c (totals_bytes t ++ rest) ≡ totals_bytes (noted_all t (notices_of (told s c.call))) ++ rest
  unfolding noted_all
  call_noted given has range = go (eqb (number s c.call) 0) refl
    where
      go : (z : Bool) → eqb (number s c.call) 0 ≡ z
          → noted_read e c (totals_bytes t ++ rest) ≡ totals_bytes (noted_all t (notices_of (told s c.call))) ++ rest
      go true zero =
          let accepted = eqb-true (number s c.call) 0 zero in
          rw (told-accepted s c.call accepted) (accepted-noted given has accepted range)
      go false refused = rw (told_refused s c.call refused) (refused_left (number s c.call) refused (answered true has))

  -- one that has none leaves the record
  call_unnoted : read_has_room c ≡ false → noted_read e c (totals_bytes t ++ rest) ≡ totals_bytes t ++ rest
  unfolding no_room
  call_unnoted has = refused_left 255 refl (answered false has)

-- ---- lists of calls

noted_all_append : (a b : List Notice) (t : Totals) → noted_all t (a ++ b) ≡ noted_all (noted_all t a) b
unfolding noted_all
noted_all_append [] b t = refl
noted_all_append (n ∷ a) b t = noted_all_append a b (noted t n)

noted_all_fit : (ns : List Notice) (t : Totals) → TotalsFit t → TotalsFit (noted_all t ns)
unfolding noted_all
noted_all_fit [] t fits = fits
noted_all_fit (n ∷ ns) t fits = noted_all_fit ns (noted t n) (noted_fit t n fits)

module _ (bytes : List ℕ) (room : receiver_length ≤ length bytes) (rest : List ℕ) where
  reads_noted : (given : Bool) (cs : List LentRead) (e : Lent) (s : ReceiverEnd) → CarriedEnd bytes e s → (t : Totals) → TotalsFit t
      → AllAre (ReportInRange given) (told_by_reads s (reads_of cs))
      → noted_reads e cs (totals_bytes t ++ rest) ≡ totals_bytes (noted_all t (notices_of (told_by_reads s (reads_of cs)))) ++ rest
  unfolding noted_reads reads_of told_by_reads noted_all
  reads_noted given [] e s h t fits range = refl
  reads_noted given (c ∷ cs) e s h t fits range = go (read_has_room c) refl (λ s. reads_noted given cs (after_lent_read e c) s) range
    where
      left : Lent
      left = after_lent_read e c

      -- what the calls behind this one note
      Behind : Type 0
      Behind =
          (s : ReceiverEnd) → CarriedEnd bytes left s → (t : Totals) → TotalsFit t → AllAre (ReportInRange given) (told_by_reads s (reads_of cs))
          → noted_reads left cs (totals_bytes t ++ rest) ≡ totals_bytes (noted_all t (notices_of (told_by_reads s (reads_of cs)))) ++ rest

      go : (b : Bool) → read_has_room c ≡ b → Behind → AllAre (ReportInRange given) (told_by_reads s (cond b (c.call ∷ reads_of cs) (reads_of cs)))
          → noted_reads left cs (noted_read e c (totals_bytes t ++ rest))
          ≡ totals_bytes (noted_all t (notices_of (told_by_reads s (cond b (c.call ∷ reads_of cs) (reads_of cs))))) ++ rest
      go true has later range =
          let first : List Report = told s c.call in
          let behind : List Report = told_by_reads (after_read s c.call) (reads_of cs) in
          let parts = AllAre_parts (ReportInRange given) first behind range in
          let carried = subst (λ b. CarriedEnd bytes left (cond b (after_read s c.call) s)) has (call_carried bytes room e s h c) in
          ap (noted_reads left cs) (call_noted bytes room e s h c t fits rest given has parts.0)
          ∙ later (after_read s c.call) carried (noted_all t (notices_of first)) (noted_all_fit (notices_of first) t fits) parts.1
          ∙ ap (λ t. totals_bytes t ++ rest)
          (sym (ap (noted_all t) (map-append (λ (t : Report). t.notice) first behind) ∙ noted_all_append (notices_of first) (notices_of behind) t))
      go false has later range =
          let carried = subst (λ b. CarriedEnd bytes left (cond b (after_read s c.call) s)) has (call_carried bytes room e s h c) in
          ap (noted_reads left cs) (call_unnoted bytes room e s h c t fits rest has) ∙ later s carried t fits range

  -- from a listing and a record of zeros on, with any bytes behind the record
  pub totals_carried : Bytes bytes → (list : List ℕ) → Bytes list → (store : Stores) (cs : List LentRead)
      → noted_reads (record { bytes = list_record bytes list; store = store }) cs (replicate totals_length 0 ++ rest)
      ≡ totals_bytes (noted_all empty_totals (notices_of (told_by_reads (fresh_receiver_end list store) (reads_of cs)))) ++ rest
  totals_carried are list listed store cs =
      ap (λ zeros. noted_reads (record { bytes = list_record bytes list; store = store }) cs (zeros ++ rest)) (sym totals_empty)
      ∙ reads_noted store.given cs _ (fresh_receiver_end list store) (record { receiver = list_carries bytes are room list listed; store = refl }) empty_totals empty_fit
      (told_in_range list store (reads_of cs))

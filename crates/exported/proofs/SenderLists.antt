-- Lists of the sender's exported calls leave, in bytes, what document 01's calls leave: the record's bytes carry the record from call to call.
use Prim.Native.Nat.{ℕ, zero, suc, ◌+◌, ◌*◌, ◌≤◌, ◌<◌}
use mathlib.Core.Bool.{Bool, true, false, cond, not, ◌&&◌}
use mathlib.Core.List.{List, [], ◌∷◌, map}
use mathlib.Core.Path.{◌≡◌, refl, sym, ap, subst, ◌∙◌}
use Rattle.std.proofs.Common.{Result, Ok}
use native.Mathlib.Omega.{arith}
use lib.ListN.{length}
use lib.Dec.{leb, eqb}
use Rattle.bits.specs.Bits.{Bytes}
use Rattle.bits.proofs.Tests.{and_right}
use Rattle.packet.specs.Stores.{Stores}
use Rattle.offering.specs.declared.Sender.{Sender}
use Rattle.offering.specs.Record.{slot_at}
use Rattle.sender.specs.Blocks.{System, buffer_after_block}
use Rattle.sender.specs.BlockCalls.{made_of, frames_placed, bits_used, zeros_added, answer_to_block}
use Rattle.sender.specs.declared.Block.{Block}
use Rattle.packet.specs.declared.Refusal.{Refusal}
use Rattle.packet.specs.Answers.{answered}
use Rattle.queues.specs.Calls.{Call, offer, offer_long, block, End, fresh_end, accepted, after_call, after_calls, effect, queues_after_calls}
use Rattle.queues.specs.Effects.{taken_by}
use Rattle.queues.specs.AddedZeros.{answer_by_packets, answer_to}
use Rattle.queues.specs.EnableBits.{enable_after, EnableInForce}
use Rattle.queues.specs.Queues.{queue_at}
use Rattle.queues.specs.Sent.{each_once}
use Rattle.queues.specs.PacketsLeft.{LeftCounts}
use Rattle.queues.proofs.EnableInForce.{enable-in-force}
use Rattle.queues.proofs.LeftCounts.{left-counts}
use Rattle.queues.proofs.StandsCalls.{stands_queues}
use Rattle.queues.proofs.ZerosCounted.{answered_accepted}
use Rattle.layout.specs.Layout.{byte_at, number_at}
use Rattle.sender_layout.specs.SenderBytes.{sender_length, slot_in, sender_in}
use Rattle.sender_layout.specs.Answers.{block_answer_length, placed_told, used_told, zeros_told}
use Rattle.aes18.specs.Room.{no_room}
use Rattle.aes18.specs.SenderCalls.{list_record, block_written, block_answer}
use Rattle.exported.specs.Lent.{Lent, LentCall, call_answered, call_refusal, call_has_room, after_lent_call, after_lent_calls, calls_of}
use Rattle.exported.proofs.NoRoom.{call_refusal-below, answered_255}
use Rattle.aes18.proofs.SenderOutcomes.{list_short, offer_short, offer_long_short, block_short}
use Rattle.exported.proofs.SenderCarried.{Carried, list_carries, offer_carries, long_carries, block_carries, offer_answers, long_answers, block_answers, block-told}

-- they are a sender's state, in as many bytes as were lent first
pub record CarriedEnd (bytes : List ℕ) (e : Lent) (s : End) : Type 0 where
  pub sender : Carried bytes e.bytes s.sender
  pub store : e.store ≡ s.store

-- a call is accepted where it has room and document 01 accepts it
answered_0 : (room : Bool) (refusal : ℕ) → eqb (cond room refusal no_room) 0 ≡ room && eqb refusal 0
unfolding no_room
answered_0 true refusal = refl
answered_0 false refusal = refl

accepted-refusal : (s : End) (c : Call) → eqb (call_refusal s c) 0 ≡ accepted s c
unfolding call_refusal accepted
accepted-refusal s (offer c p r message) = refl
accepted-refusal s (offer_long p r message) = refl
accepted-refusal s (block n u buffer y) = refl

-- a call that has no room leaves the state
after_cond : (room : Bool) (s : End) (c : Call) (cs : List Call) → after_calls (cond room (after_call s c) s) cs ≡ after_calls s (cond room (c ∷ cs) cs)
unfolding after_calls
after_cond true s c cs = refl
after_cond false s c cs = refl

-- where a record's bytes tell the packets still to go
left_told : (bytes : List ℕ) (c : ℕ) → c < 4 → number_at 2 bytes (13 + 10 * c + 8) ≡ (slot_at (sender_in bytes) c).left
unfolding sender_in slot_in slot_at
left_told bytes zero h = refl
left_told bytes (suc zero) h = refl
left_told bytes (suc (suc zero)) h = refl
left_told bytes (suc (suc (suc zero))) h = refl
left_told bytes (suc (suc (suc (suc c)))) h = absurd (omega arith)

module _ (bytes : List ℕ) (room : sender_length ≤ length bytes) where
  module _ (e : Lent) (s : End) (h : CarriedEnd bytes e s) (answer : List ℕ) where
    same : ◌≡◌ {A = End} (record { sender = sender_in e.bytes; store = e.store }) s
    same = λ i. record { sender = h.sender.sender i; store = h.store i }

    still : sender_length ≤ length e.bytes
    still = omega (arith, h.sender.long)

    -- a call answers the number of document 01's, and 255 where it has no room
    pub call_number : (c : Call) → call_answered e c answer ≡ cond (call_has_room c answer) (call_refusal s c) no_room
    unfolding call_answered call_has_room call_refusal
    call_number (offer c p r message) =
        (offer_answers e.bytes still e.store c p r message).0 ∙ ap (λ (s : End). call_refusal s (offer c p r message)) same
    call_number (offer_long p r message) =
        (long_answers e.bytes still e.store p r message).0 ∙ ap (λ (s : End). call_refusal s (offer_long p r message)) same
    call_number (block n u buffer y) =
        (block_answers e.bytes still e.store n u y buffer answer).0
        ∙ ap (λ (s : End). cond (leb block_answer_length (length answer)) (call_refusal s (block n u buffer y)) no_room) same

    -- so it is accepted where it has room and document 01's is
    pub call_accepted : (c : Call) → eqb (call_answered e c answer) 0 ≡ call_has_room c answer && accepted s c
    call_accepted c = rw (call_number c, ← accepted-refusal s c) (answered_0 (call_has_room c answer) (call_refusal s c))

    -- and 255 is answered where it has no room, and nowhere else
    pub call_255 : (c : Call) → eqb (call_answered e c answer) no_room ≡ not (call_has_room c answer)
    call_255 c = rw (call_number c) (answered_255 (call_has_room c answer) (call_refusal s c) (call_refusal-below s c))

    -- a block is document 01's
    pub call_block : (n u : ℕ) (y : System) (buffer : List ℕ) → block_written e.bytes e.store n u y buffer answer
        ≡ cond (call_has_room (block n u buffer y) answer) (buffer_after_block s.sender s.store buffer n u y) buffer
    unfolding call_has_room
    call_block n u y buffer =
        (block_answers e.bytes still e.store n u y buffer answer).1
        ∙ ap (λ (s : End). cond (leb block_answer_length (length answer)) (buffer_after_block s.sender s.store buffer n u y) buffer) same

    -- the numbers in the answer of an accepted call are those of the papers' call
    pub call_answer : (n u : ℕ) (y : System) (buffer : List ℕ) → call_answered e (block n u buffer y) answer ≡ 0
        → (placed_told (block_answer e.bytes e.store n u y buffer answer) ≡ frames_placed s.sender s.store u y)
        × (used_told (block_answer e.bytes e.store n u y buffer answer) ≡ bits_used s.sender s.store u y)
        × (zeros_told (block_answer e.bytes e.store n u y buffer answer) ≡ zeros_added s.sender s.store u y)
    unfolding call_answered
    call_answer n u y buffer z =
        let told = block-told e.bytes still e.store n u y buffer answer z in (
          told.0 ∙ ap (λ (s : End). frames_placed s.sender s.store u y) same,
          told.1 ∙ ap (λ (s : End). bits_used s.sender s.store u y) same,
          told.2 ∙ ap (λ (s : End). zeros_added s.sender s.store u y) same,
        )

    -- every call leaves the state that document 01's leaves; one that has no room leaves it as it was
    pub call_carried : (c : Call) → CarriedEnd bytes (after_lent_call e c answer) (cond (call_has_room c answer) (after_call s c) s)
    unfolding after_lent_call after_call call_has_room
    call_carried (offer c p r message) =
        let k = offer_carries e.bytes h.sender.each still e.store c p r message in
        subst (λ (s : End). CarriedEnd bytes (after_lent_call e (offer c p r message) answer) (after_call s (offer c p r message))) same
        (record {
          sender = record { sender = k.sender; each = k.each; long = k.long ∙ h.sender.long };
          store = (offer_answers e.bytes still e.store c p r message).1;
        })
    call_carried (offer_long p r message) =
        let k = long_carries e.bytes h.sender.each still e.store p r message in
        subst (λ (s : End). CarriedEnd bytes (after_lent_call e (offer_long p r message) answer) (after_call s (offer_long p r message))) same
        (record {
          sender = record { sender = k.sender; each = k.each; long = k.long ∙ h.sender.long };
          store = (long_answers e.bytes still e.store p r message).1;
        })
    call_carried (block n u buffer y) =
        let k = block_carries e.bytes h.sender.each still e.store n u y buffer answer in
        subst
        (λ (s : End). CarriedEnd bytes (after_lent_call e (block n u buffer y) answer)
        (cond (leb block_answer_length (length answer)) (after_call s (block n u buffer y)) s))
        same (go (leb block_answer_length (length answer)) k)
      where
        go : (t : Bool)
            → Carried e.bytes (after_lent_call e (block n u buffer y) answer).bytes
            (cond t (after_call (record { sender = sender_in e.bytes; store = e.store }) (block n u buffer y)).sender (sender_in e.bytes))
            → CarriedEnd bytes (after_lent_call e (block n u buffer y) answer)
            (cond t (after_call (record { sender = sender_in e.bytes; store = e.store }) (block n u buffer y))
            (record { sender = sender_in e.bytes; store = e.store }))
        go true k = record { sender = record { sender = k.sender; each = k.each; long = k.long ∙ h.sender.long }; store = refl }
        go false k = record { sender = record { sender = k.sender; each = k.each; long = k.long ∙ h.sender.long }; store = refl }

  rest_carried : (cs : List LentCall) (e : Lent) (s : End) → CarriedEnd bytes e s
      → CarriedEnd bytes (after_lent_calls e cs) (after_calls s (calls_of cs))
  unfolding after_lent_calls after_calls calls_of
  rest_carried [] e s h = h
  rest_carried (c ∷ cs) e s h =
      let room = call_has_room c.call c.answer in
      subst (λ t. CarriedEnd bytes (after_lent_calls (after_lent_call e c.call c.answer) cs) t) (after_cond room s c.call (calls_of cs))
      (rest_carried cs (after_lent_call e c.call c.answer) (cond room (after_call s c.call) s) (call_carried e s h c.answer c.call))

  -- so do a listing and any calls after it
  pub calls_carried : Bytes bytes → (list : List ℕ) → Bytes list → (store : Stores) (cs : List LentCall)
      → CarriedEnd bytes (after_lent_calls (record { bytes = list_record bytes list; store = store }) cs) (after_calls (fresh_end list store) (calls_of cs))
  calls_carried are list listed store cs =
      rest_carried cs _ (fresh_end list store) (record { sender = list_carries bytes are room list listed; store = refl })

  -- and byte 54 of the record is the enable bits in force
  pub enable_byte : Bytes bytes → (list : List ℕ) → Bytes list → (store : Stores) (cs : List LentCall)
      → byte_at (after_lent_calls (record { bytes = list_record bytes list; store = store }) cs).bytes 54 ≡ enable_after list store (calls_of cs)
  unfolding EnableInForce sender_in
  enable_byte are list listed store cs =
      ap (λ (s : Sender). s.enable) (calls_carried are list listed store cs).sender.sender ∙ enable-in-force list store (calls_of cs)

  -- and the last two of the ten bytes of each circuit number are the packets of which copies wait
  pub left_bytes : Bytes bytes → (list : List ℕ) → Bytes list → (store : Stores) (cs : List LentCall) (c : ℕ) → c < 4
      → number_at 2 (after_lent_calls (record { bytes = list_record bytes list; store = store }) cs).bytes (13 + 10 * c + 8)
      ≡ length (each_once (queue_at (queues_after_calls list store (calls_of cs)) c).copies)
  unfolding LeftCounts
  left_bytes are list listed store cs c four =
      left_told (after_lent_calls (record { bytes = list_record bytes list; store = store }) cs).bytes c four
      ∙ ap (λ (s : Sender). (slot_at s c).left) (calls_carried are list listed store cs).sender.sender
      ∙ left-counts list store (calls_of cs) c

  -- and the three numbers that an accepted block call behind them tells are those by the system packet and the packets that the block rule takes
  pub answer_bytes : Bytes bytes → (list : List ℕ) → Bytes list → (store : Stores) (cs : List LentCall) (n u : ℕ) (y : System) (buffer answer : List ℕ) →
      let e = after_lent_calls (record { bytes = list_record bytes list; store = store }) cs in
      let told = block_answer e.bytes e.store n u y buffer answer in
      call_answered e (block n u buffer y) answer ≡ 0
      → ◌≡◌ {A = List (Result Block Refusal)}
      (Ok (record { placed = placed_told told; used = used_told told; zeros = zeros_told told }) ∷ [])
      (map answer_by_packets (taken_by (queues_after_calls list store (calls_of cs)) (effect (block n u buffer y))))
  unfolding answer_to answer_to_block made_of answered accepted
  answer_bytes are list listed store cs n u y buffer answer z =
      let c = block n u buffer y in
      let s = after_calls (fresh_end list store) (calls_of cs) in
      let h = calls_carried are list listed store cs in
      let (placed, used, zeros) = call_answer _ s h answer n u y buffer z in
      let yes : accepted s c ≡ true =
      and_right (call_has_room c answer) (accepted s c) (sym (call_accepted _ s h answer c) ∙ ap (λ k. eqb k 0) z) in
      rw (placed, used, zeros) (rw yes at (answered_accepted c s (queues_after_calls list store (calls_of cs)) (stands_queues list store (calls_of cs)) yes))

-- ---- a record shorter than it has to be

-- every call is answered by 255 and leaves all as it was
module _ (bytes : List ℕ) (store : Stores) (short : length bytes < sender_length) where
  lent : Lent
  lent = record { bytes = bytes; store = store }

  call_unchanged : (c : Call) (answer : List ℕ) → after_lent_call lent c answer ≡ lent
  unfolding after_lent_call lent
  call_unchanged (offer c p r message) answer =
      let (number, same, kept) = offer_short bytes store c p r message short in
      λ i. record { bytes = sym same i; store = sym kept i }
  call_unchanged (offer_long p r message) answer =
      let (number, same, kept) = offer_long_short bytes store p r message short in
      λ i. record { bytes = sym same i; store = sym kept i }
  call_unchanged (block n u buffer y) answer =
      let (number, same, written, told) = block_short bytes store n u y buffer answer short in
      λ i. record { bytes = sym same i; store = store }

  rest_unchanged : (cs : List LentCall) → after_lent_calls lent cs ≡ lent
  unfolding after_lent_calls
  rest_unchanged [] = refl
  rest_unchanged (c ∷ cs) = ap (λ e. after_lent_calls e cs) (call_unchanged c.call c.answer) ∙ rest_unchanged cs

  pub calls_unchanged : (list : List ℕ) (cs : List LentCall)
      → after_lent_calls (record { bytes = list_record bytes list; store = store }) cs ≡ record { bytes = bytes; store = store }
  unfolding lent
  calls_unchanged list cs = rw (← (list_short bytes list short).1) (rest_unchanged cs)

-- What is in the frames that calls place: packets that the sender makes of messages at right circuits, and system packets.
use Prim.Native.Nat.{ℕ, zero, suc, ◌+◌, ◌≤◌, ◌<◌}
use native.Mathlib.Omega.{arith}
use mathlib.Core.Bool.{true, false}
use mathlib.Core.List.{List, [], ◌∷◌, ◌++◌, map}
use mathlib.Core.Path.{◌≡◌, refl}
use lib.ListN.{length, get_or, set, replicate, get_or-map}
use lib.Dec.{ltb, eqb}
use borrow.Author.Tests.{eqb-true, eqb-false, eq-eqb, ltb-false, not-false}
use Rattle.bits.specs.Bits.{Bytes}
use Rattle.bits.proofs.Tests.{or_left, or_right}
use Rattle.hdlc.specs.Frames.{flag, frame}
use Rattle.packet.specs.declared.Circuit.{Circuit}
use Rattle.packet.specs.Circuits.{circuits_of, address_ff, wrong_extension, circuits_refusal, list_refusal, no_circuit}
use Rattle.packet.specs.Messages.{packets}
use Rattle.packet.specs.Packets.{system_packet}
use Rattle.packet.specs.Lists.{any_of, AllAre}
use Rattle.packet.proofs.Choices.{cond_either}
use Rattle.packet.proofs.CircuitLists.{circuits_refusal-zero, listed-listing, listing-refusal}
use Rattle.packet.proofs.Lists.{AllAre_append, AllAre-replicate}
use Rattle.sender.specs.Blocks.{system_packets, block_refusal}
use Rattle.queues.specs.Queues.{Copy, Queue, Queues, fresh_queue, fresh_queues, queue_at, copy_of, copies_from, message_copies, message_for, offered, offer_queues, pick_queue, behind_first, behind, serve_queues, ruled_queues, Placed, Taken, taken_none, and_taken, take_up_to, copies_in_queues, take_frames}
use Rattle.queues.specs.Effects.{Effect, no_effect, sends_message, takes_frames, taken_for, TakenBlock, bits_of_block, queues_after_effect, taken_by, blocks_taken}
use Rattle.queues.specs.Calls.{Call, offer, offer_long, block, End, accepted, after_call, effect, effects}
use Rattle.sender.proofs.BlockRefusals.{accepted as block-accepted}
use Rattle.queues.proofs.Queues.{taking_cases}
use Rattle.queues.proofs.StandsCalls.{stands_fresh, effect_of_cases, RightEffect, AllRight, right_calls}
use Rattle.link.specs.Demand3.{Pass, sender, queues, effects_of_calls, blocks, Frame, InBlock, not_ours, ours, packets_in, frames_from, frames_in_blocks, frames, BytesIn}
use Rattle.link.proofs.Steps.{RightCircuit, Made, MadeSystem, MadeBy, AllMade}

-- ---- circuits of an accepted list of bytes

-- a place with no circuit, a circuit that passes no test of refusal, and the circuits of such a list
right_none : RightCircuit no_circuit
unfolding no_circuit
right_none = record { address = omega arith; extended = omega arith; extension = omega arith; none = λ e. refl }

right_circuit : (k : Circuit) → k.address < 256 → k.extension < 256 → address_ff k ≡ false → wrong_extension k ≡ false → RightCircuit k
unfolding address_ff wrong_extension
right_circuit k a x f w =
    let other : k.address ≡ 255 → ⊥ = eqb-false k.address 255 f in
    let le : k.extended ≤ 1 = ltb-false 1 k.extended (or_left (ltb 1 k.extended) _ w) in
    record {
      address = omega arith;
      extended = omega arith;
      extension = x;
      none =
          λ e.
          eqb-true k.extension 0
          (not-false (eqb k.extension 0) (rw (eq-eqb k.extended 0 e) at (or_right (ltb 1 k.extended) _ w)));
    }

right_circuits : (bytes : List ℕ) (c : ℕ) → Bytes bytes → any_of address_ff (circuits_of bytes) ≡ false
    → any_of wrong_extension (circuits_of bytes) ≡ false → RightCircuit (get_or (circuits_of bytes) c no_circuit)
unfolding Bytes circuits_of any_of
right_circuits [] c h f w = right_none
right_circuits (a ∷ []) c h f w = right_none
right_circuits (a ∷ e ∷ []) c h f w = right_none
right_circuits (a ∷ e ∷ x ∷ bytes) zero h f w = right_circuit _ h.0 h.1.1.0 (or_left _ _ f) (or_left _ _ w)
right_circuits (a ∷ e ∷ x ∷ bytes) (suc c) h f w =
    let k : Circuit = record { address = a; extended = e; extension = x } in
    right_circuits bytes c h.1.1.1 (or_right (address_ff k) _ f) (or_right (wrong_extension k) _ w)

pub list_right : (bytes : List ℕ) → list_refusal bytes ≡ 0 → Bytes bytes → (c : ℕ) → RightCircuit (get_or (circuits_of bytes) c no_circuit)
list_right bytes listed h c =
    let right : circuits_refusal (circuits_of bytes) ≡ 0 = rw (listed-listing bytes listed) at (listing-refusal bytes) in
    let (ff, extension, alike) = circuits_refusal-zero (circuits_of bytes) right in
    right_circuits bytes c h ff extension

-- ---- copies that wait

-- each is one that the sender makes at circuit k
abbrev MadeCopies : Circuit → List Copy → Type 0
MadeCopies k cs = AllAre (Made k) cs

MadeCopies_behind_first : (k : Circuit) (cs : List Copy) → MadeCopies k cs → MadeCopies k (behind_first cs)
unfolding AllAre behind_first
MadeCopies_behind_first k [] h = h
MadeCopies_behind_first k (c ∷ cs) h = h.1

-- a queue of them at a right circuit, and queues that are all so
record RightQueue (q : Queue) : Type 0 where
  circuit : RightCircuit q.circuit
  copies : MadeCopies q.circuit q.copies

RightQueues : Queues → Type 0
RightQueues q = (c : ℕ) → RightQueue (queue_at q c)

-- fresh queues are so
right_fresh : (cs : List Circuit) → ((c : ℕ) → RightCircuit (get_or cs c no_circuit)) → RightQueues (fresh_queues cs)
unfolding RightQueues queue_at fresh_queues fresh_queue AllAre
right_fresh cs right c = rw (get_or-map fresh_queue cs c no_circuit) (record { circuit = right c; copies = tt })

-- what holds of an element and of one that is stored holds after the storing
each_set : {A : Type 0} (P : A → Type 0) (l : List A) (i c : ℕ) (y d : A) → P y → P (get_or l c d) → P (get_or (set l i y) c d)
each_set P [] i c y d new old = old
each_set P (x ∷ l) zero zero y d new old = new
each_set P (x ∷ l) zero (suc c) y d new old = old
each_set P (x ∷ l) (suc i) zero y d new old = old
each_set P (x ∷ l) (suc i) (suc c) y d new old = each_set P l i c y d new old

-- queues of which a first copy is taken are right again
right_serve : (q : Queues) (d : ℕ) → RightQueues q → RightQueues (serve_queues q d)
unfolding RightQueues queue_at serve_queues behind
right_serve q d right c =
    each_set RightQueue q.queues d c (behind (queue_at q d)) (fresh_queue no_circuit)
    (record { circuit = (right d).circuit; copies = MadeCopies_behind_first (queue_at q d).circuit (queue_at q d).copies (right d).copies }) (right c)

-- and those to which an offer adds a message's copies
module _ (priority : ℕ) (message : List ℕ) (few : priority ≤ 3) (bytes : Bytes message) where
  made-copies_from : (n : ℕ) (k : Circuit) (times number i : ℕ) → i + n ≤ packets (length message)
      → MadeCopies k (copies_from k priority message times number i n)
  unfolding copies_from copy_of AllAre
  made-copies_from zero k times number i h = tt
  made-copies_from (suc n) k times number i h =
      AllAre_append (Made k) (replicate times (copy_of k priority message number i)) (copies_from k priority message times (suc number) (suc i) n)
      (AllAre-replicate (Made k) times (copy_of k priority message number i)
      (record { text = message; part = i; is = refl; few = few; bytes = bytes; inside = omega arith }))
      (made-copies_from n k times (suc number) (suc i) (omega arith))

  right_offer : (q : Queues) (d repetition : ℕ) → RightQueues q → RightQueues (offer_queues q d priority repetition message)
  unfolding RightQueues queue_at offer_queues offered message_for message_copies
  right_offer q d repetition right c =
      each_set RightQueue q.queues d c (offered (queue_at q d) priority repetition message) (fresh_queue no_circuit)
      (record {
        circuit = (right d).circuit;
        copies =
            AllAre_append (Made (queue_at q d).circuit) (queue_at q d).copies (message_copies (message_for (queue_at q d) priority repetition message))
            (right d).copies
            (made-copies_from (packets (length message)) (queue_at q d).circuit (suc repetition) (queue_at q d).sent 0 (omega arith));
      })
      (right c)

-- ---- frames placed

-- each is of a copy made at a right circuit
abbrev MadePlaced : List Placed → Type 0
MadePlaced ps = AllAre (λ (p : Placed). RightCircuit p.circuit × Made p.circuit p.copy) ps

-- what a block takes leaves right queues
MadeTaken : Taken → Type 0
MadeTaken t = RightQueues t.queues × MadePlaced t.frames

made-take_up_to : (n : ℕ) (q : Queues) (at enable u : ℕ) → RightQueues q → MadeTaken (take_up_to n q at enable u)
unfolding take_up_to taken_none and_taken MadeTaken AllAre RightQueues
made-take_up_to zero q at enable u right = (right, tt)
made-take_up_to (suc n) q at enable u right =
    taking_cases q at u MadeTaken (pick_queue q enable) _ (right, tt)
    (λ d x xs e next.
    let later : MadeTaken (take_up_to n (serve_queues q d) next enable u) =
    made-take_up_to n (serve_queues q d) next enable u (right_serve q d right) in
    let first : MadeCopies (queue_at q d).circuit (x ∷ xs) = rw e at (right d).copies in
    (later.0, (((right d).circuit, first.0), later.1)))

made-take_frames : (q : Queues) (at enable u : ℕ) → RightQueues q → MadeTaken (take_frames q at enable u)
unfolding take_frames
made-take_frames q at enable u right = made-take_up_to (copies_in_queues q.queues) q at enable u right

-- ---- effects

-- what an effect has of the bytes that its call was lent: a message is bytes, and the packets before ours are system packets
EffectLent : Effect → Type 0
EffectLent no_effect = Unit {0}
EffectLent (sends_message c priority repetition message) = Bytes message
EffectLent (takes_frames t) = AllAre MadeSystem t.before

-- the packets before ours and our frames are made so
record MadeBlock (b : TakenBlock) : Type 0 where
  before : AllAre MadeSystem b.before
  frames : MadePlaced b.frames

-- an effect leaves right queues and makes such blocks
made-effect : (x : Effect) (q : Queues) → RightEffect q x → EffectLent x → RightQueues q → RightQueues (queues_after_effect q x) × AllAre MadeBlock (taken_by q x)
unfolding RightEffect EffectLent queues_after_effect taken_by taken_for AllAre MadeTaken RightQueues queue_at ruled_queues
made-effect no_effect q right lent queues = (queues, tt)
made-effect (sends_message c priority repetition message) q right lent queues =
    (right_offer priority message right.1 lent q c repetition queues, tt)
made-effect (takes_frames t) q right lent queues =
    let taken = made-take_frames (ruled_queues q t.new_enable) _ _ t.usable queues in
    (taken.0, (record { before = lent; frames = taken.1 }, tt))

made-effects : (xs : List Effect) (q : Queues) → AllRight q xs → AllAre EffectLent xs → RightQueues q → AllAre MadeBlock (blocks_taken q xs)
unfolding AllRight AllAre blocks_taken
made-effects [] q right lent queues = tt
made-effects (x ∷ xs) q right lent queues =
    let (after, made) = made-effect x q right.0 lent.0 queues in
    AllAre_append MadeBlock (taken_by q x) (blocks_taken (queues_after_effect q x) xs) made
    (made-effects xs (queues_after_effect q x) right.1 lent.1 after)

-- ---- calls

lent_accepted : (call : Call) (e : End) → BytesIn call → accepted e call ≡ true → EffectLent (effect call)
unfolding effect accepted BytesIn EffectLent AllAre system_packets
lent_accepted (offer c priority repetition message) e bytes a = bytes
lent_accepted (offer_long priority repetition message) e bytes a = bytes
lent_accepted (block n u buffer y) e bytes a =
    let f = block-accepted e.sender e.store buffer n u y (eqb-true (block_refusal e.sender e.store buffer n u y) 0 a) in
    let made : y.wanted ≡ true → MadeSystem (system_packet y.enable y.code y.information) =
    λ w.
    record {
      enable = y.enable;
      code = y.code;
      information = y.information;
      is = refl;
      enable_le = (f.allowed w).enable;
      code_le = (f.allowed w).code;
      short = (f.allowed w).information;
      bytes = bytes;
    } in
    cond_either (AllAre MadeSystem) y.wanted _ _ (λ w. (made w, tt)) (λ _. tt)

lent_calls : (calls : List Call) (e : End) → AllAre BytesIn calls → AllAre EffectLent (effects e calls)
unfolding effects AllAre EffectLent
lent_calls [] e bytes = tt
lent_calls (call ∷ calls) e bytes =
    (effect_of_cases EffectLent call e (lent_accepted call e bytes.0) tt, lent_calls calls (after_call e call) bytes.1)

-- ---- the frames of blocks

-- packets in a block are made so
abbrev MadeIn : List InBlock → Type 0
MadeIn xs = AllAre (λ (x : InBlock). MadeBy x.whose x.packet) xs

made_before : (ps : List (List ℕ)) → AllAre MadeSystem ps → MadeIn (map not_ours ps)
unfolding AllAre MadeBy
made_before [] h = tt
made_before (p ∷ ps) h = (h.0, made_before ps h.1)

made_placed : (qs : List Placed) → MadePlaced qs → MadeIn (map ours qs)
unfolding AllAre MadeBy
made_placed [] h = tt
made_placed (q ∷ qs) h = ((refl, h.0.0, h.0.1), made_placed qs h.1)

-- and so are those in their frames
made-frames : (xs : List InBlock) (n : ℕ) → MadeIn xs → AllMade (frames_from n xs)
unfolding AllAre frames_from
made-frames [] n h = tt
made-frames (x ∷ xs) n h = (h.0, made-frames xs (n + length (frame x.packet ++ flag)) h.1)

made-blocks : (bs : List TakenBlock) (n : ℕ) → AllAre MadeBlock bs → AllMade (frames_in_blocks n bs)
unfolding AllAre frames_in_blocks packets_in
made-blocks [] n h = tt
made-blocks (b ∷ bs) n h =
    let next : ℕ = n + length (bits_of_block b) in
    AllAre_append (λ (f : Frame). MadeBy f.whose f.packet) (frames_from n (packets_in b)) (frames_in_blocks next bs)
    (made-frames (packets_in b) n
    (AllAre_append (λ (x : InBlock). MadeBy x.whose x.packet) (map not_ours b.before) (map ours b.frames)
    (made_before b.before h.0.before) (made_placed b.frames h.0.frames)))
    (made-blocks bs next h.1)

-- each frame's packet is one that the sender makes
pub frames-made : (p : Pass) → list_refusal p.sender_list ≡ 0 → Bytes p.sender_list → AllAre BytesIn p.calls → AllMade (frames p)
unfolding frames blocks
frames-made p listed bytes call_bytes =
    made-blocks (blocks p) 0
    (made-effects (effects_of_calls p) (queues p) (right_calls p.calls (sender p) (queues p) (stands_fresh p.sender_list p.sender_store listed))
    (lent_calls p.calls (sender p) call_bytes) (right_fresh (circuits_of p.sender_list) (list_right p.sender_list listed bytes)))

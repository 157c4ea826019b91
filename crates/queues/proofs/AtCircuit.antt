-- What effects do at one circuit, listed or not: the copies that waited there and those sent are those placed, in order, and then those that wait;
-- and the packets of the messages sent there are counted on.
use Prim.Native.Nat.{ℕ, zero, suc, ◌+◌, ◌≤◌, ◌<◌}
use native.Mathlib.Omega.{arith}
use mathlib.Core.Bool.{Bool, true, false, cond, true≢false}
use mathlib.Core.List.{List, [], ◌∷◌, ◌++◌, map, append_assoc, append-nil, nil≢cons}
use Rattle.std.proofs.Common.{Option, None}
use mathlib.Core.Path.{◌≡◌, refl, sym, ap, ◌∙◌}
use lib.ListN.{length, get_or, set, get_or-eq_default}
use lib.Dec.{ltb}
use borrow.Author.Tests.{ltb-true, ltb-false}
use Rattle.bits.proofs.Tests.{or_left, or_right}
use Rattle.packet.specs.declared.Circuit.{Circuit}
use Rattle.packet.specs.Circuits.{alike, two_alike, no_circuit}
use Rattle.packet.specs.Lists.{any_of, those}
use Rattle.packet.specs.Messages.{longest_long, packets}
use Rattle.packet.proofs.CircuitLists.{alike_is}
use Rattle.sender.specs.Blocks.{in_force}
use Rattle.queues.specs.Queues.{Copy, Queue, Queues, fresh_queue, fresh_queues, queue_at, queue_for, Message, message_copies, message_for, offered, offer_queues, behind, serve_queues, pick_queue, ruled_queues, Placed, taken_none, and_taken, take_up_to, copies_in_queues, take_frames}
use Rattle.queues.specs.Effects.{Effect, no_effect, sends_message, takes_frames, taken_for, TakenBlock, queues_after_effect, sent_by, taken_by, queues_after, messages_sent, blocks_taken}
use Rattle.queues.specs.Sent.{messages_at, copies_sent, placed_at, frames_of}
use Rattle.queues.proofs.Queues.{cons_behind_first, taking_cases}
use Rattle.queues.proofs.StandsCalls.{RightEffect, AllRight}

-- ---- queues by circuit

abbrev pub circuits : List Queue → List Circuit
circuits qs = map (λ (q : Queue). q.circuit) qs

-- no two are alike
unfoldable pub Apart : Queues → Type 0
Apart q = two_alike (circuits q.queues) ≡ false

-- a circuit that no other one is alike to is not found behind it
some_get_or : (qs : List Queue) (k : Circuit) (d : ℕ) → d < length qs → any_of (alike k) (circuits qs) ≡ false
    → alike k (get_or qs d (fresh_queue no_circuit)).circuit ≡ false
unfolding any_of
some_get_or [] k d h e = absurd (omega arith)
some_get_or (q ∷ qs) k zero h e = or_left _ _ e
some_get_or (q ∷ qs) k (suc d) h e = some_get_or qs k d (omega arith) (or_right (alike k q.circuit) _ e)

-- the queue of number d changes: it is the circuit's, or another's
queue_for-set : (qs : List Queue) (d : ℕ) (p : Queue) (k : Circuit) → d < length qs → two_alike (circuits qs) ≡ false
    → p.circuit ≡ (get_or qs d (fresh_queue no_circuit)).circuit
    → queue_for (set qs d p) k ≡ cond (alike k (get_or qs d (fresh_queue no_circuit)).circuit) p (queue_for qs k)
unfolding queue_for two_alike
queue_for-set [] d p k h apart same = absurd (omega arith)
queue_for-set (q ∷ qs) zero p k h apart same =
    ap (λ c. cond (alike k c) p (queue_for qs k)) same ∙ go (alike k q.circuit)
  where
    go : (b : Bool) → cond b p (queue_for qs k) ≡ cond b p (cond b q (queue_for qs k))
    go true = refl
    go false = refl
queue_for-set (q ∷ qs) (suc d) p k h apart same =
    let later = queue_for-set qs d p k (omega arith) (or_right (any_of (alike q.circuit) (circuits qs)) _ apart) same in
    rw later (go (alike k q.circuit) refl (alike k (get_or qs d (fresh_queue no_circuit)).circuit) refl)
  where
    c : Circuit
    c = (get_or qs d (fresh_queue no_circuit)).circuit

    go : (a : Bool) → alike k q.circuit ≡ a → (b : Bool) → alike k c ≡ b
        → cond a q (cond b p (queue_for qs k)) ≡ cond b p (cond a q (queue_for qs k))
    go false e b f = refl
    go true e false f = refl
    go true e true f =
        let other : alike q.circuit c ≡ false = some_get_or qs q.circuit d (omega arith) (or_left _ _ apart) in
        absurd (true≢false (sym f ∙ rw (alike_is k q.circuit e) other))

-- the number's queue is the circuit's
queue_for_at : (qs : List Queue) (d : ℕ) (k : Circuit) → d < length qs → two_alike (circuits qs) ≡ false
    → alike k (get_or qs d (fresh_queue no_circuit)).circuit ≡ true → queue_for qs k ≡ get_or qs d (fresh_queue no_circuit)
unfolding queue_for two_alike
queue_for_at [] d k h apart e = absurd (omega arith)
queue_for_at (q ∷ qs) zero k h apart e = rw e
queue_for_at (q ∷ qs) (suc d) k h apart e =
    go (alike k q.circuit) refl (queue_for_at qs d k (omega arith) (or_right (any_of (alike q.circuit) (circuits qs)) _ apart) e)
  where
    go : (b : Bool) → alike k q.circuit ≡ b → queue_for qs k ≡ get_or qs d (fresh_queue no_circuit)
        → cond b q (queue_for qs k) ≡ get_or qs d (fresh_queue no_circuit)
    go false f later = later
    go true f later =
        let other : alike q.circuit (get_or qs d (fresh_queue no_circuit)).circuit ≡ false =
        some_get_or qs q.circuit d (omega arith) (or_left _ _ apart) in
        absurd (true≢false (sym e ∙ rw (alike_is k q.circuit f) other))

circuits_set : (qs : List Queue) (d : ℕ) (p : Queue) → p.circuit ≡ (get_or qs d (fresh_queue no_circuit)).circuit → circuits (set qs d p) ≡ circuits qs
circuits_set [] d p e = refl
circuits_set (q ∷ qs) zero p e = ap (λ c. c ∷ circuits qs) e
circuits_set (q ∷ qs) (suc d) p e = ap (λ cs. q.circuit ∷ cs) (circuits_set qs d p e)

-- fresh queues
pub apart_fresh : (cs : List Circuit) → two_alike cs ≡ false → Apart (fresh_queues cs)
unfolding Apart fresh_queues fresh_queue
apart_fresh cs e = rw (go cs) e
  where
    go : (cs : List Circuit) → circuits (map fresh_queue cs) ≡ cs
    go [] = refl
    go (c ∷ cs) = ap (λ l. c ∷ l) (go cs)

pub queue_for-fresh : (cs : List Circuit) (k : Circuit) → queue_for (fresh_queues cs).queues k ≡ fresh_queue k
unfolding fresh_queues queue_for fresh_queue
queue_for-fresh cs k = go cs
  where
    here : (c : Circuit) (rest : Queue) (b : Bool) → alike k c ≡ b → rest ≡ fresh_queue k → cond b (fresh_queue c) rest ≡ fresh_queue k
    here c rest true e f = ap fresh_queue (sym (alike_is k c e))
    here c rest false e f = f

    go : (cs : List Circuit) → queue_for (map fresh_queue cs) k ≡ fresh_queue k
    go [] = refl
    go (c ∷ cs) = here c (queue_for (map fresh_queue cs) k) (alike k c) refl (go cs)

-- a queue that has copies is there
queue_at_there : (q : Queues) (d : ℕ) (x : Copy) (xs : List Copy) → (queue_at q d).copies ≡ x ∷ xs → d < length q.queues
unfolding queue_at fresh_queue
queue_at_there q d x xs e = go (ltb d (length q.queues)) refl
  where
    go : (b : Bool) → ltb d (length q.queues) ≡ b → d < length q.queues
    go true h = ltb-true d (length q.queues) h
    go false h =
        absurd
        (nil≢cons
        (sym (ap (λ (p : Queue). p.copies) (get_or-eq_default q.queues (fresh_queue no_circuit) (ltb-false d (length q.queues) h))) ∙ e))

-- ---- lists joined

those_append : {A : Type 0} (test : A → Bool) (a b : List A) → those test (a ++ b) ≡ those test a ++ those test b
unfolding those
those_append test [] b = refl
those_append test (x ∷ a) b = rw (those_append test a b) (sym (append_assoc (cond (test x) (x ∷ []) []) (those test a) (those test b)))

messages_at_append : (k : Circuit) (a b : List Message) → messages_at k (a ++ b) ≡ messages_at k a ++ messages_at k b
unfolding messages_at
messages_at_append k a b = those_append (λ (m : Message). alike k m.circuit) a b

copies_sent_append : (a b : List Message) → copies_sent (a ++ b) ≡ copies_sent a ++ copies_sent b
unfolding copies_sent
copies_sent_append [] b = refl
copies_sent_append (m ∷ a) b = rw (copies_sent_append a b) (sym (append_assoc (message_copies m) (copies_sent a) (copies_sent b)))

placed_at_append : (k : Circuit) (a b : List Placed) → placed_at k (a ++ b) ≡ placed_at k a ++ placed_at k b
unfolding placed_at
placed_at_append k [] b = refl
placed_at_append k (p ∷ a) b =
    rw (placed_at_append k a b) (sym (append_assoc (cond (alike k p.circuit) (p.copy ∷ []) []) (placed_at k a) (placed_at k b)))

frames_of_append : (a b : List TakenBlock) → frames_of (a ++ b) ≡ frames_of a ++ frames_of b
unfolding frames_of
frames_of_append [] b = refl
frames_of_append (x ∷ a) b = rw (frames_of_append a b) (sym (append_assoc x.frames (frames_of a) (frames_of b)))

-- what waits, is sent and placed first, and then
joined : (waiting now later placed more waits final : List Copy) → waiting ++ now ≡ placed ++ waits → waits ++ later ≡ more ++ final
    → waiting ++ (now ++ later) ≡ (placed ++ more) ++ final
joined waiting now later placed more waits final e f =
    sym (append_assoc waiting now later)
    ∙ ap (λ l. l ++ later) e
    ∙ append_assoc placed waits later
    ∙ ap (◌++◌ placed) f
    ∙ sym (append_assoc placed more final)

-- ---- one circuit

-- messages at circuit k, of priorities and lengths that are right, whose packets are counted from n on
unfoldable pub Offered : Circuit → ℕ → List Message → Type 0
Offered k n [] = Unit {0}
Offered k n (m ∷ ms) =
    (m.circuit ≡ k) × (m.first ≡ n) × (m.priority ≤ 3) × (length m.text ≤ longest_long) × Offered k (n + packets (length m.text)) ms

module _ (k : Circuit) where
  -- from queues q to queues r messages were sent and frames placed
  pub record AtCircuit (q : Queues) (ms : List Message) (ps : List Placed) (r : Queues) : Type 0 where
    pub copies : (queue_for q.queues k).copies ++ copies_sent (messages_at k ms) ≡ placed_at k ps ++ (queue_for r.queues k).copies
    pub counted :
        (later : List Message) → Offered k (queue_for r.queues k).sent later → Offered k (queue_for q.queues k).sent (messages_at k ms ++ later)
    pub circuits_stay : circuits r.queues ≡ circuits q.queues

  -- nothing was, whichever enable bits are in force then
  at_ruled : (q : Queues) (new_enable : Option ℕ) → AtCircuit q [] [] (ruled_queues q new_enable)
  unfolding messages_at those copies_sent placed_at ruled_queues
  at_ruled q new_enable = record { copies = append-nil (queue_for q.queues k).copies; counted = λ later h. h; circuits_stay = refl }

  at_none : (q : Queues) → AtCircuit q [] [] q
  unfolding ruled_queues in_force
  at_none q = at_ruled q None

  at_append : (q : Queues) (ms : List Message) (ps : List Placed) (r : Queues) (ms' : List Message) (ps' : List Placed) (s : Queues)
      → AtCircuit q ms ps r → AtCircuit r ms' ps' s → AtCircuit q (ms ++ ms') (ps ++ ps') s
  at_append q ms ps r ms' ps' s now then =
      record {
        copies =
            rw (messages_at_append k ms ms', copies_sent_append (messages_at k ms) (messages_at k ms'), placed_at_append k ps ps')
            (joined (queue_for q.queues k).copies (copies_sent (messages_at k ms)) (copies_sent (messages_at k ms')) (placed_at k ps) (placed_at k ps')
            (queue_for r.queues k).copies (queue_for s.queues k).copies now.copies then.copies);
        counted =
            λ later h.
            rw (messages_at_append k ms ms', append_assoc (messages_at k ms) (messages_at k ms') later)
            (now.counted (messages_at k ms' ++ later) (then.counted later h));
        circuits_stay = then.circuits_stay ∙ now.circuits_stay;
      }

  apart_after : (q : Queues) (ms : List Message) (ps : List Placed) (r : Queues) → AtCircuit q ms ps r → Apart q → Apart r
  unfolding Apart
  apart_after q ms ps r a apart = rw a.circuits_stay apart

  -- serving number d takes the first copy of its circuit, and no other's
  at_serve : (q : Queues) (d : ℕ) (x : Copy) (xs : List Copy) → Apart q → (queue_at q d).copies ≡ x ∷ xs
      → AtCircuit q [] (record { circuit = (queue_at q d).circuit; copy = x } ∷ []) (serve_queues q d)
  unfolding Apart serve_queues queue_at behind messages_at those copies_sent placed_at
  at_serve q d x xs apart e =
      let changed = queue_for-set q.queues d (behind (queue_at q d)) k there apart refl in
      record {
        copies = rw (append-nil (queue_for q.queues k).copies, changed) (first (alike k (queue_at q d).circuit) refl);
        counted = λ later h. rw (stays (alike k (queue_at q d).circuit) refl) at (rw changed at h);
        circuits_stay = circuits_set q.queues d (behind (queue_at q d)) refl;
      }
    where
      there : d < length q.queues
      there = queue_at_there q d x xs e

      first : (b : Bool) → alike k (queue_at q d).circuit ≡ b
          → (queue_for q.queues k).copies ≡ (cond b (x ∷ []) [] ++ []) ++ (cond b (behind (queue_at q d)) (queue_for q.queues k)).copies
      first true f = rw (queue_for_at q.queues d k there apart f) (cons_behind_first (queue_at q d).copies x xs e)
      first false f = refl

      stays : (b : Bool) → alike k (queue_at q d).circuit ≡ b
          → (cond b (behind (queue_at q d)) (queue_for q.queues k)).sent ≡ (queue_for q.queues k).sent
      stays true f = rw (queue_for_at q.queues d k there apart f)
      stays false f = refl

  at_take_up_to : (n : ℕ) (q : Queues) (at enable u : ℕ) → Apart q
      → AtCircuit q [] (take_up_to n q at enable u).frames (take_up_to n q at enable u).queues
  unfolding take_up_to taken_none and_taken
  at_take_up_to zero q at enable u apart = at_none q
  at_take_up_to (suc n) q at enable u apart =
      taking_cases q at u (λ t. AtCircuit q [] t.frames t.queues) (pick_queue q enable) _ (at_none q)
      (λ d x xs e next.
      let now = at_serve q d x xs apart e in
      at_append q [] _ (serve_queues q d) [] _ _ now
      (at_take_up_to n (serve_queues q d) next enable u (apart_after q [] _ (serve_queues q d) now apart)))

  -- a message sent at a number that is listed
  at_offer : (q : Queues) (d priority repetition : ℕ) (message : List ℕ) → Apart q → d < length q.queues → priority ≤ 3 → length message ≤ longest_long
      → AtCircuit q (message_for (queue_at q d) priority repetition message ∷ []) [] (offer_queues q d priority repetition message)
  unfolding Apart offer_queues queue_at offered message_for messages_at those copies_sent placed_at Offered
  at_offer q d priority repetition message apart there few short =
      let changed = queue_for-set q.queues d p k there apart refl in
      record {
        copies = rw changed (waits (alike k (queue_at q d).circuit) refl);
        counted = λ later h. counts (alike k (queue_at q d).circuit) refl later (rw changed at h);
        circuits_stay = circuits_set q.queues d p refl;
      }
    where
      p : Queue
      p = offered (queue_at q d) priority repetition message

      m : Message
      m = message_for (queue_at q d) priority repetition message

      waits : (b : Bool) → alike k (queue_at q d).circuit ≡ b
          → (queue_for q.queues k).copies ++ copies_sent (cond b (m ∷ []) [] ++ []) ≡ (cond b p (queue_for q.queues k)).copies
      waits true f = rw (queue_for_at q.queues d k there apart f, append-nil (message_copies m))
      waits false f = append-nil (queue_for q.queues k).copies

      counts : (b : Bool) → alike k (queue_at q d).circuit ≡ b → (later : List Message) → Offered k (cond b p (queue_for q.queues k)).sent later
          → Offered k (queue_for q.queues k).sent (cond b (m ∷ []) [] ++ [] ++ later)
      counts true f later h = (
        sym (alike_is k (queue_at q d).circuit f),
        rw (queue_for_at q.queues d k there apart f),
        few,
        short,
        rw (queue_for_at q.queues d k there apart f) h,
      )
      counts false f later h = h

  at_effect : (x : Effect) (q : Queues) → Apart q → RightEffect q x → AtCircuit q (sent_by q x) (frames_of (taken_by q x)) (queues_after_effect q x)
  unfolding RightEffect sent_by taken_by frames_of queues_after_effect taken_for take_frames Apart ruled_queues
  at_effect no_effect q apart right = at_none q
  at_effect (sends_message d priority repetition message) q apart right = at_offer q d priority repetition message apart right.0 right.1 right.2
  at_effect (takes_frames t) q apart right =
      let under : Queues = ruled_queues q t.new_enable in
      rw append-nil (at_append q [] [] under [] _ _ (at_ruled q t.new_enable) (at_take_up_to (copies_in_queues q.queues) under _ _ t.usable apart))

  pub at_effects : (xs : List Effect) (q : Queues) → Apart q → AllRight q xs
      → AtCircuit q (messages_sent q xs) (frames_of (blocks_taken q xs)) (queues_after q xs)
  unfolding AllRight messages_sent blocks_taken queues_after frames_of
  at_effects [] q apart right = at_none q
  at_effects (x ∷ xs) q apart right =
      let now = at_effect x q apart right.0 in
      let q' : Queues = queues_after_effect q x in
      rw (frames_of_append (taken_by q x) (blocks_taken q' xs))
      (at_append q (sent_by q x) (frames_of (taken_by q x)) q' (messages_sent q' xs) (frames_of (blocks_taken q' xs)) (queues_after q' xs) now
      (at_effects xs q' (apart_after q (sent_by q x) (frames_of (taken_by q x)) q' now apart) right.1))

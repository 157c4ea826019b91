-- "The index counts a circuit's packets modulo 8, from 0 in a fresh sender, running on from message to message", and the copies of a packet
-- are alike.
use Prim.Native.Nat.{ℕ, zero, suc, ◌+◌, ◌%◌, ◌≤◌}
use native.Mathlib.Nat.{add-zero, suc-add, add-suc}
use native.Mathlib.Omega.{arith}
use mathlib.Core.List.Memᴰ
use mathlib.Core.List.{List, [], ◌∷◌, ◌++◌, append_assoc, append-nil, Memᴰ}
use mathlib.Core.Logic.{◌⊎◌, inl, inr, ⊎_elim}
use mathlib.Core.Path.{◌≡◌, refl, sym, ap, ap₂, ◌∙◌}
use lib.ListN.{length, replicate}
use Rattle.packet.specs.declared.Circuit.{Circuit}
use Rattle.packet.specs.Circuits.{circuits_of, list_refusal}
use Rattle.packet.specs.Messages.{packets}
use Rattle.packet.specs.Packets.{control, packet_of}
use Rattle.parsing.specs.Packets.{control_in, index}
use Rattle.packet.specs.Stores.{Stores}
use Rattle.queues.specs.Queues.{Copy, fresh_queue, fresh_queues, copy_of, copies_from, Message, message_copies}
use Rattle.queues.specs.Effects.{messages_sent}
use Rattle.queues.specs.Calls.{Call, fresh_end, effects}
use Rattle.queues.specs.Sent.{messages_at, copies_sent, Sent, copies_of, Numbered, Counted}
use Rattle.queues.proofs.AtCircuit.{Offered, queue_for-fresh}
use Rattle.queues.proofs.FirstInFirstOut.{at_calls}

-- ---- packets joined

copies_of_append : (a b : List Sent) → copies_of (a ++ b) ≡ copies_of a ++ copies_of b
unfolding copies_of
copies_of_append [] b = refl
copies_of_append (p ∷ a) b = rw (copies_of_append a b) (sym (append_assoc (replicate (suc p.repetition) p.original) (copies_of a) (copies_of b)))

Numbered_append : (a : List Sent) (n : ℕ) (b : List Sent) → Numbered n a → Numbered (n + length a) b → Numbered n (a ++ b)
unfolding Numbered
Numbered_append [] n b h g = rw add-zero at g
Numbered_append (p ∷ a) n b h g =
    let g' : Numbered (suc n + length a) b = rw (add-suc, ← suc-add) at g in
    (h.0, h.1, Numbered_append a (suc n) b h.2 g')

-- ---- a message's packets

-- the index of a packet of a message
pub index-copy_of : (k : Circuit) (priority : ℕ) (message : List ℕ) (number i : ℕ) → priority ≤ 3
    → index (copy_of k priority message number i).packet ≡ number % 8
unfolding copy_of packet_of control index control_in
index-copy_of k priority message number i h = omega arith

-- its packets, and their copies
module _ (k : Circuit) (priority : ℕ) (message : List ℕ) (repetition : ℕ) where
  unfoldable pub packets_from : ℕ → ℕ → ℕ → List Sent
  packets_from number i zero = []
  packets_from number i (suc n) =
      record { original = copy_of k priority message number i; repetition = repetition } ∷ packets_from (suc number) (suc i) n

  pub length_packets_from : (n number i : ℕ) → length (packets_from number i n) ≡ n
  unfolding packets_from
  length_packets_from zero number i = refl
  length_packets_from (suc n) number i = ap suc (length_packets_from n (suc number) (suc i))

  pub Numbered_packets_from : (n number i : ℕ) → priority ≤ 3 → Numbered number (packets_from number i n)
  unfolding packets_from Numbered copy_of
  Numbered_packets_from zero number i h = tt
  Numbered_packets_from (suc n) number i h =
      (refl, index-copy_of k priority message number i h, Numbered_packets_from n (suc number) (suc i) h)

  pub copies_from_packets_from : (n number i : ℕ) → copies_from k priority message (suc repetition) number i n ≡ copies_of (packets_from number i n)
  unfolding packets_from copies_from copies_of
  copies_from_packets_from zero number i = refl
  copies_from_packets_from (suc n) number i =
      ap (◌++◌ (replicate (suc repetition) (copy_of k priority message number i))) (copies_from_packets_from n (suc number) (suc i))

-- ---- messages

-- the packets of a message, and of messages
unfoldable pub packets_of : Message → List Sent
packets_of m = packets_from m.circuit m.priority m.text m.repetition m.first 0 (packets (length m.text))

unfoldable pub sent_packets : List Message → List Sent
sent_packets [] = []
sent_packets (m ∷ ms) = packets_of m ++ sent_packets ms

-- they are counted
pub numbered_offers : (ms : List Message) (k : Circuit) (n : ℕ) → Offered k n ms → Numbered n (sent_packets ms)
unfolding packets_of sent_packets Numbered Offered
numbered_offers [] k n h = tt
numbered_offers (m ∷ ms) k n (here, first, few, short, more) =
    let c : ℕ = packets (length m.text) in
    let later : Numbered (n + length (packets_of m)) (sent_packets ms) =
    rw (length_packets_from m.circuit m.priority m.text m.repetition c m.first 0) (numbered_offers ms k (n + c) more) in
    Numbered_append (packets_of m) n (sent_packets ms)
    (rw (← first) (Numbered_packets_from m.circuit m.priority m.text m.repetition c m.first 0 few)) later

-- and their copies are those of the messages
pub copies_sent-packets : (ms : List Message) → copies_sent ms ≡ copies_of (sent_packets ms)
unfolding copies_sent message_copies packets_of sent_packets copies_of
copies_sent-packets [] = refl
copies_sent-packets (m ∷ ms) =
    ap₂ ◌++◌ (copies_from_packets_from m.circuit m.priority m.text m.repetition (packets (length m.text)) m.first 0)
    (copies_sent-packets ms)
    ∙ sym (copies_of_append (packets_of m) (sent_packets ms))

-- ---- calls of a fresh sender

-- the messages sent at a circuit are offered there from packet 0 on
pub offered_calls : (bytes : List ℕ) (store : Stores) (calls : List Call) (k : Circuit) → list_refusal bytes ≡ 0
    → Offered k 0 (messages_at k (messages_sent (fresh_queues (circuits_of bytes)) (effects (fresh_end bytes store) calls)))
unfolding Offered fresh_queue
offered_calls bytes store calls k e =
    rw (queue_for-fresh (circuits_of bytes) k, append-nil) at ((at_calls bytes store calls k e).counted [] tt)

-- "from 0 in a fresh sender, running on from message to message"
pub index-counts : (bytes : List ℕ) (store : Stores) (calls : List Call) (k : Circuit) → list_refusal bytes ≡ 0
    → Counted 0 (copies_sent (messages_at k (messages_sent (fresh_queues (circuits_of bytes)) (effects (fresh_end bytes store) calls))))
index-counts bytes store calls k e =
    let ms : List Message = messages_at k (messages_sent (fresh_queues (circuits_of bytes)) (effects (fresh_end bytes store) calls)) in
    record {
      packets = sent_packets ms;
      numbers = numbered_offers ms k 0 (offered_calls bytes store calls k e);
      copies = copies_sent-packets ms;
    }

-- ---- copies of a packet are alike

mem-replicate : (n : ℕ) (a x : Copy) → Memᴰ a (replicate n x) → a ≡ x
mem-replicate zero a x m = absurd (Memᴰ.not-nil m)
mem-replicate (suc n) a x m = ⊎_elim (λ e. e) (mem-replicate n a x) (Memᴰ.cases_cons m)

-- packets counted from n on have numbers from n on
number_least : (ps : List Sent) (n : ℕ) (a : Copy) → Numbered n ps → Memᴰ a (copies_of ps) → n ≤ a.number
unfolding Numbered copies_of
number_least [] n a h m = absurd (Memᴰ.not-nil m)
number_least (p ∷ ps) n a h m =
    ⊎_elim
    (λ (here : Memᴰ a (replicate (suc p.repetition) p.original)).
    let e : a.number ≡ n = ap (λ (x : Copy). x.number) (mem-replicate (suc p.repetition) a p.original here) ∙ h.0 in
    omega arith)
    (λ later. omega (arith, number_least ps (suc n) a h.2 later))
    (Memᴰ.append_cases (replicate (suc p.repetition) p.original) m)

copies_of-alike : (ps : List Sent) (n : ℕ) (a b : Copy) → Numbered n ps → Memᴰ a (copies_of ps) → Memᴰ b (copies_of ps)
    → a.number ≡ b.number → a ≡ b
unfolding Numbered copies_of
copies_of-alike [] n a b h i j e = absurd (Memᴰ.not-nil i)
copies_of-alike (p ∷ ps) n a b h i j e =
    go (copies_of-alike ps (suc n) a b h.2) (Memᴰ.append_cases first i) (Memᴰ.append_cases first j)
  where
    first : List Copy
    first = replicate (suc p.repetition) p.original

    is : (x : Copy) → Memᴰ x first → x ≡ p.original
    is x m = mem-replicate (suc p.repetition) x p.original m

    number : (x : Copy) → Memᴰ x first → x.number ≡ n
    number x m = ap (λ (x : Copy). x.number) (is x m) ∙ h.0

    go : (Memᴰ a (copies_of ps) → Memᴰ b (copies_of ps) → a.number ≡ b.number → a ≡ b)
        → Memᴰ a first ⊎ Memᴰ a (copies_of ps) → Memᴰ b first ⊎ Memᴰ b (copies_of ps) → a ≡ b
    go later (inl i) (inl j) = is a i ∙ sym (is b j)
    go later (inl i) (inr j) = absurd (omega (arith, number a i, number_least ps (suc n) b h.2 j))
    go later (inr i) (inl j) = absurd (omega (arith, number b j, number_least ps (suc n) a h.2 i))
    go later (inr i) (inr j) = later i j e

-- "that many copies after the original, all alike": two that calls send at a circuit with the same number are the same, byte for byte
pub copies_alike : (bytes : List ℕ) (store : Stores) (calls : List Call) (k : Circuit) → list_refusal bytes ≡ 0 → (a b : Copy)
    → Memᴰ a (copies_sent (messages_at k (messages_sent (fresh_queues (circuits_of bytes)) (effects (fresh_end bytes store) calls))))
    → Memᴰ b (copies_sent (messages_at k (messages_sent (fresh_queues (circuits_of bytes)) (effects (fresh_end bytes store) calls))))
    → a.number ≡ b.number → a ≡ b
copies_alike bytes store calls k e a b i j same =
    let c = index-counts bytes store calls k e in
    copies_of-alike c.packets 0 a b c.numbers (rw c.copies at i) (rw c.copies at j) same

-- Reassembly: whatever packets are missing, the messages handed over are exactly those of which every packet came.
use Prim.Native.Nat.{ℕ, zero, suc, ◌+◌, ◌-◌, ◌*◌, ◌%◌, ◌≤◌, ◌<◌}
use native.Mathlib.Omega.{arith}
use mathlib.Core.Bool.{Bool, true, false, cond, not, ◌&&◌, ◌||◌, and-false}
use mathlib.Core.List.{List, [], ◌∷◌, ◌++◌, map}
use mathlib.Core.Path.{◌≡◌, refl, sym, ap, ◌∙◌}
use borrow.Author.Tests.{leb-true, ltb-true, ltb-false}
use lib.Dec.{leb, ltb, eqb, eqb-suc-zero}
use lib.ListN.{length, take, replicate}
use Rattle.bits.proofs.Tests.{and_left, and_right}
use Rattle.packet.specs.declared.Circuit.{Circuit}
use Rattle.packet.specs.Messages.{longest, longest_long, header, part_from, packets}
use Rattle.packet.specs.Messages.{segment as segment_of}
use Rattle.packet.specs.Lists.{those, AllAre}
use Rattle.packet.proofs.Segments.{length-header, link_of_lt}
use Rattle.queues.specs.Queues.{copy_of, Message}
use Rattle.queues.specs.Sent.{Sent}
use Rattle.queues.proofs.AtCircuit.{Offered}
use Rattle.queues.proofs.IndexCounts.{index-copy_of, packets_from, packets_of, sent_packets}
use Rattle.notices.specs.declared.Slot.{Slot}
use Rattle.packet.specs.Stores.{region, Stores}
use Rattle.notices.specs.Slots.{fresh_slot, open_message}
use Rattle.parsing.specs.Packets.{index}
use Rattle.notices.specs.Fates.{is_copy, loss_of, still_open, closed_slot}
use Rattle.link.specs.Demand3.{all_from, at_most_six_lost}
use Rattle.link.proofs.Steps.{RightCircuit, most_if, handed_heard, ThinnedBy, Thinned, came_of}
use Rattle.link.proofs.Gaps.{gaps, gaps_given}
use Rattle.link.proofs.MadePackets.{link-made, segment-made}
use Rattle.link.proofs.Losses.{is_copy_next, loss_of_next}
use Rattle.link.proofs.MessageParts.{taken_long, most_long, open_for, area_for, part_added, lengths_added, Carries, Due, held_slot, heard_end, heard_more, written_more, heard_orphan}

-- ---- between two packets of a circuit, where the next has number i

-- none came yet and no message is open, or one came and d were lost since
KnownBy : Bool → Slot → ℕ → ℕ → Type 0
KnownBy false t i d = open_message t ≡ false
KnownBy true t i d = (a : ℕ) × (t.last ≡ a % 8) × (a + 1 + d ≡ i)

-- the loss that the next packet tells
due : Slot → ℕ → ℕ
due t d = cond t.seen d 0

-- a message is open that the next packet can go on with
stays : Slot → ℕ → Bool
stays t d = open_message t && eqb (due t d) 0

-- with one more lost there is none
lost_shut : (t : Slot) (i d : ℕ) → KnownBy t.seen t i d → stays t (suc d) ≡ false
unfolding KnownBy due stays
lost_shut t i d k = go t.seen k
  where
    go : (b : Bool) → KnownBy b t i d → (open_message t && eqb (cond b (suc d) 0) 0) ≡ false
    go false k = rw k
    go true k = rw (eqb-suc-zero d, and-false (open_message t))

-- and all else stays
known-lost : (t : Slot) (i d : ℕ) → KnownBy t.seen t i d → KnownBy t.seen t (suc i) (suc d)
unfolding KnownBy
known-lost t i d k = go t.seen k
  where
    go : (b : Bool) → KnownBy b t i d → KnownBy b t (suc i) (suc d)
    go false k = k
    go true (a, last, count) = (a, last, omega arith)

-- the next packet that comes is no copy and tells that loss, since at most six were lost
next_told : (t : Slot) (p : List ℕ) (i d : ℕ) (bs : List Bool) → index p ≡ i % 8 → KnownBy t.seen t i d → gaps t.seen d (true ∷ bs) ≡ true
    → (is_copy t p ≡ false) × (loss_of t p ≡ due t d)
unfolding KnownBy is_copy loss_of due gaps
next_told t p i d bs is = go t.seen refl
  where
    go : (b : Bool) → t.seen ≡ b → KnownBy b t i d → gaps b d (true ∷ bs) ≡ true → (is_copy t p ≡ false) × (loss_of t p ≡ cond b d 0)
    go false none k g = (rw none, rw none)
    go true seen (a, last, count) g =
        let few : d ≤ 6 = leb-true d 6 (and_left (leb d 6) (gaps true 0 bs) g) in
        (is_copy_next t p i a d seen last is (sym count) few, loss_of_next t p i a d seen last is (sym count) few)

-- behind it none is lost yet
gaps_rest : (seen : Bool) (d : ℕ) (bs : List Bool) → gaps seen d (true ∷ bs) ≡ true → gaps true 0 bs ≡ true
unfolding gaps
gaps_rest seen d bs g = and_right (not seen || leb d 6) (gaps true 0 bs) g

-- it finds no message open if there is none to go on with
next_shut : (t : Slot) (p : List ℕ) (d : ℕ) → loss_of t p ≡ due t d → stays t d ≡ false → still_open t p ≡ false
unfolding stays still_open
next_shut t p d loss shut = rw (loss, shut)

-- a region, and the long buffer where long messages are taken
pub record Room (taken : Bool) (l : Stores) : Type 0 where
  pub store : length l.store ≡ region
  pub long : taken ≡ true → longest_long ≤ length l.long

room_added : (taken : Bool) (text : List ℕ) (j : ℕ) (l : Stores) → Room taken l → Room taken (part_added text j l)
room_added taken text j l room =
    let same = lengths_added text j l in
    record { store = same.store ∙ room.store; long = λ e. rw same.long (room.long e) }

-- hold any message that is taken
room_for : (taken : Bool) (text : List ℕ) (l : Stores) → length text ≤ most_if taken → Room taken l → length text ≤ length (area_for text l)
unfolding area_for longest region
room_for taken text l most room = go (ltb longest (length text)) refl
  where
    go : (b : Bool) → ltb longest (length text) ≡ b → length text ≤ length (cond b l.long l.store)
    go true e = omega (arith, room.long (taken_long taken (length text) most (ltb-true longest (length text) e)), most_long taken (length text) most)
    go false e = omega (arith, room.store, ltb-false longest (length text) e)

-- all parts of a message before part j came: the slot and where it is put together hold it up to there
record Ready (text : List ℕ) (j : ℕ) (t : Slot) (l : Stores) (d : ℕ) : Type 0 where
  before : take (part_from (length text) j) (area_for text l) ≡ take (part_from (length text) j) text
  held : 0 < j → (t.length ≡ open_for (length text)) × (t.place ≡ part_from (length text) j) × (due t d ≡ 0)

-- before part 0 nothing is asked
ready_first : (text : List ℕ) (t : Slot) (l : Stores) (d : ℕ) → Ready text 0 t l d
unfolding part_from
ready_first text t l d =
    let none : 16 * 0 - length (header (length text)) ≡ 0 = omega arith in
    record { before = rw none; held = λ h. absurd (omega arith) }

-- a message has a packet
some_packet : (n : ℕ) → 0 < packets n
unfolding packets
some_packet n = omega (arith, length-header n)

-- a message that is picked or not, before others
pick : (b : Bool) (o : Message) (os : List Message)
    → cond b (o.text ∷ []) [] ++ map (λ (o : Message). o.text) os ≡ map (λ (o : Message). o.text) (cond b (o ∷ []) [] ++ os)
pick true o os = refl
pick false o os = refl

-- ---- packets yet to come

module _ (taken : Bool) (comes : ℕ → Bool) where
  -- the slot and the stores between two packets, and what is heard of those yet to come, the first of which has number i
  record Now (ps : List Sent) (i : ℕ) (t : Slot) (l : Stores) (d : ℕ) (heard : List (List ℕ)) : Type 0 where
    room : Room taken l
    known : KnownBy t.seen t i d
    few : gaps t.seen d (came_of comes ps) ≡ true
    thinned : Thinned comes ps heard

  -- however it was left, the rest hands over this
  abbrev Rest : List Sent → ℕ → List (List ℕ) → Type 0
  Rest ps i out = (t : Slot) (l : Stores) (d : ℕ) (heard : List (List ℕ)) → Now ps i t l d heard → handed_heard taken t l heard ≡ out

  -- a packet p came, number i, and those behind it are yet to come
  record Came (ps : List Sent) (i : ℕ) (t : Slot) (d : ℕ) (p : List ℕ) (rest : List (List ℕ)) : Type 0 where
    new : is_copy t p ≡ false
    loss : loss_of t p ≡ due t d
    next : (u : Slot) (l : Stores) → u.seen ≡ true → u.last ≡ index p → Room taken l → Now ps (suc i) u l 0 rest

  -- the first of them is lost, or it came in one copy or more
  step : (s : Sent) (ps : List Sent) (i : ℕ) (t : Slot) (l : Stores) (d : ℕ) (heard : List (List ℕ)) (G : Bool → List (List ℕ) → Type 0)
      → s.original.number ≡ i → index s.original.packet ≡ i % 8 → Now (s ∷ ps) i t l d heard
      → (Now ps (suc i) t l (suc d) heard → stays t (suc d) ≡ false → G false heard)
      → ((c : ℕ) (rest : List (List ℕ)) → Came ps i t d s.original.packet rest → G true (replicate (suc c) s.original.packet ++ rest))
      → G (comes i) heard
  unfolding KnownBy gaps came_of Thinned ThinnedBy
  step s ps i t l d heard G number is now lost came = rw (← number) (go (comes s.original.number) now.few now.thinned)
    where
      p : List ℕ
      p = s.original.packet

      go : (b : Bool) → gaps t.seen d (b ∷ came_of comes ps) ≡ true → ThinnedBy b p (Thinned comes ps) heard → G b heard
      go false g h =
          lost (record { room = now.room; known = known-lost t i d now.known; few = g; thinned = h }) (lost_shut t i d now.known)
      go true g (c, rest, e, h) =
          rw e
          (came c rest
          (record {
            new = (next_told t p i d (came_of comes ps) is now.known g).0;
            loss = (next_told t p i d (came_of comes ps) is now.known g).1;
            next =
                λ u after seen last room. record {
                  room = room;
                  known = rw seen (i, last ∙ is, omega arith);
                  few = rw seen (gaps_rest t.seen d (came_of comes ps) g);
                  thinned = h;
                };
          }))

  -- ---- the packets of one message, and then the rest

  module _ (k : Circuit) (right : RightCircuit k) (o : Message) (few : o.priority ≤ 3) (most : length o.text ≤ most_if taken)
      (ps : List Sent) (end : ℕ) (behind : end ≡ o.first + packets (length o.text)) (out : List (List ℕ)) (later : Rest ps end out) where
    -- number i of the circuit's packets, part j of the message; and the m from there on
    sent : ℕ → ℕ → Sent
    sent i j = record { original = copy_of k o.priority o.text i j; repetition = o.repetition }

    packet : ℕ → ℕ → List ℕ
    packet i j = (sent i j).original.packet

    abbrev left : ℕ → ℕ → ℕ → List Sent
    left i j m = packets_from k o.priority o.text o.repetition i j m

    -- it has the index of its number, and carries its part
    module _ (i j : ℕ) where
      index-packet : index (packet i j) ≡ i % 8
      unfolding packet sent
      index-packet = index-copy_of k o.priority o.text i j few

      carries : j < packets (length o.text) → Carries taken o.text j (packet i j)
      unfolding packet sent copy_of
      carries h =
          let l_lt = link_of_lt j (packets (length o.text)) in
          record {
            most = most;
            inside = h;
            linked = link-made k right _ (i % 8) o.priority (segment_of o.text j) l_lt (omega arith) (omega arith);
            segmented = segment-made k right _ (i % 8) o.priority (segment_of o.text j) l_lt (omega arith) (omega arith);
          }

    -- one is missing and there is no message to go on with: it is not handed over
    broken : (m j i : ℕ) → i ≡ o.first + suc j → suc j + m ≡ packets (length o.text)
        → (t : Slot) (l : Stores) (d : ℕ) (heard : List (List ℕ)) → Now (left i (suc j) m ++ ps) i t l d heard → stays t d ≡ false
        → handed_heard taken t l heard ≡ out
    unfolding packets_from sent packet copy_of stays closed_slot open_message
    broken zero j i e all t l d heard now shut =
        let same : i ≡ end = omega arith in
        later t l d heard (rw same at now)
    broken (suc m) j i e all t l d heard now shut =
        let p = packet i (suc j) in
        step (sent i (suc j)) (left (suc i) (suc (suc j)) m ++ ps) i t l d heard (λ _ heard. handed_heard taken t l heard ≡ out)
        refl (index-packet i (suc j)) now
        (broken m (suc j) (suc i) (omega arith) (omega arith) t l (suc d) heard)
        (λ c rest h.
        heard_orphan taken o.text j t l p c rest (carries i (suc j) (omega arith)) h.new (next_shut t p d h.loss shut)
        ∙ broken m (suc j) (suc i) (omega arith) (omega arith) (closed_slot p) l 0 rest (h.next (closed_slot p) l refl refl now.room) refl)

    -- all packets before part j came: it is due
    ready_due : (i j : ℕ) (t : Slot) (l : Stores) (d : ℕ) → Ready o.text j t l d → j < packets (length o.text)
        → is_copy t (packet i j) ≡ false → loss_of t (packet i j) ≡ due t d → Due taken o.text j t (packet i j)
    ready_due i j t l d r inside new loss =
        record {
          carries = carries i j inside;
          new = new;
          held = λ behind. let (size, place, none) = r.held behind in (size, place, loss ∙ none);
        }

    -- then the message is handed over exactly if all from there on come
    ready : (m j i : ℕ) → i ≡ o.first + j → j + m ≡ packets (length o.text) → 0 < m
        → (t : Slot) (l : Stores) (d : ℕ) (heard : List (List ℕ)) → Now (left i j m ++ ps) i t l d heard → Ready o.text j t l d
        → handed_heard taken t l heard ≡ cond (all_from comes i m) (o.text ∷ []) [] ++ out
    unfolding packets_from sent packet copy_of due stays closed_slot held_slot open_message all_from
    ready zero j i e all some t l d heard now r = absurd (omega arith)
    ready (suc zero) j i e all some t l d heard now r =
        let p = packet i j in
        let after = part_added o.text j l in
        step (sent i j) ps i t l d heard (λ b heard. handed_heard taken t l heard ≡ cond (b && true) (o.text ∷ []) [] ++ out)
        refl (index-packet i j) now
        (broken zero j (suc i) (omega arith) (omega arith) t l (suc d) heard)
        (λ c rest h.
        heard_end taken o.text j t l p c rest (ready_due i j t l d r (omega arith) h.new h.loss) (omega arith) (room_for taken o.text l most now.room) r.before
        ∙ ap (λ (l : List (List ℕ)). o.text ∷ l)
        (broken zero j (suc i) (omega arith) (omega arith) (closed_slot p) after 0 rest
        (h.next (closed_slot p) after refl refl (room_added taken o.text j l now.room)) refl))
    ready (suc (suc m)) j i e all some t l d heard now r =
        let p = packet i j in
        let after = part_added o.text j l in
        let held = held_slot o.text (suc j) p in
        step (sent i j) (left (suc i) (suc j) (suc m) ++ ps) i t l d heard
        (λ b heard. handed_heard taken t l heard ≡ cond (b && all_from comes (suc i) (suc m)) (o.text ∷ []) [] ++ out)
        refl (index-packet i j) now
        (broken (suc m) j (suc i) (omega arith) (omega arith) t l (suc d) heard)
        (λ c rest h.
        heard_more taken o.text j t l p c rest (ready_due i j t l d r (omega arith) h.new h.loss) (omega arith)
        ∙ ready (suc m) (suc j) (suc i) (omega arith) (omega arith) (omega arith) held after 0 rest
        (h.next held after refl refl (room_added taken o.text j l now.room))
        (record { before = written_more o.text j l (omega arith) (room_for taken o.text l most now.room) r.before; held = λ _. (refl, refl, refl) }))

  -- ---- all messages

  -- whether every packet of a message came
  complete : Message → Bool
  complete o = all_from comes o.first (packets (length o.text))

  -- a message is not too long for the circuit
  abbrev Fits : Message → Type 0
  Fits o = length o.text ≤ most_if taken

  -- however the circuit was left before these messages
  offers : (os : List Message) (k : Circuit) (i : ℕ) → RightCircuit k → Offered k i os → AllAre Fits os
      → Rest (sent_packets os) i (map (λ (o : Message). o.text) (those complete os))
  unfolding Offered packets_of sent_packets those handed_heard Thinned complete AllAre
  offers [] k i right h fits t l d heard now = rw now.thinned
  offers (o ∷ os) k i right h fits t l d heard now =
      let (here, first, few, short, more) = h in
      let n = packets (length o.text) in
      ready o.circuit (rw here right) o few fits.0 (sent_packets os) (i + n) (rw first) (map (λ (o : Message). o.text) (those complete os))
      (offers os k (i + n) right more fits.1) n 0 o.first (omega arith) (omega arith) (some_packet (length o.text)) t l d heard (rw (← first) at now) (ready_first o.text t l d)
      ∙ pick (complete o) o (those complete os)

-- "The messages handed over there are exactly those sent there of which every packet came in some copy, each once, in sending order"
pub handed_thinned : (taken : Bool) (comes : ℕ → Bool) (k : Circuit) → RightCircuit k → (os : List Message) → Offered k 0 os
    → AllAre (λ (o : Message). length o.text ≤ most_if taken) os → (l : Stores) → Room taken l → (heard : List (List ℕ))
    → Thinned comes (sent_packets os) heard → at_most_six_lost (came_of comes (sent_packets os)) ≡ true
    → handed_heard taken fresh_slot l heard ≡ map (λ (o : Message). o.text) (those (λ (o : Message). all_from comes o.first (packets (length o.text))) os)
unfolding KnownBy fresh_slot open_message complete
handed_thinned taken comes k right os offered fits l room heard thinned few =
    offers taken comes os k 0 right offered fits fresh_slot l 0 heard
    (record { room = room; known = refl; few = gaps_given (came_of comes (sent_packets os)) few; thinned = thinned })

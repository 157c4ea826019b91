-- What packets tell of the receiver's circuit number n depends only on the packets of that circuit, its slot, its region of the store and, where it takes long
-- messages, the long buffer.
use Prim.Native.Nat.{ℕ, zero, suc, ◌+◌, ◌-◌, ◌*◌, ◌%◌, ◌≤◌, ◌<◌}
use native.Mathlib.Nat.{zero-add}
use native.Mathlib.Omega.{arith}
use mathlib.Core.Bool.{Bool, true, false, cond, not, ◌&&◌, and-false, true≢false}
use mathlib.Core.List.{List, [], ◌∷◌, ◌++◌, map}
use Rattle.std.proofs.Common.{Option, None, Some}
use mathlib.Core.Path.{◌≡◌, refl, sym, ap, ◌∙◌}
use borrow.Author.Tests.{eq-eqb, ne_eqb, eqb-true, eqb-false, ltb-true, ltb-false, leb-true}
use lib.ListN.{length, take, drop, get_or, get_or-replicate, length-set, length-drop}
use lib.Seq.{sets, take-take, get_or-set_same, get_or-set_other}
use lib.Dec.{leb, ltb, eqb}
use Rattle.bits.specs.Bits.{Bytes}
use Rattle.bits.proofs.Lists.{drop_sets_before, take_sets_behind, take_sets_inside, drop_sets_add}
use Rattle.bits.proofs.Tests.{and_left, and_right, or_left, or_right}
use Rattle.packet.specs.declared.Circuit.{Circuit}
use Rattle.packet.specs.declared.Circuits.{Circuits}
use Rattle.packet.specs.Circuits.{circuits_of, alike, two_alike, list_refusal, listed, no_circuit, listing, number_from}
use Rattle.packet.specs.Messages.{longest, long_header, packets, link_of}
use Rattle.packet.specs.Messages.{segment as segment_of}
use Rattle.packet.specs.Packets.{packet_of, system_packet}
use Rattle.packet.specs.Lists.{any_of, first_from, AllAre}
use Rattle.packet.proofs.CircuitLists.{alike_is, alike_self, circuits_refusal-zero, any_of-none, list_refusal-length, listed-listing, listing-refusal}
use Rattle.packet.proofs.Segments.{length-segment as length-segment_of, link_of_lt}
use Rattle.queues.specs.Queues.{Copy, copy_of, Placed}
use Rattle.notices.specs.declared.Slot.{Slot}
use Rattle.receiver.specs.declared.Receiver.{Receiver}
use Rattle.notices.specs.declared.Hearing.{Hearing}
use Rattle.notices.specs.declared.Fate.{Fate}
use Rattle.notices.specs.declared.Fate.TheVariants.{Copy as CopyFate, Begun, Held, Whole, Orphan, Wrong}
use Rattle.packet.specs.Stores.{region, Stores, stores, takes_long, longest_at}
use Rattle.notices.specs.Stores.{system_place, place_of, is_long, with_part, writes, stores_after_fate, stores_after_notice}
use Rattle.notices.specs.Slots.{fresh_slot, slot_at, slot_in_range}
use Rattle.receiver.specs.Record.{fresh, in_range}
use Rattle.receiver.specs.Reading.{Noticed, passed}
use Rattle.parsing.specs.Packets.{address, link, segment_in, circuit_in, information, malformed}
use Rattle.parsing.specs.Headers.{header_length, message_length, wrong_header, message_part}
use Rattle.notices.specs.Fates.{is_copy, loss_of, still_open, first_fate, between_fate, last_fate, fate_of, slot_after}
use Rattle.notices.specs.Heard.{heard_at, system_heard, heard}
use Rattle.packet.proofs.Choices.{cond_either}
use Rattle.receiver.proofs.InRange.{in_range_parts, fresh_in_range, passed_in_range}
use Rattle.parsing.proofs.PacketParts.{right_segment}
use Rattle.parsing.proofs.HeaderParts.{right_taken}
use Rattle.notices.proofs.FateLaws.{slot_in_range_facts}
use Rattle.notices.proofs.Hearings.{number_slot, heard-system, heard_elsewhere, heard_circuit}
use Rattle.notices.proofs.StoreLaws.{lengths_stores_after_notice}
use Rattle.link.specs.Demand3.{Frame, is_number, loss_at, losses_at, handed_from, handed_at, handed_over}
use Rattle.link.proofs.Steps.{told_by_packets, RightCircuit, Made, MadeBy, AllMade, is_of, packets_at, most_if, losses_heard, handed_heard}
use Rattle.link.proofs.FramesLaid.{right_copy_of}
use Rattle.link.proofs.MessageParts.{taken_long, most_short}
use Rattle.link.proofs.MadePackets.{address-made, circuit_in-made, malformed-made, system-address, system-malformed}

-- ---- regions

-- the region of circuit n
abbrev area : ℕ → List ℕ → List ℕ
area n store = take region (drop (region * n) store)

-- a stretch within it
area_own : (n : ℕ) (store : List ℕ) (i : ℕ) (v : List ℕ) → i + length v ≤ region → area n (sets store (region * n + i) v) ≡ sets (area n store) i v
area_own n store i v fits = rw (drop_sets_add v (region * n) store i) (take_sets_inside v region (drop (region * n) store) i fits)

-- a stretch behind it
area_behind : (n : ℕ) (store : List ℕ) (i : ℕ) (v : List ℕ) → region * n + region ≤ i → area n (sets store i v) ≡ area n store
area_behind n store i v behind =
    let e : i ≡ region * n + (i - region * n) = omega arith in
    rw (e, drop_sets_add v (region * n) store (i - region * n)) (take_sets_behind v region (drop (region * n) store) (i - region * n) (omega arith))

-- a stretch within another one
area_other : (n c : ℕ) (store : List ℕ) (i : ℕ) (v : List ℕ) → (c ≡ n → ⊥) → i + length v ≤ region
    → area n (sets store (region * c + i) v) ≡ area n store
unfolding region
area_other n c store i v other fits = go (ltb c n) refl
  where
    go : (b : Bool) → ltb c n ≡ b → area n (sets store (region * c + i) v) ≡ area n store
    go true e =
        let before : c < n = ltb-true c n e in
        ap (take region) (drop_sets_before v (region * n) store (region * c + i) (omega arith))
    go false e =
        let behind : n ≤ c = ltb-false c n e in
        area_behind n store (region * c + i) v (omega arith)

-- ---- the number of a circuit

-- of two that are not alike, one at most is alike with a third
alike_one : (a b c : Circuit) → alike a b ≡ false → alike a c ≡ true → alike b c ≡ false
alike_one a b c other same = go (alike b c) refl
  where
    go : (t : Bool) → alike b c ≡ t → alike b c ≡ false
    go true e = absurd (true≢false (sym (alike_self c) ∙ rw (alike_is a c same, alike_is b c e) at other))
    go false e = e

-- a number that is found is not below the first
is_number-below : (cs : List Circuit) (d : Circuit) (m n : ℕ) → n < m → is_number n (number_from cs d m) ≡ false
unfolding is_number number_from first_from
is_number-below [] d m n h = refl
is_number-below (c ∷ cs) d m n h = go (alike c d) (is_number-below cs d (m + 1) n (omega arith))
  where
    go : (t : Bool) → is_number n (number_from cs d (m + 1)) ≡ false → is_number n (cond t (Some m) (number_from cs d (m + 1))) ≡ false
    go true later = ne_eqb m n (omega arith)
    go false later = later

-- where no two are alike, a circuit is found at the number of the one that is alike
is_number-alike : (cs : List Circuit) (d : Circuit) (m n : ℕ) → two_alike cs ≡ false → n < length cs
    → is_number (m + n) (number_from cs d m) ≡ alike (get_or cs n no_circuit) d
unfolding is_number number_from first_from two_alike
is_number-alike [] d m n e h = absurd (omega arith)
is_number-alike (c ∷ cs) d m zero e h = go (alike c d)
  where
    go : (t : Bool) → is_number (m + 0) (cond t (Some m) (number_from cs d (m + 1))) ≡ t
    go true = eq-eqb m (m + 0) (omega arith)
    go false = is_number-below cs d (m + 1) (m + 0) (omega arith)
is_number-alike (c ∷ cs) d m (suc n) e h =
    go (alike c d) refl (is_number-alike cs d (m + 1) n (or_right (any_of (alike c) cs) (two_alike cs) e) (omega arith))
  where
    go : (t : Bool) → alike c d ≡ t → is_number (m + 1 + n) (number_from cs d (m + 1)) ≡ alike (get_or cs n no_circuit) d
        → is_number (m + suc n) (cond t (Some m) (number_from cs d (m + 1))) ≡ alike (get_or cs n no_circuit) d
    go true same later =
        let other = any_of-none (alike c) cs n (omega arith) (or_left (any_of (alike c) cs) (two_alike cs) e) in
        ne_eqb m (m + suc n) (omega arith) ∙ sym (alike_one c (get_or cs n no_circuit) d other same)
    go false other later =
        let at : m + suc n ≡ m + 1 + n = omega arith in
        rw at later

-- ---- what counts at circuit n

-- its region and, where it takes long messages, the long buffer, as if they were all
abbrev pub own_stores : Bool → ℕ → Stores → Stores
own_stores taken n l = stores (area n l.store) taken (cond taken l.long [])

-- long messages are taken at one number at most
one_takes : (given : Bool) (c n : ℕ) → (c ≡ n → ⊥) → takes_long given c ≡ true → takes_long given n ≡ false
unfolding takes_long
one_takes given c n other e =
    let zero : c ≡ 0 = eqb-true c 0 (and_right given (eqb c 0) e) in
    rw (ne_eqb n 0 (λ k. other (zero ∙ sym k)), and-false given)

-- ---- what a packet writes and hands over counts at its circuit

record Inside (taken : Bool) (t : Slot) (p : List ℕ) (f : Fate) : Type 0 where
  -- a part of a long message is written only where such are taken, and any other lies in the region
  long : writes f ≡ true → is_long t p ≡ true → taken ≡ true
  fits : writes f ≡ true → is_long t p ≡ false → place_of t p + length (message_part p) ≤ region
  hands : (c : ℕ) (l : Stores) → handed_from f c l ≡ handed_from f 0 (own_stores taken c l)

module _ (taken : Bool) (t : Slot) (p : List ℕ) where
  abbrev In : Fate → Type 0
  In = Inside taken t p

  -- a copy, an orphan and a wrong packet write and hand over nothing
  inside_quiet : (f : Fate) → writes f ≡ false → ((c : ℕ) (l : Stores) → handed_from f c l ≡ []) → In f
  inside_quiet f silent none =
      record {
        long = λ w. absurd (true≢false (sym w ∙ silent));
        fits = λ w. absurd (true≢false (sym w ∙ silent));
        hands = λ c l. none c l ∙ sym (none 0 (own_stores taken c l));
      }

  inside_wrong : In Wrong
  unfolding writes handed_from
  inside_wrong = inside_quiet Wrong refl (λ c l. refl)

  -- the others write the packet's message bytes
  module _ (long : is_long t p ≡ true → taken ≡ true) (fits : is_long t p ≡ false → place_of t p + length (message_part p) ≤ region) where
    inside_part : (f : Fate) → ((c : ℕ) (l : Stores) → handed_from f c l ≡ handed_from f 0 (own_stores taken c l)) → In f
    inside_part f hands = record { long = λ w. long; fits = λ w. fits; hands = hands }

    inside_whole : (n : ℕ) → n ≤ most_if taken → In (Whole n)
    unfolding handed_from region longest
    inside_whole n most = inside_part (Whole n) (λ c l. hands c l (ltb longest n) refl)
      where
        hands : (c : ℕ) (l : Stores) (b : Bool) → ltb longest n ≡ b
            → cond b (take n l.long) (take n (drop (region * c) l.store)) ∷ []
            ≡ cond b (take n (cond taken l.long [])) (take n (drop (region * 0) (area c l.store))) ∷ []
        hands c l true e = rw (taken_long taken n most (ltb-true longest n e))
        hands c l false e = rw (take-take n region (drop (region * c) l.store) (omega (arith, ltb-false longest n e)))

  -- from a slot in range these have room, whatever became of the packet
  module _ (right : malformed p ≡ false) (range : slot_in_range (most_if taken) t ≡ true) where
    fits_first : link p ≡ 2 → place_of t p + length (message_part p) ≤ region
    unfolding place_of message_part region
    fits_first e = rw (eq-eqb (link p) 2 e, length-drop) (omega (arith, right_segment p right))

    long_first : link p ≡ 2 → wrong_header taken (segment_in p) ≡ false → is_long t p ≡ true → taken ≡ true
    unfolding is_long
    long_first e header long =
        right_taken (segment_in p) taken header (eqb-true (message_length (segment_in p)) long_header (rw (eq-eqb (link p) 2 e) at long))

    fits_later : (link p ≡ 2 → ⊥) → t.place + length (segment_in p) ≤ t.length → is_long t p ≡ false → place_of t p + length (message_part p) ≤ region
    unfolding place_of message_part is_long region longest
    fits_later e h long =
        let short : t.length ≤ longest = ltb-false longest t.length (rw (ne_eqb (link p) 2 e) at long) in
        rw (ne_eqb (link p) 2 e) (omega arith)

    long_later : (link p ≡ 2 → ⊥) → is_long t p ≡ true → taken ≡ true
    unfolding is_long
    long_later e long =
        taken_long taken t.length (slot_in_range_facts t range).short (ltb-true longest t.length (rw (ne_eqb (link p) 2 e) at long))

    inside_first : link p ≡ 2 → In (first_fate taken (segment_in p))
    unfolding first_fate handed_from longest
    inside_first e =
        let s : List ℕ = segment_in p in
        let body : ℕ = length s - header_length s in
        let fits : is_long t p ≡ false → place_of t p + length (message_part p) ≤ region = λ _. fits_first e in
        cond_either In (wrong_header taken s) _ _ (λ _. inside_wrong)
        (λ header. cond_either In (eqb body (message_length s)) _ _
        (λ all.
        let few : message_length s ≤ longest = omega (arith, eqb-true body (message_length s) all, right_segment p right) in
        inside_whole (long_first e header) fits (message_length s) (most_short taken (message_length s) few))
        (λ _. cond_either In (eqb (length s) 16 && ltb body (message_length s)) _ _
        (λ _. inside_part (long_first e header) fits Begun (λ c l. refl)) (λ _. inside_wrong)))

    inside_between : (link p ≡ 2 → ⊥) → In (between_fate t (segment_in p))
    unfolding between_fate handed_from
    inside_between e =
        let s : List ℕ = segment_in p in
        cond_either In (eqb (length s) 16 && ltb (t.place + 16) t.length) _ _
        (λ both.
        let full = eqb-true (length s) 16 (and_left (eqb (length s) 16) (ltb (t.place + 16) t.length) both) in
        let more = ltb-true (t.place + 16) t.length (and_right (eqb (length s) 16) (ltb (t.place + 16) t.length) both) in
        inside_part (long_later e) (fits_later e (omega arith)) Held (λ c l. refl))
        (λ _. inside_wrong)

    inside_last : (link p ≡ 2 → ⊥) → In (last_fate t (segment_in p))
    unfolding last_fate
    inside_last e =
        let end : ℕ = t.place + length (segment_in p) in
        let most : t.length ≤ most_if taken = (slot_in_range_facts t range).short in
        cond_either In (ltb longest t.length) _ _
        (λ _. cond_either In (ltb longest end && leb end t.length) _ _
        (λ both.
        let inside : end ≤ t.length = leb-true end t.length (and_right (ltb longest end) (leb end t.length) both) in
        inside_whole (long_later e) (fits_later e inside) end (omega arith))
        (λ _. inside_wrong))
        (λ _. cond_either In (eqb end t.length) _ _
        (λ all. let exact = eqb-true end t.length all in inside_whole (long_later e) (fits_later e (omega arith)) t.length most)
        (λ _. inside_wrong))

    inside_fate : In (fate_of taken t p)
    unfolding fate_of writes handed_from
    inside_fate =
        cond_either In (is_copy t p) _ _ (λ _. inside_quiet CopyFate refl (λ c l. refl))
        (λ _. cond_either In (eqb (link p) 2) _ _ (λ first. inside_first (eqb-true (link p) 2 first))
        (λ later. cond_either In (not (still_open t p)) _ _ (λ _. inside_quiet Orphan refl (λ c l. refl))
        (λ _. cond_either In (eqb (link p) 0) _ _
        (λ _. inside_between (eqb-false (link p) 2 later)) (λ _. inside_last (eqb-false (link p) 2 later)))))

-- the packet's message bytes written, by a test whether they are a long message's
abbrev part_by : Bool → ℕ → Slot → List ℕ → Stores → Stores
part_by b c t p l =
    cond b (stores l.store l.given (sets l.long (place_of t p) (message_part p)))
    (stores (sets l.store (region * c + place_of t p) (message_part p)) l.given l.long)

-- what counts at circuit n then: for a packet of its own, as if that were all
stores_own : (taken : Bool) (t : Slot) (p : List ℕ) (f : Fate) → Inside taken t p f → (n : ℕ) (l : Stores)
    → own_stores taken n (stores_after_fate f n t p l) ≡ stores_after_fate f 0 t p (own_stores taken n l)
unfolding stores_after_fate with_part region
stores_own taken t p f w n l = go (writes f) refl (is_long t p) refl
  where
    go : (a : Bool) → writes f ≡ a → (b : Bool) → is_long t p ≡ b
        → own_stores taken n (cond a (part_by b n t p l) l) ≡ cond a (part_by b 0 t p (own_stores taken n l)) (own_stores taken n l)
    go false e b k = refl
    go true e true k = rw (w.long e k)
    go true e false k = rw (area_own n l.store (place_of t p) (message_part p) (w.fits e k), zero-add)

-- and for one of another circuit, as before
stores_other : (given : Bool) (t : Slot) (p : List ℕ) (f : Fate) (n c : ℕ) → (c ≡ n → ⊥) → Inside (takes_long given c) t p f → (l : Stores)
    → own_stores (takes_long given n) n (stores_after_fate f c t p l) ≡ own_stores (takes_long given n) n l
unfolding stores_after_fate with_part
stores_other given t p f n c other w l = go (writes f) refl (is_long t p) refl
  where
    go : (a : Bool) → writes f ≡ a → (b : Bool) → is_long t p ≡ b
        → own_stores (takes_long given n) n (cond a (part_by b c t p l) l) ≡ own_stores (takes_long given n) n l
    go false e b k = refl
    go true e true k = rw (one_takes given c n other (w.long e k))
    go true e false k = rw (area_other n c l.store (place_of t p) (message_part p) other (w.fits e k))

-- ---- a packet heard

-- what a packet leaves and tells of which this is heard
abbrev leaves : Hearing → Receiver → Stores → List ℕ → Noticed
leaves h r l p =
    record {
      receiver = record { circuits = r.circuits; slots = h.slots; framing = r.framing };
      store = stores_after_notice h.notice r.slots p l;
      notice = h.notice;
    }

passed_leaves : (r : Receiver) (l : Stores) (p : List ℕ) (h : Hearing) → h ≡ heard l.given r.circuits r.slots p → passed r l p ≡ leaves h r l p
unfolding passed
passed_leaves r l p h e = rw e

module _ (given : Bool) where
  -- it is one of circuit n, and its slot and what counts there tell all
  record Own (n : ℕ) (r : Receiver) (l : Stores) (p : List ℕ) (h : Noticed) : Type 0 where
    loss : loss_at n h.notice ≡ cond (is_copy (slot_at r.slots n) p) 0 (loss_of (slot_at r.slots n) p)
    slot : slot_at h.receiver.slots n ≡ slot_after (fate_of (takes_long given n) (slot_at r.slots n) p) (slot_at r.slots n) p
    written :
        own_stores (takes_long given n) n h.store
        ≡ stores_after_fate (fate_of (takes_long given n) (slot_at r.slots n) p) 0 (slot_at r.slots n) p (own_stores (takes_long given n) n l)
    handed :
        handed_at n h.notice h.store
        ≡ handed_from (fate_of (takes_long given n) (slot_at r.slots n) p) 0 (own_stores (takes_long given n) n h.store)

  -- it is none of circuit n, and tells and changes nothing there
  record Other (n : ℕ) (r : Receiver) (l : Stores) (h : Noticed) : Type 0 where
    loss : loss_at n h.notice ≡ 0
    slot : slot_at h.receiver.slots n ≡ slot_at r.slots n
    written : own_stores (takes_long given n) n h.store ≡ own_stores (takes_long given n) n l
    handed : handed_at n h.notice h.store ≡ []

  -- one of the two, by a test
  abbrev OwnIf : Bool → ℕ → Receiver → Stores → List ℕ → Noticed → Type 0
  OwnIf true n r l p h = Own n r l p h
  OwnIf false n r l p h = Other n r l h

  -- a packet of a listed circuit
  module _ (n : ℕ) (r : Receiver) (l : Stores) (p : List ℕ) (right : malformed p ≡ false) where
    -- circuit n itself
    heard_at_own : slot_in_range (longest_at given n) (slot_at r.slots n) ≡ true → n < length r.slots
        → Own n r l p (leaves (heard_at given n r.slots p) r l p)
    unfolding heard_at stores_after_notice slot_at loss_at handed_at longest_at most_if
    heard_at_own range inside =
        let t : Slot = slot_at r.slots n in
        let f : Fate = fate_of (takes_long given n) t p in
        let w = inside_fate (takes_long given n) t p right range in
        record {
          loss = rw (eq-eqb n n refl);
          slot = get_or-set_same r.slots n (slot_after f t p) fresh_slot inside;
          written = stores_own (takes_long given n) t p f w n l;
          handed = rw (eq-eqb n n refl) (w.hands n (stores_after_fate f n t p l));
        }

    -- another one
    heard_at_other : (c : ℕ) → (c ≡ n → ⊥) → slot_in_range (longest_at given c) (slot_at r.slots c) ≡ true
        → Other n r l (leaves (heard_at given c r.slots p) r l p)
    unfolding heard_at stores_after_notice slot_at loss_at handed_at longest_at most_if
    heard_at_other c other range =
        let t : Slot = slot_at r.slots c in
        let f : Fate = fate_of (takes_long given c) t p in
        record {
          loss = rw (ne_eqb c n other);
          slot = get_or-set_other r.slots c n (slot_after f t p) fresh_slot (λ e. other (sym e));
          written = stores_other given t p f n c other (inside_fate (takes_long given c) t p right range) l;
          handed = rw (ne_eqb c n other);
        }

    -- whichever it is
    heard_at-any : (c : ℕ) → slot_in_range (longest_at given c) (slot_at r.slots c) ≡ true → n < length r.slots
        → OwnIf (eqb c n) n r l p (leaves (heard_at given c r.slots p) r l p)
    heard_at-any c range inside = go (eqb c n) refl
      where
        go : (b : Bool) → eqb c n ≡ b → OwnIf b n r l p (leaves (heard_at given c r.slots p) r l p)
        go true e =
            let is : c ≡ n = eqb-true c n e in
            rw is (heard_at_own (rw is at range) inside)
        go false e = heard_at_other c (eqb-false c n e) range

-- ---- a receiver in range with the circuits cs, and stores with a long buffer or none

record Ready (given : Bool) (cs : Circuits) (r : Receiver) (l : Stores) : Type 0 where
  circuits : r.circuits ≡ cs
  places : length r.slots ≡ 4
  lent : l.given ≡ given
  range : in_range given r ≡ true

-- a packet heard leaves such
record Step (given b : Bool) (cs : Circuits) (n : ℕ) (r : Receiver) (l : Stores) (p : List ℕ) (h : Noticed) : Type 0 where
  told : OwnIf given b n r l p h
  ready : Ready given cs h.receiver h.store

-- a packet of a circuit k, listed or not
record PacketOf (k : Circuit) (p : List ℕ) : Type 0 where
  right : malformed p ≡ false
  plain : address p ≡ 0xff → ⊥
  circuit : circuit_in p ≡ k
  bytes : Bytes p

module _ (given : Bool) (cs : Circuits) (n : ℕ) (n-lt : n < 4) (r : Receiver) (l : Stores) (p : List ℕ) (s : Ready given cs r l) where
  -- a circuit's packet tells of circuit n if that is the number found for it
  step_circuit : (k : Circuit) → PacketOf k p → Step given (is_number n (number_from (listed cs) k 0)) cs n r l p (passed r l p)
  unfolding is_number heard_at stores_after_notice loss_at handed_at
  step_circuit k h = go (number_from (listed cs) k 0) refl
    where
      go : (o : Option ℕ) → number_from (listed cs) k 0 ≡ o → Step given (is_number n o) cs n r l p (passed r l p)
      go None e =
          let found : number_from (listed r.circuits) (circuit_in p) 0 ≡ None = rw (s.circuits, h.circuit) e in
          rw (passed_leaves r l p _ (heard_elsewhere l.given r.slots p r.circuits h.right h.plain found))
          (record { told = record { loss = refl; slot = refl; written = refl; handed = refl }; ready = s })
      go (Some c) e =
          let found : number_from (listed r.circuits) (circuit_in p) 0 ≡ Some c = rw (s.circuits, h.circuit) e in
          let is : passed r l p ≡ leaves (heard_at given c r.slots p) r l p =
          passed_leaves r l p (heard_at given c r.slots p) (rw s.lent (heard_circuit given r.slots p r.circuits h.right h.plain c found)) in
          let parts = in_range_parts given r s.range in
          let range = (number_slot given r.circuits r.slots parts.slots (leb-true r.circuits.count 4 parts.count) (circuit_in p) c found).1 in
          let fate : Fate = fate_of (takes_long given c) (slot_at r.slots c) p in
          record {
            told = rw is (heard_at-any given n r l p h.right c range (omega (arith, s.places)));
            ready = record {
              circuits = rw is s.circuits;
              places = rw is (length-set r.slots c (slot_after fate (slot_at r.slots c) p) ∙ s.places);
              lent = rw is ((lengths_stores_after_notice (heard_at given c r.slots p).notice r.slots p l).given ∙ s.lent);
              range = rw (← s.lent) (passed_in_range r l p h.bytes (rw s.lent s.range));
            };
          }

  -- a system packet writes behind all regions
  step-system : (e c : ℕ) (v : List ℕ) → p ≡ system_packet e c v → e ≤ 15 → c ≤ 8 → length v ≤ 15 → Step given false cs n r l p (passed r l p)
  unfolding system_heard stores_after_notice loss_at handed_at region system_place
  step-system e c v is e-le c-le short =
      let right : malformed p ≡ false = rw is (system-malformed e c v e-le c-le short) in
      let there : address p ≡ 0xff = rw is (system-address e c v) in
      rw (passed_leaves r l p _ (heard-system l.given r.slots p r.circuits right there))
      (record {
        told = record { loss = refl; slot = refl; written = rw (area_behind n l.store system_place (information p) (omega arith)); handed = refl };
        ready = record { circuits = s.circuits; places = s.places; lent = s.lent; range = s.range };
      })

-- ---- a frame's packet

-- a copy that the sender made is a packet of its circuit
made-packet : (k : Circuit) (c : Copy) → RightCircuit k → Made k c → PacketOf k c.packet
unfolding copy_of
made-packet k c right m =
    let l : ℕ = link_of m.part (packets (length m.text)) in
    let v : List ℕ = segment_of m.text m.part in
    let is : c.packet ≡ packet_of k l (c.number % 8) c.priority v = ap (λ (x : Copy). x.packet) m.is in
    let l_lt = link_of_lt m.part (packets (length m.text)) in
    let i_lt : c.number % 8 < 8 = omega arith in
    let y-lt : c.priority < 4 = omega (arith, m.few) in
    let (least, most) = length-segment_of m.text m.part m.inside in
    rw is
    (record {
      right = malformed-made k right l (c.number % 8) c.priority v l_lt i_lt y-lt least most;
      plain = eqb-false _ 0xff (address-made k right l (c.number % 8) c.priority v l_lt i_lt y-lt);
      circuit = circuit_in-made k right l (c.number % 8) c.priority v l_lt i_lt y-lt;
      bytes = (right_copy_of k c.priority m.text c.number m.part right m.few m.bytes m.inside).0;
    })

-- ---- frames

-- what a packet tells, and then what others tell
module _ (given : Bool) (n : ℕ) (r : Receiver) (l : Stores) (p : List ℕ) (h : Noticed) (ps : List (List ℕ)) where
  losses_then : (b : Bool) (later : ℕ) → OwnIf given b n r l p h → later ≡ losses_heard (takes_long given n) (slot_at h.receiver.slots n) ps
      → loss_at n h.notice + later ≡ losses_heard (takes_long given n) (slot_at r.slots n) (cond b (p ∷ []) [] ++ ps)
  unfolding losses_heard
  losses_then true later t e = rw (t.loss, e, t.slot)
  losses_then false later t e = rw (t.loss, e, t.slot, zero-add)

  handed_then : (b : Bool) (later : List (List ℕ)) → OwnIf given b n r l p h
      → later ≡ handed_heard (takes_long given n) (slot_at h.receiver.slots n) (own_stores (takes_long given n) n h.store) ps
      → handed_at n h.notice h.store ++ later
      ≡ handed_heard (takes_long given n) (slot_at r.slots n) (own_stores (takes_long given n) n l) (cond b (p ∷ []) [] ++ ps)
  unfolding handed_heard
  handed_then true later t e = rw (t.handed, e, t.slot, t.written)
  handed_then false later t e = rw (t.handed, e, t.slot, t.written)

-- circuit k has number n among the circuits cs
module _ (given : Bool) (cs : Circuits) (n : ℕ) (n-lt : n < 4) (k : Circuit)
    (is : (d : Circuit) → is_number n (number_from (listed cs) d 0) ≡ alike k d) where
  -- a frame's packet tells of circuit n if it is one of circuit k
  step-made : (w : Option Placed) (r : Receiver) (l : Stores) (p : List ℕ) → MadeBy w p → Ready given cs r l
      → Step given (is_of k w) cs n r l p (passed r l p)
  unfolding MadeBy is_of
  step-made None r l p m s = step-system given cs n n-lt r l p s m.enable m.code m.information m.is m.enable_le m.code_le m.short
  step-made (Some q) r l p m s =
      rw (← is q.circuit, m.0) (step_circuit given cs n n-lt r l q.copy.packet s q.circuit (made-packet q.circuit q.copy m.1 m.2))

  -- what the packets of frames tell of circuit n
  heard-frames : (fs : List Frame) (r : Receiver) (l : Stores) → AllMade fs → Ready given cs r l
      → (losses_at n (told_by_packets r l (map (λ (f : Frame). f.packet) fs)) ≡ losses_heard (takes_long given n) (slot_at r.slots n) (packets_at k fs))
      × (handed_over n (told_by_packets r l (map (λ (f : Frame). f.packet) fs))
      ≡ handed_heard (takes_long given n) (slot_at r.slots n) (own_stores (takes_long given n) n l) (packets_at k fs))
  unfolding AllAre told_by_packets packets_at losses_at handed_over losses_heard handed_heard
  heard-frames [] r l m s = (refl, refl)
  heard-frames (f ∷ fs) r l m s =
      let h : Noticed = passed r l f.packet in
      let step = step-made f.whose r l f.packet m.0 s in
      let (losses, handed) = heard-frames fs h.receiver h.store m.1 step.ready in (
        losses_then given n r l f.packet h (packets_at k fs) (is_of k f.whose) _ step.told losses,
        handed_then given n r l f.packet h (packets_at k fs) (is_of k f.whose) _ step.told handed,
      )

-- ---- a fresh receiver

-- it is in range, its circuits are the list's, and nothing was heard
ready_fresh : (list : List ℕ) (l : Stores) → Ready l.given (listing list) (fresh (listing list)) l
unfolding fresh
ready_fresh list l = record { circuits = refl; places = refl; lent = refl; range = fresh_in_range l.given list }

module _ (list : List ℕ) (accepted : list_refusal list ≡ 0) (n : ℕ) (there : n < length (circuits_of list)) where
  number_lt : n < 4
  number_lt = omega (arith, list_refusal-length list accepted)

  is_number-listed : (d : Circuit) → is_number n (number_from (listed (listing list)) d 0) ≡ alike (get_or (circuits_of list) n no_circuit) d
  is_number-listed d =
      let same = listed-listing list accepted in
      let apart : two_alike (circuits_of list) ≡ false = rw same at (circuits_refusal-zero (listed (listing list)) (listing-refusal list)).2 in
      rw same (rw zero-add at (is_number-alike (circuits_of list) d 0 n apart there))

  slot_at-fresh : slot_at (fresh (listing list)).slots n ≡ fresh_slot
  unfolding slot_at fresh
  slot_at-fresh = get_or-replicate 4 n fresh_slot fresh_slot number_lt

-- the losses told of circuit n, and the messages handed over there
module _ (list : List ℕ) (l : Stores) (accepted : list_refusal list ≡ 0) (n : ℕ) (there : n < length (circuits_of list)) where
  pub losses_of_circuit : (fs : List Frame) → AllMade fs
      → losses_at n (told_by_packets (fresh (listing list)) l (map (λ (f : Frame). f.packet) fs))
      ≡ losses_heard (takes_long l.given n) fresh_slot (packets_at (get_or (circuits_of list) n no_circuit) fs)
  losses_of_circuit fs made =
      rw (← slot_at-fresh list accepted n there)
      (heard-frames l.given (listing list) n (number_lt list accepted n there) (get_or (circuits_of list) n no_circuit) (is_number-listed list accepted n there)
      fs (fresh (listing list)) l made (ready_fresh list l)).0

  pub handed_of_circuit : (fs : List Frame) → AllMade fs
      → handed_over n (told_by_packets (fresh (listing list)) l (map (λ (f : Frame). f.packet) fs))
      ≡ handed_heard (takes_long l.given n) fresh_slot (own_stores (takes_long l.given n) n l) (packets_at (get_or (circuits_of list) n no_circuit) fs)
  handed_of_circuit fs made =
      rw (← slot_at-fresh list accepted n there)
      (heard-frames l.given (listing list) n (number_lt list accepted n there) (get_or (circuits_of list) n no_circuit) (is_number-listed list accepted n there)
      fs (fresh (listing list)) l made (ready_fresh list l)).1

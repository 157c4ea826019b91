-- The exported calls that read with a framing alone give, from 24 zeros on, what the declared bodies give in the bits that they read; each stops at the first
-- body that gives something, and none is refused for its framing. A receiver's framing gives the packet behind a notice.
use Prim.Native.Nat.{ℕ, ◌+◌, ◌-◌, ◌*◌, ◌%◌, ◌^◌, ◌≤◌, ◌<◌}
use mathlib.Core.Bool.{Bool, true, false, cond, ◌||◌, true≢false}
use mathlib.Core.List.{List, [], ◌∷◌, ◌++◌, append-nil}
use mathlib.Core.Path.{◌≡◌, refl, sym, ap, ◌∙◌}
use native.Mathlib.Omega.{arith}
use borrow.Author.Tests.{ltb-false, eqb-true}
use lib.ListN.{length, take, drop, replicate, length-append, length-replicate}
use lib.Seq.{sets, slice, length-slice, length-sets, take_all}
use lib.Dec.{eqb, ltb}
use Rattle.bits.specs.Bits.{bits_of}
use Rattle.bits.proofs.Bits.{length-bits_of}
use Rattle.bits.proofs.Lists.{sets_front}
use Rattle.bits.proofs.Tests.{or_left, or_right}
use Rattle.hdlc.specs.Bodies.{Judged}
use Rattle.packet.specs.Lists.{AllAre}
use Rattle.framing.specs.declared.Framing.{Framing}
use Rattle.framing.specs.declared.Check.{Check}
use Rattle.framing.specs.declared.Check.TheVariants.{Packet, Spoilt, Nothing}
use Rattle.framing.specs.declared.Scan.{Scan}
use Rattle.framing.specs.Machine.{fresh, run}
use Rattle.framing.specs.Range.{in_range}
use Rattle.framing.specs.Closings.{not_nothing, given_by, closings}
use Rattle.framing.specs.Scanning.{scan}
use Rattle.framing.proofs.Runs.{run_append}
use Rattle.framing.proofs.Scanned.{scan-least, scan-most}
use Rattle.framing.proofs.ScanFindsFirst.{scan_leaves}
use Rattle.framing.proofs.ScanGives.{gives, gives_from, gives_append, not_nothing_append, scan_gives, scan_quiet, EndsAt, scan_ends, take_slice, scan_takes, scan_again, bodies-given}
use Rattle.framing.proofs.ScanInRange.{Array21, Array21-fresh, Arrays, Arrays-scan, fresh_in_range, scan_in_range}
use Rattle.receiver.specs.declared.Receiver.{Receiver}
use Rattle.receiver.specs.Reading.{read_scan}
use Rattle.layout.specs.Layout.{low_bytes, byte_at, number_at, packet_length}
use Rattle.layout.proofs.Parts.{number_unpacks, number_after}
use Rattle.framing_layout.specs.FramingBytes.{framing_length, framing_bytes, framing_in, framing_answer_length, stop_number, length_given, framing_answer_bytes}
use Rattle.framing_layout.specs.Reading.{framing_scan, framing_refusal, framing_after, packet_after, answer_after}
use Rattle.framing_layout.proofs.FramingRoundTrip.{framing_unpacks, length-framing_bytes, framing-fresh}
use Rattle.framing_layout.proofs.ReadingLaws.{before_scan, given-most}
use Rattle.aes18.specs.Room.{no_room}
use Rattle.aes18.specs.FramingCalls.{framing_short, framing_read_answered, framing_read_record, framing_read_packet, framing_read_answer}
use Rattle.exported.specs.Framings.{
  LentFramingRead,
  ToFits,
  number_answered,
  framing_left,
  packet_left,
  answer_left,
  body_told,
  body_given,
  bits_taken,
  lent_bodies,
  lent_bits,
  lent_numbers,
  framing_then,
  given_in,
  given_up_to,
  GivesFirst,
}
use Rattle.exported.proofs.LinesCarried.{place_front}

-- the bytes hold a framing that bits leave
record Holds (bytes : List ℕ) (f : Framing) : Type 0 where
  pub long : framing_length ≤ length bytes
  pub is : framing_in bytes 0 ≡ f
  pub array : Array21 f.bits
  pub range : in_range f ≡ true

-- ---- what an answer tells

module _ (check : Check) (read : ℕ) (answer : List ℕ) (room : framing_answer_length ≤ length answer) where
  answer_front : sets answer 0 (framing_answer_bytes check read) ≡ framing_answer_bytes check read ++ drop framing_answer_length answer
  unfolding framing_answer_bytes low_bytes
  answer_front = sets_front answer (framing_answer_bytes check read) room

  bits-told : read < 2 ^ 64 → number_at 8 (sets answer 0 (framing_answer_bytes check read)) 8 ≡ read
  unfolding framing_answer_bytes low_bytes
  bits-told h =
      rw answer_front
      (number_after 8 (stop_number check ∷ low_bytes 1 (length_given check) ++ replicate 6 0) (low_bytes 8 read ++ drop framing_answer_length answer) 8 refl
      ∙ number_unpacks 8 read h (drop framing_answer_length answer))

-- the body that a scan stopped at
body-told : (check : Check) (read : ℕ) (bytes packet answer : List ℕ) → framing_answer_length ≤ length answer → packet_length ≤ length packet
    → length bytes ≡ 21 → length_given check ≤ 19
    → body_told (sets answer 0 (framing_answer_bytes check read)) (sets packet 0 (take (length_given check) bytes)) ≡ not_nothing (given_by check bytes ∷ [])
unfolding body_told framing_answer_bytes low_bytes byte_at stop_number length_given not_nothing given_by
body-told (Packet n) read bytes packet answer a p long most =
    let low : n % 256 ≡ n = omega arith in
    rw (answer_front (Packet n) read answer a, low, place_front n bytes packet (omega arith) (omega arith))
body-told Spoilt read bytes packet answer a p long most = rw (answer_front Spoilt read answer a)
body-told Nothing read bytes packet answer a p long most = rw (answer_front Nothing read answer a)

-- none is told only where the scan went to the end
none_ends : (check : Check) (bytes : List ℕ) (at end : ℕ) → not_nothing (given_by check bytes ∷ []) ≡ [] → EndsAt check at end → at ≡ end
unfolding not_nothing given_by
none_ends (Packet n) bytes at end e h = let z : ◌≡◌ {A = ℕ} 1 0 = ap (λ (l : List Judged). length l) e in absurd (omega arith)
none_ends Spoilt bytes at end e h = let z : ◌≡◌ {A = ℕ} 1 0 = ap (λ (l : List Judged). length l) e in absurd (omega arith)
none_ends Nothing bytes at end e h = h

-- what is closed in the bits that a scan reads
gives_scan : (f : Framing) (bits : List ℕ) (from to : ℕ)
    → (let s = framing_scan f bits from to in
    not_nothing (gives (closings f 0 (take (s.at - from) (slice from to (bits_of bits))))) ≡ not_nothing (given_by s.check s.bytes ∷ []))
unfolding framing_scan
gives_scan f bits from to =
    let part : List Bool = slice from to (bits_of bits) in
    rw (gives_from (take ((framing_scan f bits from to).at - from) part) f 0 from) (scan_gives part f from)

-- ---- an accepted call

module _ (bytes : List ℕ) (f : Framing) (c : LentFramingRead) (holds : Holds bytes f) (short : framing_short bytes c.packet c.answer ≡ false) where
  rooms : (packet_length ≤ length c.packet) × (framing_answer_length ≤ length c.answer)
  unfolding framing_short
  rooms =
      let front : Bool = ltb (length bytes) framing_length || ltb (length c.packet) packet_length in
      let last : Bool = ltb (length c.answer) framing_answer_length in (
        ltb-false (length c.packet) packet_length (or_right (ltb (length bytes) framing_length) (ltb (length c.packet) packet_length) (or_left front last short)),
        ltb-false (length c.answer) framing_answer_length (or_right front last short),
      )

  answered : number_answered bytes c ≡ framing_refusal f c.bits c.from c.to
  unfolding number_answered framing_read_answered
  answered = rw (short, holds.is)

  left : framing_left bytes c ≡ framing_after bytes c.bits c.from c.to
  unfolding framing_left framing_read_record
  left = rw short

  module _ (accepted : framing_refusal f c.bits c.from c.to ≡ 0) where
    -- the bits lent to the scan, and the scan
    abbrev part : List Bool
    part = slice c.from c.to (bits_of c.bits)

    abbrev s : Scan
    s = framing_scan f c.bits c.from c.to

    arrays : Arrays s
    unfolding framing_scan
    arrays = Arrays-scan part f c.from holds.array

    answer_is : answer_left bytes c ≡ sets c.answer 0 (framing_answer_bytes s.check (s.at - c.from))
    unfolding answer_left framing_read_answer answer_after
    answer_is = rw (short, holds.is, accepted)

    packet_is : packet_left bytes c ≡ sets c.packet 0 (take (length_given s.check) s.bytes)
    unfolding packet_left framing_read_packet packet_after
    packet_is = rw (short, holds.is, accepted)

    framing_is : framing_left bytes c ≡ framing_bytes s.framing ++ drop framing_length bytes
    unfolding framing_after
    framing_is =
        let long : length (framing_bytes s.framing) ≡ framing_length = length-framing_bytes s.framing arrays.left.long in
        left ∙ rw (holds.is, accepted) (sets_front bytes (framing_bytes s.framing) (omega (arith, long, holds.long)) ∙ rw long)

    -- the bytes hold the framing that the scan leaves
    holds_left : Holds (framing_left bytes c) s.framing
    unfolding framing_after framing_scan
    holds_left =
        record {
          long = rw (left, holds.is, accepted, length-sets) holds.long;
          is = rw framing_is (framing_unpacks s.framing arrays.left.long (drop framing_length bytes));
          array = arrays.left;
          range = scan_in_range part f c.from holds.array holds.range;
        }

    -- how many bits it reads
    length_part : length part ≡ c.to - c.from
    length_part =
        let order = before_scan f c.bits c.from c.to accepted in
        length-slice c.from c.to (bits_of c.bits) (rw length-bits_of order.1)

    at_within : (c.from ≤ s.at) × (s.at ≤ c.to)
    unfolding framing_scan
    at_within =
        let order = before_scan f c.bits c.from c.to accepted in
        (scan-least part f c.from, omega (arith, length_part, scan-most part f c.from, order))

    read_is : ToFits c → number_at 8 (answer_left bytes c) 8 ≡ s.at - c.from
    read_is few = rw answer_is (bits-told s.check (s.at - c.from) c.answer rooms.1 (omega (arith, at_within)))

    taken_part : take (s.at - c.from) (drop c.from (bits_of c.bits)) ≡ take (s.at - c.from) part
    unfolding framing_scan
    taken_part = scan_takes f c.from c.to (bits_of c.bits)

    bits_are : ToFits c → bits_taken bytes c ≡ take (s.at - c.from) part
    unfolding bits_taken
    bits_are few = rw (answered, accepted, read_is few) taken_part

    leaves : run f (take (s.at - c.from) part) ≡ s.framing
    unfolding framing_scan
    leaves = sym (scan_leaves part f c.from)

    given_is : body_given bytes c ≡ not_nothing (given_by s.check s.bytes ∷ [])
    unfolding body_given
    given_is =
        rw (answered, accepted, answer_is, packet_is)
        (body-told s.check (s.at - c.from) s.bytes c.packet c.answer rooms.1 rooms.0 arrays.told.long
        (given-most f c.bits c.from c.to refl))

    -- fewer bits give nothing
    fewer_given : (j : ℕ) → j < s.at - c.from → not_nothing (gives (closings f 0 (take j (drop c.from (bits_of c.bits))))) ≡ []
    unfolding framing_scan
    fewer_given j h =
        rw (← take_slice c.from c.to j (bits_of c.bits) (omega (arith, at_within, length_part)), gives_from (take j part) f 0 c.from)
        (scan_quiet part f c.from j h)

    -- where none is given the bits end
    all_read_lem : body_given bytes c ≡ [] → s.at ≡ c.to
    unfolding framing_scan
    all_read_lem none =
        let last : s.at ≡ c.from + length part = none_ends s.check s.bytes s.at (c.from + length part) (sym given_is ∙ none) (scan_ends part f c.from) in
        omega (arith, last, length_part, at_within)

-- ---- any call

-- it leaves bytes that hold a framing, and is not answered by 14
record Kept (bytes : List ℕ) (c : LentFramingRead) : Type 0 where
  pub framing : Framing
  pub holds : Holds (framing_left bytes c) framing
  pub in-range : number_answered bytes c ≡ 14 → ⊥

-- it gives what is closed in the bits that it reads, and leaves the framing that they leave
record FramingCarried (bytes : List ℕ) (f : Framing) (c : LentFramingRead) : Type 0 where
  pub given : body_given bytes c ≡ not_nothing (gives (closings f 0 (bits_taken bytes c)))
  pub after : Holds (framing_left bytes c) (run f (bits_taken bytes c))

-- a framing in range is not refused by 14
not_14 : (f : Framing) (bits : List ℕ) (from to : ℕ) → in_range f ≡ true → framing_refusal f bits from to ≡ 14 → ⊥
unfolding framing_refusal
not_14 f bits from to range = rw range (go (ltb to from || ltb (8 * length bits) to))
  where
    go : (t : Bool) → ◌≡◌ {A = ℕ} (cond t 15 0) 14 → ⊥
    go true e = omega arith
    go false e = omega arith

-- by whether there is room, and whether it is refused
module _ (bytes : List ℕ) (f : Framing) (c : LentFramingRead) (holds : Holds bytes f) (P : Type 0)
    (roomless : framing_short bytes c.packet c.answer ≡ true → P)
    (refused : framing_short bytes c.packet c.answer ≡ false → eqb (framing_refusal f c.bits c.from c.to) 0 ≡ false → P)
    (accepted : framing_short bytes c.packet c.answer ≡ false → framing_refusal f c.bits c.from c.to ≡ 0 → P) where
  by_cases : P
  by_cases = by_room (framing_short bytes c.packet c.answer) refl
    where
      number : ℕ
      number = framing_refusal f c.bits c.from c.to

      by_number : framing_short bytes c.packet c.answer ≡ false → (t : Bool) → eqb number 0 ≡ t → P
      by_number short true e = accepted short (eqb-true number 0 e)
      by_number short false e = refused short e

      by_room : (t : Bool) → framing_short bytes c.packet c.answer ≡ t → P
      by_room true short = roomless short
      by_room false short = by_number short (eqb number 0) refl

module _ (bytes : List ℕ) (f : Framing) (c : LentFramingRead) (holds : Holds bytes f) where
  -- a call that is not answered by 0 leaves the framing
  roomless_left : framing_short bytes c.packet c.answer ≡ true → (number_answered bytes c ≡ 255) × (framing_left bytes c ≡ bytes)
  unfolding number_answered framing_read_answered framing_left framing_read_record no_room
  roomless_left short = (rw short, rw short)

  refused_left : framing_short bytes c.packet c.answer ≡ false → eqb (framing_refusal f c.bits c.from c.to) 0 ≡ false → framing_left bytes c ≡ bytes
  unfolding framing_after
  refused_left short e = left bytes f c holds short ∙ rw (holds.is, e)

  call_kept : Kept bytes c
  call_kept =
      by_cases bytes f c holds (Kept bytes c)
      (λ short. record {
        framing = f;
        holds = rw (roomless_left short).1 holds;
        in-range = λ e. let z : ◌≡◌ {A = ℕ} 255 14 = sym (roomless_left short).0 ∙ e in omega arith;
      })
      (λ short e. record { framing = f; holds = rw (refused_left short e) holds; in-range = in-range short })
      (λ short accepted. record { framing = (s bytes f c holds short accepted).framing; holds = holds_left bytes f c holds short accepted; in-range = in-range short })
    where
      in-range : framing_short bytes c.packet c.answer ≡ false → number_answered bytes c ≡ 14 → ⊥
      in-range short e = not_14 f c.bits c.from c.to holds.range (sym (answered bytes f c holds short) ∙ e)

  -- nothing is given, and no bit is read
  nothing_carried : (n : ℕ) → number_answered bytes c ≡ n → eqb n 0 ≡ false → framing_left bytes c ≡ bytes → FramingCarried bytes f c
  unfolding body_given bits_taken closings not_nothing run
  nothing_carried n is none stays = record { given = rw (is, none); after = rw (is, none, stays) holds }

  call_carried : ToFits c → FramingCarried bytes f c
  call_carried few =
      by_cases bytes f c holds (FramingCarried bytes f c)
      (λ short. nothing_carried 255 (roomless_left short).0 refl (roomless_left short).1)
      (λ short e. nothing_carried (framing_refusal f c.bits c.from c.to) (answered bytes f c holds short) e (refused_left short e))
      (λ short accepted. record {
        given = rw (bits_are bytes f c holds short accepted few) (given_is bytes f c holds short accepted ∙ sym (gives_scan f c.bits c.from c.to));
        after = rw (bits_are bytes f c holds short accepted few, leaves bytes f c holds short accepted) (holds_left bytes f c holds short accepted);
      })

-- ---- lists of calls

framing_reads_carried : (cs : List LentFramingRead) (bytes : List ℕ) (f : Framing) → Holds bytes f → AllAre ToFits cs
    → lent_bodies bytes cs ≡ not_nothing (gives (closings f 0 (lent_bits bytes cs)))
unfolding lent_bodies lent_bits AllAre closings not_nothing
framing_reads_carried [] bytes f holds few = refl
framing_reads_carried (c ∷ cs) bytes f holds (one, more) =
    let carried = call_carried bytes f c holds one in
    let bits : List Bool = bits_taken bytes c in
    let later : List Bool = lent_bits (framing_left bytes c) cs in
    rw (carried.given, framing_reads_carried cs (framing_left bytes c) (run f bits) carried.after more)
    (sym (ap not_nothing (gives_append bits later f) ∙ not_nothing_append (gives (closings f 0 bits)) (gives (closings (run f bits) 0 later))))

numbers_kept : (cs : List LentFramingRead) (bytes : List ℕ) (f : Framing) → Holds bytes f → AllAre (λ (n : ℕ). n ≡ 14 → ⊥) (lent_numbers bytes cs)
unfolding lent_numbers AllAre
numbers_kept [] bytes f holds = tt
numbers_kept (c ∷ cs) bytes f holds =
    let kept = call_kept bytes f c holds in
    (kept.in-range, numbers_kept cs (framing_left bytes c) kept.framing kept.holds)

then-holds : (cs : List LentFramingRead) (bytes : List ℕ) (f : Framing) → Holds bytes f → AllAre ToFits cs
    → Holds (framing_then bytes cs) (run f (lent_bits bytes cs))
unfolding framing_then lent_bits AllAre run
then-holds [] bytes f holds few = holds
then-holds (c ∷ cs) bytes f holds (one, more) =
    rw (run_append (bits_taken bytes c) (lent_bits (framing_left bytes c) cs) f)
    (then-holds cs (framing_left bytes c) (run f (bits_taken bytes c)) (call_carried bytes f c holds one).after more)

-- ---- from 24 zeros on

zeros_hold : (rest : List ℕ) → Holds (replicate framing_length 0 ++ rest) fresh
zeros_hold rest =
    record {
      long = rw (length-append, length-replicate) (omega arith);
      is = ap (λ (bs : List ℕ). framing_in (bs ++ rest) 0) (sym framing-fresh) ∙ framing_unpacks fresh Array21-fresh.long rest;
      array = Array21-fresh;
      range = fresh_in_range;
    }

-- what the calls give is what the declared bodies give in the bits read
pub framings_carried : (cs : List LentFramingRead) (rest : List ℕ) → AllAre ToFits cs
    → (let zeros = replicate framing_length 0 ++ rest in lent_bodies zeros cs ≡ given_in (lent_bits zeros cs))
unfolding given_in
framings_carried cs rest few =
    let zeros : List ℕ = replicate framing_length 0 ++ rest in
    framing_reads_carried cs zeros fresh (zeros_hold rest) few ∙ bodies-given (lent_bits zeros cs)

-- no call is refused by 14
pub framing_never_14 : (cs : List LentFramingRead) (rest : List ℕ) → AllAre (λ (n : ℕ). n ≡ 14 → ⊥) (lent_numbers (replicate framing_length 0 ++ rest) cs)
framing_never_14 cs rest = numbers_kept cs (replicate framing_length 0 ++ rest) fresh (zeros_hold rest)

-- and each stops at the first body that gives something
module _ (calls : List LentFramingRead) (c : LentFramingRead) (rest : List ℕ) (few : AllAre ToFits calls) (fits : ToFits c) where
  abbrev zeros : List ℕ
  zeros = replicate framing_length 0 ++ rest

  -- where the calls before leave the framing, and the bits that are lent
  abbrev bytes : List ℕ
  bytes = framing_then zeros calls

  abbrev f : Framing
  f = run fresh (lent_bits zeros calls)

  abbrev lent : List Bool
  lent = drop c.from (bits_of c.bits)

  then-held : Holds bytes f
  then-held = then-holds calls zeros fresh (zeros_hold rest) few

  before : List Judged
  before = not_nothing (gives (closings fresh 0 (lent_bits zeros calls)))

  -- the bits give what was given before, and then what is closed in these
  given_up_to_is : (j : ℕ) → given_up_to zeros calls c j ≡ before ++ not_nothing (gives (closings f 0 (take j lent)))
  unfolding given_up_to given_in before
  given_up_to_is j =
      let all : List Bool = lent_bits zeros calls in
      sym (bodies-given (all ++ take j lent)) ∙ ap not_nothing (gives_append all (take j lent) fresh)
      ∙ not_nothing_append (gives (closings fresh 0 all)) (gives (closings f 0 (take j lent)))

  given_up_to-none : given_up_to zeros calls c 0 ≡ before
  unfolding closings not_nothing
  given_up_to-none = given_up_to_is 0 ∙ append-nil before

  pub framing_gives_first : number_answered bytes c ≡ 0 → GivesFirst zeros calls c (number_at 8 (answer_left bytes c) 8)
  framing_gives_first none =
      by_cases bytes f c then-held (GivesFirst zeros calls c (number_at 8 (answer_left bytes c) 8))
      (λ short. let z : ◌≡◌ {A = ℕ} 255 0 = sym (roomless_left bytes f c then-held short).0 ∙ none in absurd (omega arith))
      (λ short e. let z : eqb 0 0 ≡ false = ap (λ (n : ℕ). eqb n 0) (sym none ∙ answered bytes f c then-held short) ∙ e in absurd (true≢false z))
      (λ short accepted. first short accepted)
    where
      first : (short : framing_short bytes c.packet c.answer ≡ false) → framing_refusal f c.bits c.from c.to ≡ 0
          → GivesFirst zeros calls c (number_at 8 (answer_left bytes c) 8)
      first short accepted =
          let k_is = read_is bytes f c then-held short accepted fits in
          let within = at_within bytes f c then-held short accepted in
          record {
            within = rw k_is (omega (arith, within));
            fewer =
                λ j h. given_up_to_is j ∙ ap (◌++◌ before) (fewer_given bytes f c then-held short accepted j (rw k_is at h)) ∙ append-nil before ∙ sym given_up_to-none;
            all =
                given_up_to_is (number_at 8 (answer_left bytes c) 8)
                ∙ rw (k_is, taken_part bytes f c then-held short accepted, gives_scan f c.bits c.from c.to, ← given_is bytes f c then-held short accepted, ← given_up_to-none) refl;
            at_end = λ e. rw k_is (omega (arith, within, all_read_lem bytes f c then-held short accepted e));
          }

-- ---- the framing of a receiver's record

-- lent the bits that a reading call has read, it finds the same body and is left as the receiver's is
pub read_again : (r : Receiver) (bits : List ℕ) (from to : ℕ) → from ≤ to → to ≤ 8 * length bits
    → framing_scan r.framing bits from (read_scan r bits from to).at ≡ read_scan r bits from to
unfolding framing_scan read_scan
read_again r bits from to order lent =
    let l : List Bool = bits_of bits in
    let part : List Bool = slice from to l in
    let at : ℕ = (scan r.framing from part).at in
    let long : length part ≡ to - from = length-slice from to l (rw length-bits_of lent) in
    let least : from ≤ at = scan-least part r.framing from in
    let most : at ≤ to = omega (arith, long, scan-most part r.framing from) in
    let short : length (slice from at l) ≡ at - from = length-slice from at l (rw length-bits_of (omega arith)) in
    let same : slice from at l ≡ take (at - from) part
    = sym (take_all (at - from) (slice from at l) (omega arith)) ∙ take_slice from at (at - from) l (omega arith)
    ∙ sym (take_slice from to (at - from) l (omega arith)) in
    ap (scan r.framing from) same ∙ scan_again part r.framing from

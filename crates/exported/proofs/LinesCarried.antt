-- The exported calls of the serial line are document 02's: they put the same bytes on a line, and from any record's bytes they give the same packets.
use Prim.Native.Nat.{ℕ, suc, ◌-◌, ◌^◌, ◌≤◌, ◌<◌}
use mathlib.Core.Bool.{Bool, true, false, cond, ◌&&◌, ◌||◌}
use mathlib.Core.List.{List, [], ◌∷◌, ◌++◌, append_assoc}
use mathlib.Core.Path.{◌≡◌, refl, sym, ap, ◌∙◌}
use native.Mathlib.Omega.{arith}
use borrow.Author.Tests.{ne_eqb, ltb-false, le-ltb, lt-ltb, leb-true, leb-false}
use lib.ListN.{length, take, drop, replicate, length-append, length-replicate}
use lib.Seq.{sets, take_at, length-sets, length-take-le}
use lib.Dec.{leb, ltb, eqb}
use Rattle.bits.proofs.Lists.{sets_front}
use Rattle.bits.proofs.Tests.{and_right}
use Rattle.layout.specs.Layout.{low_bytes, number_at, packet_length}
use Rattle.layout.proofs.Parts.{number_unpacks, number_after, length-low_bytes}
use Rattle.packet.specs.Answers.{answered}
use Rattle.serial.specs.declared.Line.{Line}
use Rattle.serial.specs.declared.Reading.{Reading}
use Rattle.serial.specs.Octets.{is_flag, line_frame, fits}
use Rattle.serial.specs.Writing.{worst_case, output_after, bytes_written, sent, packets_sent}
use Rattle.serial.specs.Writing as serial
use Rattle.serial.specs.Frames.{packets_in}
use Rattle.serial.specs.Machine.{fresh, step, passes, ended, stopped, read_on, reading, packet_of, packet_given, length_given, packets_read, bytes_read}
use Rattle.serial.proofs.Stepping.{passes-least, reading-length}
use Rattle.serial.proofs.Writes.{write_cases}
use Rattle.serial.proofs.ReadBack.{length-line_frame, writes_read}
use Rattle.serial.proofs.ReadCalls.{reading_long, read_within, reads_declared}
use Rattle.serial_layout.specs.LineBytes.{line_length, line_bytes, line_in, line_write_length, line_write_bytes, line_read_length, line_read_bytes}
use Rattle.serial_layout.proofs.LineRoundTrip.{line_unpacks, line_long, length-line_bytes, line-fresh}
use Rattle.aes18.specs.Room.{no_room}
use Rattle.aes18.specs.LineCalls.{line_write_answered, line_written, line_write_answer, line_read_answered, line_read_record, line_read_packet, line_read_answer}
use Rattle.exported.specs.Lines.{LentWrite, lent_sent, writes_of, LentLineRead, line_read_has_room, packet_of_length, lent_packets, lines_of}

-- ---- writing

fits-most : (p : List ℕ) → fits p ≡ true → length p ≤ 19
unfolding fits
fits-most p f = leb-true (length p) 19 (and_right (leb 2 (length p)) (leb (length p) 19) f)

write-told : (n : ℕ) (answer : List ℕ) → line_write_length ≤ length answer → n < 256 ^ 8 → number_at 8 (sets answer 0 (line_write_bytes n)) 0 ≡ n
unfolding line_write_bytes
write-told n answer room h =
    rw (sets_front answer (low_bytes 8 n) (rw length-low_bytes room)) (number_unpacks 8 n h (drop (length (low_bytes 8 n)) answer))

module _ (p line answer : List ℕ) where
  -- the bytes that a call puts on the line
  abbrev Put : List ℕ
  Put =
      cond (eqb (line_write_answered p line answer) 0) (take (number_at 8 (line_write_answer p line answer) 0) (line_written p line answer)) []

  put_roomless : leb line_write_length (length answer) ≡ false → Put ≡ []
  unfolding line_write_answered no_room
  put_roomless e = rw (lt-ltb (length answer) line_write_length (leb-false line_write_length (length answer) e))

  put_room : leb line_write_length (length answer) ≡ true → Put ≡ bytes_written (serial.write_answer p line) (output_after p line)
  unfolding line_write_answered line_write_answer line_written serial.write_answer output_after bytes_written answered worst_case
  put_room e =
      let room : line_write_length ≤ length answer = leb-true line_write_length (length answer) e in
      rw (le-ltb (length answer) line_write_length room)
      (write_cases p line
      (λ n.
      cond (eqb n 0)
      (take (number_at 8 (cond (eqb n 0) (sets answer 0 (line_write_bytes (length (line_frame p)))) answer) 0)
      (cond (eqb n 0) (cond (eqb n 0) (sets line 0 (line_frame p)) line) line)) []
      ≡ bytes_written (answered n (length (line_frame p))) (cond (eqb n 0) (sets line 0 (line_frame p)) line))
      (λ f h. ap (λ (n : ℕ). take n (sets line 0 (line_frame p))) (write-told (length (line_frame p)) answer room (short f)))
      refl refl)
    where
      short : fits p ≡ true → length (line_frame p) < 256 ^ 8
      short f = omega (arith, length-line_frame p, fits-most p f)

pub line_writes_carried : (cs : List LentWrite) → lent_sent cs ≡ sent (writes_of cs)
unfolding lent_sent writes_of sent
line_writes_carried [] = refl
line_writes_carried (c ∷ cs) = go (leb line_write_length (length c.answer)) refl (line_writes_carried cs)
  where
    go : (t : Bool) → leb line_write_length (length c.answer) ≡ t → lent_sent cs ≡ sent (writes_of cs)
        → Put c.packet c.line c.answer ++ lent_sent cs
        ≡ sent (cond t (record { packet = c.packet; output = c.line } ∷ writes_of cs) (writes_of cs))
    go true e rest = rw (put_room c.packet c.line c.answer e, rest)
    go false e rest = rw (put_roomless c.packet c.line c.answer e, rest)

-- ---- reading

read_told : (n read : ℕ) (answer : List ℕ) → line_read_length ≤ length answer → n < 256 ^ 8 → number_at 8 (sets answer 0 (line_read_bytes n read)) 0 ≡ n
unfolding line_read_bytes
read_told n read answer room h =
    let long : length (low_bytes 8 n ++ low_bytes 8 read) ≡ 16 = rw (length-append, length-low_bytes, length-low_bytes) in
    rw (sets_front answer (low_bytes 8 n ++ low_bytes 8 read) (omega (arith, long)), append_assoc)
    (number_unpacks 8 n h (low_bytes 8 read ++ drop (length (low_bytes 8 n ++ low_bytes 8 read)) answer))

-- the first bytes of a place to which these are written
pub place_front : (n : ℕ) (frame place : List ℕ) → n ≤ length frame → n ≤ length place → take n (sets place 0 (take n frame)) ≡ take n frame
place_front n frame place inside room =
    let long : length (take n frame) ≡ n = length-take-le n frame inside in
    rw (sets_front place (take n frame) (omega (arith, long))) (take_at (take n frame) _ n long)

-- a packet that a flag ends has bytes, so that the length 0 tells of none
read_on-given : (l : Line) (n : ℕ) (bs : List ℕ)
    → packet_given (read_on l n bs) ≡ cond (eqb (length_given (read_on l n bs)) 0) [] (take (length_given (read_on l n bs)) (read_on l n bs).frame ∷ [])
unfolding read_on ended stopped packet_given packet_of length_given
read_on-given l n [] = refl
read_on-given l n (b ∷ bs) = go (is_flag b) (passes l) refl (read_on-given (step l b) (suc n) bs)
  where
    Told : Reading → Type 0
    Told r = packet_given r ≡ cond (eqb (length_given r) 0) [] (take (length_given r) r.frame ∷ [])

    go : (s t : Bool) → passes l ≡ t → Told (read_on (step l b) (suc n) bs) → Told (cond {A = Reading} (s && t) (stopped l (suc n)) (read_on (step l b) (suc n) bs))
    go true true e h = rw (ne_eqb (l.count - 2) 0 (λ z. omega (arith, passes-least l e)))
    go true false e h = h
    go false t e h = h

-- the packets of a call
abbrev Given : List ℕ → List ℕ → List ℕ → List ℕ → List (List ℕ)
Given bytes line place answer =
    cond (eqb (line_read_answered bytes place answer) 0)
    (packet_of_length (number_at 8 (line_read_answer bytes line place answer) 0) (line_read_packet bytes line place answer)) []

-- an accepted call's answer has room
answer_room : (bytes place answer : List ℕ) → line_read_answered bytes place answer ≡ 0 → line_read_length ≤ length answer
unfolding line_read_answered no_room
answer_room bytes place answer e = go (ltb (length bytes) line_length || ltb (length place) packet_length) (ltb (length answer) line_read_length) refl e
  where
    go : (s t : Bool) → ltb (length answer) line_read_length ≡ t → ◌≡◌ {A = ℕ} (cond (s || t) 255 0) 0 → line_read_length ≤ length answer
    go true t h k = absurd (omega arith)
    go false true h k = absurd (omega arith)
    go false false h k = ltb-false (length answer) line_read_length h

module _ (bytes line place answer : List ℕ) (h : line_length ≤ length bytes) where
  module _ (p : packet_length ≤ length place) (a : line_read_length ≤ length answer) where
    accepted : line_read_answered bytes place answer ≡ 0
    unfolding line_read_answered
    accepted = rw (le-ltb (length bytes) line_length h, le-ltb (length place) packet_length p, le-ltb (length answer) line_read_length a)

    given_room : Given bytes line place answer ≡ packet_given (reading (line_in bytes) line)
    unfolding line_read_answer line_read_packet packet_of_length reading
    given_room =
        let r = reading (line_in bytes) line in
        let n = length_given r in
        let short : n ≤ 19 = reading-length (line_in bytes) line in
        let frame : length r.frame ≡ 21 = (reading_long (line_in bytes) line (line_long bytes h)).1 in
        rw (
          accepted,
          read_told n r.read answer a (omega arith),
          place_front n r.frame place (omega arith) (omega arith),
        )
        (sym (read_on-given (line_in bytes) 0 line))

    record_room : line_read_record bytes line place answer ≡ line_bytes (reading (line_in bytes) line).line ++ drop line_length bytes
    unfolding line_read_record
    record_room =
        let l = (reading (line_in bytes) line).line in
        let long : length (line_bytes l) ≡ line_length = length-line_bytes l (reading_long (line_in bytes) line (line_long bytes h)).0 in
        rw accepted (sets_front bytes (line_bytes l) (omega (arith, long)) ∙ rw long)

    record_in : line_in (line_read_record bytes line place answer) ≡ (reading (line_in bytes) line).line
    record_in =
        let l = (reading (line_in bytes) line).line in
        rw record_room (line_unpacks l (reading_long (line_in bytes) line (line_long bytes h)).0 (drop line_length bytes))

  -- where there is no room nothing is given, and the record stays
  roomless : (ltb (length place) packet_length || ltb (length answer) line_read_length) ≡ true → line_read_answered bytes place answer ≡ 255
  unfolding line_read_answered no_room
  roomless e = rw (le-ltb (length bytes) line_length h, e)

  -- the record's bytes stay as many
  record_long : line_length ≤ length (line_read_record bytes line place answer)
  unfolding line_read_record
  record_long = go (eqb (line_read_answered bytes place answer) 0)
    where
      go : (t : Bool) → line_length ≤ length (cond t (sets bytes 0 (line_bytes (reading (line_in bytes) line).line)) bytes)
      go true = rw length-sets h
      go false = h

-- what a call gives and leaves, as a call of document 02 or as none
record LineCarried (bytes : List ℕ) (c : LentLineRead) (has : Bool) : Type 0 where
  pub given : Given bytes c.line c.packet c.answer ≡ cond has (packet_given (reading (line_in bytes) c.line)) []
  pub left : line_in (line_read_record bytes c.line c.packet c.answer) ≡ cond has (reading (line_in bytes) c.line).line (line_in bytes)

line_call_carried : (bytes : List ℕ) → line_length ≤ length bytes → (c : LentLineRead) → LineCarried bytes c (line_read_has_room c)
unfolding line_read_has_room line_read_record
line_call_carried bytes h c =
    go (leb packet_length (length c.packet)) refl (leb line_read_length (length c.answer)) refl
  where
    none : (ltb (length c.packet) packet_length || ltb (length c.answer) line_read_length) ≡ true → LineCarried bytes c false
    none e = let number = roomless bytes c.line c.packet c.answer h e in record { given = rw number; left = rw number }

    go : (s : Bool) → leb packet_length (length c.packet) ≡ s → (t : Bool) → leb line_read_length (length c.answer) ≡ t → LineCarried bytes c (s && t)
    go true p true a =
        let place = leb-true packet_length (length c.packet) p in
        let answer = leb-true line_read_length (length c.answer) a in
        record {
          given = given_room bytes c.line c.packet c.answer h place answer;
          left = record_in bytes c.line c.packet c.answer h place answer;
        }
    go true p false a =
        let place = leb-true packet_length (length c.packet) p in
        none (rw (le-ltb (length c.packet) packet_length place, lt-ltb (length c.answer) line_read_length (leb-false line_read_length (length c.answer) a)))
    go false p t a = none (rw (lt-ltb (length c.packet) packet_length (leb-false packet_length (length c.packet) p)))

-- from any record's bytes on
pub line_reads_carried : (cs : List LentLineRead) (bytes : List ℕ) → line_length ≤ length bytes → lent_packets bytes cs ≡ packets_read (line_in bytes) (lines_of cs)
unfolding lent_packets lines_of packets_read
line_reads_carried [] bytes h = refl
line_reads_carried (c ∷ cs) bytes h =
    go (line_read_has_room c) (line_call_carried bytes h c) (line_reads_carried cs (line_read_record bytes c.line c.packet c.answer) (record_long bytes c.line c.packet c.answer h))
  where
    after : List ℕ
    after = line_read_record bytes c.line c.packet c.answer

    go : (has : Bool) → LineCarried bytes c has → lent_packets after cs ≡ packets_read (line_in after) (lines_of cs)
        → Given bytes c.line c.packet c.answer ++ lent_packets after cs
        ≡ packets_read (line_in bytes) (cond has (c.line ∷ lines_of cs) (lines_of cs))
    go true w rest = rw (w.given, rest, w.left)
    go false w rest = rw (w.given, rest, w.left)

-- from 24 zeros on: the packets that stand in the bytes read
pub lines_carried : (cs : List LentLineRead) (rest : List ℕ) → lent_packets (replicate line_length 0 ++ rest) cs ≡ packets_in (bytes_read fresh (lines_of cs))
unfolding fresh
lines_carried cs rest =
    let zeros : List ℕ = replicate line_length 0 ++ rest in
    let long : line_length ≤ length zeros = rw (length-append, length-replicate) (omega arith) in
    let first : line_in zeros ≡ fresh = ap (λ (bs : List ℕ). line_in (bs ++ rest)) (sym line-fresh) ∙ line_unpacks fresh refl rest in
    line_reads_carried cs zeros long ∙ rw first (reads_declared (lines_of cs))

-- what exported calls write and exported calls read, cut anywhere: the packets that were not refused
pub lines_across : (ws : List LentWrite) (cs : List LentLineRead) (rest : List ℕ) → bytes_read fresh (lines_of cs) ≡ lent_sent ws
    → lent_packets (replicate line_length 0 ++ rest) cs ≡ packets_sent (writes_of ws)
lines_across ws cs rest e = lines_carried cs rest ∙ ap packets_in (e ∙ line_writes_carried ws) ∙ writes_read (writes_of ws)

-- the bytes read are told in the answer
pub line-read-told : (bytes line place answer : List ℕ) → line_read_answered bytes place answer ≡ 0 → length line < 2 ^ 64
    → number_at 8 (line_read_answer bytes line place answer) 8 ≡ (reading (line_in bytes) line).read
unfolding line_read_answer line_read_bytes
line-read-told bytes line place answer accepted few =
    let r = reading (line_in bytes) line in
    let long : length (low_bytes 8 (length_given r) ++ low_bytes 8 r.read) ≡ 16 = rw (length-append, length-low_bytes, length-low_bytes) in
    rw (accepted, sets_front answer (low_bytes 8 (length_given r) ++ low_bytes 8 r.read) (omega (arith, long, answer_room bytes place answer accepted)), append_assoc)
    (number_after 8 (low_bytes 8 (length_given r)) (low_bytes 8 r.read ++ drop (length (low_bytes 8 (length_given r) ++ low_bytes 8 r.read)) answer) 8 (length-low_bytes 8 (length_given r))
    ∙ number_unpacks 8 r.read (omega (arith, read_within (line_in bytes) line)) _)

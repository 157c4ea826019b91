-- Reading calls against the machine: what they give, in the bytes that they read; and a caller's loop reads every byte, however a line is cut.
use Prim.Native.Nat.{ℕ, zero, suc, ◌+◌, ◌-◌, ◌≤◌, ◌<◌}
use mathlib.Core.Bool.{Bool, true, false, cond, ◌&&◌}
use mathlib.Core.List.{List, [], ◌∷◌, ◌++◌, flatten, append_assoc}
use mathlib.Core.Path.{◌≡◌, refl, sym, ap, ◌∙◌}
use native.Mathlib.Nat.{add-zero, add-suc, suc-add, zero-add}
use native.Mathlib.Omega.{arith}
use lib.ListN.{length, take, drop, length-take, take-append-drop, length-drop, length-replicate}
use lib.Seq.{take-take}
use Rattle.serial.specs.declared.Line.{Line}
use Rattle.serial.specs.declared.Reading.{Reading}
use Rattle.serial.specs.Octets.{is_flag}
use Rattle.serial.specs.Frames.{packets_in}
use Rattle.serial.specs.Machine.{fresh, opened, step, passes, ended, stopped, read_on, reading, packet_given, packet_of, packets_read, bytes_read, line_after}
use Rattle.serial.specs.SerialLine.{calls_for, calls_over, stands_for}
use Rattle.serial.proofs.Stepping.{step-flag}
use Rattle.serial.proofs.Giving.{gives, given_in, run, step_long, given_declared}

-- ---- bytes in two parts

given_in_append : (l : Line) (xs ys : List ℕ) → given_in l (xs ++ ys) ≡ given_in l xs ++ given_in (run l xs) ys
unfolding given_in run
given_in_append l [] ys = refl
given_in_append l (x ∷ xs) ys =
    ap (λ (ps : List (List ℕ)). gives l x ++ ps) (given_in_append (step l x) xs ys) ∙ sym (append_assoc (gives l x) (given_in (step l x) xs) (given_in (run (step l x) xs) ys))

-- ---- one call

-- it reads k bytes: what it leaves and gives is what the machine does over these, and fewer give nothing
record Read (l : Line) (n : ℕ) (bs : List ℕ) (r : Reading) : Type 0 where
  pub k : ℕ
  pub read : r.read ≡ n + k
  pub within : k ≤ length bs
  pub line : r.line ≡ run l (take k bs)
  pub packets : packet_given r ≡ given_in l (take k bs)
  pub before : (j : ℕ) → j < k → given_in l (take j bs) ≡ []
  pub all : packet_given r ≡ [] → k ≡ length bs

reads_ended : (l : Line) (n : ℕ) → Read l n [] (ended l n)
unfolding ended packet_given packet_of given_in run
reads_ended l n =
    record {
      k = 0;
      read = sym (add-zero n);
      within = omega arith;
      line = refl;
      packets = refl;
      before = λ j h. absurd (omega arith);
      all = λ e. refl;
    }

module _ (l : Line) (n : ℕ) (b : ℕ) (bs : List ℕ) where
  -- the byte is a flag that gives a packet
  reads_stopped : is_flag b ≡ true → passes l ≡ true → Read l n (b ∷ bs) (stopped l (suc n))
  unfolding stopped packet_given packet_of given_in run gives
  reads_stopped f h =
      let one : packet_given (stopped l (suc n)) ≡ take (l.count - 2) l.bytes ∷ [] = refl in
      record {
        k = 1;
        read = omega arith;
        within = omega arith;
        line = sym (step-flag l b f);
        packets = one ∙ rw (f, h);
        before = λ j e. let none : j ≡ 0 = omega arith in rw none;
        all = λ e. absurd (omega (arith, ap length (sym one ∙ e)));
      }

  -- it gives none
  reads_on : (r : Reading) → (is_flag b && passes l) ≡ false → Read (step l b) (suc n) bs r → Read l n (b ∷ bs) r
  unfolding given_in run gives
  reads_on r e w =
      record {
        k = suc w.k;
        read = rw (w.read, add-suc, suc-add);
        within = omega (arith, w.within);
        line = w.line;
        packets = rw e w.packets;
        before = fewer;
        all = λ p. ap suc (w.all p);
      }
    where
      fewer : (j : ℕ) → j < suc w.k → given_in l (take j (b ∷ bs)) ≡ []
      fewer zero h = refl
      fewer (suc j) h = rw e (w.before j (omega arith))

reads : (l : Line) (n : ℕ) (bs : List ℕ) → Read l n bs (read_on l n bs)
unfolding read_on
reads l n [] = reads_ended l n
reads l n (b ∷ bs) = go (is_flag b) refl (passes l) refl (reads (step l b) (suc n) bs)
  where
    go : (s : Bool) → is_flag b ≡ s → (t : Bool) → passes l ≡ t → Read (step l b) (suc n) bs (read_on (step l b) (suc n) bs)
        → Read l n (b ∷ bs) (cond (s && t) (stopped l (suc n)) (read_on (step l b) (suc n) bs))
    go true f true h w = reads_stopped l n b bs f h
    go true f false h w = reads_on l n b bs _ (rw (f, h)) w
    go false f t h w = reads_on l n b bs _ (rw f) w

-- record and frame keep their lengths
read_long : (l : Line) (n : ℕ) (bs : List ℕ) → length l.bytes ≡ 21 → (length (read_on l n bs).line.bytes ≡ 21) × (length (read_on l n bs).frame ≡ 21)
unfolding read_on ended stopped opened
read_long l n [] long = (long, rw length-replicate)
read_long l n (b ∷ bs) long = go (is_flag b && passes l) (read_long (step l b) (suc n) bs (step_long l b long))
  where
    go : (t : Bool) → (length (read_on (step l b) (suc n) bs).line.bytes ≡ 21) × (length (read_on (step l b) (suc n) bs).frame ≡ 21)
        → (length (cond {A = Reading} t (stopped l (suc n)) (read_on (step l b) (suc n) bs)).line.bytes ≡ 21)
        × (length (cond {A = Reading} t (stopped l (suc n)) (read_on (step l b) (suc n) bs)).frame ≡ 21)
    go true later = (rw length-replicate, long)
    go false later = later

pub reading_long : (l : Line) (bs : List ℕ) → length l.bytes ≡ 21 → (length (reading l bs).line.bytes ≡ 21) × (length (reading l bs).frame ≡ 21)
unfolding reading
reading_long l bs long = read_long l 0 bs long

-- ---- what one call promises

module _ (l : Line) (bs : List ℕ) where
  of_call : Read l 0 bs (reading l bs)
  unfolding reading
  of_call = reads l 0 bs

  read_k : (reading l bs).read ≡ of_call.k
  read_k = of_call.read ∙ zero-add of_call.k

  pub read_within : (reading l bs).read ≤ length bs
  read_within = rw read_k of_call.within

  line_read : (reading l bs).line ≡ run l (take (reading l bs).read bs)
  line_read = of_call.line ∙ ap (λ (n : ℕ). run l (take n bs)) (sym read_k)

  packets-read : packet_given (reading l bs) ≡ given_in l (take (reading l bs).read bs)
  packets-read = of_call.packets ∙ ap (λ (n : ℕ). given_in l (take n bs)) (sym read_k)

  pub all_read_lem : packet_given (reading l bs) ≡ [] → (reading l bs).read ≡ length bs
  all_read_lem e = read_k ∙ of_call.all e

  fewer_none : (n : ℕ) → n < (reading l bs).read → given_in l (take n bs) ≡ []
  fewer_none n h = of_call.before n (rw read_k at h)

pub first_read_lem : (l : Line) (bs : List ℕ) (n : ℕ) → n < (reading l bs).read → packet_given (reading l (take n bs)) ≡ []
first_read_lem l bs n h =
    let m = (reading l (take n bs)).read in
    let few : m ≤ n = omega (arith, read_within l (take n bs), length-take n bs) in
    packets-read l (take n bs) ∙ rw (take-take m n bs few) (fewer_none l bs m (omega arith))

-- ---- lists of calls

pub packets-given : (l : Line) (calls : List (List ℕ)) → packets_read l calls ≡ given_in l (bytes_read l calls)
unfolding packets_read bytes_read given_in
packets-given l [] = refl
packets-given l (bs ∷ calls) =
    let n = (reading l bs).read in
    rw (packets-read l bs, packets-given (reading l bs).line calls, given_in_append l (take n bs) (bytes_read (reading l bs).line calls), line_read l bs)

pub any-record : (l : Line) (calls : List (List ℕ)) → length l.bytes ≡ 21 → packets_read l calls ≡ packets_in (stands_for l ++ bytes_read l calls)
any-record l calls long = packets-given l calls ∙ given_declared l (bytes_read l calls) long

pub reads_declared : (calls : List (List ℕ)) → packets_read fresh calls ≡ packets_in (bytes_read fresh calls)
unfolding fresh stands_for
reads_declared calls = any-record fresh calls refl

-- ---- a caller's loop

bytes_append : (l : Line) (a b : List (List ℕ)) → bytes_read l (a ++ b) ≡ bytes_read l a ++ bytes_read (line_after l a) b
unfolding bytes_read line_after
bytes_append l [] b = refl
bytes_append l (bs ∷ a) b =
    let r = reading l bs in
    ap (λ (xs : List ℕ). take r.read bs ++ xs) (bytes_append r.line a b)
    ∙ sym (append_assoc (take r.read bs) (bytes_read r.line a) (bytes_read (line_after r.line a) b))

-- a call that is lent a byte reads one
some_read : (l : Line) (b : ℕ) (bs : List ℕ) → 1 ≤ (reading l (b ∷ bs)).read
unfolding given_in
some_read l b bs = go (reading l (b ∷ bs)).read refl
  where
    go : (n : ℕ) → (reading l (b ∷ bs)).read ≡ n → 1 ≤ n
    go zero e =
        let none : packet_given (reading l (b ∷ bs)) ≡ [] = packets-read l (b ∷ bs) ∙ ap (λ (n : ℕ). given_in l (take n (b ∷ bs))) e in
        absurd (omega (arith, all_read_lem l (b ∷ bs) none))
    go (suc n) e = omega arith

loop-reads : (n : ℕ) (l : Line) (bs : List ℕ) → length bs ≤ n → bytes_read l (calls_for n l bs) ≡ bs
unfolding calls_for bytes_read
loop-reads zero l [] h = refl
loop-reads zero l (b ∷ bs) h = absurd (omega arith)
loop-reads (suc n) l bs h =
    let r = reading l bs in
    let left : length (drop r.read bs) ≤ n = rw length-drop (fewer bs h) in
    rw (loop-reads n r.line (drop r.read bs) left) (take-append-drop r.read bs)
  where
    fewer : (bs : List ℕ) → length bs ≤ suc n → length bs - (reading l bs).read ≤ n
    fewer [] h = omega arith
    fewer (b ∷ bs) h = omega (arith, some_read l b bs)

pub cuts_read : (l : Line) (chunks : List (List ℕ)) → bytes_read l (calls_over l chunks) ≡ flatten chunks
unfolding calls_over bytes_read flatten
cuts_read l [] = refl
cuts_read l (bs ∷ chunks) =
    let calls = calls_for (length bs) l bs in
    bytes_append l calls (calls_over (line_after l calls) chunks)
    ∙ rw (loop-reads (length bs) l bs (omega arith), cuts_read (line_after l calls) chunks)

pub cuts_declared : (chunks : List (List ℕ)) → packets_read fresh (calls_over fresh chunks) ≡ packets_in (flatten chunks)
cuts_declared chunks = reads_declared (calls_over fresh chunks) ∙ ap packets_in (cuts_read fresh chunks)

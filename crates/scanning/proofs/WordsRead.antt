-- Words read at once, as the code reads them: before any zero, outside a body, and in one.
use Prim.Native.Nat.{ℕ, zero, suc, ◌+◌, ◌-◌, ◌*◌, ◌/◌, ◌%◌, ◌^◌, ◌≤◌, ◌<◌}
use mathlib.Core.Bool.{Bool, true, false, cond}
use mathlib.Core.List.{List, [], ◌∷◌, ◌++◌, append-nil}
use mathlib.Core.Path.{◌≡◌, refl, sym, ap, ◌∙◌, subst}
use native.Mathlib.Nat.{pow-suc}
use native.Mathlib.Omega.{arith}
use lib.Dec.{leb, eqb, lit<}
use lib.ListN.{length, take, drop, get_or, replicate, length-append, length-replicate, length-drop}
use lib.Pow.{pow_pos}
use lib.Seq.{slice, length-take-le, take-take, drop-cons}
use Rattle.bits.specs.Bits.{odd, low_bits, bit_value, number_of, fill_bytes}
use Rattle.bits.proofs.Bits.{length-low_bits, low_bits-zero}
use Rattle.hdlc.specs.Stuffing.{end_ones}
use Rattle.words.specs.declared.Gathered.{Gathered}
use Rattle.words.specs.Gathering.{Gathers}
use Rattle.words.specs.Runs.{until_five, no_six}
use Rattle.words.proofs.Numbers.{low_bits_mod, take-low_bits}
use Rattle.bits.proofs.Fields.{low_bits_split}
use Rattle.words.proofs.Pieces.{Piece, piece_is, piece_no_six, piece_unstuffed, until_word}
use Rattle.framing.specs.declared.Framing.{Framing}
use Rattle.framing.specs.declared.Head.{Head}
use Rattle.framing.specs.Heads.{framing_of}
use Rattle.scanning.specs.Ahead.{outside, ReadAhead}
use Rattle.framing.specs.Machine.{empty, fresh, phase_after, step, run}
use Rattle.framing.specs.Range.{LeftBy}
use Rattle.framing.specs.Scanning.{scan}
use Rattle.framing.proofs.Framed.{short, long, framed, held_bits, framed_short, framed_long, framed_cases, framed_empty, phase_framed, ones_framed, step-zero, step-zero_hunting}
use Rattle.framing.proofs.Reached.{Reached, before, hunting, opened, plain, stuffed, left_reached}
use Rattle.framing.proofs.Resync.{Behind, run-fresh_ones}
use Rattle.framing.proofs.ScanInRange.{LeftBy-run}
use Rattle.scanning.proofs.Stretches.{scan-past, run_body, kept_unstuffed, phase_behind, kept_behind, phase_piece, run_hunting, scan_ones, ahead, ahead_none, ahead_more}

-- ---- the forms of a framing that bits leave, by its phase

pub fresh_is : (f : Framing) → LeftBy f → f.phase ≡ 0 → f ≡ fresh
fresh_is f l e = go (left_reached f l) e
  where
    started : (p o : ℕ) (x : List Bool) → (framed (suc p) o x).phase ≡ 0 → framed (suc p) o x ≡ fresh
    started p o x h = absurd (omega (arith, h, phase_framed (suc p) o x))

    go : {f : Framing} → Reached f → f.phase ≡ 0 → f ≡ fresh
    go before h = refl
    go (hunting o l) h = started 0 o [] h
    go (opened o l) h = started 1 o [] h
    go (plain o x l) h = started 2 o x h
    go (stuffed o x l k) h = started 3 o x h

-- outside a body
pub outside_is : (o : ℕ) → framed 1 o [] ≡ outside o
unfolding framed short fill_bytes number_of
outside_is o = refl

fresh_phase : fresh.phase ≡ 0
unfolding fresh empty
fresh_phase = refl

pub hunting_is : (f : Framing) → LeftBy f → f.phase ≡ 1 → f ≡ outside f.ones
hunting_is f l e = go (left_reached f l) e
  where
    other : (p o : ℕ) (x : List Bool) → (framed (suc (suc p)) o x).phase ≡ 1 → framed (suc (suc p)) o x ≡ outside (framed (suc (suc p)) o x).ones
    other p o x h = absurd (omega (arith, h, phase_framed (suc (suc p)) o x))

    go : {f : Framing} → Reached f → f.phase ≡ 1 → f ≡ outside f.ones
    go before h = absurd (omega (arith, h, fresh_phase))
    go (hunting o l) h = outside_is o ∙ ap outside (sym (ones_framed 1 o []))
    go (opened o l) h = other 0 o [] h
    go (plain o x l) h = other 1 o x h
    go (stuffed o x l k) h = other 2 o x h

-- in a body, by bits that its count and its bytes tell
pub record Body (f : Framing) : Type 0 where
  pub kept : List Bool
  pub is : f ≡ framed f.phase f.ones kept
  pub counted : length kept ≡ f.count
  pub stored : f.bits ≡ fill_bytes 21 kept
  pub most : f.count ≤ 169
  pub zeros : 168 < f.count → kept ≡ replicate 169 false

body_short : (p o : ℕ) (x : List Bool) → length x ≤ 168 → Body (short p o x)
unfolding short
body_short p o x h =
    record {
      kept = x;
      is = sym (framed_short p o x h);
      counted = refl;
      stored = refl;
      most = omega arith;
      zeros = λ l. absurd (omega arith);
    }

body_long : (p o : ℕ) → Body (long p o)
unfolding long fill_bytes number_of bit_value
body_long p o =
    record {
      kept = replicate 169 false;
      is = sym (framed_long p o (replicate 169 false) (lit< tt));
      counted = refl;
      stored = refl;
      most = omega arith;
      zeros = λ l. refl;
    }

body_framed : (p o : ℕ) (x : List Bool) → Body (framed p o x)
body_framed p o x = framed_cases Body p o x (body_short p o x) (λ l. body_long p o)

pub body_is : (f : Framing) → LeftBy f → 1 < f.phase → Body f
body_is f l h = go (left_reached f l) h
  where
    go : {f : Framing} → Reached f → 1 < f.phase → Body f
    go before h = absurd (omega (arith, h, fresh_phase))
    go (hunting o l) h = body_framed 1 o []
    go (opened o l) h = body_framed 2 o []
    go (plain o x l) h = body_framed 3 o x
    go (stuffed o x l k) h = body_framed 4 o x

-- ---- words before any zero

ones_word : (k : ℕ) → low_bits k (2 ^ k - 1) ≡ replicate k true
unfolding low_bits odd
ones_word zero = refl
ones_word (suc k) =
    let pos : 0 < 2 ^ k = pow_pos k in
    let p : 2 ^ suc k ≡ 2 ^ k * 2 = pow-suc 2 k in
    let a : (2 ^ suc k - 1) / 2 ≡ 2 ^ k - 1 = omega arith in
    let b : (2 ^ suc k - 1) % 2 ≡ 1 = omega arith in
    rw (b, a) (ap (λ (r : List Bool). true ∷ r) (ones_word k))

left_fresh : LeftBy fresh
unfolding LeftBy run
left_fresh = ([], refl)

pub ahead_start : (bits : List Bool) (from to : ℕ) → from ≤ to → ReadAhead fresh fresh bits from from to
ahead_start bits from to h = ahead_none fresh bits from to left_fresh h

pub ahead_ones : (bits : List Bool) (from at to w : ℕ) → ReadAhead fresh fresh bits from at to → at + 64 ≤ to → to ≤ length bits →
    low_bits 56 w ≡ take 56 (drop at bits) → w ≡ 2 ^ 56 - 1 → ReadAhead fresh fresh bits from (at + 56) to
ahead_ones bits from at to w so_far h long is all =
    let ones : take 56 (drop at bits) ≡ replicate 56 true = sym is ∙ ap (low_bits 56) all ∙ ones_word 56 in
    let left : run fresh (take 56 (drop at bits)) ≡ fresh = ap (run fresh) ones ∙ run-fresh_ones 56 in
    let next : ReadAhead fresh (run fresh (take 56 (drop at bits))) bits at (at + 56) to =
    ahead fresh bits at 56 to left_fresh (omega arith) long
    (λ cs. ap (λ (r : List Bool). scan fresh at (r ++ cs)) ones ∙ scan_ones 56 cs at ∙ ap (λ f. scan f (at + 56) cs) (sym left)) in
    ahead_more so_far (rw left at next)

-- ---- words outside a body

behind_framed : (p o : ℕ) (x : List Bool) → 0 < p → Behind o (framed p o x)
behind_framed p o x h = record { ones = ones_framed p o x; started = rw (phase_framed p o x) h }

-- a stretch without six ones
past : (f : Framing) (o : ℕ) (bits : List Bool) (at n to : ℕ) → Behind o f → LeftBy f → at + n ≤ to → to ≤ length bits →
    no_six (take n (drop at bits)) o ≡ true → ReadAhead f (run f (take n (drop at bits))) bits at (at + n) to
past f o bits at n to b left h long six =
    let m : length (take n (drop at bits)) ≡ n = length-take-le n (drop at bits) (rw length-drop (omega arith)) in
    ahead f bits at n to left h long
    (λ cs. scan-past (take n (drop at bits)) cs f o at b six ∙ ap (λ (k : ℕ). scan (run f (take n (drop at bits))) (at + k) cs) m)

-- bits up to the fifth one in a row
pub ahead-outside : (bits : List Bool) (behind from at to o w n o' : ℕ) → ReadAhead (outside behind) (outside o) bits from at to → o ≤ 4 → at + 64 ≤ to →
    to ≤ length bits → low_bits 56 w ≡ take 56 (drop at bits) → n ≡ until_five (low_bits 56 w) o → o' ≡ end_ones (take n (low_bits 56 w)) o →
    ReadAhead (outside behind) (outside o') bits from (at + n) to
ahead-outside bits behind from at to o w n o' so_far few h long word is ends =
    let most-n : n ≤ 56 = omega (arith, is, until_word w o) in
    let c : List Bool = take n (drop at bits) in
    let from-word : take n (low_bits 56 w) ≡ c = ap (take n) word ∙ take-take n 56 (drop at bits) most-n in
    let six : no_six c o ≡ true = rw (← from-word, is) (piece_no_six (piece_is (low_bits 56 w) o few) few) in
    let run_is : run (framed 1 o []) c ≡ outside o' =
    run_hunting c o six ∙ ap (λ (r : List Bool). framed 1 (end_ones r o) []) (sym from-word) ∙ ap (λ (k : ℕ). framed 1 k []) (sym ends) ∙ outside_is o' in
    let next : ReadAhead (framed 1 o []) (run (framed 1 o []) c) bits at (at + n) to =
    past (framed 1 o []) o bits at n to (behind_framed 1 o [] (lit< tt)) (rw (outside_is o) so_far.left) (omega arith) long six in
    ahead_more so_far (rw (← outside_is o) (rw run_is at next))

-- a zero behind five ones: it is no flag's
six_five : no_six (false ∷ []) 5 ≡ true
unfolding no_six
six_five = refl

first-zero : (bits : List Bool) (at : ℕ) → at < length bits → false ≡ get_or bits at false → take 1 (drop at bits) ≡ false ∷ []
first-zero bits at h bit = ap (take 1) (drop-cons bits at false h) ∙ ap (λ (b : Bool). b ∷ []) (sym bit)

run-zero : (f : Framing) → run f (false ∷ []) ≡ step f false
unfolding run
run-zero f = refl

pub ahead-outside-zero : (bits : List Bool) (behind from at to o : ℕ) → ReadAhead (outside behind) (outside o) bits from at to → o ≡ 5 → at + 64 ≤ to →
    to ≤ length bits → false ≡ get_or bits at false → ReadAhead (outside behind) (outside 0) bits from (at + 1) to
ahead-outside-zero bits behind from at to o so_far five h long bit =
    let one : take 1 (drop at bits) ≡ false ∷ [] = first-zero bits at (omega arith) bit in
    let six : no_six (take 1 (drop at bits)) o ≡ true = ap (λ (l : List Bool). no_six l o) one ∙ ap (no_six (false ∷ [])) five ∙ six_five in
    let run_is : run (framed 1 o []) (take 1 (drop at bits)) ≡ outside 0 =
    ap (run (framed 1 o [])) one ∙ run-zero (framed 1 o []) ∙ step-zero_hunting o [] (omega arith) ∙ framed_empty 1 ∙ outside_is 0 in
    let next : ReadAhead (framed 1 o []) (run (framed 1 o []) (take 1 (drop at bits))) bits at (at + 1) to =
    past (framed 1 o []) o bits at 1 to (behind_framed 1 o [] (lit< tt)) (rw (outside_is o) so_far.left) (omega arith) long six in
    ahead_more so_far (rw (← outside_is o) (rw run_is at next))

-- ---- words in a body

-- what the code has read of a body that began in the framing f: the bits that the framing keeps by now, and those held back, are gathered
pub record Reading (f : Framing) (bits : List Bool) (from at to phase ones : ℕ) (g : Gathered) (stored : List ℕ) : Type 0 where
  pub kept : List Bool
  pub gathered : Gathers g stored (kept ++ held_bits phase ones)
  pub read : ReadAhead f (framed phase ones kept) bits from at to
  pub inside : 1 < phase
  pub few : ones ≤ 5
  pub part : g.len < 8
  pub most : length (kept ++ held_bits phase ones) + from ≤ 175 + at

-- a framing of equal numbers and bits
framed_is : (p o : ℕ) (x : List Bool) (count : ℕ) (stored : List ℕ) → count ≡ cond (leb (length x) 168) (length x) 169 →
    stored ≡ cond (leb (length x) 168) (fill_bytes 21 x) (replicate 21 0) →
    framed p o x ≡ record { phase = p; ones = o; count = count; bits = stored }
unfolding framed short long
framed_is p o x count stored c s = go (leb (length x) 168) c s
  where
    go : (t : Bool) → count ≡ cond t (length x) 169 → stored ≡ cond t (fill_bytes 21 x) (replicate 21 0) →
        cond t (short p o x) (long p o) ≡ record { phase = p; ones = o; count = count; bits = stored }
    go true c s = λ i. record { phase = p; ones = o; count = sym c i; bits = sym s i }
    go false c s = λ i. record { phase = p; ones = o; count = sym c i; bits = sym s i }

-- how many bits are held back
pub length-held : (p o : ℕ) → length (held_bits p o) ≡ cond (eqb p 3) 1 0 + o
unfolding held_bits
length-held p o = go (eqb p 3)
  where
    go : (t : Bool) → length (cond t (false ∷ replicate o true) (replicate o true)) ≡ cond t 1 0 + o
    go true = ap suc (length-replicate o true) ∙ omega arith
    go false = length-replicate o true ∙ omega arith

held_zeros : (p o z : ℕ) → z ≡ cond (eqb p 3) 1 0 → replicate z false ++ replicate o true ≡ held_bits p o
unfolding held_bits
held_zeros p o z e = ap (λ (k : ℕ). replicate k false ++ replicate o true) e ∙ go (eqb p 3)
  where
    go : (t : Bool) → replicate (cond t 1 0) false ++ replicate o true ≡ cond t (false ∷ replicate o true) (replicate o true)
    go true = refl
    go false = refl

-- the bits held back, as a number
pub held_number : (z o : ℕ) → (low_bits (z + o) ((2 ^ o - 1) * 2 ^ z) ≡ replicate z false ++ replicate o true)
held_number z o =
    let a : (2 ^ o - 1) * 2 ^ z ≡ 0 + (2 ^ o - 1) * 2 ^ z = omega arith in
    ap (low_bits (z + o)) a ∙ low_bits_split z o 0 (2 ^ o - 1) (pow_pos z) ∙ (λ i. low_bits-zero z i ++ ones_word o i)

-- the start
pub reading_start : (h : Framing) (bits : List Bool) (from to z v : ℕ) (first g : Gathered) (stored₁ stored₂ : List ℕ) →
    LeftBy h → 1 < h.phase → h.ones ≤ 5 → from ≤ to → z ≡ cond (eqb h.phase 3) 1 0 →
    ((y : List Bool) → length y ≡ h.count → h.bits ≡ fill_bytes 21 y → (168 < h.count → y ≡ replicate 169 false) → Gathers first stored₁ y) →
    low_bits (z + h.ones) v ≡ replicate z false ++ replicate h.ones true →
    ((y : List Bool) → Gathers first stored₁ y → Gathers g stored₂ (y ++ low_bits (z + h.ones) v)) → g.len < 8 →
    Reading h bits from from to h.phase h.ones g stored₂
reading_start h bits from to z v first g stored₁ stored₂ left in_body few l e kept-is held-is more part =
    let b : Body h = body_is h left in_body in
    let held : low_bits (z + h.ones) v ≡ held_bits h.phase h.ones = held-is ∙ held_zeros h.phase h.ones z e in
    record {
      kept = b.kept;
      gathered = rw (← held) (more b.kept (kept-is b.kept b.counted b.stored b.zeros));
      read = record { least = omega arith; most = l; left = rw (← b.is) left; same = ap (λ f. scan f from (slice from to bits)) (sym b.is) };
      inside = in_body;
      few = few;
      part = part;
      most =
          let n : length (b.kept ++ held_bits h.phase h.ones) ≡ h.count + (cond (eqb h.phase 3) 1 0 + h.ones) =
          length-append b.kept (held_bits h.phase h.ones) ∙ (λ i. b.counted i + length-held h.phase h.ones i) in
          omega (arith, n, b.most, one_or_none (eqb h.phase 3));
    }
  where
    one_or_none : (t : Bool) → cond t 1 0 ≤ 1
    one_or_none true = omega arith
    one_or_none false = omega arith

-- a zero behind five ones: it is read, and not held back
phase_five : phase_after 5 ≡ 4
unfolding phase_after
phase_five = refl

none-held : (y : List Bool) → y ++ held_bits 4 0 ≡ y
unfolding held_bits
none-held y = append-nil y

module _ {f : Framing} {bits : List Bool} {from at to phase ones : ℕ} {g : Gathered} {stored : List ℕ} (r : Reading f bits from at to phase ones g stored) where
  -- the zero behind five ones
  pub reading-zero : ones ≡ 5 → at + 64 ≤ to → to ≤ length bits → false ≡ get_or bits at false → Reading f bits from (at + 1) to 4 0 g stored
  reading-zero five h long bit =
      let one : take 1 (drop at bits) ≡ false ∷ [] = first-zero bits at (omega arith) bit in
      let six : no_six (take 1 (drop at bits)) ones ≡ true = ap (λ (l : List Bool). no_six l ones) one ∙ ap (no_six (false ∷ [])) five ∙ six_five in
      let next : ReadAhead (framed phase ones r.kept) (run (framed phase ones r.kept) (take 1 (drop at bits))) bits at (at + 1) to =
      past (framed phase ones r.kept) ones bits at 1 to (behind_framed phase ones r.kept (omega (arith, r.inside))) r.read.left (omega arith) long six in
      let is : run (framed phase ones r.kept) (take 1 (drop at bits)) ≡ framed 4 0 (r.kept ++ held_bits phase ones) =
      ap (run (framed phase ones r.kept)) one ∙ run-zero (framed phase ones r.kept) ∙ step-zero phase ones r.kept r.inside (omega arith)
      ∙ ap (λ (k : ℕ). framed (phase_after k) 0 (r.kept ++ held_bits phase ones)) five
      ∙ ap (λ (p : ℕ). framed p 0 (r.kept ++ held_bits phase ones)) phase_five in
      let same : (r.kept ++ held_bits phase ones) ++ held_bits 4 0 ≡ r.kept ++ held_bits phase ones = none-held (r.kept ++ held_bits phase ones) in
      record {
        kept = r.kept ++ held_bits phase ones;
        gathered = rw same r.gathered;
        read = ahead_more r.read (rw is at next);
        inside = omega arith;
        few = omega arith;
        part = r.part;
        most = rw same (omega (arith, r.most));
      }

  -- bits up to the fifth one in a row
  pub reading_piece : (w n phase' ones' : ℕ) (g' : Gathered) (stored' : List ℕ) → ones ≤ 4 → at + 64 ≤ to → to ≤ length bits →
      low_bits 56 w ≡ take 56 (drop at bits) → n ≡ until_five (low_bits 56 w) ones →
      ((y : List Bool) → Gathers g stored y → Gathers g' stored' (y ++ low_bits n (w % 2 ^ n))) → g'.len < 8 →
      phase' ≡ cond (eqb (n + ones) 5) phase 3 → ones' ≡ end_ones (take n (low_bits 56 w)) ones → ones' ≤ 5 →
      Reading f bits from (at + n) to phase' ones' g' stored'
  reading_piece w n phase' ones' g' stored' few h long word is more part behind ends fewer =
      let most-n : n ≤ 56 = omega (arith, is, until_word w ones) in
      let c : List Bool = take n (drop at bits) in
      let from-word : take n (low_bits 56 w) ≡ c = ap (take n) word ∙ take-take n 56 (drop at bits) most-n in
      let m : length c ≡ n = length-take-le n (drop at bits) (rw length-drop (omega arith)) in
      let p : Piece (low_bits 56 w) ones c = rw (← from-word) (rw is (piece_is (low_bits 56 w) ones few)) in
      let six : no_six c ones ≡ true = piece_no_six p few in
      let same-phase : phase' ≡ phase_behind c phase ones =
      behind ∙ ap (λ (k : ℕ). cond (eqb (k + ones) 5) phase 3) (sym m) ∙ sym (phase_piece phase p few (omega (arith, length-low_bits 56 w))) in
      let same-ones : ones' ≡ end_ones c ones = ends ∙ ap (λ (l : List Bool). end_ones l ones) from-word in
      let x : List Bool = kept_behind c phase ones r.kept in
      let split : 56 ≡ n + (56 - n) = omega arith in
      let value : low_bits n (w % 2 ^ n) ≡ c =
      low_bits_mod n w ∙ sym (take-low_bits n (56 - n) w) ∙ ap (λ (k : ℕ). take n (low_bits k w)) (sym split) ∙ from-word in
      let run_is : run (framed phase ones r.kept) c ≡ framed phase' ones' x =
      run_body c phase ones r.kept r.inside six ∙ (λ i. framed (sym same-phase i) (sym same-ones i) x) in
      let all : (r.kept ++ held_bits phase ones) ++ low_bits n (w % 2 ^ n) ≡ x ++ held_bits phase' ones' =
      ap (λ (l : List Bool). (r.kept ++ held_bits phase ones) ++ l) (value ∙ sym (piece_unstuffed p few))
      ∙ sym (kept_unstuffed c phase ones r.kept six) ∙ (λ i. x ++ held_bits (sym same-phase i) (sym same-ones i)) in
      let next : ReadAhead (framed phase ones r.kept) (run (framed phase ones r.kept) c) bits at (at + n) to =
      past (framed phase ones r.kept) ones bits at n to (behind_framed phase ones r.kept (omega (arith, r.inside))) r.read.left (omega arith) long six in
      record {
        kept = x;
        gathered = rw (← all) (more (r.kept ++ held_bits phase ones) r.gathered);
        read = ahead_more r.read (rw run_is at next);
        inside = rw behind (in_body (eqb (n + ones) 5) r.inside);
        few = fewer;
        part = part;
        most =
            rw (← all, length-append (r.kept ++ held_bits phase ones) (low_bits n (w % 2 ^ n)), length-low_bits n (w % 2 ^ n)) (omega (arith, r.most));
      }
    where
      in_body : (t : Bool) → 1 < phase → 1 < cond t phase 3
      in_body true l = l
      in_body false l = omega arith

  -- the end: the framing that the code leaves
  pub reading_end : (z count : ℕ) (stored' : List ℕ) → z ≡ cond (eqb phase 3) 1 0 →
      ((x v : List Bool) → length v ≡ z + ones → Gathers g stored (x ++ v) →
      (count ≡ cond (leb (length x) 168) (length x) 169) × (stored' ≡ cond (leb (length x) 168) (fill_bytes 21 x) (replicate 21 0))) →
      ReadAhead f (record { phase = phase; ones = ones; count = count; bits = stored' }) bits from at to
  reading_end z count stored' e settled =
      let s = settled r.kept (held_bits phase ones) (length-held phase ones ∙ ap (λ (k : ℕ). k + ones) (sym e)) r.gathered in
      rw (← framed_is phase ones r.kept count stored' s.0 s.1) r.read

  -- the bits held back are among those gathered
  pub held-most : (z : ℕ) → z ≡ cond (eqb phase 3) 1 0 → z + ones ≤ 8 * g.bytes + g.len
  held-most z e =
      omega
      (arith, r.gathered.all, length-append r.kept (held_bits phase ones), length-held phase ones, ap (λ (k : ℕ). k + ones) e)

-- ---- by the phase

pub ahead-fresh : (f : Framing) {bits : List Bool} {from at to : ℕ} → LeftBy f → f.phase ≡ 0 → ReadAhead fresh fresh bits from at to → ReadAhead f f bits from at to
ahead-fresh f left e r = rw (fresh_is f left e) r

pub left_outside : (f : Framing) → LeftBy f → f.phase ≡ 1 → LeftBy (outside f.ones)
left_outside f left e = rw (hunting_is f left e) at left

pub ahead_hunting : (h g : Head) (stored : List ℕ) {bits : List Bool} {from at to : ℕ} → LeftBy (framing_of h stored) → h.phase ≡ 1 →
    ReadAhead (outside h.ones) (framing_of g (replicate 21 0)) bits from at to → ReadAhead (framing_of h stored) (framing_of g stored) bits from at to
ahead_hunting h g stored {bits} {from} {at} {to} left e r =
    let is : framing_of h stored ≡ outside h.ones = hunting_is (framing_of h stored) left e in
    let zeros : stored ≡ replicate 21 0 = ap (λ (f : Framing). f.bits) is in
    subst (λ (f : Framing). ReadAhead f (framing_of g stored) bits from at to) (sym is)
    (subst (λ (s : List ℕ). ReadAhead (outside h.ones) (framing_of g s) bits from at to) (sym zeros) r)

-- one more bit
pub left_step : (f : Framing) (b : Bool) → LeftBy f → LeftBy (step f b)
unfolding run
left_step f b left = LeftBy-run f (b ∷ []) left

-- The machine closes exactly the declared bodies that are not void, in order: each at the same bit, with the same unstuffed bits,
-- the same answer to "ends in five ones", and the same judgement.
-- The proof goes through the bits. Of each phase of the machine it says which bodies are still ahead: in phase 0 and 1 those
-- where no flag is read yet, in phase 2 those behind a flag whose last zero is held back, in phase 3 and 4 those behind a flag
-- and a body that is not void so far, whose unstuffed bits the machine keeps.
use Prim.Native.Nat.{ℕ, suc, ◌+◌, ◌<◌}
use native.Mathlib.Omega.{arith}
use mathlib.Core.Bool.{Bool, true, false}
use mathlib.Core.List.{List, [], ◌∷◌, ◌++◌, map, append_assoc}
use mathlib.Core.Path.{◌≡◌, refl, sym, ap, ◌∙◌}
use lib.ListN.{length, drop, replicate, length-append, length-replicate}
use lib.Dec.{lit<}
use Rattle.bits.specs.Bits.{odd, low_bits, byte_bits}
use Rattle.hdlc.specs.Stuffing.{unstuff, end_ones}
use Rattle.hdlc.specs.Frames.{flag}
use Rattle.hdlc.specs.Bodies.{Body, bodies, void, judge}
use Rattle.framing.specs.Machine.{fresh, phase_after}
use Rattle.framing.specs.Closings.{Closing, closing_of, not_void, closed, closings}
use Rattle.framing.proofs.Framed.{framed, held_bits, up_to_six, phase_after_inside}
use Rattle.framing.proofs.ClosedFramed.{closed-phase_after}
use Rattle.framing.proofs.ClosingsFramed.{closings-fresh_one, closings-fresh-zero, closings_one, closings_seven}
use Rattle.framing.proofs.ClosingsFramed.{closings_opening, closings_closing, closings-outside, closings_body}
use Rattle.framing.proofs.Void.{void_ones, void-zero_ones, void_seven, void-zero_seven}
use Rattle.framing.proofs.LongerBodies.{end_ones-opened, unstuff-opened, end_ones-zero_ones, unstuff-zero_ones}
use Rattle.framing.proofs.BodiesAhead.{bodies_behind, bodies_from, bodies-from, not_void-behind}
use Rattle.framing.proofs.FlagsAhead.{ahead, opening, ahead_one, behind_few, behind_seven, behind-flag, behind_shared, behind_end}
use Rattle.framing.proofs.FlagsAhead.{from_one, from_few, from_seven, from_flag, from_end}

-- what bodies say
told : List Body → List Closing
told bs = map closing_of (not_void bs)

-- behind a zero in phase p, with the bits x kept, the machine finds what `rest` says of that zero, the ones behind it and the
-- bits r; `start` bits are read up to that zero
abbrev Follows : ℕ → List Bool → ℕ → (List Bool → List Body) → List Bool → Type 0
Follows p x start rest r = (o n : ℕ) → o < 7 → n ≡ start + o → closings (framed p o x) n r ≡ told (rest (ahead o r))

-- the bits of a body so far
record Living (b : List Bool) : Type 0 where
  few : end_ones b 0 < 6
  alive : void b ≡ false

-- the machine finds the bodies in the bits to come, in every phase
record Finds (r : List Bool) : Type 0 where
  from_start : (n : ℕ) → closings fresh n r ≡ told (bodies_from r n)
  outside : (m : ℕ) → Follows 1 [] (m + 1) (λ s. bodies_from s m) r
  opened : (i : ℕ) → Follows 2 [] (i + 8) (λ s. bodies_behind s i opening) r
  within : (b : List Bool) (i : ℕ) → Living b
      → Follows (phase_after (end_ones b 0)) (unstuff b) (i + 9 + length b) (λ s. bodies_behind s i (flag ++ b)) r

-- ---- no more bits

finds_end : Finds []
unfolding told closings bodies_from not_void
finds_end =
    record {
      from_start = λ n. refl;
      outside = λ m o n h e. rw (from_end m o h);
      opened = λ i o n h e. rw (behind_end i opening o h);
      within = λ b i l o n h e. rw (behind_end i (flag ++ b) o h);
    }

-- ---- facts of phases and bodies

-- the flag's own last zero ends what opens a body
opening_append : (b : List Bool) → opening ++ (false ∷ b) ≡ flag ++ b
unfolding flag byte_bits low_bits odd
opening_append b = refl

length-flag_append : (b : List Bool) → length (flag ++ b) ≡ 8 + length b
unfolding flag byte_bits low_bits odd
length-flag_append b = omega arith

drop-flag_append : (b : List Bool) → drop 8 (flag ++ b) ≡ b
unfolding flag byte_bits low_bits odd
drop-flag_append b = refl

-- a void body leaves the bodies to come as they are where no flag is read yet
told-void : (r b : List Bool) (i n : ℕ) → void b ≡ true → n ≡ i + 8 + length b
    → told (bodies_from r n) ≡ told (bodies_behind r i (flag ++ b))
unfolding told
told-void r b i n is e =
    ap (map closing_of)
    (sym (not_void-behind r i n (flag ++ b) (rw length-flag_append (omega arith)) (rw drop-flag_append is)
    (rw length-flag_append (omega arith))))

-- a body that is not void is closed as declared
told_living : (b : Body) (bs : List Body) → void b.bits ≡ false → told (b ∷ bs) ≡ closing_of b ∷ told bs
unfolding told not_void
told_living b bs is = rw is

closing_of-closed : (b : List Bool) (i j n : ℕ) → Living b → n ≡ j + 8
    → closed (framed (phase_after (end_ones b 0)) 6 (unstuff b)) n ≡ closing_of (record { opening = i; closing = j; bits = b })
unfolding closing_of judge
closing_of-closed b i j n l e = rw (closed-phase_after (end_ones b 0) 6 n (unstuff b) l.few, l.alive, e)

-- a body goes on by a zero and fewer than six ones
living_opened : (o : ℕ) → o < 6 → Living (replicate o true)
living_opened o h = record { few = rw (end_ones-opened o) h; alive = void_ones o (omega arith) }

living_longer : (b : List Bool) (o : ℕ) → Living b → o < 6 → Living (b ++ (false ∷ replicate o true))
living_longer b o l h = record { few = rw (end_ones-zero_ones b o) h; alive = void-zero_ones b o (omega arith) l.alive }

-- ---- a bit read

module _ (r : List Bool) (later : Finds r) where
  -- a one: one more is held back; the seventh leaves no flag and no body to go on
  one_follows : (p : ℕ) (x : List Bool) (start : ℕ) (rest : List Bool → List Body) → 0 < p → Follows p x start rest r
      → told (bodies_from r (start + 7)) ≡ told (rest (ahead 7 r)) → Follows p x start rest (true ∷ r)
  one_follows p x start rest started found seven =
      λ o n h. up_to_six
      (λ o. (n : ℕ) → n ≡ start + o → closings (framed p o x) n (true ∷ r) ≡ told (rest (ahead o (true ∷ r))))
      o (omega arith)
      (λ few n e. rw (ahead_one o r) (closings_one p started x n r o few ∙ found (suc o) (suc n) (omega arith) (omega arith)))
      (λ n e.
      let last : suc n ≡ start + 7 = omega arith in
      closings_seven p started x n r ∙ later.from_start (suc n) ∙ rw last seven)
      n

  finds_one : Finds (true ∷ r)
  finds_one =
      record {
        from_start = λ n. closings-fresh_one n r ∙ later.from_start (suc n) ∙ ap told (sym (from_one n r));
        outside =
            λ m. one_follows 1 [] (m + 1) (λ s. bodies_from s m) (lit< tt) (later.outside m)
            (ap told (sym (from_seven m r (m + 1 + 7) (omega arith))));
        opened =
            λ i. one_follows 2 [] (i + 8) (λ s. bodies_behind s i opening) (lit< tt) (later.opened i)
            (rw (behind_seven i opening r, opening_append)
            (told-void r (replicate 7 true) i (i + 8 + 7) void_seven (omega arith)));
        within =
            λ b i l. one_follows (phase_after (end_ones b 0)) (unstuff b) (i + 9 + length b) (λ s. bodies_behind s i (flag ++ b))
            (omega (arith, phase_after_inside (end_ones b 0))) (later.within b i l)
            (rw (behind_seven i (flag ++ b) r, append_assoc)
            (told-void r (b ++ (false ∷ replicate 7 true)) i (i + 9 + length b + 7) (void-zero_seven b)
            (rw length-append (omega arith))));
      }

  -- a zero: behind fewer than six ones it is held back in their place, behind six it ends a flag
  zero_follows : (p : ℕ) (x : List Bool) (start : ℕ) (rest : List Bool → List Body)
      → ((o : ℕ) → o < 6 → (n : ℕ) → n ≡ start + o → closings (framed p o x) n (false ∷ r) ≡ told (rest (ahead o (false ∷ r))))
      → ((n : ℕ) → n ≡ start + 6 → closings (framed p 6 x) n (false ∷ r) ≡ told (rest (ahead 6 (false ∷ r))))
      → Follows p x start rest (false ∷ r)
  zero_follows p x start rest few six =
      λ o n h. up_to_six
      (λ o. (n : ℕ) → n ≡ start + o → closings (framed p o x) n (false ∷ r) ≡ told (rest (ahead o (false ∷ r))))
      o (omega arith) (few o) six n

  -- a body that the zero read leaves, with its unstuffed bits x
  zero_within : (b x : List Bool) (o i n : ℕ) → Living b → end_ones b 0 ≡ o → unstuff b ≡ x → n ≡ i + 9 + length b
      → closings (framed (phase_after o) 0 x) n r ≡ told (bodies_behind (ahead 0 r) i (flag ++ b))
  zero_within b x o i n l ends kept e = rw (← ends, ← kept) (later.within b i l 0 n (lit< tt) (omega arith))

  finds_zero : Finds (false ∷ r)
  unfolding held_bits
  finds_zero =
      record {
        from_start = λ n. closings-fresh-zero n r ∙ later.outside n 0 (suc n) (lit< tt) (omega arith);
        outside =
            λ m. zero_follows 1 [] (m + 1) (λ s. bodies_from s m)
            (λ o h n e.
            rw (from_few m o r n h (omega arith))
            (closings-outside [] n r o h ∙ later.outside n 0 (suc n) (lit< tt) (omega arith)))
            (λ n e.
            rw (from_flag m r)
            (closings_opening 1 (lit< tt) [] n r (lit< tt) ∙ later.opened m 0 (suc n) (lit< tt) (omega arith)));
        opened =
            λ i. zero_follows 2 [] (i + 8) (λ s. bodies_behind s i opening)
            (λ o h n e.
            rw (behind_few i opening o r h, opening_append)
            (closings_body [] n r 2 o (lit< tt) h
            ∙ zero_within (replicate o true) (replicate o true) o i (suc n) (living_opened o h) (end_ones-opened o)
            (unstuff-opened o) (rw length-replicate (omega arith))))
            (λ n e.
            rw (behind_shared i opening r (lit< tt))
            (closings_opening 2 (lit< tt) [] n r (lit< tt) ∙ later.opened (i + 7) 0 (suc n) (lit< tt) (omega arith)));
        within =
            λ b i l. zero_follows (phase_after (end_ones b 0)) (unstuff b) (i + 9 + length b) (λ s. bodies_behind s i (flag ++ b))
            (λ o h n e.
            rw (behind_few i (flag ++ b) o r h, append_assoc)
            (closings_body (unstuff b) n r (phase_after (end_ones b 0)) o (omega (arith, phase_after_inside (end_ones b 0))) h
            ∙ zero_within (b ++ (false ∷ replicate o true)) _ o i (suc n) (living_longer b o l h) (end_ones-zero_ones b o)
            (unstuff-zero_ones b o l.few) (rw (length-append, length-replicate) (omega arith))))
            (λ n e.
            rw (
              behind-flag i (flag ++ b) r (rw length-flag_append (omega arith)),
              drop-flag_append,
              length-flag_append,
              told_living,
              l.alive,
              ← closing_of-closed b i (i + (8 + length b)) (suc n) l (omega arith),
              ← later.opened (i + (8 + length b)) 0 (suc n) (lit< tt) (omega arith),
            )
            (closings_closing (phase_after (end_ones b 0)) (omega (arith, phase_after_inside (end_ones b 0))) (unstuff b) n r
            (phase_after_inside (end_ones b 0))));
      }

finds : (r : List Bool) → Finds r
finds [] = finds_end
finds (true ∷ r) = finds_one r (finds r)
finds (false ∷ r) = finds_zero r (finds r)

-- the machine closes exactly the declared bodies that are not void
pub framing_finds_bodies : (bs : List Bool) → closings fresh 0 bs ≡ map closing_of (not_void (bodies bs))
unfolding told
framing_finds_bodies bs = rw bodies-from ((finds bs).from_start 0)

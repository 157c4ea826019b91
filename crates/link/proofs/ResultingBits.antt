-- The bits that result: one that has a number is the joined bit of that number, and the numbers ascend. So bits that stand in a row with the numbers
-- of a stretch have its values, and two such rows stand in the order of their numbers.
use Prim.Native.Nat.{ℕ, zero, suc, ◌+◌, ◌-◌, ◌≤◌, ◌<◌}
use native.Mathlib.Nat.{le_refl}
use native.Mathlib.Omega.{arith}
use mathlib.Core.Bool.{Bool, true, false, or-true, true≢false}
use mathlib.Core.List.{List, [], ◌∷◌, ◌++◌, map}
use Rattle.std.proofs.Common.{Option, None, Some}
use mathlib.Core.Path.{◌≡◌, refl, sym, ap, ◌∙◌}
use lib.ListN.{length, take, drop, get_or}
use lib.Seq.{drop-append_seam, drop-drop, get_or-drop}
use borrow.Author.Tests.{eqb-true, eq-eqb}
use Rattle.bits.proofs.Tests.{and_left, and_right}
use Rattle.link.specs.Demand3.{Piece, kept, replaced, originals, Bit, kept_bits, new_bit, resulting, values, is_number, begin_with, together}

-- bits with numbers from n on: each is the joined bit of its number, and the numbers ascend
pub data Numbered (joined : List Bool) : ℕ → List Bit → Type 0 where
  over : {n : ℕ} → Numbered joined n []
  foreign : {n : ℕ} {b : Bit} {bs : List Bit} → b.number ≡ None → Numbered joined n bs → Numbered joined n (b ∷ bs)
  own : {n : ℕ} {b : Bit} {bs : List Bit} (m : ℕ) → n ≤ m → b.number ≡ Some m → drop m joined ≡ b.value ∷ drop (suc m) joined
      → Numbered joined (suc m) bs → Numbered joined n (b ∷ bs)

-- ---- the bits that result are such

module _ (joined : List Bool) where
  -- numbers from further on
  Numbered_less : {m : ℕ} {bs : List Bit} (n : ℕ) → n ≤ m → Numbered joined m bs → Numbered joined n bs
  Numbered_less n l over = over
  Numbered_less n l (foreign new later) = foreign new (Numbered_less n l later)
  Numbered_less n l (own m at is value later) = own {n = n} m (omega arith) is value later

  -- bits that were put in
  Numbered-new : (new : List Bool) (n : ℕ) (bs : List Bit) → Numbered joined n bs → Numbered joined n (map new_bit new ++ bs)
  unfolding new_bit
  Numbered-new [] n bs h = h
  Numbered-new (b ∷ new) n bs h = foreign refl (Numbered-new new n bs h)

  -- what is left behind the first of the bits left
  drop-behind : (n : ℕ) (a rest : List Bool) → drop n joined ≡ a ++ rest → drop (n + length a) joined ≡ rest
  drop-behind n a rest e = sym (drop-drop (length a) n joined) ∙ ap (drop (length a)) e ∙ drop-append_seam a rest

  -- bits that were kept
  Numbered-kept : (bits : List Bool) (n : ℕ) (rest : List Bool) (bs : List Bit) → drop n joined ≡ bits ++ rest → Numbered joined (n + length bits) bs
      → Numbered joined n (kept_bits n bits ++ bs)
  unfolding kept_bits
  Numbered-kept [] n rest bs e h = let z : n + 0 ≡ n = omega arith in rw z at h
  Numbered-kept (b ∷ bits) n rest bs e h =
      let next : n + suc (length bits) ≡ suc n + length bits = omega arith in
      let one : n + 1 ≡ suc n = omega arith in
      let left : drop (suc n) joined ≡ bits ++ rest = rw one at (drop-behind n (b ∷ []) (bits ++ rest) e) in
      own n (le_refl n) refl (e ∙ ap (◌∷◌ b) (sym left)) (Numbered-kept bits (suc n) rest bs left (rw next at h))

  -- all pieces
  pub Numbered-resulting : (pieces : List Piece) (n : ℕ) → drop n joined ≡ originals pieces → Numbered joined n (resulting n pieces)
  unfolding originals resulting
  Numbered-resulting [] n e = over
  Numbered-resulting (kept bits ∷ pieces) n e =
      Numbered-kept bits n (originals pieces) _ e
      (Numbered-resulting pieces (n + length bits) (drop-behind n bits (originals pieces) e))
  Numbered-resulting (replaced old new ∷ pieces) n e =
      Numbered-new new n _
      (Numbered_less n (omega arith) (Numbered-resulting pieces (n + length old) (drop-behind n old (originals pieces) e)))

-- ---- a row

-- a number asked for
is_number_lem : (n : ℕ) (o : Option ℕ) → is_number n o ≡ true → o ≡ Some n
unfolding is_number
is_number_lem n None e = absurd (true≢false (sym e))
is_number_lem n (Some m) e = ap Some (eqb-true m n e)

-- the values of bits that begin with a row are those of the stretch
begin_values : (k a : ℕ) {joined : List Bool} {n : ℕ} {bits : List Bit} → Numbered joined n bits → begin_with a k bits ≡ true
    → take k (values bits) ≡ take k (drop a joined)
unfolding begin_with values
begin_values zero a h e = refl
begin_values (suc k) a over e = absurd (true≢false (sym e))
begin_values (suc k) a (foreign {b} {bs} new later) e =
    absurd (let z : ◌≡◌ {A = ℕ} 0 1 = cc (is_number_lem a b.number (and_left (is_number a b.number) (begin_with (suc a) k bs) e)) in omega arith)
begin_values (suc k) a {joined} (own {b} {bs} m at is value later) e =
    let here : m ≡ a = cc (is_number_lem a b.number (and_left (is_number a b.number) (begin_with (suc a) k bs) e)) in
    let value' : drop a joined ≡ b.value ∷ drop (suc a) joined = rw here at value in
    rw value' (ap (◌∷◌ b.value) (begin_values k (suc a) later (and_right (is_number a b.number) (begin_with (suc a) k bs) e)))

-- and so are those of a row further on
pub row_values : (i k a : ℕ) {joined : List Bool} {n : ℕ} {bits : List Bit} → Numbered joined n bits → begin_with a k (drop i bits) ≡ true
    → take k (drop i (values bits)) ≡ take k (drop a joined)
unfolding values
row_values zero k a h e = begin_values k a h e
row_values (suc i) k a {n} over e = begin_values k a {n = n} over e
row_values (suc i) k a (foreign new later) e = row_values i k a later e
row_values (suc i) k a (own m at is value later) e = row_values i k a later e

-- kept bits joined
pub kept_bits_append : (a b : List Bool) (n : ℕ) → kept_bits n (a ++ b) ≡ kept_bits n a ++ kept_bits (n + length a) b
unfolding kept_bits
kept_bits_append [] b n = let e : n + 0 ≡ n = omega arith in rw e
kept_bits_append (x ∷ a) b n =
    let e : n + suc (length a) ≡ suc n + length a = omega arith in
    rw e (ap (λ (r : List Bit). record { number = Some n; value = x } ∷ r) (kept_bits_append a b (suc n)))

-- bits that were kept begin with a row
pub begins_kept : (k n : ℕ) (bs : List Bool) (bits : List Bit) → k ≤ length bs → begin_with n k (kept_bits n bs ++ bits) ≡ true
unfolding begin_with kept_bits is_number
begins_kept zero n bs bits h = refl
begins_kept (suc k) n [] bits h = absurd (omega arith)
begins_kept (suc k) n (b ∷ bs) bits h = rw (eq-eqb n n refl) (begins_kept k (suc n) bs bits (omega arith))

-- a row further on is a row somewhere, and the other way round
pub row_together : (i : ℕ) (bits : List Bit) (n k : ℕ) → begin_with n k (drop i bits) ≡ true → together n k bits ≡ true
unfolding together
row_together zero [] n k e = e
row_together (suc i) [] n k e = e
row_together zero (b ∷ bs) n k e = rw e
row_together (suc i) (b ∷ bs) n k e = rw (row_together i bs n k e, or-true)

pub together_row : (bits : List Bit) (n k : ℕ) → together n k bits ≡ true → (i : ℕ) × (begin_with n k (drop i bits) ≡ true)
unfolding together
together_row [] n k e = (0, e)
together_row (b ∷ bs) n k e = go (begin_with n k (b ∷ bs)) refl (together_row bs n k)
  where
    go : (t : Bool) → begin_with n k (b ∷ bs) ≡ t → (together n k bs ≡ true → (i : ℕ) × (begin_with n k (drop i bs) ≡ true))
        → (i : ℕ) × (begin_with n k (drop i (b ∷ bs)) ≡ true)
    go true is later = (0, is)
    go false is later = let r = later (rw is at e) in (suc r.0, r.1)

-- ---- the order of rows

-- the number of the bit at a place
number_at : List Bit → ℕ → Option ℕ
number_at bits i = (get_or bits i (new_bit false)).number

number_at-drop : (i : ℕ) (bits : List Bit) (j : ℕ) → number_at (drop i bits) j ≡ number_at bits (i + j)
unfolding number_at
number_at-drop i bits j = ap (λ (b : Bit). b.number) (get_or-drop i bits j (new_bit false))

-- the numbers are from n on
at_least : {joined : List Bool} (i : ℕ) {n : ℕ} {bits : List Bit} (m : ℕ) → Numbered joined n bits → number_at bits i ≡ Some m → n ≤ m
unfolding number_at new_bit
at_least i m over e = absurd (let z : ◌≡◌ {A = ℕ} 0 1 = cc in omega arith)
at_least zero m (foreign new later) e = absurd (let z : ◌≡◌ {A = ℕ} 0 1 = cc in omega arith)
at_least (suc i) m (foreign new later) e = at_least i m later e
at_least zero m (own m' at is value later) e = let same : m' ≡ m = cc in omega arith
at_least (suc i) m (own m' at is value later) e = omega (arith, at_least i m later e)

-- and ascend
ascend : {joined : List Bool} (i d : ℕ) {n : ℕ} {bits : List Bit} (m m' : ℕ) → Numbered joined n bits → number_at bits i ≡ Some m
    → number_at (drop (suc i) bits) d ≡ Some m' → m < m'
unfolding number_at new_bit
ascend i d m m' over e e' = absurd (let z : ◌≡◌ {A = ℕ} 0 1 = cc in omega arith)
ascend zero d m m' (foreign new later) e e' = absurd (let z : ◌≡◌ {A = ℕ} 0 1 = cc in omega arith)
ascend (suc i) d m m' (foreign new later) e e' = ascend i d m m' later e e'
ascend zero d m m' (own k at is value later) e e' = let same : k ≡ m = cc in omega (arith, at_least d m' later e')
ascend (suc i) d m m' (own k at is value later) e e' = ascend i d m m' later e e'

-- the last of the bits that begin with a row
begin_last : (k a : ℕ) (bits : List Bit) → begin_with a (suc k) bits ≡ true → number_at bits k ≡ Some (a + k)
unfolding number_at begin_with
begin_last zero a (b ∷ bs) e = let z : a + 0 ≡ a = omega arith in rw z (is_number_lem a b.number (and_left (is_number a b.number) true e))
begin_last zero a [] e = absurd (true≢false (sym e))
begin_last (suc k) a [] e = absurd (true≢false (sym e))
begin_last (suc k) a (b ∷ bs) e =
    let next : a + suc k ≡ suc a + k = omega arith in
    rw next (begin_last k (suc a) bs (and_right (is_number a b.number) (begin_with (suc a) (suc k) bs) e))

-- a row of k bits with the numbers from a on ends before place r
pub record Row (bits : List Bit) (a k r : ℕ) : Type 0 where
  pub place : ℕ
  pub ends : place + k ≡ r
  pub row : begin_with a k (drop place bits) ≡ true

-- its last bit
record Last (bits : List Bit) (a k r : ℕ) : Type 0 where
  at : ℕ
  number : ℕ
  before : suc at ≡ r
  behind : suc number ≡ a + k
  is : number_at bits at ≡ Some number

row_last : (k : ℕ) (bits : List Bit) (a r : ℕ) → 0 < k → Row bits a k r → Last bits a k r
row_last zero bits a r l h = absurd (omega arith)
row_last (suc k) bits a r l h =
    record {
      at = h.place + k;
      number = a + k;
      before = omega (arith, h.ends);
      behind = omega arith;
      is = rw number_at-drop at (begin_last k a (drop h.place bits) h.row);
    }

module _ (bits : List Bit) (a k b l : ℕ) (more : 0 < k) (more' : 0 < l) where
  -- rows that end at one place have the same last number
  pub rows_same : (r : ℕ) → Row bits a k r → Row bits b l r → a + k ≡ b + l
  rows_same r h g =
      let x = row_last k bits a r more h in
      let y = row_last l bits b r more' g in
      let same : x.at ≡ y.at = omega arith in
      let e : x.number ≡ y.number = cc in
      omega arith

  -- and one that ends further on has a later one
  pub rows_in_order : {joined : List Bool} {n : ℕ} (r s : ℕ) → Numbered joined n bits → Row bits a k r → Row bits b l s → r < s → a + k < b + l
  rows_in_order r s all h g less =
      let x = row_last k bits a r more h in
      let y = row_last l bits b s more' g in
      let e : suc x.at + (y.at - suc x.at) ≡ y.at = omega arith in
      let up : x.number < y.number =
      ascend x.at (y.at - suc x.at) x.number y.number all x.is (rw (number_at-drop, e) y.is) in
      omega arith

-- The machine against the declaration: over any bytes, from any record, it gives what stands in the line that the record stands for with these bytes
-- behind it.
use Prim.Native.Nat.{ℕ, ◌+◌, ◌-◌, ◌≤◌, ◌<◌}
use mathlib.Core.Bool.{Bool, true, false, cond, ◌&&◌, and-false}
use mathlib.Core.List.{List, [], ◌∷◌, ◌++◌, flatten, append_assoc, append-nil}
use Rattle.std.specs.Prelude.{Option, None, Some}
use mathlib.Core.Path.{◌≡◌, refl, sym, ap, ◌∙◌}
use native.Mathlib.Numerals.{add-one}
use native.Mathlib.Omega.{arith}
use borrow.Author.Tests.{le-leb, lt-leb, lt-ltb, le-ltb, leb-true, leb-false, ltb-true, ltb-false, eqb-true}
use lib.ListN.{length, take, replicate, set, length-set, length-append, length-replicate}
use lib.Seq.{length-take-le, take-take, take-suc-set}
use lib.Dec.{leb, ltb}
use Rattle.hdlc.specs.Bodies.{packet}
use Rattle.serial.specs.declared.Line.{Line}
use Rattle.serial.specs.Octets.{flag, escape, is_flag, is_escape, toggled, escaped_bytes}
use Rattle.serial.specs.Frames.{has_flag, pieces, between, onto_bytes, unescaped_from, unescaped, given, packets_in}
use Rattle.serial.specs.Machine.{opened, keep, taken, step, passes}
use Rattle.serial.specs.SerialLine.{stands_for}
use Rattle.serial.proofs.Stepping.{taken-behind, taken-escape, taken-plain, step-flag, step_inside, step-outside, passes-outside, passes-escape, passes_long, passes-held, passing_long}
use Rattle.serial.proofs.Pieces.{packets_in_resync, packets_in_skipped, packets_in_open, packets_in-frame, packets_in-alike}
use Rattle.serial.proofs.Unescaping.{has_flag_append, has_flag-escaped_bytes, onto_all, unescaped-behind}

-- ---- what a record holds

-- the bytes behind the last flag, as far as they matter, and the escape behind them
unfoldable held : Line → List ℕ
held l = cond (leb l.count 21) (take l.count l.bytes) (replicate 22 0)

unfoldable pending : Bool → List ℕ
pending t = cond t (escape ∷ []) []

-- what stands behind that flag
unfoldable text : Line → List ℕ
text l = escaped_bytes (held l) ++ pending l.escape

stands_inside : (l : Line) → l.inside ≡ true → stands_for l ≡ flag ∷ text l
unfolding stands_for text held pending
stands_inside l e = rw e

stands_outside : (l : Line) → l.inside ≡ false → stands_for l ≡ []
unfolding stands_for
stands_outside l e = rw e

text_flag : (l : Line) → has_flag (text l) ≡ false
unfolding text pending has_flag is_flag
text_flag l = has_flag_append (escaped_bytes (held l)) (pending l.escape) ∙ rw (has_flag-escaped_bytes (held l)) (go l.escape)
  where
    go : (t : Bool) → has_flag (pending t) ≡ false
    go true = refl
    go false = refl

-- its bytes unescaped, with more behind it
unescaped_text : (l : Line) (zs : List ℕ) → unescaped (text l ++ zs) ≡ onto_all (held l) (unescaped_from zs l.escape)
unfolding text pending unescaped unescaped_from is_escape
unescaped_text l zs =
    ap unescaped (append_assoc (escaped_bytes (held l)) (pending l.escape) zs)
    ∙ unescaped-behind (held l) (pending l.escape ++ zs)
    ∙ ap (onto_all (held l)) (go l.escape)
  where
    go : (t : Bool) → unescaped (pending t ++ zs) ≡ unescaped_from zs t
    go true = refl
    go false = refl

-- ---- a byte kept

onto_all_snoc : (bs : List ℕ) (b : ℕ) (o : Option (List ℕ)) → onto_all bs (onto_bytes b o) ≡ onto_all (bs ++ b ∷ []) o
unfolding onto_all onto_bytes
onto_all_snoc bs b None = refl
onto_all_snoc bs b (Some cs) = ap Some (sym (append_assoc bs (b ∷ []) cs))

-- more than 21 bytes give nothing, whatever follows
given_long : (bs : List ℕ) (o : Option (List ℕ)) → 21 < length bs → given (onto_all bs o) ≡ []
unfolding onto_all given
given_long bs None h = refl
given_long bs (Some cs) h = rw (passing_long (bs ++ cs) (rw length-append (omega arith)))

held_few : (l : Line) → l.count ≤ 21 → held l ≡ take l.count l.bytes
unfolding held
held_few l h = rw (le-leb l.count 21 h)

held_many : (l : Line) → 21 < l.count → held l ≡ replicate 22 0
unfolding held
held_many l h = rw (lt-leb l.count 21 h)

-- 21 bytes or more are held where no more are kept
held-full : (l : Line) → length l.bytes ≡ 21 → 21 ≤ l.count → 21 ≤ length (held l)
held-full l long h = go (leb l.count 21) refl
  where
    go : (t : Bool) → leb l.count 21 ≡ t → 21 ≤ length (held l)
    go true e =
        let few : l.count ≤ 21 = leb-true l.count 21 e in
        rw (held_few l few, length-take-le l.count l.bytes (omega arith)) h
    go false e = rw (held_many l (leb-false l.count 21 e), length-replicate) (omega arith)

module _ (l : Line) (long : length l.bytes ≡ 21) (b : ℕ) (o : Option (List ℕ)) where
  keep_few : l.count < 21 → onto_all (held l) (onto_bytes b o) ≡ onto_all (held (keep l b)) o
  unfolding keep
  keep_few h =
      let same : take (l.count + 1) (set l.bytes l.count b) ≡ take l.count l.bytes ++ b ∷ [] =
      rw add-one (take-suc-set l.bytes l.count b (omega arith)) in
      onto_all_snoc (held l) b o
      ∙ ap (λ (bs : List ℕ). onto_all bs o) (rw (held_few l (omega arith), lt-ltb l.count 21 h) (sym (held_few _ (omega arith) ∙ same)))

  keep_many : 21 ≤ l.count → given (onto_all (held l) (onto_bytes b o)) ≡ given (onto_all (held (keep l b)) o)
  unfolding keep held
  keep_many h =
      ap given (onto_all_snoc (held l) b o)
      ∙ given_long (held l ++ b ∷ []) o (rw length-append (omega (arith, held-full l long h)))
      ∙ rw (le-ltb l.count 21 h) (sym (given_long (replicate 22 0) o (rw length-replicate (omega arith))))

  given-keep : given (onto_all (held l) (onto_bytes b o)) ≡ given (onto_all (held (keep l b)) o)
  given-keep = go (ltb l.count 21) refl
    where
      go : (t : Bool) → ltb l.count 21 ≡ t → given (onto_all (held l) (onto_bytes b o)) ≡ given (onto_all (held (keep l b)) o)
      go true e = ap given (keep_few (ltb-true l.count 21 e))
      go false e = keep_many (ltb-false l.count 21 e)

-- what holds of a byte kept, and of one that is not, holds of either
keep_cases : (P : Line → Type 0) (l : Line) (b : ℕ)
    → P (record { inside = true; escape = false; count = l.count + 1; bytes = set l.bytes l.count b })
    → P (record { inside = true; escape = false; count = 22; bytes = replicate 21 0 }) → P (keep l b)
unfolding keep
keep_cases P l b few many = go (ltb l.count 21)
  where
    go : (t : Bool) → P (cond t (record { inside = true; escape = false; count = l.count + 1; bytes = set l.bytes l.count b })
        (record { inside = true; escape = false; count = 22; bytes = replicate 21 0 }))
    go true = few
    go false = many

-- ---- a byte behind a flag that is none itself

module _ (l : Line) (long : length l.bytes ≡ 21) (b : ℕ) where
  given-kept : (x : ℕ) (zs : List ℕ) → given (onto_all (held l) (onto_bytes x (unescaped_from zs false))) ≡ given (unescaped (text (keep l x) ++ zs))
  given-kept x zs =
      given-keep l long x (unescaped_from zs false)
      ∙ sym (ap given (unescaped_text (keep l x) zs ∙ rw (keep_cases (λ r. r.escape ≡ false) l x refl refl)))

  given-taken : (zs : List ℕ) → given (unescaped (text l ++ b ∷ zs)) ≡ given (unescaped (text (taken l b) ++ zs))
  unfolding unescaped_from held
  given-taken zs = ap given (unescaped_text l (b ∷ zs)) ∙ go l.escape refl (is_escape b) refl
    where
      go : (s : Bool) → l.escape ≡ s → (t : Bool) → is_escape b ≡ t
          → given (onto_all (held l) (unescaped_from (b ∷ zs) s)) ≡ given (unescaped (text (taken l b) ++ zs))
      go true e t i = rw (taken-behind l b e) (given-kept (toggled b) zs)
      go false e true i = rw (i, taken-escape l b e i) (sym (ap given (unescaped_text _ zs)))
      go false e false i = rw (i, taken-plain l b e i) (given-kept b zs)

-- ---- one byte

-- what a byte gives
unfoldable pub gives : Line → ℕ → List (List ℕ)
gives l b = cond (is_flag b && passes l) (take (l.count - 2) l.bytes ∷ []) []

gives_none : (l : Line) (b : ℕ) → passes l ≡ false → gives l b ≡ []
unfolding gives
gives_none l b e = rw (e, and-false (is_flag b))

gives_plain : (l : Line) (b : ℕ) → is_flag b ≡ false → gives l b ≡ []
unfolding gives
gives_plain l b e = rw e

-- the packet of the first n bytes
packet-take : (n : ℕ) (bytes : List ℕ) → n ≤ length bytes → packet (take n bytes) ≡ take (n - 2) bytes
unfolding packet
packet-take n bytes h = rw (length-take-le n bytes h, take-take (n - 2) n bytes (omega arith))

module _ (l : Line) (long : length l.bytes ≡ 21) (inside : l.inside ≡ true) where
  -- a flag gives what is held, if it passes
  few : l.escape ≡ false → l.count ≤ 21 → gives l flag ≡ given (onto_all (held l) (Some []))
  unfolding gives is_flag onto_all given
  few e h =
      rw (
        append-nil (held l),
        held_few l h,
        passes-held l inside e h,
        packet-take l.count l.bytes (omega arith),
      )

  gives_held : gives l flag ≡ given (onto_all (held l) (unescaped_from [] l.escape))
  unfolding unescaped_from onto_all given
  gives_held = go l.escape refl (leb l.count 21) refl
    where
      go : (s : Bool) → l.escape ≡ s → (t : Bool) → leb l.count 21 ≡ t → gives l flag ≡ given (onto_all (held l) (unescaped_from [] s))
      go true e t h = gives_none l flag (passes-escape l e)
      go false e true h = few e (leb-true l.count 21 h)
      go false e false h =
          let many : 21 < l.count = leb-false l.count 21 h in
          gives_none l flag (passes_long l many) ∙ sym (given_long (held l) (Some []) (rw (held_many l many, length-replicate) (omega arith)))

  -- a flag behind the text
  at_flag : (bs : List ℕ) → packets_in (stands_for l ++ flag ∷ bs) ≡ gives l flag ++ packets_in (flag ∷ bs)
  at_flag bs =
      rw (stands_inside l inside)
      (packets_in_resync (flag ∷ text l) bs
      ∙ ap (λ (ps : List (List ℕ)). ps ++ packets_in (flag ∷ bs))
      (packets_in-frame (text l) (text_flag l)
      ∙ ap given (ap unescaped (sym (append-nil (text l))) ∙ unescaped_text l [])
      ∙ sym gives_held))

  -- another byte behind it
  at_other : (b : ℕ) (bs : List ℕ) → is_flag b ≡ false → (taken l b).inside ≡ true → packets_in (stands_for l ++ b ∷ bs) ≡ packets_in (stands_for (taken l b) ++ bs)
  unfolding has_flag
  at_other b bs f i =
      let none : has_flag (text l ++ b ∷ []) ≡ false = has_flag_append (text l) (b ∷ []) ∙ rw (text_flag l, f) in
      rw (stands_inside l inside, stands_inside (taken l b) i)
      (ap (λ (ys : List ℕ). packets_in (flag ∷ ys)) (sym (append_assoc (text l) (b ∷ []) bs))
      ∙ packets_in-alike (text l ++ b ∷ []) (text (taken l b)) none (text_flag (taken l b))
      (λ zs. ap (λ (ys : List ℕ). given (unescaped ys)) (append_assoc (text l) (b ∷ []) zs) ∙ given-taken l long b zs)
      bs)

-- ---- any byte, and bytes

-- a byte behind a flag that is none itself is kept, or is an escape
taken_cases : (P : Line → Type 0) (l : Line) (b : ℕ) → ((x : ℕ) → P (keep l x))
    → P (record { inside = true; escape = true; count = l.count; bytes = l.bytes }) → P (taken l b)
unfolding taken
taken_cases P l b kept escaping = go l.escape (is_escape b)
  where
    go : (s t : Bool) → P (cond s (keep l (toggled b)) (cond t (record { inside = true; escape = true; count = l.count; bytes = l.bytes }) (keep l b)))
    go true t = kept (toggled b)
    go false true = escaping
    go false false = kept b

taken_inside : (l : Line) (b : ℕ) → (taken l b).inside ≡ true
taken_inside l b = taken_cases (λ r. r.inside ≡ true) l b (λ x. keep_cases (λ r. r.inside ≡ true) l x refl refl) refl

taken_long : (l : Line) (b : ℕ) → length l.bytes ≡ 21 → length (taken l b).bytes ≡ 21
taken_long l b h =
    taken_cases (λ r. length r.bytes ≡ 21) l b (λ x. keep_cases (λ r. length r.bytes ≡ 21) l x (rw length-set h) (rw length-replicate)) h

pub step_long : (l : Line) (b : ℕ) → length l.bytes ≡ 21 → length (step l b).bytes ≡ 21
unfolding step opened
step_long l b h = go (is_flag b) l.inside
  where
    go : (s t : Bool) → length (cond s opened (cond t (taken l b) l)).bytes ≡ 21
    go true t = rw length-replicate
    go false true = taken_long l b h
    go false false = h

stands_opened : stands_for opened ≡ flag ∷ []
unfolding stands_for opened escaped_bytes flatten
stands_opened = refl

one-flag : (l : Line) → length l.bytes ≡ 21 → (bs : List ℕ) → packets_in (stands_for l ++ flag ∷ bs) ≡ gives l flag ++ packets_in (flag ∷ bs)
one-flag l long bs = go l.inside refl
  where
    go : (t : Bool) → l.inside ≡ t → packets_in (stands_for l ++ flag ∷ bs) ≡ gives l flag ++ packets_in (flag ∷ bs)
    go true i = at_flag l long i bs
    go false i = rw (stands_outside l i, gives_none l flag (passes-outside l i))

one_other : (l : Line) → length l.bytes ≡ 21 → (b : ℕ) (bs : List ℕ) → is_flag b ≡ false
    → packets_in (stands_for l ++ b ∷ bs) ≡ packets_in (stands_for (step l b) ++ bs)
unfolding has_flag
one_other l long b bs f = go l.inside refl
  where
    go : (t : Bool) → l.inside ≡ t → packets_in (stands_for l ++ b ∷ bs) ≡ packets_in (stands_for (step l b) ++ bs)
    go true i = rw (step_inside l b f i) (at_other l long i b bs f (taken_inside l b))
    go false i = rw (step-outside l b f i, stands_outside l i) (packets_in_skipped (b ∷ []) bs (rw f))

one_byte : (l : Line) → length l.bytes ≡ 21 → (b : ℕ) (bs : List ℕ)
    → packets_in (stands_for l ++ b ∷ bs) ≡ gives l b ++ packets_in (stands_for (step l b) ++ bs)
unfolding is_flag
one_byte l long b bs = go (is_flag b) refl
  where
    go : (t : Bool) → is_flag b ≡ t → packets_in (stands_for l ++ b ∷ bs) ≡ gives l b ++ packets_in (stands_for (step l b) ++ bs)
    go true f = rw (step-flag l b f, stands_opened, eqb-true b flag f) (one-flag l long bs)
    go false f = rw (gives_plain l b f) (one_other l long b bs f)

-- what bytes give, and the record behind them
unfoldable pub given_in : Line → List ℕ → List (List ℕ)
given_in l [] = []
given_in l (b ∷ bs) = gives l b ++ given_in (step l b) bs

unfoldable pub run : Line → List ℕ → Line
run l [] = l
run l (b ∷ bs) = run (step l b) bs

-- no packet is in a line that a record stands for
stands_none : (l : Line) → packets_in (stands_for l) ≡ []
unfolding packets_in between pieces flatten
stands_none l = go l.inside refl
  where
    go : (t : Bool) → l.inside ≡ t → packets_in (stands_for l) ≡ []
    go true i = rw (stands_inside l i) (packets_in_open (text l) (text_flag l))
    go false i = rw (stands_outside l i)

pub given_declared : (l : Line) (bs : List ℕ) → length l.bytes ≡ 21 → given_in l bs ≡ packets_in (stands_for l ++ bs)
unfolding given_in
given_declared l [] long = rw append-nil (sym (stands_none l))
given_declared l (b ∷ bs) long =
    ap (λ (ps : List (List ℕ)). gives l b ++ ps) (given_declared (step l b) bs (step_long l b long)) ∙ sym (one_byte l long b bs)

-- Laws of a line split at its flags: bytes without a flag before it, a flag inside it, and one frame between two flags.
use Prim.Native.Nat.{ℕ}
use mathlib.Core.Bool.{Bool, true, false, cond, ◌||◌, true≢false}
use mathlib.Core.List.{List, [], ◌∷◌, ◌++◌, map, flatten, map-append, append-nil, drop_last}
use mathlib.Core.Path.{◌≡◌, refl, sym, ap, ◌∙◌}
use lib.ListN.{drop}
use Rattle.bits.proofs.Lists.{flatten_append}
use Rattle.serial.specs.Octets.{flag, is_flag}
use Rattle.serial.specs.Frames.{has_flag, onto_first, pieces, between, given, unescaped, packets_in}

-- ---- pieces

-- there is at least one
record Some (ps : List (List ℕ)) : Type 0 where
  pub first : List ℕ
  pub rest : List (List ℕ)
  pub is : ps ≡ first ∷ rest

pieces_some : (bs : List ℕ) → Some (pieces bs)
unfolding pieces onto_first
pieces_some [] = record { first = []; rest = []; is = refl }
pieces_some (b ∷ bs) = go (is_flag b) (pieces_some bs)
  where
    go : (t : Bool) → Some (pieces bs) → Some (cond t ([] ∷ pieces bs) (onto_first b (pieces bs)))
    go true s = record { first = []; rest = pieces bs; is = refl }
    go false s = record { first = b ∷ s.first; rest = s.rest; is = rw s.is }

-- bytes without a flag go to the first
pieces-plain : (xs ys : List ℕ) → has_flag xs ≡ false → (first : List ℕ) (rest : List (List ℕ)) → pieces ys ≡ first ∷ rest
    → pieces (xs ++ ys) ≡ (xs ++ first) ∷ rest
unfolding has_flag pieces onto_first
pieces-plain [] ys n first rest e = e
pieces-plain (x ∷ xs) ys n first rest e = go (is_flag x) n (λ h. pieces-plain xs ys h first rest e)
  where
    go : (t : Bool) → (t || has_flag xs) ≡ false → (has_flag xs ≡ false → pieces (xs ++ ys) ≡ (xs ++ first) ∷ rest)
        → cond t ([] ∷ pieces (xs ++ ys)) (onto_first x (pieces (xs ++ ys))) ≡ (x ∷ xs ++ first) ∷ rest
    go true h rest-is = absurd (true≢false h)
    go false h rest-is = rw (rest-is h)

onto_first_append : (b : ℕ) (ps qs : List (List ℕ)) → Some ps → onto_first b (ps ++ qs) ≡ onto_first b ps ++ qs
unfolding onto_first
onto_first_append b ps qs s = rw s.is

-- a flag between two parts divides their pieces
pieces-flag : (xs ys : List ℕ) → pieces (xs ++ flag ∷ ys) ≡ pieces xs ++ pieces ys
unfolding pieces is_flag
pieces-flag [] ys = refl
pieces-flag (x ∷ xs) ys = go (is_flag x) (pieces-flag xs ys)
  where
    go : (t : Bool) → pieces (xs ++ flag ∷ ys) ≡ pieces xs ++ pieces ys
        → cond t ([] ∷ pieces (xs ++ flag ∷ ys)) (onto_first x (pieces (xs ++ flag ∷ ys)))
        ≡ cond t ([] ∷ pieces xs) (onto_first x (pieces xs)) ++ pieces ys
    go true e = ap (λ (l : List (List ℕ)). [] ∷ l) e
    go false e = ap (onto_first x) e ∙ onto_first_append x (pieces xs) (pieces ys) (pieces_some xs)

-- ---- between flags

drop_last_append : {A : Type 0} (xs : List A) (b : A) (bs : List A) → drop_last (xs ++ b ∷ bs) ≡ xs ++ drop_last (b ∷ bs)
drop_last_append [] b bs = refl
drop_last_append (a ∷ []) b bs = refl
drop_last_append (a ∷ c ∷ xs) b bs = ap (◌∷◌ a) (drop_last_append (c ∷ xs) b bs)

between-flag : (xs ys : List ℕ) → between (xs ++ flag ∷ ys) ≡ drop 1 (pieces xs) ++ drop_last (pieces ys)
unfolding between
between-flag xs ys =
    let a = pieces_some xs in
    let b = pieces_some ys in
    rw (pieces-flag xs ys, a.is, b.is) (drop_last_append a.rest b.first b.rest)

between_resync : (xs ys : List ℕ) → between (xs ++ flag ∷ ys) ≡ between (xs ++ flag ∷ []) ++ between (flag ∷ ys)
unfolding pieces
between_resync xs ys = between-flag xs ys ∙ sym (rw (between-flag xs [], between-flag [] ys, append-nil))

-- ---- packets

-- what follows a flag is read as behind a first one
pub packets_in_resync : (xs ys : List ℕ) → packets_in (xs ++ flag ∷ ys) ≡ packets_in (xs ++ flag ∷ []) ++ packets_in (flag ∷ ys)
unfolding packets_in
packets_in_resync xs ys = rw (between_resync xs ys, map-append, flatten_append)

-- bytes before the first flag are skipped
pub packets_in_skipped : (xs ys : List ℕ) → has_flag xs ≡ false → packets_in (xs ++ ys) ≡ packets_in ys
unfolding packets_in between
packets_in_skipped xs ys n = let s = pieces_some ys in rw (pieces-plain xs ys n s.first s.rest s.is, s.is)

-- what stands behind the last flag is in no frame yet
pub packets_in_open : (xs : List ℕ) → has_flag xs ≡ false → packets_in (flag ∷ xs) ≡ []
unfolding packets_in between pieces is_flag flatten
packets_in_open xs n =
    let all : pieces xs ≡ xs ∷ [] = rw append-nil at (pieces-plain xs [] n [] [] refl) in
    rw all

-- one frame between two flags
pub packets_in-frame : (xs : List ℕ) → has_flag xs ≡ false → packets_in (flag ∷ xs ++ flag ∷ []) ≡ given (unescaped xs)
unfolding packets_in between pieces is_flag flatten
packets_in-frame xs n = rw (pieces-plain xs (flag ∷ []) n [] ([] ∷ []) refl, append-nil xs, append-nil)

-- bytes behind a flag that are judged alike, whatever follows, are read alike
pub packets_in-alike : (xs ys : List ℕ) → has_flag xs ≡ false → has_flag ys ≡ false
    → ((zs : List ℕ) → given (unescaped (xs ++ zs)) ≡ given (unescaped (ys ++ zs)))
    → (zs : List ℕ) → packets_in (flag ∷ xs ++ zs) ≡ packets_in (flag ∷ ys ++ zs)
unfolding packets_in between pieces is_flag flatten
packets_in-alike xs ys n m alike zs =
    let s = pieces_some zs in
    rw (pieces-plain xs zs n s.first s.rest s.is, pieces-plain ys zs m s.first s.rest s.is) (go s.first s.rest)
  where
    go : (first : List ℕ) (rest : List (List ℕ))
        → flatten (map (λ piece. given (unescaped piece)) (drop_last ((xs ++ first) ∷ rest)))
        ≡ flatten (map (λ piece. given (unescaped piece)) (drop_last ((ys ++ first) ∷ rest)))
    go first [] = refl
    go first (r ∷ rest) = rw (alike first)

-- Laws of unescaping: escaped bytes are read back, whatever follows them, and hold no flag.
use Prim.Native.Nat.{ℕ}
use mathlib.Core.Bool.{Bool, true, false, cond, ◌||◌}
use mathlib.Core.List.{List, [], ◌∷◌, ◌++◌, flatten, append_assoc, append-nil}
use Rattle.std.specs.Prelude.{Option, None, Some}
use mathlib.Core.Path.{◌≡◌, refl, sym, ap, ◌∙◌}
use borrow.Author.Tests.{eqb-true}
use mathlib.Core.Logic.{◌⊎◌, inl, inr}
use Rattle.serial.specs.Octets.{escape, is_flag, is_escape, toggled, escaped, escaped_bytes}
use Rattle.serial.specs.Frames.{has_flag, onto_bytes, unescaped_from, unescaped}
use Rattle.serial.proofs.Escaping.{byte_cases, escaped_one}

-- ---- flags

pub has_flag_append : (xs ys : List ℕ) → has_flag (xs ++ ys) ≡ (has_flag xs || has_flag ys)
unfolding has_flag
has_flag_append [] ys = refl
has_flag_append (x ∷ xs) ys = go (is_flag x) (has_flag_append xs ys)
  where
    go : (t : Bool) → has_flag (xs ++ ys) ≡ (has_flag xs || has_flag ys) → (t || has_flag (xs ++ ys)) ≡ ((t || has_flag xs) || has_flag ys)
    go true e = refl
    go false e = e

plain : (b : ℕ) → is_flag b ≡ false → is_escape b ≡ false → escaped b ≡ b ∷ []
plain b f e = escaped_one b (rw (f, e))

pub has_flag-escaped : (b : ℕ) → has_flag (escaped b) ≡ false
unfolding escaped has_flag is_flag is_escape toggled
has_flag-escaped b = byte_cases (λ c. has_flag (escaped c) ≡ false) b refl refl (λ f e. rw (plain b f e, f))

pub has_flag-escaped_bytes : (bs : List ℕ) → has_flag (escaped_bytes bs) ≡ false
unfolding has_flag escaped_bytes flatten
has_flag-escaped_bytes [] = refl
has_flag-escaped_bytes (b ∷ bs) =
    has_flag_append (escaped b) (escaped_bytes bs) ∙ rw (has_flag-escaped b, has_flag-escaped_bytes bs)

-- ---- escaped bytes read back

unescaped-escaped : (b : ℕ) (rest : List ℕ) → unescaped_from (escaped b ++ rest) false ≡ onto_bytes b (unescaped_from rest false)
unfolding escaped unescaped_from is_flag is_escape toggled
unescaped-escaped b rest =
    byte_cases (λ c. unescaped_from (escaped c ++ rest) false ≡ onto_bytes c (unescaped_from rest false)) b refl refl (λ f e. rw (plain b f e, e))

-- bytes before what is unescaped, where it is
unfoldable pub onto_all : List ℕ → Option (List ℕ) → Option (List ℕ)
onto_all bs None = None
onto_all bs (Some cs) = Some (bs ++ cs)

onto_all_cons : (b : ℕ) (bs : List ℕ) (o : Option (List ℕ)) → onto_bytes b (onto_all bs o) ≡ onto_all (b ∷ bs) o
unfolding onto_bytes onto_all
onto_all_cons b bs None = refl
onto_all_cons b bs (Some cs) = refl

onto_all_nil : (o : Option (List ℕ)) → o ≡ onto_all [] o
unfolding onto_all
onto_all_nil None = refl
onto_all_nil (Some cs) = refl

pub unescaped-behind : (bs rest : List ℕ) → unescaped (escaped_bytes bs ++ rest) ≡ onto_all bs (unescaped rest)
unfolding unescaped escaped_bytes flatten
unescaped-behind [] rest = onto_all_nil (unescaped_from rest false)
unescaped-behind (b ∷ bs) rest =
    rw (append_assoc (escaped b) (escaped_bytes bs) rest)
    (unescaped-escaped b (escaped_bytes bs ++ rest) ∙ ap (onto_bytes b) (unescaped-behind bs rest) ∙ onto_all_cons b bs (unescaped_from rest false))

pub unescaped-escaped_bytes : (bs : List ℕ) → unescaped (escaped_bytes bs) ≡ Some bs
unfolding unescaped unescaped_from onto_all
unescaped-escaped_bytes bs =
    ap unescaped (sym (append-nil (escaped_bytes bs)))
    ∙ unescaped-behind bs []
    ∙ rw (append-nil bs)

-- ---- bytes that end in an escape

-- bytes are unescaped, or bytes that are and an escape behind them, where `true` says that an escape stands before them
abbrev Ends : Bool → List ℕ → Type 0
Ends t xs =
    ((bytes : List ℕ) × (unescaped_from xs t ≡ Some bytes))
    ⊎ ((ys : List ℕ) × (bytes : List ℕ) × (xs ≡ ys ++ escape ∷ []) × (unescaped_from ys t ≡ Some bytes))

Ends_cons : (s t : Bool) (x b : ℕ) (xs : List ℕ) → ((zs : List ℕ) → unescaped_from (x ∷ zs) s ≡ onto_bytes b (unescaped_from zs t)) → Ends t xs → Ends s (x ∷ xs)
unfolding onto_bytes
Ends_cons s t x b xs step (inl w) = inl (b ∷ w.0, step xs ∙ rw w.1)
Ends_cons s t x b xs step (inr w) = inr (x ∷ w.0, b ∷ w.1, ap (λ (l : List ℕ). x ∷ l) w.2, step w.0 ∙ rw w.3)

Ends_escape : (x : ℕ) (xs : List ℕ) → is_escape x ≡ true → Ends true xs → Ends false (x ∷ xs)
unfolding unescaped_from
Ends_escape x xs e (inl w) = inl (w.0, rw e w.1)
Ends_escape x xs e (inr w) = inr (x ∷ w.0, w.1, ap (λ (l : List ℕ). x ∷ l) w.2, rw e w.3)

Ends_last : (x : ℕ) (xs : List ℕ) → is_escape x ≡ true → xs ≡ [] → Ends false (x ∷ xs)
unfolding unescaped_from is_escape
Ends_last x xs e n = inr ([], [], rw (n, eqb-true x escape e), refl)

unescapes_from : (xs : List ℕ) → Ends false xs × ((xs ≡ []) ⊎ Ends true xs)
unfolding unescaped_from
unescapes_from [] = (inl ([], refl), inl refl)
unescapes_from (x ∷ xs) = let r = unescapes_from xs in (go (is_escape x) refl r.0 r.1, inr (Ends_cons true false x (toggled x) xs (λ zs. refl) r.0))
  where
    go : (t : Bool) → is_escape x ≡ t → Ends false xs → (xs ≡ []) ⊎ Ends true xs → Ends false (x ∷ xs)
    go true e f (inl n) = Ends_last x xs e n
    go true e f (inr w) = Ends_escape x xs e w
    go false e f g = Ends_cons false false x x xs (λ zs. rw e) f

pub unescapes : (xs : List ℕ) → Ends false xs
unescapes xs = (unescapes_from xs).0

-- an escape behind bytes that are unescaped has none behind it
onto_bytes_some : (b : ℕ) (o : Option (List ℕ)) (bytes : List ℕ) → onto_bytes b o ≡ Some bytes → (cs : List ℕ) × (o ≡ Some cs)
unfolding onto_bytes
onto_bytes_some b None bytes e = cc
onto_bytes_some b (Some cs) bytes e = (cs, refl)

escape_left : (xs : List ℕ) (t : Bool) (bytes : List ℕ) → unescaped_from xs t ≡ Some bytes → unescaped_from (xs ++ escape ∷ []) t ≡ None
unfolding unescaped_from is_escape onto_bytes
escape_left [] true bytes e = cc
escape_left [] false bytes e = refl
escape_left (x ∷ xs) true bytes e =
    let w = onto_bytes_some (toggled x) (unescaped_from xs false) bytes e in
    rw (escape_left xs false w.0 w.1)
escape_left (x ∷ xs) false bytes e = go (is_escape x) e (escape_left xs true bytes) (escape_left xs false)
  where
    go : (t : Bool) → cond t (unescaped_from xs true) (onto_bytes x (unescaped_from xs false)) ≡ Some bytes
        → (unescaped_from xs true ≡ Some bytes → unescaped_from (xs ++ escape ∷ []) true ≡ None)
        → ((cs : List ℕ) → unescaped_from xs false ≡ Some cs → unescaped_from (xs ++ escape ∷ []) false ≡ None)
        → cond t (unescaped_from (xs ++ escape ∷ []) true) (onto_bytes x (unescaped_from (xs ++ escape ∷ []) false)) ≡ None
    go true h behind plain-behind = behind h
    go false h behind plain-behind = let w = onto_bytes_some x (unescaped_from xs false) bytes h in rw (plain-behind w.0 w.1)

pub unescaped-escape : (xs bytes : List ℕ) → unescaped xs ≡ Some bytes → unescaped (xs ++ escape ∷ []) ≡ None
unfolding unescaped
unescaped-escape xs bytes e = escape_left xs false bytes e

-- "never more than six packets in a row .. are lost there between two that came", told packet by packet: a count of those lost since the last that came.
use Prim.Native.Nat.{ℕ, zero, suc}
use native.Mathlib.Omega.{arith}
use mathlib.Core.Bool.{Bool, true, false, not, ◌&&◌, ◌||◌, true≢false}
use mathlib.Core.List.{List, [], ◌∷◌, ◌++◌}
use mathlib.Core.Path.{◌≡◌, refl, sym, ap, ◌∙◌}
use lib.ListN.{replicate}
use lib.Dec.{leb}
use borrow.Author.Tests.{lt-leb}
use Rattle.hdlc.specs.Bodies.{starts_with, holds}
use Rattle.packet.specs.Lists.{any_of}
use Rattle.link.specs.Demand3.{from_first, up_to_last, from_first_to_last, at_most_six_lost}

-- whether one came before, how many were lost since, and what comes: at most six are lost before each that comes then
unfoldable pub gaps : Bool → ℕ → List Bool → Bool
gaps seen d [] = true
gaps seen d (true ∷ bs) = (not seen || leb d 6) && gaps true 0 bs
gaps seen d (false ∷ bs) = gaps seen (suc d) bs

-- where none comes any more, no gap is closed, and nothing is left up to the last that came
gaps_none : (bs : List Bool) (seen : Bool) (d : ℕ) → any_of (λ b. b) bs ≡ false → gaps seen d bs ≡ true
unfolding any_of gaps
gaps_none [] seen d e = refl
gaps_none (true ∷ bs) seen d e = absurd (true≢false e)
gaps_none (false ∷ bs) seen d e = gaps_none bs seen (suc d) e

pub up_to_last-none : (bs : List Bool) → any_of (λ b. b) bs ≡ false → up_to_last bs ≡ []
unfolding any_of up_to_last
up_to_last-none [] e = refl
up_to_last-none (true ∷ bs) e = absurd (true≢false e)
up_to_last-none (false ∷ bs) e = rw e

-- no seven were lost in a row
no_seven : List Bool → Bool
no_seven bs = not (holds (replicate 7 false) bs)

no_seven_behind : (d : ℕ) (bs : List Bool) → no_seven (replicate d false ++ true ∷ bs) ≡ (leb d 6 && no_seven bs)
unfolding no_seven holds starts_with
no_seven_behind zero bs = refl
no_seven_behind (suc zero) bs = refl
no_seven_behind (suc (suc zero)) bs = refl
no_seven_behind (suc (suc (suc zero))) bs = refl
no_seven_behind (suc (suc (suc (suc zero)))) bs = refl
no_seven_behind (suc (suc (suc (suc (suc zero))))) bs = refl
no_seven_behind (suc (suc (suc (suc (suc (suc zero)))))) bs = refl
no_seven_behind (suc (suc (suc (suc (suc (suc (suc d))))))) bs = rw (lt-leb (suc (suc (suc (suc (suc (suc (suc d))))))) 6 (omega arith))

replicate_more : (d : ℕ) (bs : List Bool) → replicate (suc d) false ++ bs ≡ replicate d false ++ false ∷ bs
replicate_more zero bs = refl
replicate_more (suc d) bs = ap (λ (l : List Bool). false ∷ l) (replicate_more d bs)

-- one came: whether or not another comes
gaps_last : (bs : List Bool) → (any_of (λ b. b) bs ≡ true → gaps true 0 bs ≡ no_seven (up_to_last bs)) → gaps true 0 bs ≡ no_seven (up_to_last bs)
unfolding no_seven holds starts_with
gaps_last bs h = go (any_of (λ b. b) bs) refl
  where
    go : (t : Bool) → any_of (λ b. b) bs ≡ t → gaps true 0 bs ≡ no_seven (up_to_last bs)
    go true some = h some
    go false none = gaps_none bs true 0 none ∙ rw (up_to_last-none bs none)

-- d were lost since one came, and another comes
gaps_seen : (bs : List Bool) (d : ℕ) → any_of (λ b. b) bs ≡ true → gaps true d bs ≡ no_seven (replicate d false ++ up_to_last bs)
unfolding any_of gaps up_to_last
gaps_seen [] d e = absurd (true≢false (sym e))
gaps_seen (true ∷ bs) d e = rw (no_seven_behind d (up_to_last bs)) (ap (◌&&◌ (leb d 6)) (gaps_last bs (gaps_seen bs 0)))
gaps_seen (false ∷ bs) d e = rw e (gaps_seen bs (suc d) e ∙ rw (replicate_more d (up_to_last bs)))

-- none came yet
gaps_unseen : (bs : List Bool) (d : ℕ) → gaps false d bs ≡ no_seven (up_to_last (from_first bs))
unfolding no_seven holds starts_with gaps from_first up_to_last
gaps_unseen [] d = refl
gaps_unseen (true ∷ bs) d = gaps_last bs (gaps_seen bs 0)
gaps_unseen (false ∷ bs) d = gaps_unseen bs (suc d)

-- the count and the words say the same
gaps_same : (bs : List Bool) → gaps false 0 bs ≡ at_most_six_lost bs
unfolding no_seven at_most_six_lost from_first_to_last
gaps_same bs = gaps_unseen bs 0

pub gaps_given : (bs : List Bool) → at_most_six_lost bs ≡ true → gaps false 0 bs ≡ true
gaps_given bs e = gaps_same bs ∙ e

pub gaps_worded : (bs : List Bool) → gaps false 0 bs ≡ true → at_most_six_lost bs ≡ true
gaps_worded bs e = sym (gaps_same bs) ∙ e

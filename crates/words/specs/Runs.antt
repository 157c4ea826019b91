-- Runs of ones in a stretch of bits, where o ones stand before it.
use Rattle.std.specs.Prelude.{ℕ, suc, Bool, true, false, cond, ◌&&◌, List, [], ◌∷◌, leb, eqb}

-- how many bits there are up to the fifth one in a row, that one too; all of them where there is none
unfoldable pub until_five : List Bool → ℕ → ℕ
until_five [] o = 0
until_five (false ∷ bs) o = suc (until_five bs 0)
until_five (true ∷ bs) o = cond (eqb o 4) 1 (suc (until_five bs (suc o)))

-- no six ones in a row
unfoldable pub no_six : List Bool → ℕ → Bool
no_six [] o = leb o 5
no_six (true ∷ bs) o = no_six bs (suc o)
no_six (false ∷ bs) o = leb o 5 && no_six bs 0

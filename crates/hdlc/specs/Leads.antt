-- Bytes that stand in a number, the first one lowest: what stands before the bytes that a caller lends.
use Rattle.std.specs.Prelude.{ℕ, zero, suc, ◌*◌, ◌/◌, ◌%◌, ◌<◌, List, ◌∷◌, ◌≡◌}

-- the n lowest bytes of a number, the first one lowest, and behind them these
unfoldable pub led : ℕ → ℕ → List ℕ → List ℕ
led number zero bytes = bytes
led number (suc n) bytes = number % 256 ∷ led (number / 256) n bytes

-- the number has the byte lowest and the others above it
pub record Below (byte others number : ℕ) : Type 0 where
  pub bytes : (n : ℕ) (behind : List ℕ) → led number (suc n) behind ≡ byte ∷ led others n behind
  pub small : (most : ℕ) → others < most → number < 256 * most

-- `words::eight_bytes` meets its contract.
use Prim.Native.Nat.{◌+◌, ◌-◌}
use native.Mathlib.Omega.{arith}
use mathlib.Core.Path.{◌≡◌}
use lib.ListN.{take, drop}
use Rattle.words.proofs.Numbers.{low_bits-eight}
use Rattle.words.proofs.eight_bytes.Goals as goal

pub returns : goal.returns
returns c =
    let a = c.args in
    let eight : a.i + 8 - a.i ≡ 8 = omega arith in
    let chunk = rw c.unwrap.ensures at c.try_into.ensures.1 in
    let bytes : c.unwrap.result ≡ take 8 (drop a.i a.s.now) = rw eight at chunk.same in
    low_bits-eight a.s.now a.i c.requires (λ k. (c.type_inv.s k).fits) _ _ bytes c.from_le_bytes.ensures

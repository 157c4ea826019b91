-- `words::gathering::gather` meets its contract.
use Prim.Native.Nat.{◌+◌, ◌*◌, ◌%◌, ◌^◌, ◌≤◌, ◌<◌}
use native.Mathlib.Omega.{arith}
use mathlib.Core.Path.{◌≡◌}
use lib.Pow.{pow_mono, shl_exact, shl_lt}
use Rattle.words.proofs.GatheredBits.{gathers_more}
use Rattle.words.proofs.gathering.gather.Goals as goal

pub overflow_add-more-2 : goal.overflow_add-more-2
overflow_add-more-2 c =
    let all : c.args.value * 2 ^ c.args.g.len % 2 ^ 64 ≡ c.args.value * 2 ^ c.args.g.len =
    shl_exact c.args.n c.args.g.len 64 c.requires.4 (omega arith) in
    let few : 2 ^ c.args.g.len ≤ 2 ^ 7 = pow_mono {i = c.args.g.len} {j = 7} (omega arith) in
    let word : c.args.value * 2 ^ c.args.g.len < 2 ^ (c.args.n + c.args.g.len) = shl_lt c.args.n c.args.g.len c.requires.4 in
    let most : 2 ^ (c.args.n + c.args.g.len) ≤ 2 ^ 63 = pow_mono {i = c.args.n + c.args.g.len} {j = 63} (omega arith) in
    record { fits = omega (arith, all, few, word, most, c.requires.1) }

pub returns : goal.returns
returns c =
    let all : c.args.value * 2 ^ c.args.g.len % 2 ^ 64 ≡ c.args.value * 2 ^ c.args.g.len =
    shl_exact c.args.n c.args.g.len 64 c.requires.4 (omega arith) in (
      λ y old. c.stored_bytes.ensures.0 _ (rw all (gathers_more c.args.g c.args.stored.now y c.args.n c.args.value c.requires.4 old)),
      c.stored_bytes.ensures.1,
    )

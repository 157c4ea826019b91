-- `words::gathering::settled` meets its contract.
use Prim.Native.Nat.{◌+◌, ◌-◌, ◌*◌, ◌/◌, ◌%◌, ◌^◌, ◌≤◌}
use mathlib.Core.List.{◌++◌}
use native.Mathlib.Omega.{arith}
use mathlib.Core.Path.{◌≡◌, ap, ◌∙◌}
use borrow.Author.Tests.{le-leb}
use lib.ListN.{length, get_or, set, length-append}
use Rattle.bits.specs.Bits.{fill_bytes}
use Rattle.bits.proofs.Bits.{length-fill_bytes}
use Rattle.words.proofs.GatheredBits.{gathers_all, cut-held}
use Rattle.words.proofs.gathering.settled.Goals as goal

pub returns : goal.returns
returns c =
    λ x v held old.
    let g = c.args.g in
    let end = 8 * g.bytes + g.len - c.args.held in
    let short : length x ≤ 168 = omega (arith, c.if-end-gt168.false, held, length-append x v, old.all) in
    let same : end ≡ length x = omega (arith, held, length-append x v, old.all) in
    let all : c.put_byte.new.stored ≡ fill_bytes 21 (x ++ v) =
    c.put_byte.ensures (ap length old.whole ∙ length-fill_bytes 21 _) ∙ gathers_all g c.args.stored.now (x ++ v) c.requires.0 old in
    rw (le-leb (length x) 168 short) (
      same,
      c.cut.ensures (ap length all ∙ length-fill_bytes 21 (x ++ v))
          ∙ ap (λ l. set (set l (end / 8) (get_or l (end / 8) 0 % 2 ^ (end % 8))) (end / 8 + 1) 0) all
          ∙ cut-held x v end same (omega (arith, same)) (omega (arith, held, c.requires.1)),
    )

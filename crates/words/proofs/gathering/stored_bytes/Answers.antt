-- `words::gathering::stored_bytes` meets its contract. The loop's invariant: what was gathered before is gathered.
use Prim.Native.Nat.{◌+◌, ◌-◌, ◌*◌, ◌/◌, ◌%◌, ◌≤◌}
use native.Mathlib.Omega.{arith}
use mathlib.Core.Path.{◌≡◌, ◌∙◌, ap}
use lib.ListN.{length}
use Rattle.bits.proofs.Bits.{length-fill_bytes}
use Rattle.words.proofs.GatheredBits.{gathers_byte}
use Rattle.words.proofs.gathering.stored_bytes.Goals as goal

pub loop-i-init : goal.loop-i-init
loop-i-init c =
    let g = c.args.g in
    let same : g.len + 8 * g.bytes - 8 * g.bytes ≡ g.len = omega arith in
    λ y old. rw same old

pub loop-i-preserved : goal.loop-i-preserved
loop-i-preserved c =
    let g = c.args.g in
    let l = c.loop-i in
    let left = g.len + 8 * g.bytes - 8 * l.i in
    let whole : 8 ≤ left = omega arith in
    let next : g.len + 8 * g.bytes - 8 * (l.i + 1) ≡ left - 8 = omega arith in
    λ y old.
    let now = l.invariant y old in
    rw (next, c.put_byte.ensures (ap length now.whole ∙ length-fill_bytes 21 _)) (gathers_byte l.i left l.rest l.stored y whole now)

pub returns : goal.returns
returns c =
    let g = c.args.g in
    let end : c.loop-i.i ≡ g.bytes + g.len / 8 = omega arith in
    let left : g.len + 8 * g.bytes - 8 * (g.bytes + g.len / 8) ≡ g.len % 8 = omega arith in
    (λ y old. rw (end, left) at (c.loop-i.invariant y old), omega arith)

-- `hdlc::chunks::Chunk::of` meets its contract: what it computes is the byte stuffed, as the table says at each byte.
use native.Mathlib.Omega.{arith}
use mathlib.Core.Path.{◌≡◌, ◌∙◌}
use Rattle.hdlc.proofs.ByteTable.{first, one, second, Right, StuffedByte-of, none_right_lem, first_zero_le, one_lt, one_right_lem, second_zero_le, two-right}
use Rattle.hdlc.proofs.chunks.Chunk.of.Goals as goal

pub returns-then-first-eq0 : goal.returns-then-first-eq0
returns-then-first-eq0 c =
    let none : Right c.args.free.ones c.args.byte c.args.byte 8 =
    none_right_lem c.args.free.ones c.args.byte c.args.free.few (omega arith) (rw c.five_ones-first.ensures at c.if-first-eq0.true) in
    StuffedByte-of none (omega arith) (omega arith)

pub with_zero-one-requires : goal.with_zero-one-requires
with_zero-one-requires c =
    let some : first c.args.free.ones c.args.byte ≡ 0 → ⊥ =
    λ e.
    c.if-first-eq0.false (c.five_ones-first.ensures ∙ e) in
    let k = first_zero_le c.args.free.ones c.args.byte c.args.free.few (omega arith) some in
    rw c.five_ones-first.ensures (omega arith)

pub overflow_shr-whole : goal.overflow_shr-whole
overflow_shr-whole c =
    let some : first c.args.free.ones c.args.byte ≡ 0 → ⊥ =
    λ e.
    c.if-first-eq0.false (c.five_ones-first.ensures ∙ e) in
    let k = first_zero_le c.args.free.ones c.args.byte c.args.free.few (omega arith) some in
    rw c.five_ones-first.ensures (omega arith)

pub returns-then-second-eq0 : goal.returns-then-second-eq0
returns-then-second-eq0 c =
    let some : first c.args.free.ones c.args.byte ≡ 0 → ⊥ =
    λ e.
    c.if-first-eq0.false (c.five_ones-first.ensures ∙ e) in
    let one-is : c.with_zero-one.result ≡ one c.args.free.ones c.args.byte =
    rw c.five_ones-first.ensures at c.with_zero-one.ensures in
    let second_is : c.five_ones-second.result ≡ second c.args.free.ones c.args.byte =
    rw c.five_ones-first.ensures at c.five_ones-second.ensures in
    let with-one : Right c.args.free.ones c.args.byte c.with_zero-one.result 9 =
    rw one-is
    (one_right_lem c.args.free.ones c.args.byte c.args.free.few (omega arith) some (rw second_is at c.if-second-eq0.true)) in
    StuffedByte-of with-one (omega arith) (omega arith)

pub with_zero-requires : goal.with_zero-requires
with_zero-requires c =
    let some : first c.args.free.ones c.args.byte ≡ 0 → ⊥ =
    λ e.
    c.if-first-eq0.false (c.five_ones-first.ensures ∙ e) in
    let one-is : c.with_zero-one.result ≡ one c.args.free.ones c.args.byte =
    rw c.five_ones-first.ensures at c.with_zero-one.ensures in
    let second_is : c.five_ones-second.result ≡ second c.args.free.ones c.args.byte =
    rw c.five_ones-first.ensures at c.five_ones-second.ensures in
    let more : second c.args.free.ones c.args.byte ≡ 0 → ⊥ =
    λ e.
    c.if-second-eq0.false (second_is ∙ e) in
    let f = c.args.free.ones in
    let b = c.args.byte in
    let some_one = some in
    let small = one_lt f b c.args.free.few (omega arith) some_one in
    let k = second_zero_le f b c.args.free.few (omega arith) some_one more in
    (rw one-is small, rw (second_is, c.five_ones-first.ensures) k)

pub returns : goal.returns
returns c =
    let some : first c.args.free.ones c.args.byte ≡ 0 → ⊥ =
    λ e.
    c.if-first-eq0.false (c.five_ones-first.ensures ∙ e) in
    let one-is : c.with_zero-one.result ≡ one c.args.free.ones c.args.byte =
    rw c.five_ones-first.ensures at c.with_zero-one.ensures in
    let second_is : c.five_ones-second.result ≡ second c.args.free.ones c.args.byte =
    rw c.five_ones-first.ensures at c.five_ones-second.ensures in
    let more : second c.args.free.ones c.args.byte ≡ 0 → ⊥ =
    λ e.
    c.if-second-eq0.false (second_is ∙ e) in
    let with_two : Right c.args.free.ones c.args.byte c.with_zero.result 10 =
    let e = rw (one-is, second_is, c.five_ones-first.ensures) at c.with_zero.ensures in
    rw e (two-right c.args.free.ones c.args.byte c.args.free.few (omega arith) some more) in
    StuffedByte-of with_two (omega arith) (omega arith)

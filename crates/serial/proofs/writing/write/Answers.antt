-- `writing::write` meets its contract: the refusals in their order, and the frame piece by piece.
use Prim.Native.Nat.{ℕ, ◌+◌, ◌*◌, ◌/◌, ◌%◌, ◌≤◌}
use mathlib.Core.Path.{◌≡◌, refl, ap, ◌∙◌}
use native.Mathlib.Omega.{arith}
use lib.ListN.{length, length-set}
use lib.Seq.{sets, length-sets}
use Rattle.serial.specs.Octets.{escaped}
use Rattle.serial.proofs.Escaping.{place_below, length-escaped_bytes, length_written, frame_written}
use Rattle.serial.proofs.Writes.{packet_few, packet_many, output_short, accepted}
use Rattle.serial.proofs.writing.write.Goals as goal
use Rattle.serial.proofs.writing.write.Goals.{then-n-lt2-via-then-n-lt2, then-n-lt2-via-else-n-lt2+then-n-gt19}

pub returns-then-n-lt2 : goal.returns-then-n-lt2
returns-then-n-lt2 c =
    elim c.then-n-lt2.branch [
      | then-n-lt2-via-then-n-lt2 w ↦ packet_few c.args.packet.now c.args.output.now (omega (arith, w.if-n-lt2.true))
      | then-n-lt2-via-else-n-lt2+then-n-gt19 w ↦ packet_many c.args.packet.now c.args.output.now (omega (arith, w.if-n-gt19.true))
    ]

pub returns-then-output-n : goal.returns-then-output-n
returns-then-output-n c =
    let a = c.args in
    output_short a.packet.now a.output.now c.if-n-lt2.false c.if-n-gt19.false (omega (arith, c.if-output-n.true))

pub put_bytes-low-requires : goal.put_bytes-low-requires
put_bytes-low-requires c = rw length-set (omega arith)

pub put_byte-high-requires : goal.put_byte-high-requires
put_byte-high-requires c =
    let length_two : length c.put_bytes-low.new.output ≡ length c.args.output.now =
    rw (c.put_bytes-low.ensures.1, length-sets, length-set) in
    let low_below : c.put_bytes-low.result ≤ 1 + 2 * length c.args.packet.now =
    omega (arith, c.put_bytes-low.ensures.0, length-escaped_bytes c.args.packet.now) in
    omega (arith, length_two, low_below)

pub put_byte-end-requires : goal.put_byte-end-requires
put_byte-end-requires c =
    let length_two : length c.put_bytes-low.new.output ≡ length c.args.output.now =
    rw (c.put_bytes-low.ensures.1, length-sets, length-set) in
    let length_three : length c.put_byte-high.new.output ≡ length c.args.output.now =
    rw (c.put_byte-high.ensures.1, length-sets) length_two in
    let low_below : c.put_bytes-low.result ≤ 1 + 2 * length c.args.packet.now =
    omega (arith, c.put_bytes-low.ensures.0, length-escaped_bytes c.args.packet.now) in
    let high-below : c.put_byte-high.result ≤ 3 + 2 * length c.args.packet.now =
    omega (arith, place_below _ _ _ c.put_byte-high.ensures.0, low_below) in
    omega (arith, length_three, high-below)

pub bounds-output-end : goal.bounds-output-end
bounds-output-end c =
    let length_two : length c.put_bytes-low.new.output ≡ length c.args.output.now =
    rw (c.put_bytes-low.ensures.1, length-sets, length-set) in
    let length_three : length c.put_byte-high.new.output ≡ length c.args.output.now =
    rw (c.put_byte-high.ensures.1, length-sets) length_two in
    let length-four : length c.put_byte-end.new.output ≡ length c.args.output.now =
    rw (c.put_byte-end.ensures.1, length-sets) length_three in
    let low_below : c.put_bytes-low.result ≤ 1 + 2 * length c.args.packet.now =
    omega (arith, c.put_bytes-low.ensures.0, length-escaped_bytes c.args.packet.now) in
    let high-below : c.put_byte-high.result ≤ 3 + 2 * length c.args.packet.now =
    omega (arith, place_below _ _ _ c.put_byte-high.ensures.0, low_below) in
    let end_below : c.put_byte-end.result ≤ 5 + 2 * length c.args.packet.now =
    omega (arith, place_below _ _ _ c.put_byte-end.ensures.0, high-below) in
    omega (arith, length-four, end_below)

pub overflow_add-result : goal.overflow_add-result
overflow_add-result c =
    let low_below : c.put_bytes-low.result ≤ 1 + 2 * length c.args.packet.now =
    omega (arith, c.put_bytes-low.ensures.0, length-escaped_bytes c.args.packet.now) in
    let high-below : c.put_byte-high.result ≤ 3 + 2 * length c.args.packet.now =
    omega (arith, place_below _ _ _ c.put_byte-high.ensures.0, low_below) in
    let end_below : c.put_byte-end.result ≤ 5 + 2 * length c.args.packet.now =
    omega (arith, place_below _ _ _ c.put_byte-end.ensures.0, high-below) in
    omega (arith, end_below)

pub shape_of-output : goal.shape_of-output
shape_of-output c =
    let length_two : length c.put_bytes-low.new.output ≡ length c.args.output.now =
    rw (c.put_bytes-low.ensures.1, length-sets, length-set) in
    let length_three : length c.put_byte-high.new.output ≡ length c.args.output.now =
    rw (c.put_byte-high.ensures.1, length-sets) length_two in
    let length-four : length c.put_byte-end.new.output ≡ length c.args.output.now =
    rw (c.put_byte-end.ensures.1, length-sets) length_three in
    rw length-set length-four

pub returns : goal.returns
returns c =
    let a = c.args in
    let p = a.packet.now in
    let is = c.fcs-fcs.ensures in
    let packet = c.put_bytes-low in
    let low = c.put_byte-high in
    let high = c.put_byte-end in
    let at_high = low.ensures.0 ∙ ap (λ (n : ℕ). packet.result + length (escaped (n % 256))) is in
    let low_byte = low.ensures.1 ∙ ap (λ (n : ℕ). sets packet.new.output packet.result (escaped (n % 256))) is in
    let at-end = high.ensures.0 ∙ ap (λ (n : ℕ). low.result + length (escaped (n / 256))) is in
    let high_byte = high.ensures.1 ∙ ap (λ (n : ℕ). sets low.new.output low.result (escaped (n / 256))) is in
    accepted p a.output.now c.if-n-lt2.false c.if-n-gt19.false _ _ c.if-output-n.false
    (length_written p a.output.now refl packet.ensures.0 packet.ensures.1 at_high low_byte at-end high_byte refl)
    (frame_written p a.output.now refl packet.ensures.0 packet.ensures.1 at_high low_byte at-end high_byte refl)

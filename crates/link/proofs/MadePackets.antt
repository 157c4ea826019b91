-- A packet that the sender makes, taken apart by the receiver's definitions: it is not malformed, and has the circuit, the link number and the segment
-- that it was made of, or the information.
use Prim.Native.Nat.{ℕ, ◌+◌, ◌*◌, ◌/◌, ◌%◌, ◌≤◌, ◌<◌}
use native.Mathlib.Omega.{arith}
use mathlib.Core.Bool.{Bool, true, false, cond}
use mathlib.Core.List.{List, ◌∷◌}
use mathlib.Core.Path.{◌≡◌, refl, sym, ap, ◌∙◌}
use borrow.Author.Tests.{lt-leb, le-ltb, eq-eqb, ne_eqb, eqb-true, eqb-false}
use lib.ListN.{length, drop, get_or}
use lib.Dec.{eqb}
use Rattle.packet.specs.declared.Circuit.{Circuit}
use Rattle.packet.specs.Packets.{extension_of, packet_of, system_packet}
use Rattle.packet.specs.Packets.{control as control_of}
use Rattle.parsing.specs.Packets.{address, control_in, link, extended, lead, segment_in, circuit_in, descriptor, code, information, malformed_system, malformed}
use Rattle.parsing.proofs.PacketParts.{length-segment}
use Rattle.link.proofs.Steps.{RightCircuit}

-- ---- a circuit's packet, of link number l, index i, priority y and segment s

module _ (k : Circuit) (right : RightCircuit k) (l i y : ℕ) (s : List ℕ) (l_lt : l < 3) (i_lt : i < 8) (y-lt : y < 4) where
  -- its address is not FF hex, and its control byte holds the link number, the extension bit and the index
  pub address-made : eqb (address (packet_of k l i y s)) 0xff ≡ false
  unfolding address packet_of
  address-made = ne_eqb k.address 0xff (omega (arith, right.address))

  control-made : control_in (packet_of k l i y s) ≡ 64 * l + 32 * k.extended + 4 * i + y
  unfolding control_in packet_of control_of
  control-made = refl

  pub link-made : link (packet_of k l i y s) ≡ l
  unfolding link
  link-made = omega (arith, control-made, right.extended)

  extended-made : extended (packet_of k l i y s) ≡ k.extended
  unfolding extended
  extended-made = omega (arith, control-made, right.extended)

  -- the segment and the circuit, without an extension byte and with one
  pub segment-made : segment_in (packet_of k l i y s) ≡ s
  unfolding segment_in lead packet_of extension_of
  segment-made = go (eqb k.extended 0) refl
    where
      go : (t : Bool) → eqb k.extended 0 ≡ t → drop (2 + extended (packet_of k l i y s)) (packet_of k l i y s) ≡ s
      go true e =
          let none : extended (packet_of k l i y s) ≡ 0 = extended-made ∙ eqb-true k.extended 0 e in
          rw (none, e)
      go false e =
          let one : extended (packet_of k l i y s) ≡ 1 = omega (arith, extended-made, right.extended, eqb-false k.extended 0 e) in
          rw (one, e)

  extension_made : cond (eqb k.extended 0) 0 (get_or (packet_of k l i y s) 2 0) ≡ k.extension
  unfolding packet_of extension_of
  extension_made = go (eqb k.extended 0) refl
    where
      go : (t : Bool) → eqb k.extended 0 ≡ t → cond t 0 (get_or (packet_of k l i y s) 2 0) ≡ k.extension
      go true e = sym (right.none (eqb-true k.extended 0 e))
      go false e = rw e

  pub circuit_in-made : circuit_in (packet_of k l i y s) ≡ k
  unfolding circuit_in address packet_of
  circuit_in-made = rw (extended-made, extension_made)

  -- it is not malformed
  pub malformed-made : 1 ≤ length s → length s ≤ 16 → malformed (packet_of k l i y s) ≡ false
  unfolding malformed
  malformed-made some most =
      let there : lead (packet_of k l i y s) < length (packet_of k l i y s) =
      omega (arith, length-segment (packet_of k l i y s), ap length segment-made) in
      let other : link (packet_of k l i y s) ≡ 3 → ⊥ = omega (arith, link-made) in
      rw (lt-leb _ _ there, address-made, segment-made, le-ltb 16 (length s) most, ne_eqb _ 3 other)

-- ---- a system packet, of enable bits e, code c and information v

module _ (e c : ℕ) (v : List ℕ) where
  -- its address is FF hex
  pub system-address : address (system_packet e c v) ≡ 0xff
  unfolding address system_packet
  system-address = refl

  module _ (e-le : e ≤ 15) where
    -- links 11, A4 and A5 not set
    system-link : link (system_packet e c v) ≡ 3
    unfolding link control_in system_packet
    system-link = omega arith

    system_bit : control_in (system_packet e c v) / 16 % 2 ≡ 0
    unfolding control_in system_packet
    system_bit = omega arith

    system-extended : extended (system_packet e c v) ≡ 0
    unfolding extended control_in system_packet
    system-extended = omega arith

    -- the descriptor, and the information behind it
    system-segment : segment_in (system_packet e c v) ≡ (16 * c + length v) ∷ v
    unfolding segment_in lead system_packet
    system-segment = rw system-extended

    system-information : information (system_packet e c v) ≡ v
    unfolding information
    system-information = rw system-segment

    system-descriptor : descriptor (system_packet e c v) ≡ 16 * c + length v
    unfolding descriptor
    system-descriptor = rw system-segment

    -- it is not malformed
    pub system-malformed : c ≤ 8 → length v ≤ 15 → malformed (system_packet e c v) ≡ false
    unfolding malformed malformed_system code
    system-malformed c-le short =
        let there : lead (system_packet e c v) < length (system_packet e c v) =
        omega (arith, length-segment (system_packet e c v), ap length system-segment) in
        let most : (16 * c + length v) / 16 ≤ 8 = omega arith in
        let same : (16 * c + length v) % 16 ≡ length v = omega arith in
        rw (lt-leb _ _ there, system-address, system-link, system_bit, system-descriptor, system-information, le-ltb 8 _ most, eq-eqb _ _ same)

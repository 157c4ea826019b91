-- A slot's next packet is what stands before the message's bytes in it, and a part of the message.
use Prim.Native.Nat.{ℕ, ◌+◌, ◌-◌, ◌≤◌}
use native.Mathlib.Omega.{arith}
use mathlib.Core.Bool.{true}
use mathlib.Core.List.{List, [], ◌∷◌, ◌++◌, append_assoc}
use mathlib.Core.Path.{◌≡◌, sym, ◌∙◌}
use borrow.Author.Tests.{eq-eqb, ne_eqb, ltb-true}
use lib.ListN.{length, take, drop, get_or, drop_of_length-le}
use lib.Seq.{drop-cons}
use Rattle.hdlc.specs.Leads.{led}
use Rattle.hdlc.proofs.Leads.{led_append}
use Rattle.packet.specs.declared.Circuit.{Circuit}
use Rattle.packet.specs.declared.Part.{Part}
use Rattle.packet.specs.Messages.{header, packets, part_of}
use Rattle.packet.specs.Packets.{extension_of, packet_of}
use Rattle.packet.proofs.Segments.{length-header, segment_part, part_of_le}
use Rattle.offering.specs.declared.Slot.{Slot}
use Rattle.offering.specs.Record.{pending}
use Rattle.writing.specs.PacketParts.{packet_at, control_at, address_at, header_at, lead_of, part_at}

-- the header: none in a later packet, and in a first one a byte or two
module _ (t : Slot) where
  pub header_at_later : (t.place ≡ 0 → ⊥) → [] ≡ header_at t
  unfolding header_at
  header_at_later n = rw (ne_eqb t.place 0 n)

  module _ (z : t.place ≡ 0) {len first : ℕ} (l : len ≡ length (header t.length)) (e : first ≡ get_or (header t.length) 0 0) where
    header_at_first : first ∷ drop 1 (header t.length) ≡ header_at t
    unfolding header_at
    header_at_first = rw (eq-eqb t.place 0 z, e) (sym (drop-cons (header t.length) 0 0 (omega (arith, length-header t.length))))

    pub header_at_one : len ≡ 1 → first ∷ [] ≡ header_at t
    header_at_one o = rw (drop_of_length-le (header t.length) {i = 1} (omega arith)) at header_at_first

    pub header_at_two : (len ≡ 1 → ⊥) → {second : ℕ} → second ≡ get_or (header t.length) 1 0 → first ∷ second ∷ [] ≡ header_at t
    header_at_two more e' =
        let two : length (header t.length) ≡ 2 = omega (arith, length-header t.length) in
        rw (drop-cons (header t.length) 1 0 (omega arith), drop_of_length-le (header t.length) {i = 2} (omega arith), ← e') at header_at_first

-- what stands before the message's bytes, without and with an extension
module _ (c : Circuit) (t : Slot) {k : ℕ} (e : k ≡ control_at c t) {h : List ℕ} (f : h ≡ header_at t) where
  pub lead_of-plain : c.extended ≡ 0 → c.address ∷ k ∷ h ≡ lead_of c t
  unfolding lead_of address_at extension_of
  lead_of-plain z = rw (eq-eqb c.extended 0 z, e, f)

  pub lead_of-extended : (c.extended ≡ 0 → ⊥) → c.address ∷ k ∷ c.extension ∷ h ≡ lead_of c t
  unfolding lead_of address_at extension_of
  lead_of-extended n = rw (ne_eqb c.extended 0 n, e, f)

-- the part of the message in the packet lies in the message
module _ (t : Slot) {part : Part} (p : part ≡ part_of t.length t.place) where
  pub part_within : pending t ≡ true → part.from + part.len ≤ t.length
  unfolding pending
  part_within h = rw p (part_of_le t.length t.place (ltb-true t.place (packets t.length) h))

  pub part_at_part : (m : List ℕ) → take (part.from + part.len - part.from) (drop part.from m) ≡ part_at t m
  unfolding part_at
  part_at_part m =
      let n : part.from + part.len - part.from ≡ part.len = omega arith in
      rw (n, p)

-- the packet is what stands before the message's bytes, and behind that the part of the message
packet_at-lead : (c : Circuit) (t : Slot) (m : List ℕ) → length m ≡ t.length → packet_at c t m ≡ lead_of c t ++ part_at t m
unfolding packet_at packet_of lead_of address_at header_at control_at part_at
packet_at-lead c t m e = rw (segment_part m t.place, e, append_assoc)

-- so it is the bytes of a number and that part
pub packet_at-led : (c : Circuit) (t : Slot) (m : List ℕ) (lead n : ℕ) {part : List ℕ} → length m ≡ t.length → led lead n [] ≡ lead_of c t
    → part ≡ part_at t m → led lead n part ≡ packet_at c t m
packet_at-led c t m lead n {part} l e p = led_append lead n part ∙ rw (e, p) (sym (packet_at-lead c t m l))

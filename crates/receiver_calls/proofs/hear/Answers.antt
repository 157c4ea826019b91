-- `receiver_calls::hear` meets its contract: the packet is heard test by test, and what it changes is written in place.
use Rattle.std.proofs.Common.{◌≡◌, Bool, true, false, cond, Option, None, Some, refl, sym, ap, ◌∙◌, rules, arith}
use Rattle.bits.proofs.Bits.{Bytes_each}
use Rattle.packet.specs.Stores.{Stores, stores}
use Rattle.notices.specs.declared.Notice.{Notice}
use Rattle.notices.specs.Heard.{heard_at, system_heard}
use Rattle.notices.specs.Stores.{stores_after_notice}
use Rattle.notices.proofs.Hearings.{number_slot, heard-malformed, heard-system, heard_elsewhere, heard_circuit}
use Rattle.receiver.proofs.ReadLaws.{before_hearing}
use Rattle.receiver_layout.specs.ReceiverBytes.{receiver_in}
use Rattle.receiver_calls.proofs.InPlace.{same_in_place, slot_in_place}
use Rattle.receiver_calls.proofs.ReadingLaws.{passed_by}
use Rattle.receiver_calls.proofs.hear.Goals as goal

-- what is known of a test whose answer is given by an Option
none_if : {A : Type 0} {o : Option A} (x : A) (b : Bool) → o ≡ cond b None (Some x) → ((y : A) → o ≡ Some y → ⊥) → b ≡ true
none_if x true e h = refl
none_if x false e h = absurd (h x e)

some_if : {A : Type 0} (x y : A) (b : Bool) → Some y ≡ cond b None (Some x) → (b ≡ false) × (y ≡ x)
some_if {A} x y true e = let no : ◌≡◌ {A = Option A} (Some y) None = e in (cc, cc)
some_if x y false e = (refl, cc)

pub returns-in_default : goal.returns-in_default
unfolding stores_after_notice
returns-in_default c =
    let a = c.args in
    let l : Stores = stores a.store.now a.given a.long.now in
    passed_by _ l _
    (heard-malformed a.given _ _ (receiver_in a.«record».now).circuits (none_if _ _ c.well_formed-2.ensures c.in_default.not-Some)) refl
    (sym (same_in_place _ c.requires.0 (Bytes_each a.«record».now (λ i. search rules)) c.requires.1)) refl

pub returns-then-address-eq255 : goal.returns-then-address-eq255
unfolding system_heard
returns-then-address-eq255 c =
    let a = c.args in
    let l : Stores = stores a.store.now a.given a.long.now in
    let (right, same) = some_if _ _ _ c.in-Some.ensures in
    let told = rw same at (c.hear_system.ensures (receiver_in a.«record».now).slots a.given a.long.now) in
    passed_by _ l _
    (heard-system a.given _ _ (receiver_in a.«record».now).circuits right (rw c.packet.ensures at (sym c.address.ensures ∙ c.if-address-eq255.true))) told.0
    (sym (same_in_place _ c.requires.0 (Bytes_each a.«record».now (λ i. search rules)) c.requires.1))
    (told.1 ∙ ap (λ (n : Notice). stores_after_notice n (receiver_in a.«record».now).slots a.packet.now l) told.0)

pub number_in-requires : goal.number_in-requires
unfolding receiver_in
number_in-requires c =
    let a = c.args in
    let l : Stores = stores a.store.now a.given a.long.now in
    (omega (arith, c.requires.0), (before_hearing (receiver_in a.«record».now) l a.packet.now c.requires.2).0)

pub returns-in_default-number_in : goal.returns-in_default-number_in
unfolding stores_after_notice receiver_in
returns-in_default-number_in c =
    let a = c.args in
    let l : Stores = stores a.store.now a.given a.long.now in
    let (right, same) = some_if _ _ _ c.in-Some.ensures in
    passed_by _ l _
    (heard_elsewhere a.given _ _ (receiver_in a.«record».now).circuits right (λ e. c.if-address-eq255.false (c.address.ensures ∙ rw c.packet.ensures e))
    (rw (c.circuit.ensures, c.packet-2.ensures) at (sym c.number_in.ensures ∙ c.in_default-number_in.is)))
    refl (sym (same_in_place _ c.requires.0 (Bytes_each a.«record».now (λ i. search rules)) c.requires.1)) refl

pub hear_circuit-requires : goal.hear_circuit-requires
unfolding receiver_in
hear_circuit-requires c =
    let a = c.args in
    let l : Stores = stores a.store.now a.given a.long.now in
    let (few, slots) = before_hearing (receiver_in a.«record».now) l a.packet.now c.requires.2 in
    let slot = number_slot a.given (receiver_in a.«record».now).circuits (receiver_in a.«record».now).slots slots few _ _
    (sym c.number_in.ensures ∙ c.in-Some-number_in.is) in
    (c.requires.0, c.requires.3, c.requires.4, slot.0, slot.1)

pub returns : goal.returns
unfolding heard_at receiver_in
returns c =
    let a = c.args in
    let l : Stores = stores a.store.now a.given a.long.now in
    let (right, same) = some_if _ _ _ c.in-Some.ensures in
    let (few, slots) = before_hearing (receiver_in a.«record».now) l a.packet.now c.requires.2 in
    let found = sym c.number_in.ensures ∙ c.in-Some-number_in.is in
    let slot = number_slot a.given (receiver_in a.«record».now).circuits (receiver_in a.«record».now).slots slots few _ _ found in
    let told = rw same at c.hear_circuit.ensures in
    passed_by _ l _
    (heard_circuit a.given _ _ (receiver_in a.«record».now).circuits right (λ e. c.if-address-eq255.false (c.address.ensures ∙ rw c.packet.ensures e)) _
    (rw (c.circuit.ensures, c.packet-2.ensures) at found))
    told.0
    (told.1 ∙ slot_in_place _ c.requires.0 (Bytes_each a.«record».now (λ i. search rules)) c.requires.1 _ slot.0 _)
    (told.2 ∙ ap (λ (n : Notice). stores_after_notice n (receiver_in a.«record».now).slots a.packet.now l) told.0)

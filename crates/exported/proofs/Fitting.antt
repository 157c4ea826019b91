-- Laws of what fits, for both ends' records: lists whose elements fit, the circuits that listing makes of bytes, and the bytes of numbers and circuits.
use Prim.Native.Nat.{ℕ, zero, suc, ◌/◌, ◌≤◌, ◌<◌}
use mathlib.Core.List.{List, [], ◌∷◌, ◌++◌}
use native.Mathlib.Omega.{arith}
use borrow.Author.Tests.{eqb-true}
use lib.ListN.{length, set, replicate, length-append, length-set}
use lib.Seq.{length-take-le}
use lib.Dec.{eqb}
use Rattle.bits.specs.Bits.{Bytes}
use Rattle.bits.proofs.Bits.{Bytes_append}
use Rattle.packet.specs.declared.Circuit.{Circuit}
use Rattle.packet.specs.declared.Circuits.{Circuits}
use Rattle.packet.specs.Circuits.{circuits_of, list_refusal, no_circuit, record_of, listing}
use Rattle.packet.specs.Lists.{AllAre}
use Rattle.packet.proofs.CircuitLists.{list_refusal-length}
use Rattle.packet.proofs.Lists.{AllAre_append, AllAre-take, AllAre-replicate, AllAre-set}
use Rattle.packet.proofs.Choices.{cond_either}
use Rattle.layout.specs.Layout.{low_bytes, circuit_bytes, circuits_bytes}
use Rattle.layout.specs.Fits.{Four, CircuitFits, CircuitsFit}
use Rattle.layout.proofs.Parts.{four_elements}

-- ---- lists, each element of which fits

module _ {A : Type 0} (Fits : A → Type 0) where
  -- an array of four stays one
  pub Four-set : (l : List A) (i : ℕ) (x : A) → Fits x → Four Fits l → Four Fits (set l i x)
  Four-set l i x h k = record { four = rw length-set k.four; each = AllAre-set Fits l i x h k.each }

-- ---- the circuits that listing makes of bytes

circuits_of_fit : (list : List ℕ) → Bytes list → AllAre CircuitFits (circuits_of list)
unfolding circuits_of AllAre Bytes
circuits_of_fit [] h = tt
circuits_of_fit (a ∷ []) h = tt
circuits_of_fit (a ∷ e ∷ []) h = tt
circuits_of_fit (a ∷ e ∷ x ∷ list) h =
    (record { address = h.0; extended = h.1.0; extension = h.1.1.0 }, circuits_of_fit list h.1.1.1)

record_of-fits : (cs : List Circuit) → length cs ≤ 4 → AllAre CircuitFits cs → CircuitsFit (record_of cs)
unfolding record_of no_circuit
record_of-fits cs few each =
    let empty : CircuitFits no_circuit = record { address = omega arith; extended = omega arith; extension = omega arith } in
    let enough : 4 ≤ length (cs ++ replicate 4 no_circuit) = rw length-append (omega arith) in
    record {
      count = omega arith;
      list =
          record {
            four = length-take-le 4 (cs ++ replicate 4 no_circuit) enough;
            each = AllAre-take CircuitFits 4 _ (AllAre_append CircuitFits cs _ each (AllAre-replicate CircuitFits 4 no_circuit empty));
          };
    }

pub listing-fits : (list : List ℕ) → Bytes list → CircuitsFit (listing list)
unfolding listing AllAre
listing-fits list are =
    cond_either CircuitsFit (eqb (list_refusal list) 0) _ _
    (λ e. record_of-fits (circuits_of list) (list_refusal-length list (eqb-true (list_refusal list) 0 e)).1 (circuits_of_fit list are))
    (λ _. record_of-fits [] (omega arith) tt)

-- ---- the bytes of numbers and of circuits

pub low_bytes-Bytes : (k n : ℕ) → Bytes (low_bytes k n)
unfolding Bytes low_bytes
low_bytes-Bytes zero n = tt
low_bytes-Bytes (suc k) n = (omega arith, low_bytes-Bytes k (n / 256))

circuit_Bytes : (c : Circuit) → CircuitFits c → Bytes (circuit_bytes c)
unfolding circuit_bytes Bytes
circuit_Bytes c fits = (fits.address, (fits.extended, (fits.extension, tt)))

counted_Bytes : (n : ℕ) (c : Circuit) → n < 256 → CircuitFits c → Bytes (n ∷ circuit_bytes c)
unfolding Bytes
counted_Bytes n c h fits = (h, circuit_Bytes c fits)

pub circuits_Bytes : (cs : Circuits) → CircuitsFit cs → Bytes (circuits_bytes cs)
unfolding circuits_bytes
circuits_Bytes cs fits =
    four_elements (λ l. Bytes (circuits_bytes (record { count = cs.count; list = l })))
    (λ a b c d fa fb fc fd.
    Bytes_append _ _ (Bytes_append _ _ (Bytes_append _ _ (counted_Bytes cs.count a fits.count fa) (circuit_Bytes b fb)) (circuit_Bytes c fc))
    (circuit_Bytes d fd))
    cs.list fits.list

-- Circuits and the rules of listing (document 01, "Circuits and records" and "Calls and their refusals").
use Rattle.std.specs.Prelude.{ℕ, Bool, false, cond, not, ◌&&◌, ◌||◌, List, [], ◌∷◌, ◌++◌, length, take, replicate, ltb, eqb, Option}
use Rattle.packet.specs.declared.Circuit.{Circuit}
use Rattle.packet.specs.declared.Circuits.{Circuits}
use Rattle.packet.specs.Lists.{any_of, first_from}

-- "A circuit list has one to four, numbered from 0, three bytes each: address, 1 or 0 for extension present, extension"
unfoldable pub circuits_of : List ℕ → List Circuit
circuits_of [] = []
circuits_of (a ∷ []) = []
circuits_of (a ∷ e ∷ []) = []
circuits_of (a ∷ e ∷ x ∷ rest) = record { address = a; extended = e; extension = x } ∷ circuits_of rest

-- "1 length not 3, 6, 9 or 12"
unfoldable pub wrong_length : ℕ → Bool
wrong_length n = not (eqb n 3 || eqb n 6 || eqb n 9 || eqb n 12)

-- "2 an address FF hex"
unfoldable pub address_ff : Circuit → Bool
address_ff c = eqb c.address 0xff

-- "3 a middle byte above 1, or 0 with an extension byte other than 0"
unfoldable pub wrong_extension : Circuit → Bool
wrong_extension c = ltb 1 c.extended || (eqb c.extended 0 && not (eqb c.extension 0))

-- "4 two circuits alike"
unfoldable pub alike : Circuit → Circuit → Bool
alike c d = eqb c.address d.address && eqb c.extended d.extended && eqb c.extension d.extension

unfoldable pub two_alike : List Circuit → Bool
two_alike [] = false
two_alike (c ∷ cs) = any_of (alike c) cs || two_alike cs

-- the refusal of circuits by 2, 3 or 4, the lowest that holds; 0 if none does
unfoldable pub circuits_refusal : List Circuit → ℕ
circuits_refusal cs = cond (any_of address_ff cs) 2 (cond (any_of wrong_extension cs) 3 (cond (two_alike cs) 4 0))

-- the refusal of a list's bytes; 0 if they are accepted
unfoldable pub list_refusal : List ℕ → ℕ
list_refusal bytes = cond (wrong_length (length bytes)) 1 (circuits_refusal (circuits_of bytes))

-- the circuits of a record
unfoldable pub listed : Circuits → List Circuit
listed cs = take cs.count cs.list

-- a place with no circuit in it
unfoldable pub no_circuit : Circuit
no_circuit = record { address = 0; extended = 0; extension = 0 }

-- the record's circuits, at most four, the places behind them empty
unfoldable pub record_of : List Circuit → Circuits
record_of cs = record { count = length cs; list = take 4 (cs ++ replicate 4 no_circuit) }

-- what listing returns: the list's circuits, and "a refusal returns a record of no circuits"
unfoldable pub listing : List ℕ → Circuits
listing bytes = cond (eqb (list_refusal bytes) 0) (record_of (circuits_of bytes)) (record_of [])

-- the number of the first of circuits that is this one, where the first has number n
unfoldable pub number_from : List Circuit → Circuit → ℕ → Option ℕ
number_from cs c n = first_from (λ d. alike d c) cs n

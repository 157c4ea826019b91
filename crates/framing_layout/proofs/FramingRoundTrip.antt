-- A framing and its 24 bytes: every framing's bytes are unpacked to it, all bytes are some framing's, and 24 zeros are the fresh one.
use mathlib.Core.Path.{◌≡◌, refl}
use Prim.Native.Nat.{ℕ, ◌≤◌}
use native.Mathlib.Omega.{arith}
use mathlib.Core.List.{List, ◌++◌}
use lib.ListN.{length, take, replicate}
use lib.Seq.{take_at}
use Rattle.framing.specs.declared.Framing.{Framing}
use Rattle.framing.specs.Machine.{empty, fresh}
use Rattle.layout.specs.Layout.{byte_at}
use Rattle.layout.proofs.Parts.{read_slice}
use Rattle.framing_layout.specs.FramingBytes.{framing_length, framing_bytes, framing_in}

pub framing_unpacks : (f : Framing) → length f.bits ≡ 21 → (rest : List ℕ) → framing_in (framing_bytes f ++ rest) 0 ≡ f
unfolding framing_in framing_bytes byte_at
framing_unpacks f long rest = λ i.
    record { phase = f.phase; ones = f.ones; count = f.count; bits = take_at f.bits rest 21 long i }

pub framing_packs : (bytes : List ℕ) → framing_length ≤ length bytes → framing_bytes (framing_in bytes 0) ≡ take framing_length bytes
unfolding framing_in framing_bytes
framing_packs bytes long = read_slice 3 bytes 0 24 (omega arith) long

pub length-framing_bytes : (f : Framing) → length f.bits ≡ 21 → length (framing_bytes f) ≡ framing_length
unfolding framing_bytes
length-framing_bytes f long = rw long

pub framing-fresh : framing_bytes fresh ≡ replicate 24 0
unfolding framing_bytes fresh empty
framing-fresh = refl

-- What is known where no refusal of a block call holds.
use mathlib.Core.Path.{◌≡◌, refl}
use Prim.Native.Nat.{ℕ, ◌*◌, ◌≤◌}
use native.Mathlib.Omega.{arith}
use mathlib.Core.Bool.{Bool, true, false, cond, not, ◌&&◌, ◌||◌}
use mathlib.Core.List.{List}
use lib.ListN.{length}
use lib.Dec.{ltb}
use borrow.Author.Tests.{ltb-false, not-false}
use Rattle.bits.proofs.Tests.{or_left, or_right}
use Rattle.offering.specs.declared.Sender.{Sender}
use Rattle.packet.specs.Stores.{Stores, long_short}
use Rattle.offering.specs.Record.{store_length, in_range, LongEnough}
use Rattle.sender.specs.Blocks.{System, wrong_size, short_buffer, wrong_system, block_refusal}
use Rattle.sender.specs.BlockCalls.{Allowed}

-- ---- an accepted call

-- no test holds if no number is given
none-holds : (a b c d e f : Bool) → ◌≡◌ {A = ℕ} (cond a 14 (cond b 5 (cond c 19 (cond d 11 (cond e 12 (cond f 13 0)))))) 0
    → (a ≡ false) × (b ≡ false) × (c ≡ false) × (d ≡ false) × (e ≡ false) × (f ≡ false)
none-holds true b c d e f h = absurd (omega arith)
none-holds false true c d e f h = absurd (omega arith)
none-holds false false true d e f h = absurd (omega arith)
none-holds false false false true e f h = absurd (omega arith)
none-holds false false false false true f h = absurd (omega arith)
none-holds false false false false false true h = absurd (omega arith)
none-holds false false false false false false h = (refl, refl, refl, refl, refl, refl)

-- a test that is made only if something is wanted
if-wanted : (w t : Bool) → (w && t) ≡ false → w ≡ true → t ≡ false
if-wanted true t h e = h
if-wanted false t h e = cc

-- what is known of a block call that is accepted
pub record Accepted (s : Sender) (store : Stores) (buffer : List ℕ) (n u : ℕ) (y : System) : Type 0 where
  pub record_in_range : in_range store.given s ≡ true
  pub long_enough : LongEnough store
  pub least : 256 ≤ u
  pub used : u ≤ n
  pub most : n ≤ 27000
  pub buffer_long : n ≤ 8 * length buffer
  pub allowed : y.wanted ≡ true → Allowed y.enable y.code y.information

pub accepted : (s : Sender) (store : Stores) (buffer : List ℕ) (n u : ℕ) (y : System) → block_refusal s store buffer n u y ≡ 0 → Accepted s store buffer n u y
unfolding block_refusal wrong_size short_buffer wrong_system
accepted s store buffer n u y e =
    let a = ltb n 256 in
    let b = ltb 27000 n in
    let c = ltb u 256 in
    let enable = ltb 15 y.enable in
    let code = ltb 8 y.code in
    let long = ltb 15 (length y.information) in
    let (range, store-short, buffer-short, sizes, short, system) =
    none-holds (not (in_range store.given s)) (ltb (length store.store) store_length) (long_short store) (wrong_size n u) (short_buffer buffer n) (wrong_system y) e in
    let sizes' = or_left (a || b || c) (ltb n u) sizes in
    record {
      record_in_range = not-false (in_range store.given s) range;
      long_enough = record { store = ltb-false (length store.store) store_length store-short; buffer = buffer-short };
      least = ltb-false u 256 (or_right (a || b) c sizes');
      used = ltb-false n u (or_right (a || b || c) (ltb n u) sizes);
      most = ltb-false 27000 n (or_right a b (or_left (a || b) c sizes'));
      buffer_long = ltb-false (8 * length buffer) n short;
      allowed =
          λ w.
          let none = if-wanted y.wanted (enable || code || long) system w in
          record {
            enable = ltb-false 15 y.enable (or_left enable code (or_left (enable || code) long none));
            code = ltb-false 8 y.code (or_right enable code (or_left (enable || code) long none));
            information = ltb-false 15 (length y.information) (or_right (enable || code) long none);
          };
    }

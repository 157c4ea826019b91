-- `receiver_calls::slots_in_range` meets its contract: all slots are in range if each is, and not if one is not.
use Rattle.std.proofs.Common.{◌≡◌, ◌+◌, ◌-◌, ◌*◌, ◌<◌, ◌≤◌, ◌&&◌, ℕ, List, [], ◌∷◌, Bool, true, false, zero, suc, refl, sym, zero-add, length, get_or, take, arith, rules}
use Rattle.std.proofs.lemmas.Iterator.{cases_from_all, YieldsList-from_range}
use Rattle.std.proofs.lemmas.List.FromFn.{length-range_with_len, get_or-range_with_len}
use Rattle.std.specs.Bool.{MatchBool}
use Rattle.std.specs.List.{range_with_len, AllWithin, HoldsAt}
use borrow.Author.Tests.{tests}
use Rattle.packet.specs.Stores.{longest_at}
use Rattle.notices.specs.declared.Slot.{Slot}
use Rattle.notices.specs.Slots.{slot_at, slot_in_range, slots_in_range}
use Rattle.receiver_layout.specs.ReceiverBytes.{slot_in, receiver_in}
use Rattle.receiver_calls.proofs.InPlace.{slot_there}
use Rattle.receiver_calls.proofs.slots_in_range.Goals as goal

-- the slots from circuit number d on
module _ (given : Bool) where
  each_in : (d : ℕ) (ts : List Slot) (n : ℕ) → n ≤ length ts
      → ((k c : ℕ) → k < n → c ≡ d + k → slot_in_range (longest_at given c) (slot_at ts k) ≡ true) → slots_in_range given d (take n ts) ≡ true
  unfolding slot_at slots_in_range
  each_in d ts zero h each = refl
  each_in d [] (suc n) h each = absurd (omega arith)
  each_in d (t ∷ ts) (suc n) h each =
      rw (each 0 d (omega arith) (omega arith), each_in (suc d) ts n (omega arith) (λ k c l e. each (suc k) c (omega arith) (omega arith)))

  one_out : (d : ℕ) (ts : List Slot) (n k c : ℕ) → n ≤ length ts → k < n → c ≡ d + k → slot_in_range (longest_at given c) (slot_at ts k) ≡ false
      → slots_in_range given d (take n ts) ≡ false
  unfolding slot_at slots_in_range
  one_out d ts zero k c h l e out = absurd (omega arith)
  one_out d [] (suc n) k c h l e out = absurd (omega arith)
  one_out d (t ∷ ts) (suc n) zero c h l e out = let same : c ≡ d = omega arith in rw (rw same at out)
  one_out d (t ∷ ts) (suc n) (suc k) c h l e out =
      rw (one_out (suc d) ts n k c (omega arith) (omega arith) (omega arith) out) (go (slot_in_range (longest_at given d) t))
    where
      go : (b : Bool) → (b && false) ≡ false
      go true = refl
      go false = refl

number : (n k : ℕ) → k < n → get_or (range_with_len 0 n) k 0 ≡ k
number n k l = omega (arith, get_or-range_with_len 0 n k 0 l)

-- what the closure answers of the slots' numbers tells of the slots
module _ (given : Bool) (bytes : List ℕ) where
  abbrev judge : ℕ → Bool
  judge i = slot_in_range (longest_at given i) (slot_in bytes (13 + 6 * i))

  judged : (n : ℕ) → n ≤ 4 → (r : Bool)
      → (let numbers = range_with_len 0 n in
      MatchBool r (AllWithin (λ i. judge i ≡ true) numbers 0 (length numbers)) ((k : ℕ) × (k < length numbers) × HoldsAt (λ i. judge i ≡ false) numbers k))
      → r ≡ slots_in_range given 0 (take n (receiver_in bytes).slots)
  unfolding receiver_in
  judged n few true h =
      sym (each_in given 0 (receiver_in bytes).slots n few
      (λ k c l e. rw (e, zero-add k, ← slot_there bytes k (omega arith)) (rw (number n k l) at (h k 0 (omega arith) (rw (length-range_with_len 0 n) l)))))
  judged n few false (k, l, out) =
      let less : k < n = rw (length-range_with_len 0 n) at l in
      sym (one_out given 0 (receiver_in bytes).slots n k k few less (omega arith) (rw (← slot_there bytes k (omega arith)) (rw (number n k less) at (out 0))))

pub returns : goal.returns
returns c =
    let n = c.args.count in
    let none_before : n - 0 ≡ n = omega arith in
    let right = judge c.args.given c.args.bytes.now in
    judged c.args.given c.args.bytes.now n c.requires.1 c.all.result
    (cases_from_all _ _ _ (λ i. right i ≡ true) (λ i. right i ≡ false) c.all.ensures.ran (YieldsList-from_range 0 n n refl none_before)
    (λ x q k. search (rules, tests)) (λ x q k. search (rules, tests)))

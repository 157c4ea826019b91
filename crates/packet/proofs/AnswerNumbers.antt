-- The answer that a number gives has that number; it accepts if the number is 0, and refuses alike with a value to give and with none.
use Rattle.std.proofs.Common.{◌≡◌, ℕ, ◌<◌, ◌≤◌, Bool, true, false, cond, refl, sym, eqb, Result, Ok, Err, is_ok, arith, eqb-true}
use borrow.Author.Tests.{eqb-false}
use Rattle.packet.specs.declared.Refusal.{Refusal}
use Rattle.packet.specs.Answers.{refusal_number, refusal_of, answer_number, answered, answer_of}

-- a refusal has the number that is sought, or one of those behind it has
number_here : (n m : ℕ) (r rest : Refusal) → refusal_number r ≡ m → m ≤ n → (m < n → refusal_number rest ≡ n)
    → refusal_number (cond (eqb n m) r rest) ≡ n
number_here n m r rest is least later = go (eqb n m) refl
  where
    go : (t : Bool) → eqb n m ≡ t → refusal_number (cond t r rest) ≡ n
    go true e = let same : n ≡ m = eqb-true n m e in omega arith
    go false e = let other : n ≡ m → ⊥ = eqb-false n m e in later (omega arith)

-- the refusal with a number has it
pub refusal_number-refusal_of : (n : ℕ) → 1 ≤ n → n ≤ 19 → refusal_number (refusal_of n) ≡ n
unfolding refusal_number refusal_of
refusal_number-refusal_of n some most =
    number_here n 1 _ _ refl some (λ h. number_here n 2 _ _ refl h (λ h. number_here n 3 _ _ refl h (λ h. number_here n 4 _ _ refl h
    (λ h. number_here n 5 _ _ refl h (λ h. number_here n 6 _ _ refl h (λ h. number_here n 7 _ _ refl h (λ h. number_here n 8 _ _ refl h
    (λ h. number_here n 9 _ _ refl h (λ h. number_here n 10 _ _ refl h (λ h. number_here n 11 _ _ refl h (λ h. number_here n 12 _ _ refl h
    (λ h. number_here n 13 _ _ refl h (λ h. number_here n 14 _ _ refl h (λ h. number_here n 15 _ _ refl h (λ h. number_here n 16 _ _ refl h
    (λ h. number_here n 17 _ _ refl h (λ h. number_here n 18 _ _ refl h (λ h. omega arith))))))))))))))))))

-- an answer's number is the number that gives it
pub answer_number-answered : {A : Type 0} (n : ℕ) (a : A) → n ≤ 19 → answer_number (answered n a) ≡ n
unfolding answer_number answered
answer_number-answered {A} n a most = go (eqb n 0) refl
  where
    go : (t : Bool) → eqb n 0 ≡ t → answer_number {A = A} (cond t (Ok a) (Err (refusal_of n))) ≡ n
    go true e = sym (eqb-true n 0 e)
    go false e = let some : n ≡ 0 → ⊥ = eqb-false n 0 e in refusal_number-refusal_of n (omega arith) most

pub answer_number-answer_of : (n : ℕ) → n ≤ 19 → answer_number (answer_of n) ≡ n
unfolding answer_of
answer_number-answer_of n most = answer_number-answered n tt most

-- the number of an answer that accepts
pub answer_of-Ok : (n : ℕ) (u : Unit {0}) → answer_of n ≡ Ok u → n ≡ 0
unfolding answer_of answered
answer_of-Ok n u = go (eqb n 0) refl
  where
    go : (t : Bool) → eqb n 0 ≡ t → ◌≡◌ {A = Result (Unit {0}) Refusal} (cond t (Ok tt) (Err (refusal_of n))) (Ok u) → n ≡ 0
    go true e h = eqb-true n 0 e
    go false e h = cc

-- a refusal is the same with a value to give and with none
pub answered-Err : {A : Type 0} (n : ℕ) (a : A) (r : Refusal) → answer_of n ≡ Err r → answered n a ≡ Err r
unfolding answer_of answered
answered-Err {A} n a r = go (eqb n 0)
  where
    go : (t : Bool) → ◌≡◌ {A = Result (Unit {0}) Refusal} (cond t (Ok tt) (Err (refusal_of n))) (Err r)
        → ◌≡◌ {A = Result A Refusal} (cond t (Ok a) (Err (refusal_of n))) (Err r)
    go true h = cc
    go false h = cc

-- whether an answer accepts, told by its number
pub is_ok-answer_of : (n : ℕ) → is_ok (answer_of n) ≡ eqb n 0
unfolding answer_of answered
is_ok-answer_of n = go (eqb n 0)
  where
    go : (t : Bool) → is_ok {T = Unit {0}} {E = Refusal} (cond t (Ok tt) (Err (refusal_of n))) ≡ t
    go true = refl
    go false = refl

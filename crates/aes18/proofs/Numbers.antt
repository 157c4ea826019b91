-- The number of a call's answer is the number of its refusal: no refusal has a number above 19.
use mathlib.Core.Path.{◌≡◌, refl, sym, ap, ◌∙◌}
use Prim.Native.Nat.{ℕ, ◌≤◌}
use native.Mathlib.Omega.{arith}
use mathlib.Core.Bool.{Bool, true, false, cond}
use mathlib.Core.List.{List}
use lib.ListN.{length}
use lib.Dec.{eqb}
use Rattle.std.specs.Prelude.{Result, Ok, Err}
use Rattle.packet.specs.declared.Refusal.{Refusal}
use Rattle.packet.specs.Answers.{refusal_number, refusal_of, answer_number, answered, answer_of}
use Rattle.packet.specs.Circuits.{circuits_refusal, list_refusal}
use Rattle.packet.specs.Stores.{Stores}
use Rattle.packet.proofs.AnswerNumbers.{answer_number-answer_of, answer_number-answered}
use Rattle.offering.specs.declared.Sender.{Sender}
use Rattle.offering.specs.Offering.{offer_refusal, long_refusal}
use Rattle.sender.specs.Blocks.{System, block_refusal}
use Rattle.receiver.specs.declared.Receiver.{Receiver}
use Rattle.receiver.specs.Reading.{read_refusal}
use Rattle.receiver.proofs.ReadLaws.{told_by, read_refusal-most}
use Rattle.framing.specs.declared.Framing.{Framing}
use Rattle.framing_layout.specs.Reading.{framing_refusal}
use Rattle.serial.specs.Octets.{line_frame}
use Rattle.serial.specs.Writing.{write_refusal, write_answer}

-- the number of an answer that a number of at most 19 gives
number : {n k : ℕ} {a : Result (Unit {0}) Refusal} → n ≤ 19 → k ≡ answer_number a → a ≡ answer_of n → k ≡ n
number {n} most e f = e ∙ ap (λ (a : Result (Unit {0}) Refusal). answer_number a) f ∙ answer_number-answer_of n most

-- a choice of two numbers
choice : (t : Bool) (a b : ℕ) → a ≤ 19 → b ≤ 19 → cond t a b ≤ 19
choice true a b h k = h
choice false a b h k = k

pub number_listed : (list : List ℕ) (k : ℕ) (a : Result (Unit {0}) Refusal) → k ≡ answer_number a → a ≡ answer_of (list_refusal list)
    → k ≡ list_refusal list
unfolding list_refusal circuits_refusal
number_listed list k a =
    number (choice _ 1 _ (omega arith) (choice _ 2 _ (omega arith) (choice _ 3 _ (omega arith) (choice _ 4 0 (omega arith) (omega arith)))))

pub number_offered : (s : Sender) (l : Stores) (c p r : ℕ) (m : List ℕ) (k : ℕ) (a : Result (Unit {0}) Refusal) → k ≡ answer_number a
    → a ≡ answer_of (offer_refusal s l c p r m) → k ≡ offer_refusal s l c p r m
unfolding offer_refusal
number_offered s l c p r m k a =
    number (choice _ 14 _ (omega arith) (choice _ 5 _ (omega arith) (choice _ 19 _ (omega arith) (choice _ 6 _ (omega arith) (choice _ 7 _ (omega arith) (choice _ 8 _ (omega arith) (choice _ 9 _ (omega arith) (choice _ 10 0 (omega arith) (omega arith)))))))))

pub number_offered_long : (s : Sender) (l : Stores) (p r : ℕ) (m : List ℕ) (k : ℕ) (a : Result (Unit {0}) Refusal) → k ≡ answer_number a
    → a ≡ answer_of (long_refusal s l p r m) → k ≡ long_refusal s l p r m
unfolding long_refusal
number_offered_long s l p r m k a =
    number (choice _ 14 _ (omega arith) (choice _ 5 _ (omega arith) (choice _ 19 _ (omega arith) (choice _ 6 _ (omega arith) (choice _ 7 _ (omega arith) (choice _ 8 _ (omega arith) (choice _ 18 _ (omega arith) (choice _ 10 0 (omega arith) (omega arith)))))))))

pub number_blocked : (s : Sender) (l : Stores) (buffer : List ℕ) (n u : ℕ) (y : System) (k : ℕ) (a : Result (Unit {0}) Refusal) → k ≡ answer_number a
    → a ≡ answer_of (block_refusal s l buffer n u y) → k ≡ block_refusal s l buffer n u y
unfolding block_refusal
number_blocked s l buffer n u y k a =
    number (choice _ 14 _ (omega arith) (choice _ 5 _ (omega arith) (choice _ 19 _ (omega arith) (choice _ 11 _ (omega arith) (choice _ 12 _ (omega arith) (choice _ 13 0 (omega arith) (omega arith)))))))

pub number_read : (r : Receiver) (l : Stores) (bytes : List ℕ) (from to k : ℕ) (a : Result (Unit {0}) Refusal) → k ≡ answer_number a
    → a ≡ answer_of (read_refusal r l bytes from to) → k ≡ read_refusal r l bytes from to
number_read r l bytes from to k a = number (read_refusal-most r l bytes from to)

pub number_framed : (f : Framing) (bits : List ℕ) (from to k : ℕ) (a : Result (Unit {0}) Refusal) → k ≡ answer_number a
    → a ≡ answer_of (framing_refusal f bits from to) → k ≡ framing_refusal f bits from to
unfolding framing_refusal
number_framed f bits from to k a = number (choice _ 14 _ (omega arith) (choice _ 15 0 (omega arith) (omega arith)))

-- the number that makes an answer refuse
some : (n k : ℕ) (r : Refusal) → answered n k ≡ Err r → eqb n 0 ≡ false
unfolding answered
some n k r = go (eqb n 0)
  where
    go : (t : Bool) → ◌≡◌ {A = Result ℕ Refusal} (cond t (Ok k) (Err (refusal_of n))) (Err r) → t ≡ false
    go true h = cc
    go false h = refl

-- a frame that is written, or refused
pub frame_written : (packet line : List ℕ) (n : ℕ) (a : Result ℕ Refusal) → a ≡ write_answer packet line → a ≡ Ok n
    → (write_refusal packet line ≡ 0) × (n ≡ length (line_frame packet))
unfolding write_answer
frame_written packet line n a e f = told_by (write_refusal packet line) _ n (sym f ∙ e)

pub frame_refused : (packet line : List ℕ) (r : Refusal) (a : Result ℕ Refusal) → a ≡ write_answer packet line → a ≡ Err r
    → (refusal_number r ≡ write_refusal packet line) × (eqb (write_refusal packet line) 0 ≡ false)
unfolding write_answer write_refusal answer_number
frame_refused packet line r a e f = (
  ap (λ (a : Result ℕ Refusal). answer_number a) (sym f ∙ e)
      ∙ answer_number-answered (write_refusal packet line) _ (choice _ _ 17 (choice _ 0 16 (omega arith) (omega arith)) (omega arith)),
  some (write_refusal packet line) _ r (sym e ∙ f),
)

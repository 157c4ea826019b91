-- What a call answers: it accepts, with a value where it has one to give, or it refuses by one of the documents' numbers, for which 0 stands
-- for acceptance.
use Rattle.std.specs.Prelude.{ℕ, cond, eqb, Result, Ok, Err}
use Rattle.packet.specs.declared.Refusal.{Refusal}
use Rattle.packet.specs.declared.Refusal.TheVariants.{
  ListLength,
  AddressFF,
  WrongExtension,
  TwoAlike,
  ShortStore,
  NoSuchCircuit,
  PriorityTooHigh,
  RepetitionTooHigh,
  MessageTooLong,
  Pending,
  WrongSize,
  ShortBuffer,
  WrongSystem,
  OutOfRange,
  WrongStretch,
  ShortOutput,
  WrongPacket,
  LongLength,
  ShortLong,
}

-- the number of a refusal: 1 to 15 of document 01, "Calls and their refusals"; 16 and 17 of document 02, ask 3; 18 and 19 of its ask 7
unfoldable pub refusal_number : Refusal → ℕ
refusal_number ListLength = 1
refusal_number AddressFF = 2
refusal_number WrongExtension = 3
refusal_number TwoAlike = 4
refusal_number ShortStore = 5
refusal_number NoSuchCircuit = 6
refusal_number PriorityTooHigh = 7
refusal_number RepetitionTooHigh = 8
refusal_number MessageTooLong = 9
refusal_number Pending = 10
refusal_number WrongSize = 11
refusal_number ShortBuffer = 12
refusal_number WrongSystem = 13
refusal_number OutOfRange = 14
refusal_number WrongStretch = 15
refusal_number ShortOutput = 16
refusal_number WrongPacket = 17
refusal_number LongLength = 18
refusal_number ShortLong = 19

-- the refusal with a number
unfoldable pub refusal_of : ℕ → Refusal
refusal_of n =
    cond (eqb n 1) ListLength (cond (eqb n 2) AddressFF (cond (eqb n 3) WrongExtension (cond (eqb n 4) TwoAlike (cond (eqb n 5) ShortStore
    (cond (eqb n 6) NoSuchCircuit (cond (eqb n 7) PriorityTooHigh (cond (eqb n 8) RepetitionTooHigh (cond (eqb n 9) MessageTooLong
    (cond (eqb n 10) Pending (cond (eqb n 11) WrongSize (cond (eqb n 12) ShortBuffer (cond (eqb n 13) WrongSystem (cond (eqb n 14) OutOfRange
    (cond (eqb n 15) WrongStretch (cond (eqb n 16) ShortOutput (cond (eqb n 17) WrongPacket (cond (eqb n 18) LongLength ShortLong)))))))))))))))))

-- the number of an answer
unfoldable pub answer_number : {A : Type 0} → Result A Refusal → ℕ
answer_number (Ok a) = 0
answer_number (Err r) = refusal_number r

-- the answer with a value that a refusal's number gives, 0 if the call accepts
unfoldable pub answered : {A : Type 0} → ℕ → A → Result A Refusal
answered n a = cond (eqb n 0) (Ok a) (Err (refusal_of n))

-- the answer that has no value to give
unfoldable pub answer_of : ℕ → Result (Unit {0}) Refusal
answer_of n = answered n tt

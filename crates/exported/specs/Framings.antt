-- Lists of exported calls that read with a framing alone, told by what they answer and leave in the bytes lent to them. From 24 zeros on: `framings_carried`
-- says that they give what the declared bodies give in the bits that they read, `framing_gives_first` that each stops at the first body that gives something,
-- and `framing_never_14` that none is refused for its framing.
use Rattle.std.specs.Prelude.{ℕ, ◌+◌, ◌^◌, ◌≤◌, ◌<◌, Bool, cond, List, [], ◌∷◌, ◌++◌, map, ◌≡◌, take, drop, eqb}
use Rattle.bits.specs.Bits.{bits_of}
use Rattle.hdlc.specs.Bodies.{Body, Judged, passes, spoilt, bodies, judge}
use Rattle.framing.specs.Closings.{not_nothing}
use Rattle.layout.specs.Layout.{byte_at, number_at}
use Rattle.aes18.specs.FramingCalls.{framing_read_answered, framing_read_record, framing_read_packet, framing_read_answer}

-- a call: the bytes of bits, the numbers from and to, and the bytes lent for the packet and for the answer
pub record LentFramingRead : Type 0 where
  pub bits : List ℕ
  pub from : ℕ
  pub to : ℕ
  pub packet : List ℕ
  pub answer : List ℕ

-- `to` is a number of 64 bits, as in every call
abbrev pub ToFits : LentFramingRead → Type 0
ToFits c = c.to < 2 ^ 64

-- the number answered, and what is left of the framing's bytes, of those for the packet and of the answer
unfoldable pub number_answered : List ℕ → LentFramingRead → ℕ
number_answered bytes c = framing_read_answered bytes c.bits c.from c.to c.packet c.answer

unfoldable pub framing_left : List ℕ → LentFramingRead → List ℕ
framing_left bytes c = framing_read_record bytes c.bits c.from c.to c.packet c.answer

unfoldable pub packet_left : List ℕ → LentFramingRead → List ℕ
packet_left bytes c = framing_read_packet bytes c.bits c.from c.to c.packet c.answer

unfoldable pub answer_left : List ℕ → LentFramingRead → List ℕ
answer_left bytes c = framing_read_answer bytes c.bits c.from c.to c.packet c.answer

-- what a call gives, one body or none, and the bits that it reads: as its answer tells, where the number answered is 0
unfoldable pub body_told : List ℕ → List ℕ → List Judged
body_told answer packet =
    cond (eqb (byte_at answer 0) 2) (passes (take (byte_at answer 1) packet) ∷ []) (cond (eqb (byte_at answer 0) 1) (spoilt ∷ []) [])

unfoldable pub body_given : List ℕ → LentFramingRead → List Judged
body_given bytes c = cond (eqb (number_answered bytes c) 0) (body_told (answer_left bytes c) (packet_left bytes c)) []

unfoldable pub bits_taken : List ℕ → LentFramingRead → List Bool
bits_taken bytes c = cond (eqb (number_answered bytes c) 0) (take (number_at 8 (answer_left bytes c) 8) (drop c.from (bits_of c.bits))) []

-- of lists of calls, from a framing's bytes on: what they give, the bits that they read, the numbers answered, and the framing's bytes then
unfoldable pub lent_bodies : List ℕ → List LentFramingRead → List Judged
lent_bodies bytes [] = []
lent_bodies bytes (c ∷ cs) = body_given bytes c ++ lent_bodies (framing_left bytes c) cs

unfoldable pub lent_bits : List ℕ → List LentFramingRead → List Bool
lent_bits bytes [] = []
lent_bits bytes (c ∷ cs) = bits_taken bytes c ++ lent_bits (framing_left bytes c) cs

unfoldable pub lent_numbers : List ℕ → List LentFramingRead → List ℕ
lent_numbers bytes [] = []
lent_numbers bytes (c ∷ cs) = number_answered bytes c ∷ lent_numbers (framing_left bytes c) cs

unfoldable pub framing_then : List ℕ → List LentFramingRead → List ℕ
framing_then bytes [] = bytes
framing_then bytes (c ∷ cs) = framing_then (framing_left bytes c) cs

-- ---- by the declared bodies

-- what the bodies in bits give, without those that give nothing
unfoldable pub given_in : List Bool → List Judged
given_in bits = not_nothing (map (λ (b : Body). judge b.bits) (bodies bits))

-- what they give of all bits that the calls before read, and of the first j bits that are lent to this call from its `from` on
unfoldable pub given_up_to : List ℕ → List LentFramingRead → LentFramingRead → ℕ → List Judged
given_up_to bytes calls c j = given_in (lent_bits bytes calls ++ take j (drop c.from (bits_of c.bits)))

-- a call that reads k bits stops at the first body that gives something: fewer bits give nothing more than none of them, all k give what the call gives and
-- nothing else; where it gives nothing, k bits are all up to `to`
pub record GivesFirst (bytes : List ℕ) (calls : List LentFramingRead) (c : LentFramingRead) (k : ℕ) : Type 0 where
  pub within : c.from + k ≤ c.to
  pub fewer : (j : ℕ) → j < k → given_up_to bytes calls c j ≡ given_up_to bytes calls c 0
  pub all : given_up_to bytes calls c k ≡ given_up_to bytes calls c 0 ++ body_given (framing_then bytes calls) c
  pub at_end : body_given (framing_then bytes calls) c ≡ [] → c.from + k ≡ c.to

-- Lists of reading calls, on the record and stores as the calls' contracts say: "Records and stores go from call to call" (document 01, "What demand 3
-- counts"), and what they take and tell; and what the bodies in the bits that they take tell. "From its listing on, an end has this buffer, the same one, in all
-- its calls or in none" (document 02, ask 7): it goes from call to call with the store.
use Rattle.std.specs.Prelude.{ℕ, Bool, true, false, cond, List, [], ◌∷◌, ◌++◌, Result, Ok, Err, map, take, drop}
use Rattle.bits.specs.Bits.{bits_of}
use Rattle.hdlc.specs.Bodies.{Body, Judged, passes, spoilt, nothing, judge}
use Rattle.packet.specs.declared.Refusal.{Refusal}
use Rattle.packet.specs.Circuits.{listing}
use Rattle.packet.specs.Stores.{Stores}
use Rattle.notices.specs.declared.Notice.{Notice}
use Rattle.notices.specs.declared.Notice.TheVariants.{End, Spoilt, Malformed, System, Elsewhere, Circuit}
use Rattle.receiver.specs.declared.Receiver.{Receiver}
use Rattle.receiver.specs.Record.{fresh}
use Rattle.receiver.specs.Reading.{Noticed, passed, receiver_after_read, stores_after_read, bits_read, answer_to_read}

-- a reading call: the bytes lent, the bit from which it reads, and the one at which it ends
pub record ReadCall : Type 0 where
  pub bytes : List ℕ
  pub from : ℕ
  pub to : ℕ

-- the receiver's state between two calls
pub record ReceiverEnd : Type 0 where
  pub receiver : Receiver
  pub store : Stores

-- "A fresh .. receiver is the record that an accepted listing returned"; "a store holds any bytes at first", and so does a long buffer
abbrev pub fresh_receiver_end : List ℕ → Stores → ReceiverEnd
fresh_receiver_end list l = record { receiver = fresh (listing list); store = l }

-- the state after a call
unfoldable pub after_read : ReceiverEnd → ReadCall → ReceiverEnd
after_read e c =
    record {
      receiver = receiver_after_read e.receiver e.store c.bytes c.from c.to;
      store = stores_after_read e.receiver e.store c.bytes c.from c.to;
    }

unfoldable pub after_reads : ReceiverEnd → List ReadCall → ReceiverEnd
after_reads e [] = e
after_reads e (c ∷ cs) = after_reads (after_read e c) cs

-- "A call reads from its from bit on, as many as it answers"; a refused one reads none
unfoldable pub bits_of_read : ReceiverEnd → ReadCall → List Bool
bits_of_read e c = take (bits_read e.receiver e.store c.bytes c.from c.to) (drop c.from (bits_of c.bytes))

-- "what the accepted ones read, joined in order"
unfoldable pub bits_of_reads : ReceiverEnd → List ReadCall → List Bool
bits_of_reads e [] = []
bits_of_reads e (c ∷ cs) = bits_of_read e c ++ bits_of_reads (after_read e c) cs

-- a notice, and the stores "when its reading call returned"
pub record Report : Type 0 where
  pub notice : Notice
  pub store : Stores

-- what an answer tells, with the stores then; a refusal tells nothing
unfoldable pub report_of : Result Notice Refusal → Stores → List Report
report_of (Ok notice) l = record { notice = notice; store = l } ∷ []
report_of (Err r) l = []

-- what a call tells
unfoldable pub told : ReceiverEnd → ReadCall → List Report
told e c =
    report_of (answer_to_read e.receiver e.store c.bytes c.from c.to)
    (stores_after_read e.receiver e.store c.bytes c.from c.to)

unfoldable pub told_by_reads : ReceiverEnd → List ReadCall → List Report
told_by_reads e [] = []
told_by_reads e (c ∷ cs) = told e c ++ told_by_reads (after_read e c) cs

-- ---- what the bodies in bits tell

-- "Each body that passes gives one notice; one that does not, and unstuffs to 32 bits or more, gives Spoilt. Others, void ones too, give none":
-- of what the bodies give, one after another
unfoldable pub told_by_judged : Receiver → Stores → List Judged → List Report
told_by_judged r l [] = []
told_by_judged r l (passes packet ∷ js) =
    let h : Noticed = passed r l packet in
    record { notice = h.notice; store = h.store } ∷ told_by_judged h.receiver h.store js
told_by_judged r l (spoilt ∷ js) = record { notice = Spoilt; store = l } ∷ told_by_judged r l js
told_by_judged r l (nothing ∷ js) = told_by_judged r l js

unfoldable pub told_by_bodies : Receiver → Stores → List Body → List Report
told_by_bodies r l bs = told_by_judged r l (map (λ (b : Body). judge b.bits) bs)

-- the notice is End
unfoldable pub is_end : Notice → Bool
is_end End = true
is_end Spoilt = false
is_end Malformed = false
is_end (System enable code length) = false
is_end Elsewhere = false
is_end (Circuit c loss fate) = false

-- what is told but End
unfoldable pub not_end : List Report → List Report
not_end [] = []
not_end (t ∷ ts) = cond (is_end t.notice) (not_end ts) (t ∷ not_end ts)

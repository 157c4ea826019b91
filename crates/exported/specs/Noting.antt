-- A record of pass totals in bytes, kept "beside the receiver" and "brought up to date with each notice" (document 02, ask 1): the answer of each exported
-- reading call is noted there where the call answers 0. `totals_carried` says that these bytes are then the record over all notices that the documents'
-- calls tell.
use Rattle.std.specs.Prelude.{ℕ, cond, List, [], ◌∷◌, eqb}
use Rattle.aes18.specs.ReceiverCalls.{read_answered, read_answer}
use Rattle.aes18.specs.TotalsCalls.{note_record}
use Rattle.exported.specs.Lent.{Lent, LentRead, after_lent_read}

-- the record after a reading call
unfoldable pub noted_read : Lent → LentRead → List ℕ → List ℕ
noted_read e c totals =
    cond (eqb (read_answered e.bytes e.store c.call.bytes c.call.from c.call.to c.answer) 0)
    (note_record totals (read_answer e.bytes e.store c.call.bytes c.call.from c.call.to c.answer)) totals

unfoldable pub noted_reads : Lent → List LentRead → List ℕ → List ℕ
noted_reads e [] totals = totals
noted_reads e (c ∷ cs) totals = noted_reads (after_lent_read e c) cs (noted_read e c totals)

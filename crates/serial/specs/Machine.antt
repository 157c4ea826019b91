-- The reader's machine: what is kept between two bytes of a line, so that it may be cut at any byte. `inside` says that a flag is read, `escape` that an escape
-- is read behind it and the byte that it escapes is not, `count` how many bytes stand behind the last flag, escapes taken away, or is 22 for more than 21;
-- `bytes` holds these, and is 0 where there is none. Every other value of the record is taken too: any count above 21 says that there are more.
use Rattle.std.specs.Prelude.{ℕ, suc, Option, None, Some, unwrap_or, ◌+◌, ◌-◌, Bool, true, false, cond, not, ◌&&◌, List, [], ◌∷◌, ◌++◌, take, replicate, set, leb, ltb}
use Rattle.serial.specs.declared.Line.{Line}
use Rattle.serial.specs.declared.Reading.{Reading}
use Rattle.serial.specs.Octets.{is_flag, is_escape, toggled}
use Rattle.serial.specs.Frames.{passing}

-- before the first byte
unfoldable pub fresh : Line
fresh = record { inside = false; escape = false; count = 0; bytes = replicate 21 0 }

-- behind a flag
unfoldable pub opened : Line
opened = record { inside = true; escape = false; count = 0; bytes = replicate 21 0 }

-- one more byte of a frame; more than 21 are not kept
unfoldable pub keep : Line → ℕ → Line
keep l b =
    cond (ltb l.count 21)
    (record { inside = true; escape = false; count = l.count + 1; bytes = set l.bytes l.count b })
    (record { inside = true; escape = false; count = 22; bytes = replicate 21 0 })

-- a byte behind a flag that is none itself
unfoldable pub taken : Line → ℕ → Line
taken l b =
    cond l.escape (keep l (toggled b))
    (cond (is_escape b) (record { inside = true; escape = true; count = l.count; bytes = l.bytes }) (keep l b))

-- the record after one more byte
unfoldable pub step : Line → ℕ → Line
step l b = cond (is_flag b) opened (cond l.inside (taken l b) l)

-- a flag now ends a frame that is not dropped
unfoldable pub passes : Line → Bool
passes l = l.inside && not l.escape && leb l.count 21 && passing (take l.count l.bytes)

-- ---- a reading call

-- the end of the bytes: all n are read, and there is no packet
unfoldable pub ended : Line → ℕ → Reading
ended l n = record { line = l; read = n; packet = None; frame = replicate 21 0 }

-- a flag, the last of n bytes read, gives a packet: it has so many bytes and begins `frame`
unfoldable pub stopped : Line → ℕ → Reading
stopped l n = record { line = opened; read = n; packet = Some (l.count - 2); frame = l.bytes }

-- bytes read, when n are read already, up to the flag that gives a packet
unfoldable pub read_on : Line → ℕ → List ℕ → Reading
read_on l n [] = ended l n
read_on l n (b ∷ bs) = cond (is_flag b && passes l) (stopped l (suc n)) (read_on (step l b) (suc n) bs)

unfoldable pub reading : Line → List ℕ → Reading
reading l bs = read_on l 0 bs

-- the packet that an answer has, one or none
unfoldable pub packet_of : Option ℕ → List ℕ → List (List ℕ)
packet_of None frame = []
packet_of (Some n) frame = take n frame ∷ []

unfoldable pub packet_given : Reading → List (List ℕ)
packet_given r = packet_of r.packet r.frame

-- its length, 0 where there is none
unfoldable pub length_given : Reading → ℕ
length_given r = unwrap_or r.packet 0

-- ---- lists of reading calls, each lent some bytes, from one record on

-- the packets that they give
unfoldable pub packets_read : Line → List (List ℕ) → List (List ℕ)
packets_read l [] = []
packets_read l (bs ∷ calls) = let r = reading l bs in packet_given r ++ packets_read r.line calls

-- the bytes that they read, joined
unfoldable pub bytes_read : Line → List (List ℕ) → List ℕ
bytes_read l [] = []
bytes_read l (bs ∷ calls) = let r = reading l bs in take r.read bs ++ bytes_read r.line calls

-- the record that they leave
unfoldable pub line_after : Line → List (List ℕ) → Line
line_after l [] = l
line_after l (bs ∷ calls) = line_after (reading l bs).line calls

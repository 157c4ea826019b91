-- The cases marked [P], as one table: "Marked [P], proved together as one table of cases" (document 01, "The joints to inspect").
-- Each field is one case, an equation over the definitions that the contracts cite; bits stand in the order in which they are sent.
-- A case about flags is stated of the declared flags and bodies, and again of the machine that the code follows.
use Rattle.std.specs.Prelude.{ℕ, Bool, true, false, List, [], ◌∷◌, ◌≡◌, length, replicate}
use Rattle.bits.specs.Bits.{byte_bits, bits_of}
use Rattle.fcs.specs.Fcs.{fcs_of, low_first}
use Rattle.hdlc.specs.Stuffing.{stuff}
use Rattle.hdlc.specs.Bodies.{flags, bodies}
use Rattle.packet.specs.Messages.{packets, link_of}
use Rattle.packet.specs.Packets.{control}
use Rattle.framing.specs.Machine.{empty, fresh, run}
use Rattle.framing.specs.Closings.{closings}
use Rattle.notices.specs.declared.Slot.{Slot}
use Rattle.notices.specs.declared.Fate.TheVariants.{Copy}
use Rattle.notices.specs.Fates.{loss_of, fate_of}

-- 011111101111110: two flags that share their 0
abbrev pub shared_zero : List Bool
shared_zero =
    false ∷ true ∷ true ∷ true ∷ true ∷ true ∷ true ∷
    false ∷ true ∷ true ∷ true ∷ true ∷ true ∷ true ∷ false ∷ []

-- 1111110: a flag but for its first 0
abbrev pub no_first_zero : List Bool
no_first_zero = true ∷ true ∷ true ∷ true ∷ true ∷ true ∷ false ∷ []

-- 31 32 33 34 35 36 37 38 39 hex: the digits 1 to 9
abbrev pub digits : List ℕ
digits = 0x31 ∷ 0x32 ∷ 0x33 ∷ 0x34 ∷ 0x35 ∷ 0x36 ∷ 0x37 ∷ 0x38 ∷ 0x39 ∷ []

-- a circuit whose last packet had this index, and a first packet of an empty message with this index
abbrev pub last_was : ℕ → Slot
last_was n = record { seen = true; last = n; length = 0; place = 0 }

abbrev pub now_is : ℕ → List ℕ
now_is n = 0x01 ∷ control 2 0 n 0 ∷ 0x00 ∷ []

-- the table, in the specification's order
pub record Joints : Type 0 where
  -- "byte FF hex stuffs to 111110111"
  pub stuff_FF : stuff (byte_bits 0xff) ≡ true ∷ true ∷ true ∷ true ∷ true ∷ false ∷ true ∷ true ∷ true ∷ []
  -- "F8 hex to 000111110"
  pub stuff_F8 : stuff (byte_bits 0xf8) ≡ false ∷ false ∷ false ∷ true ∷ true ∷ true ∷ true ∷ true ∷ false ∷ []
  -- "7E hex to 011111010"
  pub stuff_7E : stuff (byte_bits 0x7e) ≡ false ∷ true ∷ true ∷ true ∷ true ∷ true ∷ false ∷ true ∷ false ∷ []
  -- "21 bytes FF hex to 201 bits"
  pub stuff_21_FF : length (stuff (bits_of (replicate 21 0xff))) ≡ 201
  -- "Bits 011111101111110: two flags, no body": the flags begin at the bits 0 and 7; the machine closes no body, and is behind a flag
  pub two-flags : flags shared_zero ≡ 0 ∷ 7 ∷ []
  pub two_flags_no_body : bodies shared_zero ≡ []
  pub two_flags-close-none : closings fresh 0 shared_zero ≡ []
  pub two_flags-read : run fresh shared_zero ≡ empty 2
  -- "Fresh, bits 1111110: no flag": the machine closes no body, and is behind a 0 that could start a flag, outside a body
  pub fresh_no_flag : flags no_first_zero ≡ []
  pub fresh-closes-none : closings fresh 0 no_first_zero ≡ []
  pub fresh-read : run fresh no_first_zero ≡ empty 1
  -- "FCS of 31 32 33 34 35 36 37 38 39 hex is 906E hex"
  pub fcs-digits : fcs_of digits ≡ 0x906e
  -- "sent 6E, 90"
  pub fcs-digits-sent : low_first (fcs_of digits) ≡ 0x6e ∷ 0x90 ∷ []
  -- "Last 6, now 0: loss 1; last 3, now 2: loss 6; last 3, now 3: Copy"
  pub last_6_now_0 : loss_of (last_was 6) (now_is 0) ≡ 1
  pub last_3_now_2 : loss_of (last_was 3) (now_is 2) ≡ 6
  pub last_3_now_3 : (taken : Bool) → fate_of taken (last_was 3) (now_is 3) ≡ Copy
  -- "Lengths 0, 15, 16, 4,094: 1, 1, 2, 256 packets"
  pub packets_0 : packets 0 ≡ 1
  pub packets_15 : packets 15 ≡ 1
  pub packets_16 : packets 16 ≡ 2
  pub packets_4094 : packets 4094 ≡ 256
  -- "First, no extension, index 5, priority 2: 96 hex": the first of two packets
  pub control_first : control (link_of 0 2) 0 5 2 ≡ 0x96

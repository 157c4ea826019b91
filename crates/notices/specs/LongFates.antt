-- What becomes of a long message's packets (document 02, ask 7), by value.
use Rattle.std.specs.Prelude.{◌≡◌, ℕ, ◌+◌, ◌*◌, Bool, true, false, List, [], ◌∷◌, replicate}
use Rattle.packet.specs.Messages.{longest_long}
use Rattle.packet.specs.Stores.{takes_long}
use Rattle.notices.specs.declared.Slot.{Slot}
use Rattle.notices.specs.declared.Fate.{Fate}
use Rattle.notices.specs.declared.Fate.TheVariants.{Begun, Held, Whole, Wrong}
use Rattle.notices.specs.Slots.{fresh_slot}
use Rattle.notices.specs.Fates.{fate_of, slot_after}

-- a first packet with this segment, at circuit number c where a long buffer is given or not
unfoldable pub first_at : Bool → ℕ → List ℕ → Fate
first_at given c s = fate_of (takes_long given c) fresh_slot (0 ∷ 64 * 2 ∷ s)

-- the slot with a long message open, at this place
unfoldable pub long_slot : ℕ → Slot
long_slot place = record { seen = true; last = 0; length = longest_long; place = place }

-- a later packet with this link number and segment, next behind index 0
unfoldable pub later_at : ℕ → ℕ → List ℕ → Fate
later_at place link s = fate_of true (long_slot place) (0 ∷ (64 * link + 4) ∷ s)

pub record LongFates : Type 0 where
  -- "The receiver given such a buffer no longer answers Wrong to this header on circuit 0"
  pub begun : first_at true 0 (0x1f ∷ 0xff ∷ replicate 14 0) ≡ Begun
  pub at_one : first_at true 1 (0x1f ∷ 0xff ∷ replicate 14 0) ≡ Wrong
  pub without_buffer : first_at false 0 (0x1f ∷ 0xff ∷ replicate 14 0) ≡ Wrong
  pub cut : first_at true 0 (0x1f ∷ []) ≡ Wrong
  pub fifteen : first_at true 0 (0x1f ∷ 0xff ∷ replicate 13 0) ≡ Wrong
  pub opened : slot_after Begun fresh_slot (0 ∷ 64 * 2 ∷ 0x1f ∷ 0xff ∷ replicate 14 0) ≡ long_slot 14
  -- "It answers Wrong if the message ends below 4,095 or would pass 65,535"
  pub below : later_at 4078 1 (replicate 16 0) ≡ Wrong
  pub shortest : later_at 4094 1 (0 ∷ []) ≡ Whole 4095
  pub most : later_at 65534 1 (0 ∷ []) ≡ Whole 65535
  pub past : later_at 65534 1 (0 ∷ 0 ∷ []) ≡ Wrong
  pub held : later_at 65518 0 (replicate 16 0) ≡ Held
  pub not_held : later_at 65534 0 (replicate 16 0) ≡ Wrong

-- "Every state reached from a chip reset is sound."; a refused event is one that changes nothing, so that a statement
-- over any list of events is one over any list of accepted ones. Assumes nothing.
use Rattle.std.specs.Prelude.{ℕ, ◌≡◌, true, List, [], ◌∷◌, ◌++◌, eqb}
use Rattle.format.specs.Pick.{pick}
use Rattle.events.specs.declared.events.Event.{Event}
use Rattle.events.specs.declared.events.Event.TheVariants.{ChipReset}
use Rattle.chip_device.specs.declared.device.Device.{Device}
use Rattle.chip_device.specs.Device.{fresh_device, is_sound_of}
use Rattle.chip_laws.specs.Table.{Step}
use Rattle.chip_laws.specs.Sound.{after}
use Rattle.chip_laws.specs.Lists.{Seen, seen_of, all_seen}
use Rattle.demands.specs.Chip.{Chip, chip_of}

-- ---- the step ----

-- those of a list of events that are accepted, each in the state that it finds
unfoldable pub accepted : Step → Device → List Event → List Event
accepted step d [] = []
accepted step d (e ∷ es) = pick (eqb (step d e).number 0) (e ∷ []) [] ++ accepted step (step d e).state es

-- what is seen of their answers
unfoldable pub accepted_seen : Step → Device → List Event → List Seen
accepted_seen step d [] = []
accepted_seen step d (e ∷ es) =
    pick (eqb (step d e).number 0) (seen_of (step d e) ∷ []) [] ++ accepted_seen step (step d e).state es

pub record Reached (step : Step) : Type 0 where
  -- a chip reset of any sound device is accepted, and what follows it is what this crate's statements call a chip at
  -- the levels of its pins
  pub reset : (d : Device) → is_sound_of d ≡ true → (step d ChipReset).number ≡ 0
  pub chip : (d : Device) (es : List Event) (e : Event) → is_sound_of d ≡ true
      → seen_of (step (after step (step d ChipReset).state es) e) ≡ chip_of step d.front.inputs.levels es e
  -- "A fresh device is the state after a chip reset with all pins high."
  pub fresh : (es : List Event) (e : Event) → seen_of (step (after step fresh_device es) e) ≡ chip_of step 255 es e
  -- "Every state reached from a chip reset is sound."
  pub sound : (d : Device) (es : List Event) → is_sound_of d ≡ true
      → is_sound_of (after step (step d ChipReset).state es) ≡ true
  -- on any device, sound or not: dropping the refused events from a list changes no state and no accepted answer, and
  -- none of the rest is refused
  pub states : (d : Device) (es : List Event) → after step d (accepted step d es) ≡ after step d es
  pub answers : (d : Device) (es : List Event) → all_seen step d (accepted step d es) ≡ accepted_seen step d es
  pub rest : (d : Device) (es : List Event) → accepted step d (accepted step d es) ≡ accepted step d es

-- ---- the chip ----

-- "the chip's state unaltered" (demand 1): a refused event changes no later answer
pub record Unaltered (c : Chip) : Type 0 where
  pub refused : (levels : ℕ) (es fs : List Event) (e g : Event) → ((c levels es e).number ≡ 0 → ⊥)
      → c levels (es ++ e ∷ fs) g ≡ c levels (es ++ fs) g
  pub silent : (levels : ℕ) (es : List Event) (e : Event) → ((c levels es e).number ≡ 0 → ⊥) → (c levels es e).byte ≡ 0

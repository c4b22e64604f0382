-- "Every state reached from a chip reset is sound." Assumes nothing.
use Rattle.std.specs.Prelude.{◌≡◌, true, List, [], ◌∷◌}
use Rattle.events.specs.declared.events.Event.{Event}
use Rattle.chip_device.specs.declared.device.Device.{Device}
use Rattle.chip_step.specs.declared.chip.Taken.{Taken}
use Rattle.chip_device.specs.Device.{is_sound_of}
use Rattle.chip_refusals.specs.Refusals.{first_of}
use Rattle.chip_laws.specs.Table.{Step}

-- A way to take an event whose new state, before row 7 looks at it, is sound: on every sound device, reached or not,
-- and for every event that no row before it refuses. (That accepted events keep soundness would be true by row 7
-- itself.)
abbrev pub KeepsSound : (Device → Event → Taken) → Type 0
KeepsSound taken =
    (d : Device) (e : Event) → is_sound_of d ≡ true → first_of d e 0 ≡ 0 → is_sound_of (taken d e).state ≡ true

-- hence no event on a sound state answers 7
abbrev pub NeverSeven : Step → Type 0
NeverSeven step = (d : Device) (e : Event) → is_sound_of d ≡ true → (step d e).number ≡ 7 → ⊥

-- the state after a list of events
unfoldable pub after : Step → Device → List Event → Device
after step d [] = d
after step d (e ∷ es) = after step (step d e).state es

-- and a sound device stays sound over any list of events, refused ones among them
abbrev pub StaysSound : Step → Type 0
StaysSound step = (d : Device) (es : List Event) → is_sound_of d ≡ true → is_sound_of (after step d es) ≡ true

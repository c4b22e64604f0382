-- The front and what it hands to each receiver do not depend on the receivers, and each receiver depends only on what
-- it is handed: the first by type, for no receiver stands in `handed_after`. Assumes nothing.
use Rattle.std.specs.Prelude.{◌≡◌, Bool, true, ◌||◌}
use Rattle.format.specs.Pick.{pick}
use Rattle.events.specs.declared.events.Event.{Event}
use Rattle.front_events.specs.FrontEvents.{front_stepped}
use Rattle.chip_refusals.specs.Rows.{register_above15, forbidden_read, forbidden_command, setting_not_modelled}
use Rattle.front.specs.declared.front.Front.{Front}
use Rattle.front.specs.declared.front.Handed.{Handed}
use Rattle.front.specs.Front.{handed_nothing}
use Rattle.receiver.specs.Receiver.{fed_of}
use Rattle.chip_device.specs.declared.device.Device.{Device}
use Rattle.chip_device.specs.Device.{is_sound_of}
use Rattle.chip_laws.specs.Table.{Step}

-- Rows 2 to 5 hang on the event and the front. Row 6 looks at the receivers, but an acknowledge changes nothing either
-- way.
abbrev pub front_refuses : Front → Event → Bool
front_refuses f e = register_above15 e || (forbidden_read e || (forbidden_command e || setting_not_modelled f e))

-- what the front makes of any event, a refused one too
unfoldable pub handed_after : Front → Event → Handed
handed_after f e = pick (front_refuses f e) (handed_nothing f) (front_stepped f e)

pub record Alone (step : Step) : Type 0 where
  pub front : (d : Device) (e : Event) → is_sound_of d ≡ true → (step d e).state.front ≡ (handed_after d.front e).front
  pub a : (d : Device) (e : Event) → is_sound_of d ≡ true
      → (step d e).state.a ≡ (fed_of d.a (handed_after d.front e).a).receiver
  pub b : (d : Device) (e : Event) → is_sound_of d ≡ true
      → (step d e).state.b ≡ (fed_of d.b (handed_after d.front e).b).receiver

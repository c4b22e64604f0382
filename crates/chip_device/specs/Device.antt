-- The device: a front and two receivers. Assumes nothing.
use Rattle.std.specs.Prelude.{Bool, ◌&&◌}
use Rattle.chip_answers.specs.declared.answers.Lines.{Lines}
use Rattle.chip_answers.specs.Answers.{lines_of}
use Rattle.front.specs.Front.{front_at}
use Rattle.front.specs.Sound.{front_in_range}
use Rattle.receiver_state.specs.Arrivals.{fresh_receiver}
use Rattle.chip_shown.specs.declared.shown.Shown.{Shown}
use Rattle.chip_shown.specs.Shown.{channel_shown}
use Rattle.chip_soundness.specs.Soundness.{receiver_sound}
use Rattle.chip_device.specs.declared.device.Device.{Device}

-- "A fresh device is the state after a chip reset with all pins high."
unfoldable pub fresh_device : Device
fresh_device = record { front = front_at 255; a = fresh_receiver; b = fresh_receiver }

-- docs/SOUND.md lists the ranges
abbrev pub is_sound_of : Device → Bool
is_sound_of d = front_in_range d.front && (receiver_sound d.a && receiver_sound d.b)

-- what the channels show
abbrev pub shown_a : Device → Shown
shown_a d = channel_shown d.front.a d.a

abbrev pub shown_b : Device → Shown
shown_b d = channel_shown d.front.b d.b

-- the lines as this state drives them
abbrev pub device_lines : Device → Lines
device_lines d = lines_of d.front (shown_a d) (shown_b d)

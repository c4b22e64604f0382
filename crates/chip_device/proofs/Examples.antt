-- A device that is not sound, for the wrong answers that the crates above shut out. Assumes nothing.
use Rattle.outputs.specs.Outputs.{fresh_outputs}
use Rattle.front.specs.Front.{front_at, with_ports}
use Rattle.chip_device.specs.declared.device.Device.{Device}
use Rattle.chip_device.specs.Device.{fresh_device}

-- there are four change flags, so that a fifth is unsound
abbrev pub five_flags : Device
five_flags =
    record {
      front = with_ports (front_at 255) (record { levels = 255; changes = 16 }) fresh_outputs;
      a = fresh_device.a;
      b = fresh_device.b;
    }

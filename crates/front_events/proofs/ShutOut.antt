-- Wrong answers, each shut out by a definition: a routine that gave it would not meet its contract. Assumes nothing.
use mathlib.Core.Path.{◌≡◌}
use native.Mathlib.Omega.{arith}
use Rattle.front.specs.declared.front.Front.{Front}
use Rattle.front.specs.Front.{front_at, with_ports}
use Rattle.outputs.specs.Outputs.{fresh_outputs}
use Rattle.front_events.specs.FrontEvents.{front_reset, acknowledged}

-- the pins high, and IP0 changed
abbrev changed : Front
changed = with_ports (front_at 255) (record { levels = 255; changes = 1 }) fresh_outputs

-- "Pin levels stay."
no_reset_lowers_levels : ((f : Front) → 0 ≡ (front_reset f).front.inputs.levels) → ⊥
unfolding front_at
no_reset_lowers_levels h = omega (arith, h changed)

-- "acknowledge then reads IVR and changes nothing"
no_acknowledge_takes_flags : ((f : Front) → 0 ≡ (acknowledged f).front.inputs.changes) → ⊥
no_acknowledge_takes_flags h = omega (arith, h changed)

-- Wrong answers, each shut out by a definition: a routine that gave it would not meet its contract. Assumes nothing.
use Prim.Native.Nat.{ℕ}
use mathlib.Core.Path.{◌≡◌}
use mathlib.Core.Bool.{Bool, true, true≢false}
use native.Mathlib.Omega.{arith}
use Rattle.dividers.specs.Divider.{room_of}
use Rattle.dividers.proofs.Laws.Divider.{ticks_of}
use Rattle.clocks.specs.declared.channel.Phases.{Phases}
use Rattle.timer_state.specs.Counting.{fresh_timer, with_count}
use Rattle.timer.specs.Passing.{timer_room, running_room, sixteenths_room, timer_passed, pulses_in, counted_by}
use Rattle.clocks.specs.Channel.{side_room, side_passed}
use Rattle.front_side.specs.Side.{fresh_side, with_clocks}
use Rattle.front.specs.Front.{front_at, with_sides, with_registers}
use Rattle.events.specs.declared.events.Event.TheVariants.{Tick}
use Rattle.chip_device.specs.declared.device.Device.{Device}
use Rattle.chip_device.specs.Device.{fresh_device}
use Rattle.chip_device.proofs.Examples.{five_flags}
use Rattle.chip_step.specs.Chip.{step_of}
use Rattle.chip_fast.specs.Passing.{passed_of}
use Rattle.chip_fast.specs.Fast.{at_rest, hop_of}
use Rattle.chip_laws.proofs.Computing.{computing}

-- 4607 ticks after the last pulse
abbrev late : Phases
late = record { receiver = record { 0 = 4607 }; transmitter = record { 0 = 4607 }; sixteenths = record { 0 = 0 } }

-- code 0 in both channels, "4608": with the next tick come B's pulses, and none of A's
abbrev due_b : Device
due_b =
    record {
      front = with_sides (front_at 255) fresh_side (with_clocks fresh_side 0 late) fresh_timer;
      a = fresh_device.a;
      b = fresh_device.b;
    }

-- the phase of B's receiver
abbrev phase_b : Device → ℕ
phase_b d = d.front.b.phases.receiver.0

-- the /16 phase of the ticks
abbrev sixteenth : Device → ℕ
sixteenth d = d.front.timer.ticks.0

-- "Timer on ticks", and the next one is terminal
abbrev due_timer : Device
due_timer =
    record {
      front = with_registers (with_sides (front_at 255) fresh_side fresh_side (with_count fresh_timer 1 true)) 96 0 15;
      a = fresh_device.a;
      b = fresh_device.b;
    }

-- "the data byte (0 where none is read)"
no_rest_reads_byte : ((d : Device) → 255 ≡ (at_rest d).byte) → ⊥
unfolding at_rest
no_rest_reads_byte h = omega (arith, h fresh_device)

-- "Both /16 phases always run": in a still tick too
no_tick_loses_sixteenth : sixteenth fresh_device ≡ sixteenth (step_of fresh_device Tick).state → ⊥
unfolding computing
no_tick_loses_sixteenth = omega arith

-- a tick is still where neither channel has a pulse: this one looks at A alone
no_pulses_of_b_unseen : phase_b (passed_of due_b (ticks_of 1)) ≡ phase_b (step_of due_b Tick).state → ⊥
unfolding computing passed_of side_passed
no_pulses_of_b_unseen = omega arith

no_phase_of_a_for_b : ((d : Device) → (passed_of d (ticks_of 1)).front.a.phases.receiver.0 ≡ phase_b (passed_of d (ticks_of 1))) → ⊥
unfolding computing passed_of side_passed
no_phase_of_a_for_b h = omega (arith, h due_b)

-- "terminal toggles": this one does not look at the counter/timer
no_toggle_unseen : (passed_of due_timer (ticks_of 1)).front.timer.output ≡ (step_of due_timer Tick).state.front.timer.output → ⊥
unfolding computing passed_of timer_passed
no_toggle_unseen h = true≢false h

-- "the state given is unsound"
no_unsound_ticked : 0 ≡ (step_of five_flags Tick).number → ⊥
unfolding computing
no_unsound_ticked = omega arith

-- ---- a hop ----

-- what a hop is computed by
unfoldable hopping : Bool
unfolding computing hop_of passed_of side_passed side_room room_of timer_room running_room sixteenths_room timer_passed pulses_in
    counted_by
hopping = true

-- "Timer on ticks" with 5 to count
abbrev counting : Device
counting =
    record {
      front = with_registers (with_sides (front_at 255) fresh_side fresh_side (with_count fresh_timer 5 true)) 96 0 15;
      a = fresh_device.a;
      b = fresh_device.b;
    }

-- two still ticks and one more: the count, ticks/16 and a divider's phase move by three
no_hop_loses_timer : 5 ≡ (hop_of counting (ticks_of 2)).state.front.timer.count → ⊥
unfolding hopping
no_hop_loses_timer = omega arith

no_hop_loses_sixteenth : 1 ≡ sixteenth (hop_of counting (ticks_of 2)).state → ⊥
unfolding hopping
no_hop_loses_sixteenth = omega arith

no_hop_loses_phase : 1 ≡ phase_b (hop_of counting (ticks_of 2)).state → ⊥
unfolding hopping
no_hop_loses_phase = omega arith

-- B's pulse comes with the next tick, and moves its sixteenths
no_hop_loses_sixteenths : 0 ≡ (hop_of due_b (ticks_of 2)).state.front.b.phases.sixteenths.0 → ⊥
unfolding hopping
no_hop_loses_sixteenths = omega arith

-- past the room a pulse would be passed over, and a start with it: there is none for a still tick here
no_hops_over_pulse : 2 ≡ (hop_of due_b (ticks_of 2)).still.0 → ⊥
unfolding hopping
no_hops_over_pulse = omega arith

-- nor past what is asked
no_hops_past_most : 3 ≡ (hop_of counting (ticks_of 2)).still.0 → ⊥
unfolding hopping
no_hops_past_most = omega arith

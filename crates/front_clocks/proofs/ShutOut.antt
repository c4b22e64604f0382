-- Wrong answers, each shut out by a definition: a routine that gave it would not meet its contract. Assumes nothing.
use Prim.Native.Nat.{ℕ, ◌/◌}
use mathlib.Core.Path.{◌≡◌}
use mathlib.Core.Bool.{true, false}
use native.Mathlib.Omega.{arith}
use lib.Dec.{eqb}
use Rattle.format.specs.Pick.{pick}
use Rattle.dividers.specs.Divider.{divided_of, sixteenth_of}
use Rattle.clocks.specs.Channel as Channel
use Rattle.timer_state.specs.Counting.{fresh_timer, with_count, pulsed_by, timer_pulsed}
use Rattle.timer.specs.Timer.{ticked_by}
use Rattle.byte_bits.specs.Bytes.{has_bit}
use Rattle.inputs.specs.Inputs.{pins_of_a, pins_of_b}
use Rattle.front_side.specs.declared.side.Side.{Side}
use Rattle.front_side.specs.Side.{fresh_side, with_clocks}
use Rattle.front_side_clocks.specs.Clocking.{side_clocked}
use Rattle.front.specs.declared.front.Front.{Front}
use Rattle.front.specs.Front.{front_at, with_sides, with_registers}
use Rattle.front_clocks.specs.Clocking.{counted_of, clocked_with, clocked_of}

-- what both open: it holds no fact
opened : ℕ
unfolding clocked_of clocked_with counted_of ticked_by divided_of sixteenth_of pulsed_by timer_pulsed side_clocked pins_of_b has_bit
opened = 0

opened_too : ℕ
unfolding opened Channel.clocked_of Channel.side_of Channel.transmitter1x front_at pick
opened_too = 0

-- a side whose transmitter's clock is the one of this code
abbrev sending : ℕ → Side
sending code = with_clocks fresh_side code Channel.restarted

-- Both transmitters by the timer, which the next tick takes to high; and both by their pins, all pins low.
abbrev low : Front
low = with_registers (with_sides (front_at 0) (sending 13) (sending 13) (with_count fresh_timer 1 false)) 96 0 15

abbrev pinned : Front
pinned = with_sides (front_at 0) (sending 14) (sending 14) fresh_timer

-- "counter/timer from ticks or IP2; transmitter then receiver of A; the same of B": here the channels hear no toggle
no_toggle_unheard :
    ((f : Front) (before : ℕ)
    → (side_clocked f.a (eqb (f.acr / 128) 1) (pins_of_a before f.inputs.levels) true false
    ).side.phases.sixteenths.0
    ≡ (clocked_of f before true).front.a.phases.sixteenths.0)
    → ⊥
unfolding opened_too
no_toggle_unheard h = omega (arith, h low 0)

-- "transmitter on a falling edge (.. B IP5)"
no_edges_of_b_unseen :
    ((f : Front) (before : ℕ)
    → (side_clocked f.b (eqb (f.acr / 128) 1) (pins_of_b f.inputs.levels f.inputs.levels) false
    (counted_of f before false).toggled).side.phases.sixteenths.0
    ≡ (clocked_of f before false).front.b.phases.sixteenths.0)
    → ⊥
unfolding opened_too
no_edges_of_b_unseen h = omega (arith, h pinned 32)

-- Wrong answers, each shut out by a definition: a routine that gave it would not meet its contract. Assumes nothing.
use Prim.Native.Nat.{ℕ}
use mathlib.Core.Path.{◌≡◌}
use mathlib.Core.Bool.{true, false, not, ◌&&◌, ◌||◌, true≢false}
use native.Mathlib.Omega.{arith}
use lib.Dec.{eqb, leb}
use Rattle.format.specs.Pick.{pick}
use Rattle.transmitter_state.specs.declared.state.Shifter.{Shifter}
use Rattle.transmitter_state.specs.declared.state.Transmitter.{Transmitter}
use Rattle.transmitter_state.specs.State.{idle_phase, sending, in_break, after_break, fresh_transmitter}
use Rattle.transmitter_state.specs.State.{with_enabled, with_holding, with_phase, with_shifter}
use Rattle.transmitter.specs.Commands.{written_of, high_after, break_ended, disabled_of, dropped_of, break_asked}
use Rattle.transmitter.specs.Status.{shifter_empty, status_of}

-- enabled, with this byte in the holding place
abbrev holds : ℕ → Transmitter
holds byte = with_holding (with_enabled fresh_transmitter true) true byte

-- all ten pulses of a frame at 1X have come
abbrev sent : Shifter
sent = record { frame = record { 0 = 65024 }; sixteen = false; length = record { 0 = 10 }; sent = record { 0 = 10 } }

abbrev last : Transmitter
last = with_phase (with_shifter fresh_transmitter sent) sending true

-- "TxRDY: enabled and holding place empty."
no_ready_disabled : ((t : Transmitter) → not t.full ≡ (status_of t).ready) → ⊥
no_ready_disabled h = true≢false (h fresh_transmitter)

-- source 004 sets TxEMT after the last stop bit, and not with its last pulse
no_empty_with_last :
    ((t : Transmitter)
    → (not (eqb t.phase sending) || leb t.shifter.length.0 t.shifter.sent.0) ≡ shifter_empty t)
    → ⊥
no_empty_with_last h = true≢false (h last)

-- "A write while disabled is ignored"
no_disabled_write_taken : ((t : Transmitter) (byte : ℕ) → true ≡ (written_of t byte).full) → ⊥
unfolding written_of pick
no_disabled_write_taken h = true≢false (h fresh_transmitter 65)

-- "a second write replaces the first"
no_second_write_lost :
    ((t : Transmitter) (byte : ℕ) → pick (t.enabled && not t.full) byte t.holding ≡ (written_of t byte).holding)
    → ⊥
unfolding written_of pick
no_second_write_lost h = omega (arith, h (holds 1) 2)

-- "Disable lets the shifter finish"
no_disable_stops_frame : ((t : Transmitter) → idle_phase ≡ (disabled_of t).phase) → ⊥
unfolding break_ended pick
no_disable_stops_frame h = omega (arith, h last)

-- "start break while disabled is ignored"
no_break_while_disabled : ((t : Transmitter) → pick (eqb t.phase in_break) t.asked true ≡ (break_asked t).asked) → ⊥
unfolding break_asked pick
no_break_while_disabled h = true≢false (h fresh_transmitter)

-- "TxD is high at once, and for one bit"
no_high_bit_lost : ((t : Transmitter) → idle_phase ≡ (high_after t).phase) → ⊥
no_high_bit_lost h = omega (arith, h fresh_transmitter)

-- "3 reset transmitter (disabled, all dropped, TxD high)", but for that bit: "stop, disable or reset ends it"
no_reset_keeps_held : ((t : Transmitter) → t.full ≡ (dropped_of t).full) → ⊥
unfolding dropped_of
no_reset_keeps_held h = true≢false (h (holds 1))

no_owed_bit_dropped : ((t : Transmitter) → idle_phase ≡ (dropped_of t).phase) → ⊥
unfolding dropped_of pick
no_owed_bit_dropped h = omega (arith, h (with_phase fresh_transmitter after_break true))

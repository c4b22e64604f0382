-- Wrong answers, each shut out by a definition: a routine that gave it would not meet its contract. Assumes nothing.
use Rattle.std.proofs.Common.{◌≡◌, ℕ, ◌%◌, Bool, true, false, not, ◌&&◌, eqb, ltb, List, get_or, ap, arith}
use mathlib.Core.Bool.{false≢true}
use Rattle.format.specs.declared.counts.Ticks.{Ticks}
use Rattle.format.specs.Pick.{pick}
use Rattle.dividers.specs.Divider.{room_of}
use Rattle.dividers.specs.Rates.{period_of}
use Rattle.dividers.proofs.Laws.Divider.{ticks_of}
use Rattle.clocks.specs.declared.channel.ClockEvent.{ClockEvent}
use Rattle.clocks.specs.declared.channel.Phases.{Phases}
use Rattle.clocks.specs.Channel.{restarted, restarted_on_change, is_sixteen, side_of, clocked_of, side_room, side_passed, channel_passed}
use Rattle.clocks.proofs.Examples.{midway, OneAlone}

-- "A CSR write restarts that channel's phases": the 1X clock's too
no_restart_one_pulse_on : 1 ≡ restarted.sixteenths.0 → ⊥
no_restart_one_pulse_on = omega arith

-- "a change of ACR bit 7 restarts all four": here any write does
no_any_write_restarts : ((p : Phases) (before after : ℕ) → 0 ≡ (restarted_on_change p before after).receiver.0) → ⊥
unfolding restarted_on_change pick
no_any_write_restarts h = omega (arith, h midway 0 0)

-- "14 (16X), 15 (1X)"
no_code14_is1x : ((code : ℕ) → ltb code 14 ≡ is_sixteen code) → ⊥
no_code14_is1x h = false≢true (h 14)

-- and by document 01's codes, which refuse it in the definition and in the code together: the timer's, 13, at 1X
no_code13_is1x : OneAlone (λ (code : ℕ). not (eqb code 15) && not (eqb code 13)) → ⊥
no_code13_is1x h = false≢true (ap (λ (l : List Bool). get_or l 13 true) h)

-- "CSR bits 7-4 receiver": they say 14, the low ones 13, and its pin rises
no_receiver_by_low_bits :
    ((p : Phases) (second : Bool) (csr : ℕ) (b : ClockEvent)
    → (side_of p.receiver second (csr % 16) b b.rising).pulse ≡ (clocked_of p second csr b).receiver)
    → ⊥
unfolding clocked_of side_of pick
no_receiver_by_low_bits h =
    false≢true (h midway false 237 (record { tick = false; toggled = false; rising = true; falling = false }))

-- ---- ticks that pass ----

-- code 12, "ACR bit 7 = 0: .. 6": five ticks pass before the pulse; here the pulse is passed over
no_pulse_passed_over : 6 ≡ (side_room (ticks_of 0) false 12).0 → ⊥
unfolding side_room room_of period_of pick
no_pulse_passed_over = omega arith

-- 14 is a pin: no tick moves a phase there
no_pin_counts_ticks : ((phase : Ticks) (code : ℕ) → 1 ≡ (side_passed phase code (ticks_of 1)).0) → ⊥
unfolding side_passed pick
no_pin_counts_ticks h = omega (arith, h (ticks_of 0) 14)

-- the phase of one side lost
no_transmitter_lost : ((p : Phases) (csr : ℕ) → p.transmitter.0 ≡ (channel_passed p csr (ticks_of 1)).transmitter.0) → ⊥
unfolding side_passed pick
no_transmitter_lost h = omega (arith, h restarted 0)

-- Wrong answers, each shut out by a definition: a routine that gave it would not meet its contract. Assumes nothing.
use Prim.Native.Nat.{ℕ, ◌+◌, ◌*◌, ◌/◌, ◌%◌}
use mathlib.Core.Path.{◌≡◌, ap}
use mathlib.Core.Bool.{Bool, true, false, true≢false, false≢true}
use native.Mathlib.Omega.{arith}
use Rattle.format.specs.Pick.{pick}
use Rattle.clocks.specs.Channel.{restarted, side_of, transmitter1x, clocked_of}
use Rattle.feed.specs.declared.feed.Feed.{Feed}
use Rattle.feed.specs.declared.feed.Feed.TheVariants.{Nothing, Pulse, Command, Read, ChipReset}
use Rattle.inputs.specs.declared.inputs.ChannelPins.{ChannelPins}
use Rattle.transmitter_state.specs.State as Transmitters
use Rattle.transmitter_state.specs.Sending.{begun_of, pulsed_of}
use Rattle.transmitter.specs.declared.transmitter.Input.TheVariants as Input
use Rattle.transmitter.specs.Transmitter.{after_input}
use Rattle.front_side.specs.declared.side.Side.{Side}
use Rattle.front_side.specs.Side.{fresh_side, with_modes, with_enabled, with_transmitter, with_clocks}
use Rattle.front_side_clocks.specs.Clocking.{transmitter_pulsed, echo_taken, pulse_of, line_of, side_clocked}

-- MR1 19 and MR2 7 in this mode, an enabled receiver, and CSR
abbrev within : ℕ → ℕ → Side
within mode csr = with_clocks (with_modes (with_enabled fresh_side true) 19 (mode * 64 + 7) true) csr restarted

-- a character is held and can start
abbrev holding : ℕ → ℕ → Side
holding mode csr =
    with_transmitter (within mode csr)
    (Transmitters.with_holding (Transmitters.with_enabled Transmitters.fresh_transmitter true) true 0)

-- the level that a feed carries, and whether it is a pulse at 16X
abbrev level_in : Feed → Bool
level_in Nothing = true
level_in (Pulse level f) = level
level_in (Command e t) = true
level_in Read = true
level_in ChipReset = true

abbrev sixteen_in : Feed → Bool
sixteen_in Nothing = false
sixteen_in (Pulse level f) = f.sixteen
sixteen_in (Command e t) = false
sixteen_in Read = false
sixteen_in ChipReset = false

-- a side that is fresh has its receiver disabled, and a pulse reaches an enabled one only
no_disabled_pulsed : ((rxd : Bool) → pulse_of 0 0 true rxd ≡ line_of fresh_side true true rxd) → ⊥
unfolding fresh_side line_of pulse_of pick
no_disabled_pulsed h = true≢false (ap sixteen_in (h true))

-- "CSR bits 7-4 receiver, 3-0 transmitter."
no_receiver1x_by_low_bits : ((s : Side) → pulse_of s.mr1 (s.csr % 16) true true ≡ line_of s true true true) → ⊥
unfolding fresh_side line_of pulse_of pick
no_receiver1x_by_low_bits h = false≢true (ap sixteen_in (h (within 0 15)))

-- ---- order 2 ----

-- "RxD is ignored"
no_looped_hears_rxd : ((rxd : Bool) → pulse_of 19 0 true rxd ≡ line_of (within 2 0) true true rxd) → ⊥
unfolding fresh_side line_of pulse_of pick
no_looped_hears_rxd h = false≢true (ap level_in (h false))

-- "the receiver takes the transmitter's .. clock": its pulses, and its 16X or 1X
no_looped_own_pulses :
    ((receiver transmitter : Bool) → pulse_of 19 0 receiver true ≡ line_of (within 2 0) receiver transmitter true) → ⊥
unfolding fresh_side line_of pulse_of pick
no_looped_own_pulses h = true≢false (ap sixteen_in (h true false))

no_looped_own16x : ((s : Side) → pulse_of s.mr1 (s.csr / 16) true true ≡ line_of s true true true) → ⊥
unfolding fresh_side line_of pulse_of pick
no_looped_own16x h = true≢false (ap sixteen_in (h (within 2 15)))

-- "Remote loopback: .. no character is put together."
no_remote_hears : ((rxd : Bool) → pulse_of 19 0 true rxd ≡ line_of (within 3 0) true true rxd) → ⊥
unfolding fresh_side line_of pulse_of pick
no_remote_hears h = true≢false (ap sixteen_in (h true))

-- "no character or break starts"
no_starts_in_echo :
    ((s : Side)
    → (after_input s.transmitter (Input.Pulse (record { mr1 = s.mr1; mr2 = s.mr2; sixteen = true; cts = false }))).txd
    ≡ (transmitter_pulsed s true false).txd)
    → ⊥
unfolding fresh_side transmitter_pulsed after_input pulsed_of begun_of pick
no_starts_in_echo h = false≢true (h (holding 1 0))

-- nor a break that is asked, in remote loopback
no_breaks_in_echo :
    ((s : Side)
    → (after_input s.transmitter (Input.Pulse (record { mr1 = s.mr1; mr2 = s.mr2; sixteen = true; cts = false }))).phase
    ≡ (transmitter_pulsed s true false).phase)
    → ⊥
unfolding fresh_side transmitter_pulsed after_input pulsed_of begun_of pick
no_breaks_in_echo h =
    omega (arith, h (with_transmitter (within 3 0) (Transmitters.with_asked (Transmitters.with_enabled Transmitters.fresh_transmitter true) true)))

-- "at each pulse": not between them, and not "while disabled"
no_echo_between_pulses : ((rxd : Bool) → rxd ≡ echo_taken (within 1 0) false rxd) → ⊥
unfolding fresh_side echo_taken pick
no_echo_between_pulses h = false≢true (h false)

no_echo_while_disabled : ((s : Side) (rxd : Bool) → rxd ≡ echo_taken s true rxd) → ⊥
unfolding fresh_side echo_taken pick
no_echo_while_disabled h = false≢true (h (with_modes fresh_side 19 71 true) false)

-- an edge of both clock pins, RxD low
abbrev edges : Bool → Bool → ChannelPins
edges rising falling = record { rxd = false; cts = false; rising = rising; falling = falling }

-- "of an enabled receiver": not at the transmitter's pulses; a falling edge, with code 14 for both
no_echo_at_transmitters :
    ((pins : ChannelPins)
    → echo_taken (within 1 238) pins.falling pins.rxd
    ≡ (side_clocked (within 1 238) false pins false false).side.echo)
    → ⊥
unfolding fresh_side echo_taken side_clocked clocked_of side_of transmitter1x pick
no_echo_at_transmitters h = false≢true (h (edges false true))

-- "transmitter then receiver": the level that the pulse puts out, and not the one before it
no_level_before :
    ((s : Side) (pins : ChannelPins)
    → line_of s pins.rising pins.falling pins.rxd ≡ (side_clocked s false pins false false).feed)
    → ⊥
unfolding fresh_side side_clocked transmitter_pulsed after_input pulsed_of begun_of clocked_of side_of transmitter1x line_of pulse_of pick
no_level_before h = true≢false (ap level_in (h (holding 2 238) (edges false true)))

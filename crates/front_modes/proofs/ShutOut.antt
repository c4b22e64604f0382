-- Wrong answers, each shut out by a definition: a routine that gave it would not meet its contract. Assumes nothing.
use Prim.Native.Nat.{ℕ, ◌+◌, ◌*◌}
use mathlib.Core.Path.{◌≡◌}
use mathlib.Core.Bool.{true, false, not, ◌&&◌, true≢false, false≢true}
use native.Mathlib.Omega.{arith}
use lib.Dec.{eqb}
use Rattle.format.specs.Pick.{pick}
use Rattle.feed.specs.declared.feed.Effect.TheVariants.{Reset}
use Rattle.feed.specs.declared.feed.Enabling.TheVariants.{Stays}
use Rattle.feed.specs.declared.feed.Feed.TheVariants.{Nothing, Command}
use Rattle.transmitter_state.specs.State as Transmitters
use Rattle.transmitter.specs.declared.transmitter.Input.TheVariants.{Reset as ResetTransmitter}
use Rattle.transmitter.specs.Commands.{break_ended, dropped_of}
use Rattle.transmitter.specs.Status.{status_of}
use Rattle.transmitter.specs.Transmitter.{after_input}
use Rattle.front_side.specs.declared.side.Side.{Side}
use Rattle.front_side.specs.Side.{fresh_side, with_modes, with_enabled, with_transmitter, with_echo, mode_written}
use Rattle.front_modes.specs.Modes.{channel_mode, echo_mode, txd_shown, txd_of, sender_shown, changes_mode, mode_set, mode_feed}

-- MR2 7 in this mode, the pointer at it
abbrev within : ℕ → Side
within mode = with_modes fresh_side 19 (mode * 64 + 7) true

-- in a frame, TxD low, and a byte held
abbrev sending : ℕ → Side
sending mode =
    with_transmitter (within mode)
    (Transmitters.with_holding (Transmitters.with_phase (Transmitters.with_enabled Transmitters.fresh_transmitter true)
    Transmitters.sending false)
    true 65)

-- ---- what is shown ----

-- "Local loopback: .. TxD stays high"
no_looped_moves : ((s : Side) → pick (echo_mode s.mr2) true s.transmitter.txd ≡ txd_of s) → ⊥
unfolding txd_shown fresh_side pick
no_looped_moves h = false≢true (h (sending 2))

-- "at each pulse of an enabled receiver TxD takes the sampled level": in both echo modes, and not the transmitter's
no_echo_sends : ((s : Side) → s.transmitter.txd ≡ txd_of s) → ⊥
unfolding txd_shown fresh_side pick
no_echo_sends h = false≢true (h (sending 1))

no_remote_high : ((s : Side) → pick (eqb (channel_mode s.mr2) 1) s.echo true ≡ txd_of s) → ⊥
unfolding txd_shown fresh_side pick
no_remote_high h = true≢false (h (with_echo (with_enabled (within 3) true) false))

-- "TxRDY and TxEMT read 0": "the same echo" in remote loopback
no_remote_ready :
    ((s : Side) → (not (eqb (channel_mode s.mr2) 1) && (status_of s.transmitter).ready) ≡ (sender_shown s).ready) → ⊥
unfolding sender_shown fresh_side pick
no_remote_ready h =
    true≢false (h (with_transmitter (within 3) (Transmitters.with_enabled Transmitters.fresh_transmitter true)))

no_empty_in_echo : ((s : Side) → (status_of s.transmitter).empty ≡ (sender_shown s).empty) → ⊥
unfolding sender_shown fresh_side pick
no_empty_in_echo h =
    true≢false (h (with_transmitter (within 1) (Transmitters.with_enabled Transmitters.fresh_transmitter true)))

-- ---- a change of mode ----

-- the same mode written again is none, whatever else the byte changes; another one is, echo to remote too
no_same_is_change : ((s : Side) (byte : ℕ) → s.moved ≡ changes_mode s byte) → ⊥
unfolding fresh_side
no_same_is_change h = true≢false (h (within 2) 143)

no_echo_to_remote :
    ((s : Side) (byte : ℕ) → (changes_mode s byte && not (echo_mode s.mr2 && echo_mode byte)) ≡ changes_mode s byte) → ⊥
unfolding fresh_side
no_echo_to_remote h = false≢true (h (within 1) 199)

-- a write at MR1 is none
no_mr1_is_change :
    ((s : Side) (byte : ℕ) → not (eqb (channel_mode byte) (channel_mode s.mr2)) ≡ changes_mode s byte) → ⊥
unfolding fresh_side
no_mr1_is_change h = true≢false (h fresh_side 64)

-- "holds TxD high": "drops what is being sent"; "the holding place stays"
no_change_keeps_level : ((s : Side) (byte : ℕ) → (mode_written s byte).transmitter.txd ≡ (mode_set s byte).transmitter.txd) → ⊥
unfolding mode_set mode_written after_input fresh_side pick
no_change_keeps_level h = false≢true (h (sending 0) 135)

no_change_resets :
    ((s : Side) (byte : ℕ) → (after_input s.transmitter ResetTransmitter).full ≡ (mode_set s byte).transmitter.full) → ⊥
unfolding mode_set mode_written after_input break_ended dropped_of fresh_side pick
no_change_resets h = false≢true (h (sending 0) 135)

no_change_keeps_echo : ((s : Side) (byte : ℕ) → s.echo ≡ (mode_set s byte).echo) → ⊥
unfolding mode_set mode_written fresh_side pick
no_change_keeps_echo h = false≢true (h (with_echo (within 1) false) 199)

-- "leaves an enabled receiver as just enabled": the assembly is not kept; the queue is
no_change_keeps_assembly : Nothing ≡ mode_feed (within 0) 135 → ⊥
unfolding mode_feed fresh_side pick
no_change_keeps_assembly h = let z : ◌≡◌ {A = ℕ} 0 1 = cc in omega arith

no_change_empties_queue : Command Reset Stays ≡ mode_feed (within 0) 135 → ⊥
unfolding mode_feed fresh_side pick
no_change_empties_queue h = let z : ◌≡◌ {A = ℕ} 0 1 = cc in omega arith

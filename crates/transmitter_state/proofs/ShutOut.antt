-- Wrong answers, each shut out by a definition: a routine that gave it would not meet its contract. Assumes nothing.
use Prim.Native.Nat.{ℕ, ◌-◌}
use mathlib.Core.Path.{◌≡◌}
use mathlib.Core.Bool.{Bool, true, false, not, ◌&&◌, true≢false, false≢true}
use native.Mathlib.Omega.{arith}
use Rattle.format.specs.declared.counts.Pulses.{Pulses}
use Rattle.format.specs.Digits.{bits_of, value_of}
use Rattle.format.specs.Format.{format_of, stop_code_of}
use Rattle.format.specs.Parity.{parity_bits}
use Rattle.format.specs.Pick.{pick}
use Rattle.format.specs.Stop.{stop_length_of, stop_bits_of}
use Rattle.frame.specs.Levels.{before_stop, bits_before_stop_of, frame_length_of, frame_bits_of, level_of}
use Rattle.transmitter_state.specs.declared.sending.Standing.{Standing}
use Rattle.transmitter_state.specs.declared.state.Shifter.{Shifter}
use Rattle.transmitter_state.specs.declared.state.Transmitter.{Transmitter}
use Rattle.transmitter_state.specs.State.{sending, fresh_transmitter}
use Rattle.transmitter_state.specs.State.{with_enabled, with_holding, with_phase, with_shifter, with_asked}
use Rattle.transmitter_state.specs.Sending.{clear_to_send, can_start, taken_of, bit_of_pulse, begun_of, sent_on_of}

-- 8 data bits, no parity, one stop bit, CTS chosen
abbrev at : Bool → Bool → Standing
at sixteen cts = record { mr1 = 19; mr2 = 23; sixteen = sixteen; cts = cts }

-- enabled, a break asked, and the byte 255 to send
abbrev asked : Transmitter
asked = with_asked (with_enabled (with_holding fresh_transmitter true 255) true) true

-- the frame of a 0 with 1X, so many pulses sent of ten
abbrev part_of : ℕ → Shifter
part_of n = record { frame = record { 0 = 65024 }; sixteen = false; length = record { 0 = 10 }; sent = record { 0 = n } }

abbrev within : ℕ → Transmitter
within n = with_phase (with_shifter asked (part_of n)) sending false

-- the length of the frame that starts on a pulse, were it at 16X or at 1X
abbrev length_at : Bool → Standing → Pulses
length_at sixteen s = frame_length_of sixteen (format_of s.mr1) (stop_code_of s.mr2)

-- what those that compute a frame or its length open: it holds no fact
opened : ℕ
unfolding taken_of sent_on_of begun_of bit_of_pulse frame_length_of bits_before_stop_of frame_bits_of level_of before_stop parity_bits
opened = 0

opened_too : ℕ
unfolding opened format_of stop_length_of stop_bits_of bits_of value_of pick
opened_too = 0

-- "A break begins on a pulse, when idle and no character can start"
no_break_first :
    ((t : Transmitter) (s : Standing) → (t.enabled && t.full && not t.asked && clear_to_send s) ≡ can_start t s)
    → ⊥
no_break_first h = false≢true (h asked (at true false))

-- "and CTS (if chosen; IP0 for A, IP1 for B) is low"
no_cts_ignored : ((t : Transmitter) (s : Standing) → (t.enabled && t.full) ≡ can_start t s) → ⊥
no_cts_ignored h = true≢false (h asked (at true true))

-- "Chip reset: .. TxD high"
no_txd_low : false ≡ fresh_transmitter.txd → ⊥
no_txd_low = false≢true

-- "Format and 16X or 1X are taken when a character starts"
no_sixteen_at1x : ((x : ℕ) (s : Standing) → (length_at true s).0 ≡ (taken_of x s).length.0) → ⊥
unfolding opened_too
no_sixteen_at1x h = omega (arith, h 0 (at false false))

-- "at the earliest on the pulse after a frame's last"
no_last_pulse : ((x : ℕ) (s : Standing) → (length_at s.sixteen s).0 - 1 ≡ (taken_of x s).length.0) → ⊥
unfolding opened_too
no_last_pulse h = omega (arith, h 0 (at true false))

-- this one takes the format, and the byte that is held, anew on every pulse
no_format_anew :
    ((s : Standing) → level_of (frame_bits_of (format_of s.mr1) 255) (record { 0 = 1 }) ≡ (sent_on_of (within 1) s).txd)
    → ⊥
unfolding opened_too
no_format_anew h = true≢false (h (at false false))

-- a frame that goes on past its length
no_goes_on : ((s : Standing) → 11 ≡ (sent_on_of (within 10) s).shifter.sent.0) → ⊥
unfolding opened_too
no_goes_on h = omega (arith, h (at false true))

-- What TxDA shows goes by A's side alone: on a sound device no row refuses a tick or a write of A's buffer, both do to A's side what they would do
-- to it alone, and code 11 is no clock of the timer's. Assumes nothing.
use Prim.Native.Nat.{ℕ, zero, suc, ◌+◌}
use mathlib.Core.Path.{◌≡◌, refl, sym, subst, ap}
use mathlib.Core.Bool.{Bool, true, false}
use native.Mathlib.Omega.{arith}
use Rattle.format.specs.Pick.{pick}
use Rattle.inputs.specs.declared.inputs.ChannelPins.{ChannelPins}
use Rattle.inputs.specs.Inputs.{pins_of_a}
use Rattle.clocks.specs.Channel as in_clocks
use Rattle.front_side.specs.declared.side.Side.{Side}
use Rattle.front_modes.specs.Modes.{txd_of}
use Rattle.front_side.specs.Side.{buffer_written}
use Rattle.front_side_clocks.specs.Clocking.{side_clocked}
use Rattle.front_clocks.specs.Clocking.{clocked_of, clocked_with}
use Rattle.front_writes.specs.Writes.{register_written, side_written}
use Rattle.events.specs.declared.events.Event.{Event}
use Rattle.events.specs.declared.events.Event.TheVariants.{Write, Tick}
use Rattle.front_events.specs.FrontEvents.{front_stepped}
use Rattle.chip_answers.specs.Answers.{lines_of}
use Rattle.chip_device.specs.declared.device.Device.{Device}
use Rattle.chip_device.specs.Device.{is_sound_of}
use Rattle.chip_refusals.specs.Rows.{register_above15, forbidden_read, forbidden_command, write_not_modelled, setting_not_modelled, acknowledged_unasserted}
use Rattle.chip_refusals.specs.Refusals.{first_of}
use Rattle.chip_step.specs.declared.chip.Answer.{Answer}
use Rattle.chip_step.specs.Chip.{taken_of, step_of}
use Rattle.chip_step.proofs.Laws.Table.{accepts}
use Rattle.chip_laws.proofs.Sound.{keeps_sound}
use Rattle.chip_fast.proofs.Laws.Ticked.{tick_free}
use Rattle.chip_ticks.specs.Ticks.{ticked}

-- ---- A's side alone ----

-- with all pins high, and ACR bit 7 = 0
abbrev pub side_tick : Side → Side
side_tick s = (side_clocked s false (pins_of_a 255 255) true false).side

unfoldable pub side_ticked : ℕ → Side → Side
side_ticked zero s = s
side_ticked (suc n) s = side_ticked n (side_tick s)

pub side_more : (m n : ℕ) (s : Side) → side_ticked (m + n) s ≡ side_ticked n (side_ticked m s)
unfolding side_ticked
side_more zero n s =
    let e : zero + n ≡ n = omega arith in
    rw e
side_more (suc m) n s =
    let e : suc m + n ≡ suc (m + n) = omega arith in
    rw e (side_more m n (side_tick s))

-- code 11 is below 13, "the timer's toggle to high"
untimed : (s : Side) (pins : ChannelPins) (toggled : Bool) → s.csr ≡ 187
    → (side_clocked s false pins true toggled).side ≡ (side_clocked s false pins true false).side
unfolding side_clocked in_clocks.clocked_of in_clocks.side_of pick
untimed s pins toggled e = rw e

keeps_code : (s : Side) → (side_tick s).csr ≡ s.csr
unfolding side_clocked
keeps_code s = refl

buffer_keeps_code : (s : Side) (byte : ℕ) → (buffer_written s byte).csr ≡ s.csr
unfolding buffer_written
buffer_keeps_code s byte = refl

-- ---- a device with this side ----

pub record Going (d : Device) (s : Side) : Type 0 where
  pub sound : is_sound_of d ≡ true
  pub side : d.front.a ≡ s
  pub acr : d.front.acr ≡ 0
  pub levels : d.front.inputs.levels ≡ 255
  pub coded : s.csr ≡ 187

-- an answer that leaves one, with its TxDA
pub record Shows (a : Answer) (s : Side) : Type 0 where
  pub going : Going a.state s
  pub line : a.lines.txda ≡ txd_of s

-- ---- an event on it ----

write_free : (d : Device) (byte : ℕ) → is_sound_of d ≡ true → first_of d (Write 3 byte) 0 ≡ 0
unfolding first_of register_above15 forbidden_read forbidden_command setting_not_modelled write_not_modelled acknowledged_unasserted pick
write_free d byte s = rw s

tick_side : (d : Device) (s : Side) → Going d s → (taken_of d Tick).state.front.a ≡ side_tick s
unfolding taken_of front_stepped clocked_of clocked_with
tick_side d s g = rw (g.side, g.acr, g.levels) (untimed s _ _ g.coded)

tick_acr : (d : Device) → (taken_of d Tick).state.front.acr ≡ d.front.acr
unfolding taken_of front_stepped clocked_of clocked_with
tick_acr d = refl

tick_levels : (d : Device) → (taken_of d Tick).state.front.inputs.levels ≡ d.front.inputs.levels
unfolding taken_of front_stepped clocked_of clocked_with
tick_levels d = refl

write_side : (d : Device) (s : Side) (byte : ℕ) → Going d s → (taken_of d (Write 3 byte)).state.front.a ≡ buffer_written s byte
unfolding taken_of front_stepped register_written side_written pick
write_side d s byte g = rw g.side

write_acr : (d : Device) (byte : ℕ) → (taken_of d (Write 3 byte)).state.front.acr ≡ d.front.acr
unfolding taken_of front_stepped register_written side_written pick
write_acr d byte = refl

write_levels : (d : Device) (byte : ℕ) → (taken_of d (Write 3 byte)).state.front.inputs.levels ≡ d.front.inputs.levels
unfolding taken_of front_stepped register_written side_written pick
write_levels d byte = refl

-- what is taken is answered
answered : (d : Device) (e : Event) (s : Side) → is_sound_of d ≡ true → first_of d e 0 ≡ 0 → (taken_of d e).state.front.a ≡ s
    → (taken_of d e).state.front.acr ≡ 0 → (taken_of d e).state.front.inputs.levels ≡ 255 → s.csr ≡ 187 → Shows (step_of d e) s
unfolding lines_of
answered d e s sound free side acr levels coded =
    let kept = keeps_sound d e sound free in
    subst (λ (a : Answer). Shows a s) (sym (accepts d e free kept))
    (record { going = record { sound = kept; side = side; acr = acr; levels = levels; coded = coded }; line = ap txd_of side })

pub tick_shows : (d : Device) (s : Side) → Going d s → Shows (step_of d Tick) (side_tick s)
tick_shows d s g =
    answered d Tick (side_tick s) g.sound (tick_free d g.sound) (tick_side d s g) (rw (tick_acr d) g.acr) (rw (tick_levels d) g.levels)
    (rw (keeps_code s) g.coded)

pub write_shows : (d : Device) (s : Side) (byte : ℕ) → Going d s → Shows (step_of d (Write 3 byte)) (buffer_written s byte)
write_shows d s byte g =
    answered d (Write 3 byte) (buffer_written s byte) g.sound (write_free d byte g.sound) (write_side d s byte g)
    (rw (write_acr d byte) g.acr) (rw (write_levels d byte) g.levels) (rw (buffer_keeps_code s byte) g.coded)

-- so many ticks
pub ticks_show : (n : ℕ) (a : Answer) (s : Side) → Shows a s → Shows (ticked n a) (side_ticked n s)
unfolding ticked side_ticked
ticks_show zero a s h = h
ticks_show (suc n) a s h = ticks_show n (step_of a.state Tick) (side_tick s) (tick_shows a.state s h.going)

-- Demand 2, a transmitter: TxD, TxRDY and TxEMT show the one that is run alone, or what the mode puts in their place. A write of the buffer changes it and nothing else of the chip, so a
-- write that it ignores, or that another replaces, is told by no later answer. Assumes nothing.
use Prim.Native.Nat.{ℕ}
use mathlib.Core.Path.{◌≡◌, refl, sym, ap, ◌∙◌}
use mathlib.Core.Bool.{Bool, true, false, not, ◌&&◌}
use mathlib.Core.List.{List, ◌∷◌, ◌++◌}
use Rattle.format.specs.Pick.{pick}
use Rattle.transmitter_state.specs.declared.state.Transmitter.{Transmitter}
use Rattle.transmitter.specs.Commands.{written_of}
use Rattle.transmitter.specs.declared.status.TransmitterStatus.{TransmitterStatus}
use Rattle.transmitter.specs.Status.{shifter_empty, status_of}
use Rattle.transmitter.specs.Transmitter.{after_input}
use Rattle.receiver.specs.Receiver.{fed_of}
use Rattle.front_side.specs.declared.side.Side.{Side}
use Rattle.front_side.specs.Side.{with_transmitter, buffer_written}
use Rattle.front_modes.specs.Modes.{echo_mode, sender_shown}
use Rattle.front.specs.Front.{with_sides}
use Rattle.front_writes.specs.Writes.{side_written, register_written}
use Rattle.events.specs.declared.events.Event.{Event}
use Rattle.events.specs.declared.events.Event.TheVariants.{Write}
use Rattle.front_events.specs.FrontEvents.{front_stepped}
use Rattle.chip_refusals.specs.Rows.{register_above15, forbidden_read, forbidden_command, write_not_modelled, setting_not_modelled}
use Rattle.chip_device.specs.declared.device.Device.{Device}
use Rattle.chip_device.specs.Device.{is_sound_of}
use Rattle.chip_step.specs.Chip.{step_of}
use Rattle.chip_laws.specs.Alone.{handed_after}
use Rattle.chip_laws.specs.Sound.{after}
use Rattle.chip_laws.proofs.Alone.{alone_state}
use Rattle.chip_laws.proofs.Sound.{never_seven}
use Rattle.demands.specs.Chip.{Channel, chip_of, register_of, status_bit}
use Rattle.demands.specs.Chip.Channel.{A, B}
use Rattle.demands.specs.Told.{Programmed, programmed, in_echo}
use Rattle.demands.specs.Clocks.{front_after, side_of}
use Rattle.demands.specs.Sending.{sender_after, Transmits}
use Rattle.demands.proofs.Laws.Run.{run_at, run_front, run_sound, step_sound}
use Rattle.demands.proofs.Laws.Told.{told}
use Rattle.demands.proofs.Laws.Looks.{chip, sends_bit, empty_bit}
use Rattle.demands.proofs.Laws.Modes.{echo_told}
use Rattle.demands.proofs.Laws.Senders.{sender_told}
use Rattle.demands.proofs.Laws.Echoes.{txd_shown_lem}
use Rattle.demands.proofs.Registers.{on_from, same_after}

-- ---- TxRDY and TxEMT ----

pub enabled_told : (levels : ℕ) (ch : Channel) (es : List Event) → (sender_after levels ch es).enabled ≡ (programmed ch es).transmits
enabled_told levels ch es = rw (sender_told levels ch es, told ch levels es)

shown_ready : (s : Side) → (sender_shown s).ready ≡ (not (echo_mode s.mr2) && (s.transmitter.enabled && not s.transmitter.full))
unfolding sender_shown pick
shown_ready s = go (echo_mode s.mr2)
  where
    go : (b : Bool) → (pick b (record { ready = false; empty = false }) (status_of s.transmitter)).ready
        ≡ (not b && (s.transmitter.enabled && not s.transmitter.full))
    go true = refl
    go false = refl

shown_empty : (s : Side) → (sender_shown s).empty ≡ ((sender_shown s).ready && shifter_empty s.transmitter)
unfolding sender_shown pick
shown_empty s = go (echo_mode s.mr2)
  where
    shown : Bool → TransmitterStatus
    shown b = pick b (record { ready = false; empty = false }) (status_of s.transmitter)

    go : (b : Bool) → (shown b).empty ≡ ((shown b).ready && shifter_empty s.transmitter)
    go true = refl
    go false = refl

pub ready_shown : (levels : ℕ) (ch : Channel) (es : List Event)
    → status_bit chip levels ch es 2
    ≡ (not (in_echo (programmed ch es)) && ((programmed ch es).transmits && not (sender_after levels ch es).full))
ready_shown levels ch es =
    let s : Side = side_of ch (front_after levels es) in
    sends_bit levels ch es ∙ shown_ready s ∙ sym (rw (sender_told levels ch es, told ch levels es, echo_told s))

pub empty_shown : (levels : ℕ) (ch : Channel) (es : List Event)
    → status_bit chip levels ch es 3 ≡ (status_bit chip levels ch es 2 && shifter_empty (sender_after levels ch es))
empty_shown levels ch es = rw (empty_bit levels ch es, sends_bit levels ch es, sender_told levels ch es) (shown_empty (side_of ch (front_after levels es)))

-- ---- a write of the buffer ----

-- a device with another transmitter
abbrev with_sender : Channel → Device → Transmitter → Device
with_sender A d t =
    record { front = with_sides d.front (with_transmitter d.front.a t) d.front.b d.front.timer; a = d.a; b = d.b }
with_sender B d t =
    record { front = with_sides d.front d.front.a (with_transmitter d.front.b t) d.front.timer; a = d.a; b = d.b }

buffer_written_lem : (ch : Channel) (d : Device) (x : ℕ) → is_sound_of d ≡ true
    → (step_of d (Write (register_of ch 3) x)).state ≡ with_sender ch d (written_of (side_of ch d.front).transmitter x)
unfolding handed_after register_above15 forbidden_read forbidden_command setting_not_modelled write_not_modelled front_stepped register_written side_written buffer_written after_input fed_of pick
buffer_written_lem A d x s = alone_state never_seven d (Write 3 x) s
buffer_written_lem B d x s = alone_state never_seven d (Write 11 x) s

-- "A write while disabled is ignored"
written_ignored : (ch : Channel) (d : Device) (x : ℕ) → is_sound_of d ≡ true → (side_of ch d.front).transmitter.enabled ≡ false
    → (step_of d (Write (register_of ch 3) x)).state ≡ d
unfolding written_of pick
written_ignored A d x s h = buffer_written_lem A d x s ∙ rw h
written_ignored B d x s h = buffer_written_lem B d x s ∙ rw h

-- "a second write replaces the first"
written_twice : (t : Transmitter) (x y : ℕ) → written_of (written_of t x) y ≡ written_of t y
unfolding written_of pick
written_twice t x y = go t.enabled refl
  where
    go : (b : Bool) → t.enabled ≡ b → written_of (written_of t x) y ≡ written_of t y
    go true e = rw (e, written_of)
    go false e = rw (e, written_of)

written_replaced : (ch : Channel) (d : Device) (x y : ℕ) → is_sound_of d ≡ true
    → (step_of (step_of d (Write (register_of ch 3) x)).state (Write (register_of ch 3) y)).state ≡ (step_of d (Write (register_of ch 3) y)).state
written_replaced A d x y s =
    buffer_written_lem A (step_of d (Write 3 x)).state y (step_sound d _ s)
    ∙ rw (buffer_written_lem A d x s, written_twice d.front.a.transmitter x y) (sym (buffer_written_lem A d y s))
written_replaced B d x y s =
    buffer_written_lem B (step_of d (Write 11 x)).state y (step_sound d _ s)
    ∙ rw (buffer_written_lem B d x s, written_twice d.front.b.transmitter x y) (sym (buffer_written_lem B d y s))

-- ---- no later answer tells them apart ----

ignored : (levels x : ℕ) (ch : Channel) (es fs : List Event) (e : Event) → (programmed ch es).transmits ≡ false
    → chip levels (es ++ Write (register_of ch 3) x ∷ fs) e ≡ chip levels (es ++ fs) e
ignored levels x ch es fs e h =
    let disabled : (side_of ch (run_at levels es).front).transmitter.enabled ≡ false =
    rw (run_front levels es) (sym (ap (λ (p : Programmed). p.transmits) (told ch levels es)) ∙ h) in
    same_after levels es fs (Write (register_of ch 3) x) e (written_ignored ch (run_at levels es) x (run_sound levels es) disabled)

replaced : (levels x y : ℕ) (ch : Channel) (es fs : List Event) (e : Event)
    → chip levels (es ++ Write (register_of ch 3) x ∷ Write (register_of ch 3) y ∷ fs) e ≡ chip levels (es ++ Write (register_of ch 3) y ∷ fs) e
unfolding after
replaced levels x y ch es fs e =
    on_from levels es (Write (register_of ch 3) y ∷ fs) (Write (register_of ch 3) x) e
    ∙ rw (written_replaced ch (run_at levels es) x y (run_sound levels es)) (sym (on_from levels es fs (Write (register_of ch 3) y) e))

pub transmits : Transmits (chip_of step_of)
transmits = record { line = txd_shown_lem; ready = ready_shown; empty = empty_shown; ignored = ignored; replaced = replaced }

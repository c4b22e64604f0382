-- The answer to a tick: no row but the first refuses one, and a sound device's is accepted; so the short ways of a sound device are the step. Assumes
-- nothing.
use Prim.Native.Nat.{ℕ, ◌<◌}
use mathlib.Core.Path.{◌≡◌, refl, sym, ◌∙◌, ap}
use mathlib.Core.Bool.{Bool, true, false, not, true≢false, and-eq-true_iff}
use native.Mathlib.Omega.{arith}
use borrow.Author.Tests.{lt-ltb, leb-true, ltb-true}
use lib.Dec.{leb, ltb}
use Rattle.format.specs.Pick.{pick}
use Rattle.dividers.proofs.Laws.Divider.{ticks_of}
use Rattle.events.specs.declared.events.Event.{Event}
use Rattle.events.specs.declared.events.Event.TheVariants.{ChipReset, Read, Write, Acknowledge, Pins, Tick}
use Rattle.front.specs.Sound.{front_in_range}
use Rattle.front.proofs.Laws.Ranges.{front_told}
use Rattle.chip_answers.specs.declared.answers.Lines.{Lines}
use Rattle.chip_answers.specs.Answers.{lines_of, event_data, event_fresh}
use Rattle.receiver.specs.Receiver.{fed_of}
use Rattle.front_events.specs.FrontEvents.{front_stepped}
use Rattle.chip_device.specs.declared.device.Device.{Device}
use Rattle.chip_device.specs.Device.{is_sound_of, device_lines}
use Rattle.chip_refusals.specs.Rows.{register_above15, forbidden_read, forbidden_command, setting_not_modelled, acknowledged_unasserted}
use Rattle.chip_refusals.specs.Refusals.{first_of}
use Rattle.chip_step.specs.declared.chip.Answer.{Answer}
use Rattle.chip_step.specs.Chip.{taken_of, refusal_lines, refused_of, accepted_of, step_of}
use Rattle.chip_step.proofs.Laws.Table.{accepts, refuses_first}
use Rattle.chip_laws.proofs.Sound.{keeps_sound}
use Rattle.chip_fast.specs.declared.passing.Counts.{Counts}
use Rattle.chip_fast.specs.Passing.{front_room, counts_passed, passed_of}
use Rattle.chip_fast.specs.Fast.{is_tick, at_rest, full_of, sound_tick, sound_answer}
use Rattle.chip_fast.proofs.Laws.Passing.{device_on, written_with, passed_written, lines_stay}

pub only_tick : (e : Event) → is_tick e ≡ true → e ≡ Tick
unfolding is_tick
only_tick ChipReset h = absurd (true≢false (sym h))
only_tick (Read n) h = absurd (true≢false (sym h))
only_tick (Write n byte) h = absurd (true≢false (sym h))
only_tick Acknowledge h = absurd (true≢false (sym h))
only_tick (Pins levels) h = absurd (true≢false (sym h))
only_tick Tick h = refl

-- no row refuses a tick of a sound device, and the first any event of one that is not
pub tick_free : (d : Device) → is_sound_of d ≡ true → first_of d Tick 0 ≡ 0
unfolding first_of register_above15 forbidden_read forbidden_command setting_not_modelled acknowledged_unasserted pick
tick_free d s = rw s

unsound_first : (d : Device) (e : Event) → is_sound_of d ≡ false → first_of d e 0 ≡ 1
unfolding first_of pick
unsound_first d e s = rw s

pub unsound_refused : (d : Device) (e : Event) → is_sound_of d ≡ false → refused_of d 1 ≡ step_of d e
unsound_refused d e s =
    let one = unsound_first d e s in
    sym (refuses_first d e (λ (z : first_of d e 0 ≡ 0). omega (arith, z, one)) ∙ ap (refused_of d) one)

taken_full : (d : Device) → accepted_of (taken_of d Tick) ≡ at_rest (full_of d)
unfolding taken_of event_data event_fresh at_rest
taken_full d = refl

pub tick_step : (d : Device) → is_sound_of d ≡ true → step_of d Tick ≡ at_rest (full_of d)
tick_step d s = accepts d Tick (tick_free d s) (keeps_sound d Tick s (tick_free d s)) ∙ taken_full d

-- a sound phase of ticks/16
pub sound_ticks : (d : Device) → is_sound_of d ≡ true → d.front.timer.ticks.0 < 16
sound_ticks d s =
    let timer = (front_told d.front ((and-eq-true_iff (front_in_range d.front) _).0 s).0).timer in
    let most = leb-true d.front.timer.ticks.0 15 ((and-eq-true_iff (leb d.front.timer.ticks.0 15) _).0 timer).0 in
    omega arith

-- ---- a sound device ----

-- a tick where there is room, and where there is none
pub sound_tick_lem : (d : Device) → is_sound_of d ≡ true → sound_tick d ≡ step_of d Tick
unfolding sound_tick pick
sound_tick_lem d s = go (ltb 0 (front_room d.front)) refl
  where
    go : (t : Bool) → ltb 0 (front_room d.front) ≡ t → at_rest (pick t (passed_of d (ticks_of 1)) (full_of d)) ≡ step_of d Tick
    go true e = ap at_rest (sym (device_on d (sound_ticks d s) (ltb-true 0 _ e))) ∙ sym (tick_step d s)
    go false e = sym (tick_step d s)

sound_ticked : (d : Device) → is_sound_of d ≡ true → sound_answer d Tick ≡ step_of d Tick
unfolding sound_answer is_tick pick
sound_ticked d s = sound_tick_lem d s

-- every event, and of any device every event but a tick
pub other_answer : (d : Device) (e : Event) → is_tick e ≡ false → sound_answer d e ≡ step_of d e
unfolding sound_answer pick
other_answer d e h = rw h

pub sound_answer_lem : (d : Device) (e : Event) → is_sound_of d ≡ true → sound_answer d e ≡ step_of d e
sound_answer_lem d e s = go (is_tick e) refl
  where
    go : (t : Bool) → is_tick e ≡ t → sound_answer d e ≡ step_of d e
    go true h = ap (sound_answer d) (only_tick e h) ∙ sound_ticked d s ∙ ap (step_of d) (sym (only_tick e h))
    go false h = other_answer d e h

-- ---- the ways of a sound tick, as the code has them ----

still_tick : (d : Device) → 0 < front_room d.front → at_rest (passed_of d (ticks_of 1)) ≡ sound_tick d
unfolding sound_tick pick
still_tick d h = rw (lt-ltb 0 _ h)

pub full_tick : (d : Device) → ltb 0 (front_room d.front) ≡ false → at_rest (full_of d) ≡ sound_tick d
unfolding sound_tick pick
full_tick d h = rw h

-- an answer with the number, the lines and the fields written that a still tick writes
pub still_written : (d : Device) (x : Answer) (lines : Lines) (k : Counts) → 0 < front_room d.front
    → x ≡ refused_of d 1 → lines ≡ device_lines d → k ≡ counts_passed d.front (ticks_of 1)
    → record { number = 0; byte = x.byte; fresh = x.fresh; lines = lines; state = written_with x.state k } ≡ sound_tick d
unfolding at_rest
still_written d x lines k h ex el ek =
    ap (λ (y : Answer). record { number = 0; byte = y.byte; fresh = y.fresh; lines = lines; state = written_with y.state k }) ex
    ∙ ap (λ (l : Lines). record { number = 0; byte = 0; fresh = false; lines = l; state = written_with d k }) (el ∙ sym (lines_stay d 1))
    ∙ ap (λ (z : Device). record { number = 0; byte = 0; fresh = false; lines = device_lines (passed_of d (ticks_of 1)); state = z }) (passed_written d (ticks_of 1) k ek)
    ∙ still_tick d h

-- ---- an acknowledge ----

-- "acknowledge then reads IVR and changes nothing"
ack_taken : (d : Device) → accepted_of (taken_of d Acknowledge) ≡ record { number = 0; byte = d.front.ivr; fresh = false; lines = device_lines d; state = d }
unfolding taken_of front_stepped fed_of event_data event_fresh
ack_taken d = refl

turned : (x : Bool) → ◌≡◌ {A = ℕ} (pick (not x) 6 0) (pick x 0 6)
unfolding pick
turned true = refl
turned false = refl

ack_first : (d : Device) → is_sound_of d ≡ true → first_of d Acknowledge 0 ≡ pick (device_lines d).irq 0 6
unfolding first_of register_above15 forbidden_read forbidden_command setting_not_modelled acknowledged_unasserted lines_of pick
ack_first d s = rw s (turned (device_lines d).irq)

pub ack_asserted : (d : Device) → is_sound_of d ≡ true → (device_lines d).irq ≡ true
    → record { number = 0; byte = d.front.ivr; fresh = false; lines = device_lines d; state = d } ≡ step_of d Acknowledge
unfolding pick
ack_asserted d s e =
    let free : first_of d Acknowledge 0 ≡ 0 = ack_first d s ∙ rw e in
    sym (accepts d Acknowledge free (keeps_sound d Acknowledge s free) ∙ ack_taken d)

-- 6: "acknowledge while IRQ is not asserted"
pub ack_unasserted : (d : Device) → is_sound_of d ≡ true → (device_lines d).irq ≡ false
    → record { number = 6; byte = 0; fresh = false; lines = device_lines d; state = d } ≡ step_of d Acknowledge
unfolding refusal_lines pick
ack_unasserted d s e =
    let six : first_of d Acknowledge 0 ≡ 6 = ack_first d s ∙ rw e in
    sym (refuses_first d Acknowledge (λ (z : first_of d Acknowledge 0 ≡ 0). omega (arith, z, six)) ∙ ap (refused_of d) six)

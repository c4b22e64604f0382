-- The statements shut wrong chips out. Each answers as `step_of` does but for one fault, and is refuted by computing one answer. Assumes nothing.
use Prim.Native.Nat.{ℕ}
use mathlib.Core.Path.{◌≡◌, refl, sym, ◌∙◌, ap}
use mathlib.Core.Bool.{Bool, true, false, true≢false}
use mathlib.Core.List.{[], ◌∷◌}
use native.Mathlib.Omega.{arith}
use lib.Dec.{eqb}
use Rattle.format.specs.Format.{format_of}
use Rattle.format.specs.Pick.{pick}
use Rattle.character.specs.Character.{no_character}
use Rattle.queue.specs.Queue.{took_of}
use Rattle.receiver_state.specs.declared.arrivals.Receiver.{Receiver}
use Rattle.receiver_state.specs.Arrivals.{fresh_receiver, with_queue}
use Rattle.receiver.specs.Receiver.{oldest_read, read_of, fed_of}
use Rattle.transmitter_state.specs.declared.state.Transmitter.{Transmitter}
use Rattle.front_side.specs.Side.{fresh_side, with_transmitter}
use Rattle.transmitter.specs.Commands.{enabled_of, disabled_of}
use Rattle.front.specs.declared.front.Front.{Front}
use Rattle.front_modes.specs.Modes.{txd_shown}
use Rattle.front.specs.Front.{front_at, with_sides}
use Rattle.front_reads.specs.Reads.{side_read, shared_read, register_read}
use Rattle.events.specs.declared.events.Event.{Event}
use Rattle.events.specs.declared.events.Event.TheVariants.{ChipReset, Read, Write, Acknowledge, Pins, Tick}
use Rattle.front_events.specs.FrontEvents.{front_stepped}
use Rattle.chip_answers.specs.declared.answers.Lines.{Lines}
use Rattle.chip_answers.specs.Answers.{lines_of, no_lines, event_data}
use Rattle.chip_device.specs.declared.device.Device.{Device}
use Rattle.chip_step.specs.declared.chip.Answer.{Answer}
use Rattle.chip_step.specs.declared.chip.Taken.{Taken}
use Rattle.chip_device.specs.Device.{fresh_device, device_lines}
use Rattle.chip_step.specs.Chip.{taken_of, refused_of, accepted_of, step_of}
use Rattle.chip_refusals.specs.Rows.{register_above15, forbidden_read, forbidden_command, setting_not_modelled, acknowledged_unasserted}
use Rattle.chip_refusals.specs.Refusals.{first_of}
use Rattle.chip_laws.specs.Alone.{handed_after, Alone}
use Rattle.chip_laws.specs.Quiet.{Quiet}
use Rattle.chip_laws.specs.Reset.{reset_at, Resets}
use Rattle.chip_laws.specs.Sound.{KeepsSound, NeverSeven, after, StaysSound}
use Rattle.chip_laws.specs.Table.{Step, row, Table}
use Rattle.chip_laws.proofs.Examples.{flagged, broken, with_mode, idle_lines, examples}
use Rattle.chip_laws.proofs.Table.{table}

-- ---- which event ----

abbrev pub which : {A : Type 0} → A → (ℕ → A) → A → A → A → A → Event → A
which reset read write acknowledge pins tick ChipReset = reset
which reset read write acknowledge pins tick (Read n) = read n
which reset read write acknowledge pins tick (Write n byte) = write
which reset read write acknowledge pins tick Acknowledge = acknowledge
which reset read write acknowledge pins tick (Pins levels) = pins
which reset read write acknowledge pins tick Tick = tick

abbrev pub is_reset : Event → Bool
is_reset = which true (λ n. false) false false false false

abbrev pub is_read_of : ℕ → Event → Bool
is_read_of k = which false (λ n. eqb n k) false false false false

abbrev pub is_acknowledge : Event → Bool
is_acknowledge = which false (λ n. false) false true false false

abbrev pub is_tick : Event → Bool
is_tick = which false (λ n. false) false false false true

-- ---- an answer with another part ----

abbrev pub with_lines : Answer → Lines → Answer
with_lines x lines = record { number = x.number; byte = x.byte; fresh = x.fresh; lines = lines; state = x.state }

abbrev pub with_state : Answer → Device → Answer
with_state x d = record { number = x.number; byte = x.byte; fresh = x.fresh; lines = x.lines; state = d }

-- what a refusal gives instead
abbrev pub refusing : (Device → Event → Answer → Answer) → Step
refusing f d e = pick (eqb (step_of d e).number 0) (step_of d e) (f d e (step_of d e))

-- ---- the table ----

-- 2 to everything
abbrev pub refuses_all : Step
refuses_all d e = refused_of d 2

pub no_refuses_all : Table refuses_all → ⊥
unfolding row register_above15 pick
no_refuses_all h = true≢false (sym (h.only fresh_device ChipReset (omega arith)).applies)

-- "Checked in this order.": this one looks at row 2 before row 1
abbrev pub register_first : Step
register_first d e = pick (register_above15 e) (refused_of d 2) (step_of d e)

pub no_register_first : Table register_first → ⊥
unfolding row register_above15 fresh_device front_at fresh_side pick
no_register_first h = true≢false ((h.only broken (Read 16) (omega arith)).earlier 1 (omega arith))

-- a chip reset that mends an unsound device
abbrev pub resets_unsound : Step
resets_unsound d e = pick (is_reset e) (accepted_of (taken_of d e)) (step_of d e)

pub no_resets_unsound : Table resets_unsound → ⊥
unfolding row fresh_device front_at fresh_side pick
no_resets_unsound h = true≢false (h.free broken ChipReset refl 1)

-- all lines 0 with every refusal
abbrev pub refused_darkens : Step
refused_darkens = refusing (λ d e x. with_lines x no_lines)

pub no_refused_darkens : Table refused_darkens → ⊥
unfolding lines_of txd_shown fresh_device front_at fresh_side pick
no_refused_darkens h =
    let x : refused_darkens fresh_device (Read 16) ≡ record { number = 2; byte = 0; fresh = false; lines = no_lines; state = fresh_device } = rw examples.read_16 in
    let z : no_lines ≡ device_lines fresh_device = rw x at (h.lines fresh_device (Read 16) (rw x (omega arith))) in
    true≢false (sym (ap (λ (l : Lines). l.txda) z))

-- "(for 1, all lines 0)": the lines of the state with every refusal
abbrev pub unsound_lit : Step
unsound_lit = refusing (λ d e x. with_lines x (device_lines d))

pub no_unsound_lit : Table unsound_lit → ⊥
unfolding lines_of txd_shown fresh_device front_at fresh_side pick
no_unsound_lit h =
    let lit : Lines = device_lines broken in
    let x : unsound_lit broken ChipReset ≡ record { number = 1; byte = 0; fresh = false; lines = lit; state = broken } = rw examples.unsound_reset in
    let z : lit ≡ no_lines = rw x at (h.lines broken ChipReset (rw x (omega arith))) in
    true≢false (ap (λ (l : Lines). l.txda) z)

-- "the state as given": a refused write at MR1 moves the pointer, as a read there does
abbrev pub refused_acts : Step
refused_acts = refusing (λ d e x. with_state x (taken_of d (Read 0)).state)

pub no_refused_acts : Table refused_acts → ⊥
unfolding taken_of front_stepped register_read side_read fresh_device front_at fresh_side pick
no_refused_acts h =
    let d : Device = (taken_of fresh_device (Read 0)).state in
    let x : refused_acts fresh_device (Write 0 128) ≡ record { number = 5; byte = 0; fresh = false; lines = idle_lines false; state = d } = rw examples.mr1_128 in
    let z : d ≡ fresh_device = rw x at (h.unaltered fresh_device (Write 0 128) (rw x (omega arith))) in
    true≢false (ap (λ (d : Device). d.front.a.moved) z)

-- "data 0": a refused acknowledge gives IVR
abbrev pub leaves_byte : Step
leaves_byte = refusing (λ d e x. record { number = x.number; byte = (taken_of d e).byte; fresh = x.fresh; lines = x.lines; state = x.state })

pub no_leaves_byte : Table leaves_byte → ⊥
unfolding taken_of event_data fresh_device front_at pick
no_leaves_byte h =
    let d : Device = fresh_device in
    let x : leaves_byte d Acknowledge ≡ record { number = 6; byte = 15; fresh = false; lines = idle_lines false; state = d } = rw examples.unasserted in
    let z : ◌≡◌ {A = ℕ} 15 0 = rw x at (h.silent d Acknowledge (rw x (omega arith))) in
    omega arith

-- 7 where no row applies
abbrev pub never_accepts : Step
never_accepts d e = pick (eqb (step_of d e).number 0) (refused_of d 7) (step_of d e)

pub no_never_accepts : Table never_accepts → ⊥
unfolding pick
no_never_accepts h =
    let x : never_accepts fresh_device (Write 0 19) ≡ refused_of fresh_device 7 = rw examples.accepted in
    let free : (k : ℕ) → row k fresh_device (Write 0 19) ≡ false = table.free fresh_device (Write 0 19) (rw examples.accepted) in
    let z : ◌≡◌ {A = ℕ} 7 0 = rw x at (h.accepted fresh_device (Write 0 19) free) in
    omega arith

-- accepted, and nothing done
abbrev pub idles : Step
idles d e = with_state (step_of d e) d

pub no_idles : Table idles → ⊥
unfolding fresh_device front_at fresh_side
no_idles h =
    let z : (step_of fresh_device (Write 0 19)).number ≡ 0 = rw examples.accepted in
    let y : idles fresh_device (Write 0 19) ≡ step_of fresh_device (Write 0 19) =
    h.taken fresh_device (Write 0 19) z ∙ sym (table.taken fresh_device (Write 0 19) z)
    in
    let x : fresh_device ≡ with_mode 19 = ap (λ (x : Answer). x.state) y ∙ rw examples.accepted in
    true≢false (sym (ap (λ (d : Device). d.front.a.moved) x))

-- ---- what only looks ----

-- the fresh device, with so many characters held by A and by B
abbrev pub queue_of : ℕ → Receiver
queue_of n = with_queue fresh_receiver (record { count = n; first = no_character; second = no_character; third = no_character; waiting = no_character })

abbrev pub holding : ℕ → ℕ → Device
holding a b = record { front = fresh_device.front; a = queue_of a; b = queue_of b }

-- "A status read that takes a character."
abbrev pub status_takes : Step
status_takes d e = pick (is_read_of 1 e) (with_state (step_of d e) (taken_of d (Read 3)).state) (step_of d e)

pub no_status_takes : Quiet status_takes → ⊥
unfolding taken_of front_stepped register_read side_read fed_of read_of oldest_read took_of pick
no_status_takes h =
    let z : ◌≡◌ {A = ℕ} 0 1 = ap (λ (d : Device). d.a.queue.count) (h.read (holding 1 0) 1 refl) in
    omega arith

-- an acknowledge that clears the change flags, as a read of IPCR does
abbrev pub acknowledge_clears : Step
acknowledge_clears d e = pick (is_acknowledge e) (with_state (step_of d e) (taken_of d (Read 4)).state) (step_of d e)

pub no_acknowledge_clears : Quiet acknowledge_clears → ⊥
unfolding taken_of front_stepped register_read shared_read pick
no_acknowledge_clears h =
    let z : ◌≡◌ {A = ℕ} 0 1 = ap (λ (d : Device). d.front.inputs.changes) (h.acknowledge (flagged 1)) in
    omega arith

-- ---- the front, and each receiver, alone ----

-- transmitter A on or off
abbrev pub sending : Bool → Front → Front
sending on f =
    let t : Transmitter = f.a.transmitter in
    with_sides f (with_transmitter f.a (pick on (enabled_of t) (disabled_of t))) f.b f.timer

-- transmitter A goes off where receiver A holds a character
abbrev pub peeks : Step
peeks d e =
    pick (eqb d.a.queue.count 0) (step_of d e)
    (with_state (step_of d e) (record { front = sending false (step_of d e).state.front; a = (step_of d e).state.a; b = (step_of d e).state.b }))

pub no_peeks : Alone peeks → ⊥
unfolding handed_after front_stepped register_read side_read register_above15 forbidden_read forbidden_command setting_not_modelled fresh_device front_at fresh_side format_of pick
no_peeks h =
    let d : Device = record { front = sending true fresh_device.front; a = queue_of 1; b = queue_of 0 } in
    true≢false (sym (ap (λ (f : Front). f.a.transmitter.enabled) (h.front d (Read 1) refl)))

-- receiver B takes what A is handed
abbrev pub crossed : Step
crossed d e =
    with_state (step_of d e)
    (record { front = (step_of d e).state.front; a = (step_of d e).state.a; b = (fed_of d.b (handed_after d.front e).a).receiver })

pub no_crossed : Alone crossed → ⊥
unfolding handed_after front_stepped register_read side_read register_above15 forbidden_read forbidden_command setting_not_modelled fresh_device front_at fresh_side format_of fed_of read_of oldest_read took_of pick
no_crossed h =
    let z : ◌≡◌ {A = ℕ} 0 1 = ap (λ (r : Receiver). r.queue.count) (h.b (holding 0 1) (Read 3) refl) in
    omega arith

-- ---- soundness ----

-- 7 to every tick
abbrev pub sevens : Step
sevens d e = pick (is_tick e) (refused_of d 7) (step_of d e)

pub no_sevens : NeverSeven sevens → ⊥
unfolding fresh_device front_at fresh_side format_of pick
no_sevens h = h fresh_device Tick refl refl

-- a tick that puts a fifth change flag
abbrev pub fifth_flag : Step
fifth_flag d e = pick (is_tick e) (with_state (step_of d e) broken) (step_of d e)

pub no_fifth_flag : StaysSound fifth_flag → ⊥
unfolding after fresh_device front_at fresh_side format_of pick
no_fifth_flag h = true≢false (sym (h fresh_device (Tick ∷ []) refl))

abbrev pub takes_fifth : Device → Event → Taken
takes_fifth d e = pick (is_tick e) (record { state = broken; byte = 0; fresh = false }) (taken_of d e)

pub no_takes_fifth : KeepsSound takes_fifth → ⊥
unfolding first_of acknowledged_unasserted register_above15 forbidden_read forbidden_command setting_not_modelled fresh_device front_at fresh_side format_of pick
no_takes_fifth h = true≢false (sym (h fresh_device Tick refl refl))

-- ---- a chip reset ----

-- one that clears the pin levels
abbrev pub lowers_pins : Step
lowers_pins d e = pick (is_reset e) (with_state (step_of d e) (reset_at 0)) (step_of d e)

pub no_lowers_pins : Resets lowers_pins → ⊥
unfolding fresh_device front_at fresh_side format_of pick
no_lowers_pins h =
    let z : ◌≡◌ {A = ℕ} 0 255 = ap (λ (d : Device). d.front.inputs.levels) (h.state fresh_device refl) in
    omega arith

-- one that is refused
abbrev pub refuses_reset : Step
refuses_reset d e = pick (is_reset e) (refused_of d 1) (step_of d e)

pub no_refuses_reset : Resets refuses_reset → ⊥
unfolding fresh_device front_at fresh_side format_of pick
no_refuses_reset h =
    let z : ◌≡◌ {A = ℕ} 1 0 = h.accepted fresh_device refl in
    omega arith

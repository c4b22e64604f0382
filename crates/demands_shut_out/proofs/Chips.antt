-- Wrong chips, for the statements to be shown false of: some answer by a rule of their own, and the others are ours but for one fault. Above each
-- stands the sentence of document 01 that it offends. Assumes nothing.
use Prim.Native.Nat.{ℕ, suc, ◌+◌, ◌-◌, ◌*◌, ◌/◌, ◌%◌}
use mathlib.Core.Bool.{Bool, true, false, not, ◌&&◌, ◌||◌}
use mathlib.Core.List.{List, [], ◌∷◌, ◌++◌}
use lib.Dec.{eqb}
use lib.ListN.{length, drop, replicate}
use Rattle.format.specs.Pick.{pick}
use Rattle.request.specs.declared.request.FrameAnswer.{FrameAnswer}
use Rattle.request.specs.Request.{levels_asked, request_of}
use Rattle.receiver.specs.declared.receiver.Fed.{Fed}
use Rattle.feed.specs.declared.feed.Feed.TheVariants as Feeds
use Rattle.receiver.specs.Receiver.{fed_of}
use Rattle.receiver.specs.Delivery as Receivers
use Rattle.feed.specs.declared.feed.Enabling.TheVariants.{Stays, Enables, Disables}
use Rattle.receiver_state.specs.Arrivals.{with_sampler, fresh_receiver}
use Rattle.transmitter_state.specs.declared.state.Transmitter.{Transmitter}
use Rattle.front.specs.declared.front.Front.{Front}
use Rattle.front.specs.declared.front.Handed.{Handed}
use Rattle.front.specs.Front.{with_sides, with_registers}
use Rattle.front_side.specs.declared.side.Side.{Side}
use Rattle.front_side.specs.Side.{with_modes, with_transmitter}
use Rattle.events.specs.declared.events.Event.{Event}
use Rattle.events.specs.declared.events.Event.TheVariants.{ChipReset, Read, Write, Acknowledge, Pins, Tick}
use Rattle.front_events.specs.FrontEvents.{front_stepped}
use Rattle.chip_answers.specs.declared.answers.Lines.{Lines}
use Rattle.chip_answers.specs.Answers.{event_data, event_fresh}
use Rattle.chip_device.specs.declared.device.Device.{Device}
use Rattle.chip_device.specs.Device.{shown_a, shown_b, device_lines}
use Rattle.chip_refusals.specs.Rows.{register_above15, forbidden_read, forbidden_command, setting_not_modelled, acknowledged_unasserted}
use Rattle.chip_refusals.specs.Refusals.{six_rows}
use Rattle.chip_step.specs.declared.chip.Answer.{Answer}
use Rattle.chip_step.specs.declared.chip.Taken.{Taken}
use Rattle.chip_step.specs.Chip.{accepted_of, refused_of, step_of}
use Rattle.chip_laws.specs.Table.{Step}
use Rattle.chip_laws.specs.Lists.{Seen}
use Rattle.chip_laws.proofs.Examples.{idle_lines}
use Rattle.chip_laws.proofs.Wrong.{which, is_reset, is_read_of, is_acknowledge, with_state}
use Rattle.demands.specs.Chip.{Chip, chip_of}
use Rattle.demands.specs.Demand1.{Request, request_frame}
use Rattle.demands.specs.Cases.{heard}

abbrev pub is_write : (ℕ → ℕ → Bool) → Event → Bool
is_write is ChipReset = false
is_write is (Read n) = false
is_write is (Write n byte) = is n byte
is_write is Acknowledge = false
is_write is (Pins levels) = false
is_write is Tick = false

abbrev pub is_write_of : ℕ → Event → Bool
is_write_of k = is_write (λ n byte. eqb n k)

abbrev pub is_clock : Event → Bool
is_clock = which false (λ n. false) false false true true

abbrev pub with_front : Device → Front → Device
with_front d f = record { front = f; a = d.a; b = d.b }

-- another transmitter of channel A
abbrev pub with_sender : Device → Transmitter → Device
with_sender d t = with_front d (with_sides d.front (with_transmitter d.front.a t) d.front.b d.front.timer)

-- another MR2 of channel A
abbrev pub with_mode2 : ℕ → Device → Device
with_mode2 mr2 d =
    let s : Side = d.front.a in
    with_front d (with_sides d.front (with_modes s s.mr1 mr2 s.moved) d.front.b d.front.timer)

-- ---- with a rule of their own ----

-- "one constant answer"
abbrev pub constant : Seen → Chip
constant x levels es e = x

-- "refusing all": as though every register were above 15
abbrev pub refuses_all : Chip
refuses_all = constant (record { number = 2; byte = 0; fresh = false; lines = idle_lines false })

-- "doing nothing": each event is answered as the first one after a chip reset is
abbrev pub does_nothing : Chip
does_nothing levels es e = chip_of step_of levels [] e

-- "working at the first event and idling later"
abbrev pub idles_later : Chip
idles_later levels [] e = chip_of step_of levels [] e
idles_later levels (x ∷ es) e = chip_of step_of levels (x ∷ []) e

-- ---- with a wrong receiver ----

abbrev taken_with : Receivers.Step → Device → Event → Taken
taken_with feed d e =
    let h : Handed = front_stepped d.front e in
    record {
      state = record { front = h.front; a = (feed d.a h.a).receiver; b = (feed d.b h.b).receiver };
      byte = event_data d.front (shown_a d) (shown_b d) (feed d.a h.a).byte (feed d.b h.b).byte e;
      fresh = event_fresh (feed d.a h.a).fresh (feed d.b h.b).fresh e;
    }

-- rows 2 to 6: whether a state is sound is not asked, else such a chip would stop at its first fault
abbrev number_with : Device → Event → ℕ
number_with d e =
    six_rows false (register_above15 e) (forbidden_read e) (forbidden_command e) (setting_not_modelled d.front e) (acknowledged_unasserted d e) 0

-- both receivers take what they are handed by this rule, and all else is as ours
abbrev step_with : Receivers.Step → Step
step_with feed d e = pick (eqb (number_with d e) 0) (accepted_of (taken_with feed d e)) (refused_of d (number_with d e))

abbrev pub chip_with : Receivers.Step → Chip
chip_with feed = chip_of (step_with feed)

-- "A read takes the oldest": it is answered, and stays
abbrev pub read_keeps : Receivers.Step
read_keeps r Feeds.Nothing = fed_of r Feeds.Nothing
read_keeps r (Feeds.Pulse level f) = fed_of r (Feeds.Pulse level f)
read_keeps r (Feeds.Command e t) = fed_of r (Feeds.Command e t)
read_keeps r Feeds.Read = record { receiver = r; byte = (fed_of r Feeds.Read).byte; fresh = (fed_of r Feeds.Read).fresh }
read_keeps r Feeds.ChipReset = fed_of r Feeds.ChipReset

-- "reading an empty queue .. takes nothing": it drops the character being put together
abbrev pub stale_takes : Receivers.Step
stale_takes r Feeds.Nothing = fed_of r Feeds.Nothing
stale_takes r (Feeds.Pulse level f) = fed_of r (Feeds.Pulse level f)
stale_takes r (Feeds.Command e t) = fed_of r (Feeds.Command e t)
stale_takes r Feeds.Read =
    let x : Fed = fed_of r Feeds.Read in
    pick x.fresh x (record { receiver = with_sampler r fresh_receiver.sampler; byte = x.byte; fresh = x.fresh })
stale_takes r Feeds.ChipReset = fed_of r Feeds.ChipReset

-- "there every receiver or chip reset is a disable, even where the same command enables again": a character goes on over such a command
abbrev pub reset_goes_on : Receivers.Step
reset_goes_on r Feeds.Nothing = fed_of r Feeds.Nothing
reset_goes_on r (Feeds.Pulse level f) = fed_of r (Feeds.Pulse level f)
reset_goes_on r (Feeds.Command e Stays) = fed_of r (Feeds.Command e Stays)
reset_goes_on r (Feeds.Command e Enables) =
    let x : Fed = fed_of r (Feeds.Command e Enables) in
    record { receiver = with_sampler x.receiver r.sampler; byte = x.byte; fresh = x.fresh }
reset_goes_on r (Feeds.Command e Disables) = fed_of r (Feeds.Command e Disables)
reset_goes_on r Feeds.Read = fed_of r Feeds.Read
reset_goes_on r Feeds.ChipReset = fed_of r Feeds.ChipReset

-- "at p+8 it must still be low, else hunt again": after a low at p it finds a low at every pulse up to there
abbrev pub starts_unseen : Receivers.Step
starts_unseen r Feeds.Nothing = fed_of r Feeds.Nothing
starts_unseen r (Feeds.Pulse level f) = fed_of r (Feeds.Pulse (level && not (eqb r.sampler.phase 1)) f)
starts_unseen r (Feeds.Command e t) = fed_of r (Feeds.Command e t)
starts_unseen r Feeds.Read = fed_of r Feeds.Read
starts_unseen r Feeds.ChipReset = fed_of r Feeds.ChipReset

-- ---- with another part of the answer ----

abbrev pub changed : (Event → Seen → Seen) → Chip
changed f levels es e = f e (chip_of step_of levels es e)

abbrev with_lines : Seen → Lines → Seen
with_lines x lines = record { number = x.number; byte = x.byte; fresh = x.fresh; lines = lines }

-- a read of register n answers another byte
abbrev reads_as : (ℕ → Bool) → (ℕ → ℕ) → Event → Seen → Seen
reads_as is f ChipReset x = x
reads_as is f (Read n) x = pick (is n) (record { number = x.number; byte = f x.byte; fresh = x.fresh; lines = x.lines }) x
reads_as is f (Write n byte) x = x
reads_as is f Acknowledge x = x
reads_as is f (Pins levels) x = x
reads_as is f Tick x = x

-- "A confirmed start while one waits removes the waiting one and sets overrun.": SR bit 4 is never shown
abbrev pub hides_overrun : Chip
hides_overrun = changed (reads_as (λ n. eqb n 1) (λ byte. byte / 32 * 32 + byte % 16))

-- "Character errors: SR 7-5 show the oldest's marks, 0 if none.": they are never shown
abbrev pub hides_marks : Chip
hides_marks = changed (reads_as (λ n. eqb n 1) (λ byte. byte % 32))

-- "RxRDY: queue not empty.": SR bit 0 is always shown
abbrev pub always_ready : Chip
always_ready = changed (reads_as (λ n. eqb n 1) (λ byte. byte / 2 * 2 + 1))

-- "12 IVR (both)": a read of it answers 15
abbrev pub vector_stuck : Chip
vector_stuck = changed (reads_as (λ n. eqb n 12) (λ byte. 15))

-- "TxRDY: enabled and holding place empty.": ISR bit 0 is never shown
abbrev pub hides_ready : Chip
hides_ready = changed (reads_as (λ n. eqb n 5) (λ byte. byte / 2 * 2))

-- "terminal sets ISR bit 3": it is never shown
abbrev pub never_terminal : Chip
never_terminal = changed (reads_as (λ n. eqb n 5) (λ byte. byte / 16 * 16 + byte % 8))

-- "6, 7 count high, low": they read 0
abbrev pub counts_nothing : Chip
counts_nothing = changed (reads_as (λ n. eqb n 6 || eqb n 7) (λ byte. 0))

-- "Unused data bits are 0.", and no others: a fifth data bit is lost
abbrev pub cuts_short : Chip
cuts_short = changed (reads_as (λ n. eqb n 3) (λ byte. byte % 16))

-- "IRQ is asserted when ISR and IMR share a set bit": it never is
abbrev pub never_asserts : Chip
never_asserts = changed (λ e x. with_lines x (record { irq = false; txda = x.lines.txda; txdb = x.lines.txdb; op = x.lines.op }))

-- 6: "acknowledge while IRQ is not asserted": it is accepted
abbrev pub acknowledges_always : Chip
acknowledges_always = changed (λ e x. pick (is_acknowledge e) (record { number = 0; byte = x.byte; fresh = x.fresh; lines = x.lines }) x)

-- "Start bit 0": TxD is high always
abbrev pub never_sends : Chip
never_sends = changed (λ e x. with_lines x (record { irq = x.lines.irq; txda = true; txdb = true; op = x.lines.op }))

-- "OP pins are the complement of the output bits.": they are those bits
abbrev pub shows_bits : Chip
shows_bits = changed (λ e x. with_lines x (record { irq = x.lines.irq; txda = x.lines.txda; txdb = x.lines.txdb; op = 255 - x.lines.op }))

-- ---- with another next state ----

-- an event that does nothing
abbrev pub idles_at : (Device → Event → Bool) → Step
idles_at is d e = pick (is d e) (record { number = (step_of d e).number; byte = (step_of d e).byte; fresh = (step_of d e).fresh; lines = device_lines d; state = d }) (step_of d e)

-- an event that leads to another state
abbrev pub leads_to : (Device → Event → Device → Device) → Step
leads_to f d e =
    let x : Answer = step_of d e in
    let next : Device = f d e x.state in
    record { number = x.number; byte = x.byte; fresh = x.fresh; lines = device_lines next; state = next }

-- a read that shows another byte of this state
abbrev pub shown_by : (Device → ℕ → ℕ → ℕ) → Step
shown_by f d e =
    let x : Answer = step_of d e in
    which x (λ n. record { number = x.number; byte = f d n x.byte; fresh = x.fresh; lines = x.lines; state = x.state }) x x x x e

-- "13 .. OPCR": a write does nothing
abbrev pub ignores_opcr : Step
ignores_opcr = idles_at (λ d e. is_write_of 13 e)

-- "stop halts and clears the bit": it does nothing
abbrev pub stops_nothing : Step
stops_nothing = idles_at (λ d e. is_read_of 15 e)

-- "a second write replaces the first": the first is kept
abbrev pub keeps_first : Step
keeps_first = idles_at (λ d e. is_write_of 3 e && d.front.a.transmitter.full)

-- "Chip reset: IVR 15": it is kept
abbrev pub reset_keeps_vector : Step
reset_keeps_vector d e =
    let x : Device = (step_of d e).state in
    pick (is_reset e) (with_state (step_of d e) (with_front x (with_registers x.front x.front.acr x.front.imr d.front.ivr))) (step_of d e)

-- "CTS (if chosen; ..) is low": transmitter A's pulses find it not chosen
abbrev pub ignores_cts : Step
ignores_cts d e =
    let x : Answer = step_of (with_mode2 (d.front.a.mr2 / 64 * 64 + d.front.a.mr2 % 16) d) e in
    pick (is_clock e) (with_state x (with_mode2 d.front.a.mr2 x.state)) (step_of d e)

-- ---- frame requests ----

-- one answer, and one space
abbrev pub same_frame : FrameAnswer → List ℕ → Request
same_frame a after mr1 mr2 x space = (a, after)

-- "an invented pulse count (frame length is the format's sum, case 3)": a stop pulse too many
abbrev pub one_more : Request
one_more mr1 mr2 x space =
    let a : FrameAnswer = request_of mr1 mr2 (length space - 1) in
    pick (eqb a.number 0)
    (record { number = 0; length = record { 0 = suc a.length.0 } }, levels_asked mr1 mr2 x ++ 1 ∷ drop (suc a.length.0) space)
    (a, space)

-- "2 odd, or forced high": even always
abbrev pub never_odd : Request
never_odd mr1 mr2 x space = request_frame (mr1 / 8 * 8 + mr1 % 4) mr2 x space

-- "1-0 data bits less 5": eight always
abbrev pub eight_bits : Request
eight_bits mr1 mr2 x space = request_frame (mr1 / 4 * 4 + 3) mr2 x space

-- "a refused frame request writes nothing into the space it was lent" (demand 1): it clears it
abbrev pub clears_refused : Request
clears_refused mr1 mr2 x space =
    pick (eqb (request_of mr1 mr2 (length space)).number 0) (request_frame mr1 mr2 x space)
    (request_of mr1 mr2 (length space), replicate (length space) 0)

-- ---- events that several of them are tried with ----

-- receiver A at 1X by IP4, MR1 as given; then one high, and these levels
abbrev pub heard_at : ℕ → List Bool → List Event
heard_at mr1 ls = Write 0 mr1 ∷ Write 1 255 ∷ Write 2 1 ∷ heard (true ∷ ls)

-- IP3 falls: a pulse of transmitter A
abbrev pub falls : Event
falls = Pins 247

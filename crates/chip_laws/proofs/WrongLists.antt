-- The chip over lists shuts wrong queues out, and the laid-out chip wrong lists: each is refuted on one device that holds four. Assumes nothing.
use Prim.Native.Nat.{ℕ}
use mathlib.Core.Path.{◌≡◌, refl, sym, ◌∙◌, ap}
use mathlib.Core.Bool.{Bool, true, false, ◌&&◌}
use mathlib.Core.List.{List}
use native.Mathlib.Omega.{arith}
use lib.Dec.{eqb}
use lib.ListN.{length, drop}
use Rattle.format.specs.Pick.{pick}
use Rattle.character.specs.declared.character.Character.{Character}
use Rattle.sampler_state.specs.State.{hunting}
use Rattle.queue.specs.Queue.{waits, waits_of}
use Rattle.receiver_state.specs.Arrivals.{with_sampler, with_queue}
use Rattle.front_side.specs.declared.side.Side.{Side}
use Rattle.front_side.specs.Side.{fresh_side, with_clocks, with_enabled}
use Rattle.front.specs.Front.{front_at, with_sides}
use Rattle.events.specs.declared.events.Event.{Event}
use Rattle.events.specs.declared.events.Event.TheVariants.{Write, Pins}
use Rattle.chip_device.specs.declared.device.Device.{Device}
use Rattle.chip_step.specs.Chip.{step_of}
use Rattle.chip_laws.specs.Lists.{ListReceiver, list_started, list_arrived, list_answered, list_effect, list_enabling, list_fed_of, ListDevice, ListAnswer, list_next, list_unasserted, list_number, list_step_of, SameAnswers}
use Rattle.chip_laws.specs.Table.{Step}
use Rattle.chip_laws.proofs.Lists.{same_answers}
use Rattle.chip_laws.proofs.Wrong.{which, with_state, queue_of, holding}
use Rattle.chip_laws.proofs.Computing.{computing}

-- how many A holds
abbrev held_a : ListDevice → ℕ
held_a d = length d.a.held

-- ---- a list chip whose reset keeps the fourth ----

abbrev pub holds_instead : ListReceiver → List Character → ListReceiver
holds_instead r h = record { sampler = r.sampler; held = h; overrun = r.overrun; sums = r.sums; change = r.change; last = r.last }

-- "A receiver reset that keeps the waiting character.": what empties A when it holds four leaves the fourth
abbrev pub keeps_fourth : ListDevice → Event → ListAnswer
keeps_fourth d e =
    let x : ListAnswer = list_step_of d e in
    pick (waits d.a.held && eqb (held_a x.state) 0)
    (record { seen = x.seen; state = record { front = x.state.front; a = holds_instead x.state.a (drop 3 d.a.held); b = x.state.b } })
    x

pub no_keeps_fourth : SameAnswers step_of keeps_fourth → ⊥
unfolding computing list_step_of list_number list_next list_unasserted list_fed_of list_effect list_enabling
no_keeps_fourth h =
    let d : Device = holding 4 0 in
    let z : ◌≡◌ {A = ℕ} 0 1 = ap held_a (sym (same_answers.states d (Write 2 32) refl) ∙ h.states d (Write 2 32) refl) in
    omega arith

-- ---- a laid-out chip whose confirmed start keeps the waiting one ----

abbrev pub is_pins : Event → Bool
is_pins = which false (λ n. false) false false true false

-- "Overrun that keeps the waiting character": a pin event leaves the queue of A where one waits
abbrev pub start_keeps : Step
start_keeps d e =
    let n : Device = (step_of d e).state in
    pick (is_pins e && waits_of d.a.queue)
    (with_state (step_of d e) (record { front = n.front; a = with_queue n.a d.a.queue; b = n.b }))
    (step_of d e)

-- receiver A at 1X on IP4, enabled, four held, and its last sample was high; IP4 is low, and so is RxDA
abbrev pub starts_next : Device
starts_next =
    let s : Side = with_enabled (with_clocks fresh_side 240 fresh_side.phases) true in
    record { front = with_sides (front_at 0) s fresh_side (front_at 0).timer; a = with_sampler (queue_of 4) (hunting true); b = queue_of 0 }

pub no_start_keeps : SameAnswers start_keeps list_step_of → ⊥
unfolding computing list_step_of list_number list_next list_unasserted list_fed_of list_answered list_started list_arrived
no_start_keeps h =
    let z : ◌≡◌ {A = ℕ} 4 3 = ap held_a (h.states starts_next (Pins 16) refl) in
    omega arith

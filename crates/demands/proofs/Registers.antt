-- A read that no row refuses answers what the front shows, which is the front run alone, and what that holds is told by the events. An event that
-- leaves the device leaves every later answer, and a chip reset leaves the pins' levels alone. Assumes nothing.
use Prim.Native.Nat.{ℕ, zero, suc, ◌+◌, ◌*◌, ◌%◌, ◌≤◌}
use mathlib.Core.Path.{◌≡◌, refl, sym, ◌∙◌, ap}
use mathlib.Core.Bool.{true, false, ◌||◌, true≢false}
use mathlib.Core.List.{List, ◌∷◌, ◌++◌}
use native.Mathlib.Omega.{arith}
use lib.Dec.{eqb}
use Rattle.format.specs.Pick.{pick}
use Rattle.inputs.specs.declared.inputs.Inputs.{Inputs}
use Rattle.inputs.specs.Inputs.{change_register}
use Rattle.front_side.specs.Side.{mode_register}
use Rattle.front.specs.declared.front.Front.{Front}
use Rattle.front_reads.specs.Reads.{front_data}
use Rattle.events.specs.declared.events.Event.{Event}
use Rattle.events.specs.declared.events.Event.TheVariants.{ChipReset, Read, Write, Acknowledge, Pins, Tick}
use Rattle.chip_answers.specs.Answers.{event_data}
use Rattle.chip_device.specs.declared.device.Device.{Device}
use Rattle.chip_step.specs.declared.chip.Answer.{Answer}
use Rattle.chip_step.specs.Chip.{taken_of, step_of}
use Rattle.chip_laws.specs.Sound.{after}
use Rattle.chip_laws.specs.Reset.{reset_at}
use Rattle.chip_laws.specs.Lists.{seen_of}
use Rattle.chip_laws.proofs.Table.{table}
use Rattle.chip_laws.proofs.Quiet.{quiet}
use Rattle.chip_laws.proofs.Reset.{resets}
use Rattle.demands.specs.Chip.{chip_of, Channel, register_of, shows}
use Rattle.demands.specs.Chip.Channel.{A, B}
use Rattle.demands.specs.Told.{levels_after, programmed}
use Rattle.demands.specs.Clocks.{front_after}
use Rattle.demands.specs.Registers.{changes_after, ivr_after, reads_nothing, Registers}
use Rattle.demands.proofs.Laws.Run.{run_at, run_append, run_front, run_sound, shows_receivers, front_byte}
use Rattle.demands.proofs.Laws.Told.{told, levels_told, ivr_told}
use Rattle.demands.proofs.Laws.Ports.{changes_told, changes_most}
use Rattle.demands.proofs.Laws.Looks.{chip}

-- ---- what a read answers ----

-- a register that shows nothing of a receiver
shown : (levels n : ℕ) (es : List Event) → n ≤ 15 → (eqb n 2 || eqb n 10) ≡ false → shows_receivers n ≡ false
    → shows chip levels es n ≡ front_data (front_after levels es) n
unfolding chip_of
shown levels n es most k h =
    front_byte (run_at levels es) n (run_sound levels es) most k h ∙ ap (λ (f : Front). front_data f n) (run_front levels es)

vector_shown : (levels : ℕ) (es : List Event) → shows chip levels es 12 ≡ ivr_after es
unfolding front_data pick
vector_shown levels es = shown levels 12 es (omega arith) refl refl ∙ sym (ivr_told levels es)

modes_shown : (levels : ℕ) (ch : Channel) (es : List Event)
    → shows chip levels es (register_of ch 0) ≡ pick (programmed ch es).moved (programmed ch es).mr2 (programmed ch es).mr1
unfolding front_data mode_register pick
modes_shown levels A es = rw (told A levels es) (shown levels 0 es (omega arith) refl refl)
modes_shown levels B es = rw (told B levels es) (shown levels 8 es (omega arith) refl refl)

port_shown : (levels : ℕ) (es : List Event) → shows chip levels es 13 ≡ levels_after levels es % 64 + 192
unfolding front_data pick
port_shown levels es = rw (levels_told levels es) (shown levels 13 es (omega arith) refl refl)

-- there are four flags
four_flags : (i : Inputs) → i.changes ≤ 15 → change_register i ≡ i.changes * 16 + i.levels % 16
four_flags i h = omega arith

changes_shown : (levels : ℕ) (es : List Event)
    → shows chip levels es 4 ≡ (changes_after levels es).flags * 16 + (changes_after levels es).levels % 16
unfolding front_data pick
changes_shown levels es =
    rw (changes_told levels es) (shown levels 4 es (omega arith) refl refl ∙ four_flags (front_after levels es).inputs (changes_most levels es))

start_shown : (levels : ℕ) (es : List Event) → shows chip levels es 14 ≡ 0
unfolding front_data pick
start_shown levels es = shown levels 14 es (omega arith) refl refl

stop_shown : (levels : ℕ) (es : List Event) → shows chip levels es 15 ≡ 0
unfolding front_data pick
stop_shown levels es = shown levels 15 es (omega arith) refl refl

-- ---- the data byte of any event ----

vector_read : (d : Device) → (step_of d Acknowledge).number ≡ 0 → (step_of d Acknowledge).byte ≡ d.front.ivr
unfolding taken_of event_data
vector_read d z = ap (λ (x : Answer). x.byte) (table.taken d Acknowledge z)

acknowledged_shown : (levels : ℕ) (es : List Event) → (chip levels es Acknowledge).number ≡ 0 → (chip levels es Acknowledge).byte ≡ ivr_after es
unfolding chip_of
acknowledged_shown levels es z =
    vector_read (run_at levels es) z ∙ ap (λ (f : Front). f.ivr) (run_front levels es) ∙ sym (ivr_told levels es)

nothing_taken : (d : Device) (e : Event) → reads_nothing e ≡ true → (taken_of d e).byte ≡ 0
unfolding taken_of event_data
nothing_taken d ChipReset h = refl
nothing_taken d (Read n) h = absurd (true≢false (sym h))
nothing_taken d (Write n byte) h = refl
nothing_taken d Acknowledge h = absurd (true≢false (sym h))
nothing_taken d (Pins x) h = refl
nothing_taken d Tick h = refl

nothing_read : (d : Device) (e : Event) → reads_nothing e ≡ true → (step_of d e).byte ≡ 0
nothing_read d e h = go (step_of d e).number refl
  where
    go : (n : ℕ) → (step_of d e).number ≡ n → (step_of d e).byte ≡ 0
    go zero z = ap (λ (x : Answer). x.byte) (table.taken d e z) ∙ nothing_taken d e h
    go (suc n) z = table.silent d e (omega arith)

-- ---- later answers ----

-- the rest of a list goes on from the state that its first event leaves
pub on_from : (levels : ℕ) (es fs : List Event) (e g : Event)
    → chip levels (es ++ e ∷ fs) g ≡ seen_of (step_of (after step_of (step_of (run_at levels es) e).state fs) g)
unfolding chip_of after
on_from levels es fs e g = rw (run_append (reset_at levels) es (e ∷ fs))

pub same_after : (levels : ℕ) (es fs : List Event) (e g : Event) → (step_of (run_at levels es) e).state ≡ run_at levels es
    → chip levels (es ++ e ∷ fs) g ≡ chip levels (es ++ fs) g
unfolding chip_of
same_after levels es fs e g h = on_from levels es fs e g ∙ rw (h, run_append (reset_at levels) es fs)

reset_after : (levels : ℕ) (es fs : List Event) (e : Event) → chip levels (es ++ ChipReset ∷ fs) e ≡ chip (levels_after levels es) fs e
unfolding chip_of
reset_after levels es fs e =
    on_from levels es fs ChipReset e
    ∙ rw (resets.state (run_at levels es) (run_sound levels es), run_front levels es, levels_told levels es)

pub registers : Registers (chip_of step_of)
unfolding chip_of
registers =
    record {
      vector = vector_shown;
      acknowledged = acknowledged_shown;
      modes = modes_shown;
      input_port = port_shown;
      changes = changes_shown;
      start = start_shown;
      stop = stop_shown;
      unread = λ levels es e. nothing_read (run_at levels es) e;
      looks = λ levels n es fs e h. same_after levels es fs (Read n) e (quiet.read (run_at levels es) n h);
      acknowledges = λ levels es fs e. same_after levels es fs Acknowledge e (quiet.acknowledge (run_at levels es));
      resets = reset_after;
    }

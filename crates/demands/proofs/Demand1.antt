-- Demand 1: the table's rows give the numbers, the first that applies computed for each sentence of the demand; and the frame request's own two
-- rows. Assumes nothing.
use Prim.Native.Nat.{ℕ, suc, ◌<◌, ◌≤◌}
use mathlib.Core.Path.{◌≡◌, sym, ◌∙◌, ap}
use mathlib.Core.Bool.{true, false, ◌||◌, true≢false}
use mathlib.Core.List.{List, ◌++◌}
use native.Mathlib.Omega.{arith}
use borrow.Author.Tests.{lt-ltb, le-ltb, eq-eqb, ne_eqb}
use native.Mathlib.Decide.{dec_lt}
use lib.Dec.{eqb}
use lib.ListN.{length, drop}
use Rattle.format.specs.Format.{mr1_not_modelled, mr2_not_modelled, stop_code_of}
use Rattle.format.specs.declared.counts.Pulses.{Pulses}
use Rattle.format.specs.Pick.{pick}
use Rattle.format.proofs.Laws.Pick.{pick_all}
use Rattle.frame.proofs.Laws.Levels.{length_most}
use Rattle.request.specs.Request.{length_asked, levels_asked, not_modelled, space_short, first_refusal, answer_of, request_of, space_after}
use Rattle.outputs.specs.Outputs.{opcr_not_modelled}
use Rattle.front_side.specs.Side.{mode_not_modelled}
use Rattle.events.specs.declared.events.Event.{Event}
use Rattle.events.specs.declared.events.Event.TheVariants.{Read, Write}
use Rattle.chip_device.specs.declared.device.Device.{Device}
use Rattle.chip_device.specs.Device.{is_sound_of}
use Rattle.events.specs.Command.{command_forbidden}
use Rattle.chip_refusals.specs.Rows.{register_above15, forbidden_read, forbidden_command, write_not_modelled, setting_not_modelled}
use Rattle.chip_refusals.specs.Refusals.{first_of}
use Rattle.chip_step.specs.declared.chip.Answer.{Answer}
use Rattle.chip_step.specs.Chip.{step_of}
use Rattle.chip_step.proofs.Laws.Table.{refuses_first}
use Rattle.chip_laws.proofs.Table.{table, no_more_rows}
use Rattle.demands.specs.Chip.{Channel, register_of}
use Rattle.demands.specs.Chip.Channel.{A, B}
use Rattle.demands.specs.Clocks.{side_of}
use Rattle.demands.specs.Demand1.{request_frame, Demand1}

-- ---- the numbers ----

-- there are seven rows
answered : (d : Device) (e : Event) → (step_of d e).number ≤ 7
answered d e = go (dec_lt 7 (step_of d e).number)
  where
    go : Dec (7 < (step_of d e).number) → (step_of d e).number ≤ 7
    go (yes h) = absurd (true≢false (sym (table.only d e (omega arith)).applies ∙ no_more_rows d e _ h))
    go (no h) = omega arith

-- the first of rows 1 to 6 that applies is the number
numbered : (d : Device) (e : Event) (k : ℕ) → first_of d e 0 ≡ suc k → (step_of d e).number ≡ suc k
numbered d e k h = ap (λ (x : Answer). x.number) (refuses_first d e (omega arith)) ∙ h

above_read_lem : (d : Device) (n : ℕ) → is_sound_of d ≡ true → 15 < n → (step_of d (Read n)).number ≡ 2
unfolding first_of register_above15 pick
above_read_lem d n s h = numbered d (Read n) 1 (rw (s, lt-ltb 15 n h))

above_written_lem : (d : Device) (n byte : ℕ) → is_sound_of d ≡ true → 15 < n → (step_of d (Write n byte)).number ≡ 2
unfolding first_of register_above15 pick
above_written_lem d n byte s h = numbered d (Write n byte) 1 (rw (s, lt-ltb 15 n h))

forbidden_read_lem : (d : Device) (ch : Channel) → is_sound_of d ≡ true → (step_of d (Read (register_of ch 2))).number ≡ 3
unfolding first_of register_above15 forbidden_read pick
forbidden_read_lem d A s = numbered d (Read 2) 2 (rw s)
forbidden_read_lem d B s = numbered d (Read 10) 2 (rw s)

forbidden_command_lem : (d : Device) (ch : Channel) (byte : ℕ) → is_sound_of d ≡ true → command_forbidden byte ≡ true
    → (step_of d (Write (register_of ch 2) byte)).number ≡ 4
unfolding first_of register_above15 forbidden_read forbidden_command pick
forbidden_command_lem d A byte s h = numbered d (Write 2 byte) 3 (rw (s, h))
forbidden_command_lem d B byte s h = numbered d (Write 10 byte) 3 (rw (s, h))

mode : (d : Device) (ch : Channel) (byte : ℕ) → is_sound_of d ≡ true
    → pick (side_of ch d.front).moved (mr2_not_modelled byte) (mr1_not_modelled byte) ≡ true → (step_of d (Write (register_of ch 0) byte)).number ≡ 5
unfolding first_of register_above15 forbidden_read forbidden_command setting_not_modelled write_not_modelled mode_not_modelled pick
mode d A byte s h = numbered d (Write 0 byte) 4 (rw (s, h))
mode d B byte s h = numbered d (Write 8 byte) 4 (rw (s, h))

opcr : (d : Device) (byte : ℕ) → is_sound_of d ≡ true → opcr_not_modelled byte ≡ true → (step_of d (Write 13 byte)).number ≡ 5
unfolding first_of register_above15 forbidden_read forbidden_command setting_not_modelled write_not_modelled pick
opcr d byte s h = numbered d (Write 13 byte) 4 (rw (s, h))

-- ---- the frame request ----

setting : (mr1 mr2 x : ℕ) (space : List ℕ) → (mr1_not_modelled mr1 || mr2_not_modelled mr2) ≡ true → (request_frame mr1 mr2 x space).0.number ≡ 5
unfolding request_of first_refusal answer_of pick
setting mr1 mr2 x space h = rw h

short : (mr1 mr2 x : ℕ) (space : List ℕ) → (mr1_not_modelled mr1 || mr2_not_modelled mr2) ≡ false → length space < (length_asked mr1 mr2).0
    → (request_frame mr1 mr2 x space).0.number ≡ 8
unfolding request_of first_refusal answer_of pick
short mr1 mr2 x space h l = rw (h, lt-ltb _ _ l)

given : (mr1 mr2 x : ℕ) (space : List ℕ) → (mr1_not_modelled mr1 || mr2_not_modelled mr2) ≡ false → (length_asked mr1 mr2).0 ≤ length space
    → (request_frame mr1 mr2 x space).0 ≡ record { number = 0; length = length_asked mr1 mr2 }
unfolding request_of first_refusal answer_of pick
given mr1 mr2 x space h l = rw (h, le-ltb _ _ l)

none : (mr1 mr2 x : ℕ) (space : List ℕ) → ((request_frame mr1 mr2 x space).0.number ≡ 0 → ⊥) → (request_frame mr1 mr2 x space).0.length.0 ≡ 0
unfolding request_of answer_of pick
none mr1 mr2 x space h = rw (ne_eqb _ 0 h)

most : (mr1 mr2 x : ℕ) (space : List ℕ) → (request_frame mr1 mr2 x space).0.length.0 ≤ 192
unfolding request_of answer_of pick
most mr1 mr2 x space =
    let n : ℕ = first_refusal (not_modelled mr1 mr2) (space_short mr1 mr2 (length space)) in
    let none : 0 ≤ 192 = omega arith in
    pick_all (λ (p : Pulses). p.0 ≤ 192) (eqb n 0) (length_asked mr1 mr2) (record { 0 = 0 }) (length_most true mr1 (stop_code_of mr2)) none

written : (mr1 mr2 x : ℕ) (space : List ℕ) → (request_frame mr1 mr2 x space).0.number ≡ 0
    → (request_frame mr1 mr2 x space).1 ≡ levels_asked mr1 mr2 x ++ drop (length_asked mr1 mr2).0 space
unfolding space_after pick
written mr1 mr2 x space h = rw (eq-eqb _ 0 h)

untouched : (mr1 mr2 x : ℕ) (space : List ℕ) → ((request_frame mr1 mr2 x space).0.number ≡ 0 → ⊥) → (request_frame mr1 mr2 x space).1 ≡ space
unfolding space_after pick
untouched mr1 mr2 x space h = rw (ne_eqb _ 0 h)

pub demand_1 : Demand1 step_of request_frame
demand_1 =
    record {
      table = table;
      answered = answered;
      above_read = above_read_lem;
      above_written = above_written_lem;
      forbidden_read = forbidden_read_lem;
      forbidden_command = forbidden_command_lem;
      mode = mode;
      opcr = opcr;
      setting = setting;
      short = short;
      given = given;
      none = none;
      most = most;
      written = written;
      untouched = untouched;
    }

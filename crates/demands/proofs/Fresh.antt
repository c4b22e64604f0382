-- A read is fresh exactly where SR bit 0 was set: both are the queue's; a refusal's answer and every other event's say stale. From the first, by
-- induction over the events and of any chip, the two lists of what was read are one. Assumes nothing.
use Prim.Native.Nat.{ℕ, zero, suc}
use mathlib.Core.Path.{◌≡◌, refl, sym, ◌∙◌, ap}
use mathlib.Core.Bool.{false}
use mathlib.Core.List.{List, [], ◌∷◌}
use native.Mathlib.Omega.{arith}
use Rattle.format.specs.Pick.{pick}
use Rattle.receiver.specs.Receiver.{fed_of}
use Rattle.receiver.proofs.Delivery.{read_fresh}
use Rattle.chip_answers.specs.Answers.{register_fresh, event_fresh}
use Rattle.events.specs.declared.events.Event.{Event}
use Rattle.events.specs.declared.events.Event.TheVariants.{ChipReset, Read, Write, Acknowledge, Pins, Tick}
use Rattle.chip_device.specs.declared.device.Device.{Device}
use Rattle.chip_step.specs.declared.chip.Answer.{Answer}
use Rattle.chip_step.specs.Chip.{taken_of, step_of}
use Rattle.chip_laws.proofs.Table.{table}
use Rattle.demands.specs.Chip.{Chip, Channel, register_of, and_then, status_bit, chip_of}
use Rattle.demands.specs.Chip.Channel.{A, B}
use Rattle.demands.specs.Delivery.{reads_buffer, read_from}
use Rattle.demands.specs.Fresh.{ready_from, Fresh}
use Rattle.demands.proofs.Laws.Run.{run_at, run_sound, receiver_at, buffer_fresh}
use Rattle.demands.proofs.Laws.Looks.{ready_bit}

exactly : (levels : ℕ) (ch : Channel) (es : List Event)
    → (chip_of step_of levels es (Read (register_of ch 3))).fresh ≡ status_bit (chip_of step_of) levels ch es 0
unfolding chip_of fed_of
exactly levels ch es =
    buffer_fresh ch (run_at levels es) (run_sound levels es) ∙ read_fresh (receiver_at ch (run_at levels es)) ∙ sym (ready_bit levels ch es)

-- an event that reads no buffer is taken as stale
other_taken : (d : Device) (e : Event) → reads_buffer A e ≡ false → reads_buffer B e ≡ false → (taken_of d e).fresh ≡ false
unfolding taken_of event_fresh register_fresh pick
other_taken d ChipReset a b = refl
other_taken d (Read n) a b = rw (a, b)
other_taken d (Write n byte) a b = refl
other_taken d Acknowledge a b = refl
other_taken d (Pins levels) a b = refl
other_taken d Tick a b = refl

other : (d : Device) (e : Event) → reads_buffer A e ≡ false → reads_buffer B e ≡ false → (step_of d e).fresh ≡ false
other d e a b = go (step_of d e).number refl
  where
    go : (n : ℕ) → (step_of d e).number ≡ n → (step_of d e).fresh ≡ false
    go zero z = ap (λ (x : Answer). x.fresh) (table.taken d e z) ∙ other_taken d e a b
    go (suc n) z = table.stale d e (omega arith)

-- of any chip whose reads say what SR bit 0 said
same_from : (c : Chip) → ((levels : ℕ) (ch : Channel) (es : List Event) → (c levels es (Read (register_of ch 3))).fresh ≡ status_bit c levels ch es 0)
    → (levels : ℕ) (ch : Channel) (before es : List Event) → read_from c levels ch before es ≡ ready_from c levels ch before es
unfolding read_from ready_from
same_from c h levels ch before [] = refl
same_from c h levels ch before (e ∷ es) = rw (h levels ch before, same_from c h levels ch (and_then before e) es)

pub fresh : Fresh (chip_of step_of)
unfolding chip_of
fresh =
    record {
      exactly = exactly;
      refused = λ levels es e h. table.stale (run_at levels es) e h;
      other = λ levels es e a b. other (run_at levels es) e a b;
      same = λ levels ch es. same_from (chip_of step_of) exactly levels ch [] es;
    }

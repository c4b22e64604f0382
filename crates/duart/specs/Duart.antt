-- What of a poll's and of a run's answer is seen, and the number of the layout. Assumes nothing.
use Rattle.std.specs.Prelude.{ℕ, ◌≡◌, Bool, List, length, Result, Ok, Err}
use Rattle.format.specs.Pick.{pick}
use Rattle.refusal.specs.declared.refusal.Refusal.{Refusal}
use Rattle.refusal.specs.Refusal as Refusals
use Rattle.vcd_capture.specs.declared.capturing.Asked.{Asked}
use Rattle.vcd_capture.specs.declared.capturing.Captured.{Captured}
use Rattle.vcd_capture.specs.Capture.{log_a, log_b, number_of, captured_of, log_after}
use Rattle.poll.specs.declared.polling.Polled.{Polled}
use Rattle.chip_ticks.specs.declared.until_irq.Ran.{Ran}
use Rattle.duart.specs.declared.duart.PolledSeen.{PolledSeen}
use Rattle.duart.specs.declared.duart.RanSeen.{RanSeen}
use Rattle.duart.specs.declared.duart.CaptureAnswer.{CaptureAnswer}

-- the number of the layout of what crosses to C
abbrev pub abi_number : ℕ
abi_number = 1

-- all of it but the last state, which is stored in the device lent
abbrev pub polled_seen : Polled → PolledSeen
polled_seen p = record { number = p.number; count = p.count }

-- the number, the ticks and the lines
abbrev pub ran_seen : Ran → RanSeen
ran_seen r =
    record {
      number = r.number;
      ticks = r.ticks;
      irq = r.lines.irq;
      txda = r.lines.txda;
      txdb = r.lines.txdb;
      op = r.lines.op;
    }

-- order 7: the number, and the length of the part of the channel that is named
unfoldable pub capture_seen : Result Captured Refusal → Bool → CaptureAnswer
capture_seen (Ok filled) channel_b = record { number = 0; length = pick channel_b filled.length_b filled.length_a }
capture_seen (Err refusal) channel_b = record { number = Refusals.number_of refusal; length = 0 }

-- what is promised of the call: the answer, and both logs whole
pub record CaptureShown (q : Asked) (text a b before_a before_b after_a after_b : List ℕ) (channel_b : Bool) (r : CaptureAnswer) : Type 0 where
  pub answer : r ≡ capture_seen (captured_of q text a b (length before_a) (length before_b)) channel_b
  pub first : after_a ≡ log_after (number_of q text a b (length before_a) (length before_b)) (log_a q text a b) before_a
  pub second : after_b ≡ log_after (number_of q text a b (length before_a) (length before_b)) (log_b q text a b) before_b

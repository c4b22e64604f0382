-- `hear_pulses` meets its contract. The invariant of its loop: the pulses that are left lead to the end that is asked. Assumes nothing.
use Prim.Native.Nat.{◌+◌, ◌*◌, ◌≤◌}
use mathlib.Core.Path.{◌≡◌}
use Rattle.sampler.specs.Lines.{after_lines, arrivals}
use Rattle.text.proofs.Laws.Pages.{Remains}
use Rattle.vcd_capture.specs.Logs.{log_bytes}
use Rattle.vcd_capture.specs.Ear.{pulses_at}
use Rattle.vcd_capture.proofs.ear.hear_pulses.Given as goal

abbrev pub invariant-loop-left : goal.invariant-loop-left
invariant-loop-left l =
    (l.left ≤ l.times) × (l.log.at + 2 * l.left ≤ l.initial.log.at + 2 * l.times)
    × (after_lines l.now_sampler (pulses_at l.left l.level l.setting) ≡ after_lines l.initial.now_sampler (pulses_at l.times l.level l.setting))
    × Remains (log_bytes (arrivals l.initial.now_sampler (pulses_at l.times l.level l.setting))) l.initial.log
    (log_bytes (arrivals l.now_sampler (pulses_at l.left l.level l.setting))) l.log

abbrev pub decreases-loop-left : goal.decreases-loop-left
decreases-loop-left l = l.left

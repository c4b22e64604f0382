-- `hear_pulses` meets its contract. The invariant of its loop: the pulses that are left lead to the end that is asked. Assumes nothing.
use Prim.Native.Nat.{◌-◌}
use mathlib.Core.Path.{◌≡◌, sym, ◌∙◌, ap}
use native.Mathlib.Omega.{arith}
use Rattle.std.specs.Prelude.{option_to_list}
use Rattle.sampler.specs.Lines.{arrivals}
use Rattle.text.proofs.Laws.Pages.{remains_as, remains_then, remains_none}
use Rattle.vcd_capture.specs.Logs.{log_bytes}
use Rattle.vcd_capture.specs.Ear.{pulses_at}
use Rattle.vcd_capture.proofs.Laws.Hops.{hop-turn}
use Rattle.vcd_capture.proofs.Laws.Hearing.{log_append, log_length, came_within, no_after, no_arrivals}
use Rattle.vcd_capture.proofs.ear.hear_pulses.Goals as goal

pub loop-left-preserved : goal.loop-left-preserved
loop-left-preserved c =
    let a = c.args in
    let h = c.hop-hopped.ensures in
    let r = c.hop-hopped.result in
    let turn = hop-turn a.level a.setting c.loop-left.now_sampler c.loop-left.left r h in
    let later = arrivals r.sampler (pulses_at (c.loop-left.left - r.pulses) a.level a.setting) in
    let p = c.take_came.ensures in
    let w = came_within r.came in
    let l = log_length (option_to_list r.came) in
    let rest = remains_as (ap log_bytes turn.1 ∙ log_append (option_to_list r.came) later) c.loop-left.invariant.3 in (
      omega (arith, h.some, h.few),
      omega (arith, p.puts.ends, h.some, h.few),
      sym turn.0 ∙ c.loop-left.invariant.2,
      remains_then rest p,
    )

pub returns : goal.returns
returns c =
    let a = c.args in
    let e : c.loop-left.left ≡ 0 = omega arith in
    record {
      sampler = sym (no_after c.loop-left.now_sampler a.level a.setting) ∙ rw e at c.loop-left.invariant.2;
      writes = remains_none (remains_as (rw e (no_arrivals c.loop-left.now_sampler a.level a.setting)) c.loop-left.invariant.3);
    }

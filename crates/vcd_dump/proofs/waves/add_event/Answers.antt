-- `add_event` meets its contract: a tick writes what the time that ends has to write. Assumes nothing.
use mathlib.Core.Path.{sym}
use Rattle.format.specs.Pick.{pick}
use Rattle.format.proofs.Laws.Pick.{pick_yes, pick_no}
use Rattle.text.proofs.Laws.Pages.{writes_none, writes_as}
use Rattle.vcd_dump.specs.Wave.{wave_after}
use Rattle.vcd_dump.proofs.waves.add_event.Goals as goal

pub returns-then-tick : goal.returns-then-tick
unfolding wave_after pick
returns-then-tick c =
    let a = c.args in
    record {
      wave = rw (c.if-tick.true, c.values_of-values.ensures);
      writes = writes_as (sym (pick_yes a.tick _ _ c.if-tick.true)) c.put_changes.ensures;
    }

pub returns : goal.returns
unfolding wave_after pick
returns c =
    let a = c.args in
    record {
      wave = rw (c.if-tick.false, c.values_of-values.ensures);
      writes = writes_as (sym (pick_no a.tick _ _ c.if-tick.false)) (writes_none a.page.now);
    }

-- `put_changes` meets its contract: at time 0 the time and all values, later both where a value differs, else nothing. Assumes nothing.
use mathlib.Core.Path.{sym}
use native.Mathlib.Omega.{arith}
use Rattle.text.proofs.Laws.Pages.{writes_none, writes_then, writes_as}
use Rattle.vcd_text.proofs.Laws.Changes.{time_within}
use Rattle.vcd_text.proofs.Laws.Words.{first_changes, no_changes, some_changes}
use Rattle.vcd_text.proofs.lines.put_changes.Goals as goal

pub put_values-requires : goal.put_values-requires
put_values-requires c =
    omega (arith, time_within c.args.tick, c.put_time.ensures.puts.ends, c.requires)

pub returns-then-tick-eq0 : goal.returns-then-tick-eq0
returns-then-tick-eq0 c =
    let a = c.args in
    writes_as (first_changes a.tick a.before a.values c.if-tick-eq0.true)
    (writes_then c.put_time.ensures c.put_values.ensures)

pub returns-then-before-values : goal.returns-then-before-values
returns-then-before-values c =
    let a = c.args in
    writes_as (sym (no_changes a.tick a.before a.values c.if-tick-eq0.false c.if-before-values.true)) (writes_none a.page.now)

pub put_values-requires-2 : goal.put_values-requires-2
put_values-requires-2 c =
    omega (arith, time_within c.args.tick, c.put_time-2.ensures.puts.ends, c.requires)

pub returns : goal.returns
returns c =
    let a = c.args in
    writes_as
    (some_changes a.tick a.before a.values c.if-tick-eq0.false c.if-before-values.false c.requires.1 c.requires.2)
    (writes_then c.put_time-2.ensures c.put_values-2.ensures)

-- `hear_said` meets its contract, line by line. Assumes nothing.
use mathlib.Core.Path.{sym, ◌∙◌}
use Rattle.text.proofs.Laws.Pages.{writes_none, writes_as}
use Rattle.vcd_capture.specs.Ear.{ear_said, heard_said}
use Rattle.vcd_capture.proofs.Laws.Hearing.{log_none}
use Rattle.vcd_capture.proofs.ear.hear_said.Goals as goal

pub returns-in-NoLine : goal.returns-in-NoLine
unfolding ear_said heard_said
returns-in-NoLine c =
    record {
      ear = rw c.in-NoLine.is;
      writes = writes_as (rw c.in-NoLine.is (sym log_none)) (writes_none _);
    }

pub returns-in-TimeLine : goal.returns-in-TimeLine
unfolding ear_said heard_said
returns-in-TimeLine c =
    record {
      ear = rw (c.in-TimeLine.is, ← c.from.ensures) c.hear_until.ensures.ear;
      writes = writes_as (rw (c.in-TimeLine.is, ← c.from.ensures)) c.hear_until.ensures.writes;
    }

pub returns-in-ValueLine : goal.returns-in-ValueLine
unfolding ear_said heard_said
returns-in-ValueLine c =
    record {
      ear = c.hear_value.ensures ∙ rw c.in-ValueLine.is;
      writes = writes_as (rw c.in-ValueLine.is (sym log_none)) (writes_none _);
    }

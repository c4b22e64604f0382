-- `put_said` meets its contract: a refusal's number is put, or the lines of A and then those of B. Assumes nothing.
use Prim.Native.Nat.{◌≤◌}
use native.Mathlib.Omega.{arith}
use borrow.Author.Rules.{rules}
use lib.ListN.{length}
use Rattle.text.specs.Puts.{Puts}
use Rattle.text.proofs.Laws.Puts.{puts_then, puts_as}
use Rattle.text.proofs.Laws.Pages.{front_holds, front_text}
use Rattle.vcd_capture.proofs.Laws.Capture.{met_as, filled-a, filled-b}
use Rattle.capture.specs.Said.{printed_of}
use Rattle.capture.proofs.Laws.{front_within, part_fits, part_ends, refused_ends, said-lines, said-refused}
use Rattle.capture.proofs.said.put_said.Goals as goal
use Rattle.capture.proofs.said.put_said.Goals.{in-Ok, in-Err}

pub slice_bounds-put_lines-end : goal.slice_bounds-put_lines-end
slice_bounds-put_lines-end c =
    let met = met_as c.in-Ok.is c.read_capture.ensures in
    front_within _ _ (filled-a _ _ _ _ _ _ _ _ _ met).1

pub slice_bounds-put_lines-end-in-Ok : goal.slice_bounds-put_lines-end-in-Ok
slice_bounds-put_lines-end-in-Ok c =
    let met = met_as c.in-Ok.is c.read_capture.ensures in
    (filled-a _ _ _ _ _ _ _ _ _ met).1

pub put_lines-requires : goal.put_lines-requires
put_lines-requires c =
    let read = c.read_capture in
    part_fits c.in-Ok.captured.length_a read.new.log_a (omega arith) read.auto.log_a c.requires.0

pub slice_bounds-put_lines-end-in-Ok-2 : goal.slice_bounds-put_lines-end-in-Ok-2
slice_bounds-put_lines-end-in-Ok-2 c =
    let met = met_as c.in-Ok.is c.read_capture.ensures in
    front_within _ _ (filled-b _ _ _ _ _ _ _ _ _ met).1

pub slice_bounds-put_lines-end-in-Ok-3 : goal.slice_bounds-put_lines-end-in-Ok-3
slice_bounds-put_lines-end-in-Ok-3 c =
    let met = met_as c.in-Ok.is c.read_capture.ensures in
    (filled-b _ _ _ _ _ _ _ _ _ met).1

pub put_lines-requires-in-Ok : goal.put_lines-requires-in-Ok
put_lines-requires-in-Ok c =
    let read = c.read_capture in
    let x = c.in-Ok.captured in
    let end = part_ends 65 x.length_a read.new.log_a read.auto.log_a c.requires.0 c.put_lines.ensures.puts in
    part_fits x.length_b read.new.log_b end read.auto.log_b c.requires.1

pub returns : goal.returns
returns c =
    let a = c.args in
    let read = c.read_capture in
    let page = c.match-read_capture.page in
    let said : Puts 0 (printed_of a.asked a.text.now a.name_a.now a.name_b.now (length a.log_a.now) (length a.log_b.now)) a.space.now page.space.now page.at
    × (page.at ≤ length a.space.now) =
    elim c.match-read_capture.branch [
      | in-Ok w ↦
          let x = w.in-Ok.captured in
          let put = w.put_lines.ensures.puts in
          let then = w.put_lines-in-Ok.ensures.puts in
          let end = part_ends 65 x.length_a read.new.log_a read.auto.log_a c.requires.0 put in
          let last = part_ends 66 x.length_b read.new.log_b read.auto.log_b c.requires.1 then in
          rw w.page-is
          (puts_as (said-lines _ _ _ _ _ _ _ _ x (met_as w.in-Ok.is read.ensures)) (puts_then put then), omega (arith, end, last, c.requires.2))
      | in-Err w ↦
          let x = w.in-Err.refusal in
          let p = rw w.number.ensures at w.put_refused.ensures.puts in
          rw w.page-is
          (puts_as (said-refused _ _ _ _ _ _ _ _ x (met_as w.in-Err.is read.ensures)) p, refused_ends _ c.requires.2 p)
    ] in
    record { within = front_holds said.0 said.1 (search rules); text = front_text said.0 said.1 (search rules) }

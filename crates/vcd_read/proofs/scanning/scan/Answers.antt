-- `scan` meets its contract: the header first, and then the lines after it, with its codes as a table. Assumes nothing.
use mathlib.Core.Path.{◌≡◌, sym, ◌∙◌, ap}
use mathlib.Core.Bool.{false}
use lib.ListN.{length, replicate}
use Rattle.std.proofs.lemmas.Result.{err_from_is_err_and}
use Rattle.std.proofs.lemmas.List.{take_rest}
use Rattle.vcd_read.specs.Wires.{wires_in, filled}
use Rattle.vcd_read.specs.Scan.{in_table, checked_of, unchecked, judged}
use Rattle.vcd_read.proofs.Laws.Header.{not_inside, is_inside, or_refused, or_found, judged_body}
use Rattle.vcd_read.proofs.scanning.scan.Goals as goal

pub returns-in_err-header-clause-scanned : goal.returns-in_err-header-clause-scanned
returns-in_err-header-clause-scanned c =
    let x = c.args in
    let p = err_from_is_err_and c.from_residual.result c.from_residual.ensures.1 in
    let q = or_refused c.read_header.result c.in_err-header.field-0.0 c.in_err-header.ensures.value in
    rw (p.1, p.2, q.1) (sym (not_inside x.text.now x.name_a.now x.name_b.now (sym c.read_header.ensures.read ∙ q.0)))

pub returns-clause-scanned : goal.returns-clause-scanned
returns-clause-scanned c =
    let x = c.args in
    let h = c.in_ok-header.header in
    let found = or_found c.read_header.result h c.in_ok-header.ensures.value in
    let codes : c.codes_of-codes.result ≡ filled (wires_in x.text.now) (replicate 256 false)
    = c.codes_of-codes.ensures ∙ ap (λ ws. filled ws (replicate 256 false)) c.wires_in.ensures.wires in
    let checked = c.check.ensures ∙ ap (checked_of (in_table c.codes_of-codes.result) unchecked) (take_rest x.text.now h.body) in
    c.judge.ensures ∙ ap (judged h) checked
    ∙ is_inside x.text.now x.name_a.now x.name_b.now h c.codes_of-codes.result (sym c.read_header.ensures.read ∙ found) codes

pub returns-clause-within : goal.returns-clause-within
returns-clause-within c =
    let h = c.in_ok-header.header in
    let found = or_found c.read_header.result h c.in_ok-header.ensures.value in
    rw c.judge.ensures (judged_body h c.check.result (length c.args.text.now) (rw found at c.read_header.ensures.within))

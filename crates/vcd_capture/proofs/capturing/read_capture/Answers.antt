-- `read_capture` meets its contract: each test decides its refusal, and what is heard into no log has the lengths that are asked. Assumes nothing.
use mathlib.Core.Path.{◌≡◌, refl, sym, ◌∙◌}
use mathlib.Core.Bool.{false, ◌||◌}
use lib.Dec.{ltb}
use lib.ListN.{length}
use Rattle.std.proofs.lemmas.Result.{err_from_is_err_and}
use Rattle.format.specs.Format.{mr1_not_modelled}
use Rattle.text.proofs.Laws.Puts.{puts_as}
use Rattle.vcd_capture.specs.Capture.{log_a, log_b}
use Rattle.vcd_capture.proofs.Laws.Capture.{from_start, heard_is, Short, five, by-text, eight, none, refused, accepted}
use Rattle.vcd_capture.proofs.capturing.read_capture.Goals as goal

pub returns-then-mr1_not_modelled-asked : goal.returns-then-mr1_not_modelled-asked
returns-then-mr1_not_modelled-asked c =
    let x = c.args in
    refused x.asked x.text.now x.name_a.now x.name_b.now x.log_a.now x.log_b.now _ _
    (five x.asked x.text.now x.name_a.now x.name_b.now x.log_a.now x.log_b.now (rw (← c.mr1_not_modelled.ensures) c.if-mr1_not_modelled-asked.true))
    refl

pub returns-in_err-found : goal.returns-in_err-found
returns-in_err-found c =
    let x = c.args in
    let m : (mr1_not_modelled x.asked.mr1 || ltb 12 x.asked.code) ≡ false = rw (← c.mr1_not_modelled.ensures) c.if-mr1_not_modelled-asked.false in
    let p = err_from_is_err_and c.from_residual.result c.from_residual.ensures.1 in
    refused x.asked x.text.now x.name_a.now x.name_b.now x.log_a.now x.log_b.now _ _
    (by-text x.asked x.text.now x.name_a.now x.name_b.now x.log_a.now x.log_b.now m c.in_err-found.field-0.0 (sym c.in_err-found.ensures.scanned))
    (p.1 ∙ rw p.2)

pub returns-then-log_a-length_a : goal.returns-then-log_a-length_a
returns-then-log_a-length_a c =
    let x = c.args in
    let text = x.text.now in
    let a = x.name_a.now in
    let b = x.name_b.now in
    let la = x.log_a.now in
    let lb = x.log_b.now in
    let found = sym c.in_ok-found.ensures.scanned in
    let m : (mr1_not_modelled x.asked.mr1 || ltb 12 x.asked.code) ≡ false = rw (← c.mr1_not_modelled.ensures) c.if-mr1_not_modelled-asked.false in
    let logs = heard_is x.asked text a b _ _ _ _ c.period_of-period.ensures c.setting_of-setting.ensures c.end_of-end.ensures.0 found in
    let na : c.hear_wire-length_a.result ≡ length (log_a x.asked text a b) =
    from_start (rw logs.0 at c.hear_wire-length_a.ensures.ends) in
    let nb : c.hear_wire-length_b.result ≡ length (log_b x.asked text a b) =
    from_start (rw logs.1 at c.hear_wire-length_b.ensures.ends) in
    refused x.asked text a b la lb _ _ (eight x.asked text a b la lb m c.in_ok-found.found found (rw (← na, ← nb) c.if-log_a-length_a.true)) refl

pub returns : goal.returns
returns c =
    let x = c.args in
    let text = x.text.now in
    let a = x.name_a.now in
    let b = x.name_b.now in
    let la = x.log_a.now in
    let lb = x.log_b.now in
    let found = sym c.in_ok-found.ensures.scanned in
    let m : (mr1_not_modelled x.asked.mr1 || ltb 12 x.asked.code) ≡ false = rw (← c.mr1_not_modelled.ensures) c.if-mr1_not_modelled-asked.false in
    let logs = heard_is x.asked text a b _ _ _ _ c.period_of-period.ensures c.setting_of-setting.ensures c.end_of-end.ensures.0 found in
    let na : c.hear_wire-length_a.result ≡ length (log_a x.asked text a b) =
    from_start (rw logs.0 at c.hear_wire-length_a.ensures.ends) in
    let nb : c.hear_wire-length_b.result ≡ length (log_b x.asked text a b) =
    from_start (rw logs.1 at c.hear_wire-length_b.ensures.ends) in
    let fits : Short x.asked text a b la lb false = rw (← na, ← nb) c.if-log_a-length_a.false in
    accepted x.asked text a b la lb _ _ _ _ na nb (none x.asked text a b la lb m c.in_ok-found.found found fits) fits _ _
    (puts_as logs.0 c.hear_wire.ensures) (puts_as logs.1 c.hear_wire-2.ensures)

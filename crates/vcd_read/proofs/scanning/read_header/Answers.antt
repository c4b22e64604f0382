-- `read_header` meets its contract: each test is the definition's, in its order. Assumes nothing.
use Prim.Native.Nat.{◌+◌, ◌-◌}
use mathlib.Core.Path.{◌≡◌, sym, ◌∙◌, ap}
use mathlib.Core.Bool.{true, false}
use mathlib.Core.Logic.{inl}
use native.Mathlib.Omega.{arith}
use lib.ListN.{length, drop, length-drop}
use Rattle.text.specs.Bytes.{bytes_of}
use Rattle.vcd_text.specs.Header.{line_of}
use Rattle.vcd_read.specs.Wires.{starts, twice_of, code_named, wires_in, wires_over}
use Rattle.vcd_read.specs.Scan.{open_words, close_words, few}
use Rattle.vcd_read.proofs.Laws.Starts.{starts_is, stripped_is}
use Rattle.vcd_read.proofs.Laws.Wires.{wires_few}
use Rattle.vcd_read.proofs.Laws.Named.{count_is}
use Rattle.vcd_read.proofs.Laws.Header.{not_opened, not-sixteen, not-once, not-closed, is-closed, no_first, no_second, both_named}
use Rattle.vcd_read.proofs.scanning.read_header.Goals as goal

pub returns-then-not-starts_with-clause-read : goal.returns-then-not-starts_with-clause-read
unfolding bytes_of line_of
returns-then-not-starts_with-clause-read c =
    let x = c.args in
    sym (not_opened x.text.now x.name_a.now x.name_b.now (sym (starts_is open_words x.text.now) ∙ sym c.starts_with.ensures.value ∙ c.if-not-starts_with.true))

pub count-requires-clause-fits : goal.count-requires-clause-fits
count-requires-clause-fits c = inl (omega (arith, wires_few 17 (drop 46 c.args.text.now), ap length c.wires_in-wires.ensures.wires))

pub returns-then-not-is_few-clause-read : goal.returns-then-not-is_few-clause-read
unfolding bytes_of line_of
returns-then-not-is_few-clause-read c =
    let x = c.args in
    let o : starts open_words x.text.now ≡ true = sym (starts_is open_words x.text.now) ∙ sym c.starts_with.ensures.value ∙ c.if-not-starts_with.false in
    let n = count_is c.wires_in-wires.result c.count.result c.count.ensures.ran ∙ ap length c.wires_in-wires.ensures.wires in
    sym (not-sixteen x.text.now x.name_a.now x.name_b.now o (rw (← n) (sym c.is_few.ensures ∙ c.if-not-is_few.true)))

pub returns-then-twice-clause-read : goal.returns-then-twice-clause-read
unfolding bytes_of line_of
returns-then-twice-clause-read c =
    let x = c.args in
    let o : starts open_words x.text.now ≡ true = sym (starts_is open_words x.text.now) ∙ sym c.starts_with.ensures.value ∙ c.if-not-starts_with.false in
    let w = c.wires_in-wires.ensures in
    let n = count_is c.wires_in-wires.result c.count.result c.count.ensures.ran ∙ ap length w.wires in
    let s : few (length (wires_in x.text.now)) ≡ true = rw (← n) (sym c.is_few.ensures ∙ c.if-not-is_few.false) in
    sym (not-once x.text.now x.name_a.now x.name_b.now o s (ap twice_of (sym w.wires) ∙ sym c.twice.ensures ∙ c.if-twice.true))

pub returns-in_err-body-clause-read : goal.returns-in_err-body-clause-read
unfolding bytes_of line_of
returns-in_err-body-clause-read c =
    let x = c.args in
    let o : starts open_words x.text.now ≡ true = sym (starts_is open_words x.text.now) ∙ sym c.starts_with.ensures.value ∙ c.if-not-starts_with.false in
    let w = c.wires_in-wires.ensures in
    let n = count_is c.wires_in-wires.result c.count.result c.count.ensures.ran ∙ ap length w.wires in
    let s : few (length (wires_in x.text.now)) ≡ true = rw (← n) (sym c.is_few.ensures ∙ c.if-not-is_few.false) in
    let t : twice_of (wires_in x.text.now) ≡ false = ap twice_of (sym w.wires) ∙ sym c.twice.ensures ∙ c.if-twice.false in
    let q : starts close_words (drop (wires_over x.text.now) x.text.now) ≡ false
    = ap (starts close_words) (sym (c.after.ensures ∙ w.after)) ∙ sym (stripped_is close_words c.after.result.now) ∙ c.in_err-body.ensures.cases in
    rw c.from_residual.ensures (sym (not-closed x.text.now x.name_a.now x.name_b.now o s t q))

pub returns-in_err-code_a-clause-read : goal.returns-in_err-code_a-clause-read
unfolding bytes_of line_of
returns-in_err-code_a-clause-read c =
    let x = c.args in
    let o : starts open_words x.text.now ≡ true = sym (starts_is open_words x.text.now) ∙ sym c.starts_with.ensures.value ∙ c.if-not-starts_with.false in
    let w = c.wires_in-wires.ensures in
    let n = count_is c.wires_in-wires.result c.count.result c.count.ensures.ran ∙ ap length w.wires in
    let s : few (length (wires_in x.text.now)) ≡ true = rw (← n) (sym c.is_few.ensures ∙ c.if-not-is_few.false) in
    let t : twice_of (wires_in x.text.now) ≡ false = ap twice_of (sym w.wires) ∙ sym c.twice.ensures ∙ c.if-twice.false in
    let q : starts close_words (drop (wires_over x.text.now) x.text.now) ≡ true
    = ap (starts close_words) (sym (c.after.ensures ∙ w.after)) ∙ sym (stripped_is close_words c.after.result.now) ∙ c.in_ok-body.ensures.cases.0 in
    let a = c.in_err-code_a.ensures ∙ ap (code_named x.name_a.now) w.wires in
    rw c.from_residual-in_err-code_a.ensures
    (sym (is-closed x.text.now x.name_a.now x.name_b.now o s t q ∙ rw (← a) (no_first _ _)))

pub returns-in_err-code_b-clause-read : goal.returns-in_err-code_b-clause-read
unfolding bytes_of line_of
returns-in_err-code_b-clause-read c =
    let x = c.args in
    let o : starts open_words x.text.now ≡ true = sym (starts_is open_words x.text.now) ∙ sym c.starts_with.ensures.value ∙ c.if-not-starts_with.false in
    let w = c.wires_in-wires.ensures in
    let n = count_is c.wires_in-wires.result c.count.result c.count.ensures.ran ∙ ap length w.wires in
    let s : few (length (wires_in x.text.now)) ≡ true = rw (← n) (sym c.is_few.ensures ∙ c.if-not-is_few.false) in
    let t : twice_of (wires_in x.text.now) ≡ false = ap twice_of (sym w.wires) ∙ sym c.twice.ensures ∙ c.if-twice.false in
    let q : starts close_words (drop (wires_over x.text.now) x.text.now) ≡ true
    = ap (starts close_words) (sym (c.after.ensures ∙ w.after)) ∙ sym (stripped_is close_words c.after.result.now) ∙ c.in_ok-body.ensures.cases.0 in
    let b = c.in_err-code_b.ensures ∙ ap (code_named x.name_b.now) w.wires in
    rw c.from_residual-in_err-code_b.ensures
    (sym (is-closed x.text.now x.name_a.now x.name_b.now o s t q ∙ rw (← b) (no_second _ _)))

pub returns-clause-read : goal.returns-clause-read
unfolding bytes_of line_of
returns-clause-read c =
    let x = c.args in
    let o : starts open_words x.text.now ≡ true = sym (starts_is open_words x.text.now) ∙ sym c.starts_with.ensures.value ∙ c.if-not-starts_with.false in
    let w = c.wires_in-wires.ensures in
    let n = count_is c.wires_in-wires.result c.count.result c.count.ensures.ran ∙ ap length w.wires in
    let s : few (length (wires_in x.text.now)) ≡ true = rw (← n) (sym c.is_few.ensures ∙ c.if-not-is_few.false) in
    let t : twice_of (wires_in x.text.now) ≡ false = ap twice_of (sym w.wires) ∙ sym c.twice.ensures ∙ c.if-twice.false in
    let z = c.after.ensures ∙ w.after in
    let q : starts close_words (drop (wires_over x.text.now) x.text.now) ≡ true
    = ap (starts close_words) (sym z) ∙ sym (stripped_is close_words c.after.result.now) ∙ c.in_ok-body.ensures.cases.0 in
    let a = c.in_ok-code_a.ensures ∙ ap (code_named x.name_a.now) w.wires in
    let b = c.in_ok-code_b.ensures ∙ ap (code_named x.name_b.now) w.wires in
    let body : length x.text.now - length c.in_ok-body.body.now ≡ wires_over x.text.now + 35
    = omega (arith, ap length z, length-drop (wires_over x.text.now) x.text.now, c.in_ok-body.ensures.cases.2) in
    rw body (sym (is-closed x.text.now x.name_a.now x.name_b.now o s t q ∙ rw (← a, ← b) (both_named _ _ _)))

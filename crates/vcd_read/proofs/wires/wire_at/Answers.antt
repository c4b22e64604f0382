-- `wire_at` meets its contract: each piece that is taken off is one that the definition asks for, in its order. Assumes nothing.
use mathlib.Core.Path.{◌≡◌, sym, ◌∙◌, ap}
use mathlib.Core.List.{[], ◌∷◌}
use native.Mathlib.Omega.{arith}
use lib.ListN.{length, drop, length-drop}
use Rattle.text.specs.Bytes.{bytes_of}
use Rattle.vcd_text.specs.Header.{line_of}
use Rattle.vcd_read.specs.Wires.{var_words, end_words, name_here}
use Rattle.vcd_read.proofs.Laws.Starts.{stripped_is, visible_is, blank_is, name_within}
use Rattle.vcd_read.proofs.Laws.Wires.{other_words, too_short, no_code, no_blank, no_name, no_end, wire_is, code_at, blank_at, name_at, size_at, name_there, after_name, after_line}
use Rattle.vcd_read.proofs.wires.wire_at.Goals as goal

pub returns-in_err-from_code : goal.returns-in_err-from_code
unfolding bytes_of
returns-in_err-from_code c =
    rw c.from_residual.ensures (other_words c.args.text.now (sym (stripped_is var_words c.args.text.now) ∙ c.in_err-from_code.ensures.cases))

pub returns-in_err-code : goal.returns-in_err-code
returns-in_err-code c =
    let l = length-drop 12 c.args.text.now in
    let e = ap length c.in_ok-from_code.ensures.cases.1 in
    rw c.from_residual-in_err-code.ensures (too_short c.args.text.now (omega (arith, c.in_err-code.ensures.cases)))

pub returns-then-not-is_ascii_graphic : goal.returns-then-not-is_ascii_graphic
returns-then-not-is_ascii_graphic c =
    let text = c.args.text.now in
    let e : drop 12 text ≡ c.in_ok-code.code.now ∷ c.in_ok-code.after_code.now = sym c.in_ok-from_code.ensures.cases.1 ∙ c.in_ok-code.ensures.cases.0 in
    no_code text (rw (code_at text _ _ e, ← visible_is c.in_ok-code.code.now) (sym c.is_ascii_graphic.ensures.value ∙ c.if-not-is_ascii_graphic.true))

pub returns-in_err-from_name : goal.returns-in_err-from_name
returns-in_err-from_name c =
    let text = c.args.text.now in
    let after = c.in_ok-code.after_code.now in
    let e : drop 12 text ≡ c.in_ok-code.code.now ∷ after = sym c.in_ok-from_code.ensures.cases.1 ∙ c.in_ok-code.ensures.cases.0 in
    rw c.from_residual-in_err-from_name.ensures
    (no_blank text (rw (blank_at text _ _ e) (sym (blank_is after) ∙ sym (stripped_is (32 ∷ []) after) ∙ c.in_err-from_name.ensures.cases)))

pub split_at-requires : goal.split_at-requires
split_at-requires c = omega (arith, name_within 33 c.in_ok-from_name.from_name.now, c.name_length.ensures)

pub returns-then-not-is_named : goal.returns-then-not-is_named
returns-then-not-is_named c =
    let text = c.args.text.now in
    let after = c.in_ok-code.after_code.now in
    let e : drop 12 text ≡ c.in_ok-code.code.now ∷ after = sym c.in_ok-from_code.ensures.cases.1 ∙ c.in_ok-code.ensures.cases.0 in
    let n : drop 14 text ≡ c.in_ok-from_name.from_name.now = name_at text _ _ e ∙ sym c.in_ok-from_name.ensures.cases.1 in
    let size = size_at text _ _ n c.name_length.ensures in
    no_name text (rw (← size, ← c.split_at.ensures.front_len) (sym c.is_named.ensures ∙ c.if-not-is_named.true))

pub returns-in_err-rest : goal.returns-in_err-rest
unfolding bytes_of line_of
returns-in_err-rest c =
    let text = c.args.text.now in
    let after = c.in_ok-code.after_code.now in
    let e : drop 12 text ≡ c.in_ok-code.code.now ∷ after = sym c.in_ok-from_code.ensures.cases.1 ∙ c.in_ok-code.ensures.cases.0 in
    let n : drop 14 text ≡ c.in_ok-from_name.from_name.now = name_at text _ _ e ∙ sym c.in_ok-from_name.ensures.cases.1 in
    let from_end = c.split_at.ensures.back ∙ after_name text _ _ n c.name_length.ensures in
    rw c.from_residual-in_err-rest.ensures
    (no_end text (rw (← from_end) (sym (stripped_is end_words c.split_at.result.1.now) ∙ c.in_err-rest.ensures.cases)))

pub returns : goal.returns
unfolding bytes_of line_of
returns c =
    let text = c.args.text.now in
    let after = c.in_ok-code.after_code.now in
    let e : drop 12 text ≡ c.in_ok-code.code.now ∷ after = sym c.in_ok-from_code.ensures.cases.1 ∙ c.in_ok-code.ensures.cases.0 in
    let n : drop 14 text ≡ c.in_ok-from_name.from_name.now = name_at text _ _ e ∙ sym c.in_ok-from_name.ensures.cases.1 in
    let size = size_at text _ _ n c.name_length.ensures in
    let name : c.split_at.result.0.now ≡ name_here text = c.split_at.ensures.front ∙ name_there text _ _ n c.name_length.ensures in
    let from_end = c.split_at.ensures.back ∙ after_name text _ _ n c.name_length.ensures in (
      wire_is text
          (sym (stripped_is var_words text) ∙ c.in_ok-from_code.ensures.cases.0)
          (rw (code_at text _ _ e, ← visible_is c.in_ok-code.code.now) (sym c.is_ascii_graphic.ensures.value ∙ c.if-not-is_ascii_graphic.false))
          (rw (blank_at text _ _ e) (sym (blank_is after) ∙ sym (stripped_is (32 ∷ []) after) ∙ c.in_ok-from_name.ensures.cases.0))
          (rw (← size, ← c.split_at.ensures.front_len) (sym c.is_named.ensures ∙ c.if-not-is_named.false))
          (rw (← from_end) (sym (stripped_is end_words c.split_at.result.1.now) ∙ c.in_ok-rest.ensures.cases.0)),
      rw (name, code_at text _ _ e),
      c.in_ok-rest.ensures.cases.1 ∙ ap (drop 6) from_end ∙ after_line text,
    )

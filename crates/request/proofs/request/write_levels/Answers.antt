-- `write_levels` meets its contract: a turn writes the frame's next level, which is bit i / 16 of the register. Assumes nothing.
use mathlib.Core.Path.{◌≡◌, refl, sym, ◌∙◌}
use mathlib.Core.Bool.{Bool, true, false}
use native.Mathlib.Numerals.{add-one}
use native.Mathlib.Omega.{arith}
use lib.ListN.{get_or}
use mir.Val.{bool_byte}
use Rattle.format.specs.Digits.{bit}
use Rattle.request.specs.Request.{open_levels}
use Rattle.request.proofs.Laws.Request.{open_length, open_at, over_more}
use Rattle.request.proofs.request.write_levels.Goals as goal

byte_bit : (level : Bool) → bool_byte level ≡ bit level
byte_bit true = refl
byte_bit false = refl

pub loop-i-preserved : goal.loop-i-preserved
loop-i-preserved c =
    let a = c.args in
    let n = open_length a.mr1 a.byte a.pulses.0 in
    let level_is : c.from.result ≡ get_or (open_levels a.mr1 a.byte a.pulses.0) c.loop-i.i 1 =
    c.from.ensures ∙ byte_bit c.level_of.result ∙ rw (c.level_of.ensures, c.frame_bits-bits.ensures) (sym (open_at a.mr1 a.byte a.pulses.0 c.loop-i.i)) in
    rw (level_is, c.loop-i.invariant, add-one)
    (over_more (open_levels a.mr1 a.byte a.pulses.0) a.space.now c.loop-i.i (omega (arith, c.requires)) (omega arith))

pub returns : goal.returns
returns c =
    let e : c.loop-i.i ≡ c.args.pulses.0 = omega arith in
    c.loop-i.invariant ∙ rw e

-- `pulse_between` meets its contract: each way through the tests is the definition's, with the callee's answer. Assumes nothing.
use mathlib.Core.Path.{◌≡◌, refl}
use mathlib.Core.Bool.{Bool, true, false, ◌&&◌}
use Rattle.format.specs.Pick.{pick}
use Rattle.format.proofs.Laws.{steps}
use Rattle.transmitter_state.specs.Sending.{sent_on_of, pulsed_of}
use Rattle.transmitter_state.proofs.sending.pulse_between.Goals as goal

-- whatever the first test says, unless both hold
not-both : {A : Type 0} (a b : Bool) (x y : A) → (a && b) ≡ false → pick a (pick b x y) y ≡ y
unfolding pick
not-both true b x y e = rw e
not-both false b x y e = refl

pub returns-then-transmitter-eq-IN_BREAK : goal.returns-then-transmitter-eq-IN_BREAK
unfolding pulsed_of
returns-then-transmitter-eq-IN_BREAK c = simp c.if-transmitter-eq-IN_BREAK.true (search steps)

pub returns-then-transmitter-eq-AFTER_BREAK : goal.returns-then-transmitter-eq-AFTER_BREAK
unfolding pulsed_of
returns-then-transmitter-eq-AFTER_BREAK c = rw (c.hold_high.ensures, c.if-transmitter-eq-AFTER_BREAK.true) (search steps)

pub returns : goal.returns
unfolding pulsed_of sent_on_of
returns c = simp c.begin.ensures (search (steps, not-both))

-- A pulse that finds the transmitter free, idle or with all of a frame sent, is one that finds it idle: by cases on the phase. And inputs
-- one after the other, by induction. Assumes nothing.
use mathlib.Core.Path.{◌≡◌, refl, sym, ◌∙◌}
use mathlib.Core.Bool.{Bool, true, false, not, ◌&&◌, and-eq-true_iff}
use mathlib.Core.List.{List, [], ◌∷◌, ◌++◌}
use lib.Dec.{eqb, leb}
use borrow.Author.Tests.{leb-true, le-ltb}
use Rattle.format.specs.Pick.{pick}
use Rattle.format.proofs.Laws.Pick.{pick_no}
use Rattle.transmitter_state.specs.declared.sending.Standing.{Standing}
use Rattle.transmitter_state.specs.declared.state.Transmitter.{Transmitter}
use Rattle.transmitter_state.specs.Sending.{can_start, started_of, break_begun, idle_of, begun_of, sent_on_of, pulsed_of}
use Rattle.transmitter.specs.declared.transmitter.Input.{Input}
use Rattle.transmitter.specs.declared.transmitter.Input.TheVariants.{Pulse}
use Rattle.transmitter.specs.Transmitter.{after_input}
use Rattle.transmitter.specs.Frames.{Step, after, free}

pub no_test : (x : Bool) → not x ≡ true → x ≡ false
no_test true e = sym e
no_test false e = refl

pub free_begins : (t : Transmitter) (s : Standing) → free t ≡ true → after_input t (Pulse s) ≡ begun_of t s
unfolding after_input pulsed_of sent_on_of pick
free_begins t s h = go (eqb t.phase 1) refl h
  where
    go : (sending : Bool) → eqb t.phase 1 ≡ sending
        → pick sending (leb t.shifter.length.0 t.shifter.sent.0) (not (eqb t.phase 2) && not (eqb t.phase 3)) ≡ true
        → after_input t (Pulse s) ≡ begun_of t s
    go true e all = rw (e, le-ltb _ _ (leb-true t.shifter.length.0 t.shifter.sent.0 all))
    go false e idle =
        let both = (and-eq-true_iff (not (eqb t.phase 2)) (not (eqb t.phase 3))).0 idle in
        rw (e, no_test (eqb t.phase 2) both.0, no_test (eqb t.phase 3) both.1)

-- with no character to start, a break that is asked begins
pub none_begins : (t : Transmitter) (s : Standing) → free t ≡ true → can_start t s ≡ false
    → after_input t (Pulse s) ≡ pick t.asked (break_begun t) (idle_of t)
unfolding begun_of
none_begins t s f c = free_begins t s f ∙ pick_no (can_start t s) (started_of t s) (pick t.asked (break_begun t) (idle_of t)) c

pub after_append : (step : Step) (t : Transmitter) (xs ys : List Input) → after step t (xs ++ ys) ≡ after step (after step t xs) ys
unfolding after
after_append step t [] ys = refl
after_append step t (x ∷ xs) ys = after_append step (step t x) xs ys

-- Each input but a pulse does what it must and no more: each is its definition at one value of its test. Assumes nothing.
use mathlib.Core.Path.{◌≡◌, refl}
use mathlib.Core.Bool.{Bool, true, false, ◌||◌, or-false, or-true}
use lib.Dec.{eqb}
use borrow.Author.Tests.{eqb-true}
use Rattle.format.specs.Pick.{pick}
use Rattle.format.proofs.Laws.Pick.{pick_all}
use Rattle.transmitter_state.specs.declared.state.Transmitter.{Transmitter}
use Rattle.transmitter_state.specs.State.{with_asked}
use Rattle.transmitter.specs.declared.transmitter.Input.TheVariants.{StartBreak, Reset}
use Rattle.transmitter.specs.Commands.{written_of, break_ended, dropped_of, break_asked}
use Rattle.transmitter.specs.Status.{shifter_empty}
use Rattle.transmitter.specs.Transmitter.{after_input}
use Rattle.transmitter.specs.Frames.{free}
use Rattle.transmitter.specs.Obeys.{AllDropped, Obeys}

unasked : (t : Transmitter) → t.enabled ≡ false → after_input t StartBreak ≡ t
unfolding after_input break_asked
unasked t e =
    let still : (t.asked || t.enabled) ≡ t.asked = rw e (or-false t.asked) in
    rw still (pick_all (λ (u : Transmitter). u ≡ t) (eqb t.phase 2) _ _ refl refl)

asks : (t : Transmitter) → t.enabled ≡ true → eqb t.phase 2 ≡ false → after_input t StartBreak ≡ with_asked t true
unfolding after_input break_asked pick
asks t e n = rw (n, e, or-true t.asked)

-- a break's end leaves nothing asked
ended_unasked : (t : Transmitter) → (break_ended t).asked ≡ false
unfolding break_ended
ended_unasked t = pick_all (λ (u : Transmitter). u.asked ≡ false) (eqb t.phase 2) _ _ refl refl

-- it is idle, or still owes the high bit after a break
dropped_empty : (t : Transmitter) → shifter_empty (dropped_of t) ≡ true
unfolding dropped_of pick
dropped_empty t = go (eqb t.phase 3) refl
  where
    go : (owed : Bool) → eqb t.phase 3 ≡ owed → shifter_empty (dropped_of t) ≡ true
    go true e = rw (eqb-true t.phase 3 e)
    go false e = rw e

resets : (t : Transmitter) → AllDropped (after_input t Reset)
unfolding after_input dropped_of
resets t =
    record { disabled = refl; holding = refl; shifter = dropped_empty (break_ended t); asked = ended_unasked t; high = refl }

frees : (t : Transmitter) → eqb (break_ended t).phase 3 ≡ false → free (dropped_of (break_ended t)) ≡ true
unfolding dropped_of pick
frees t e = rw e

owes : (t : Transmitter) → eqb (break_ended t).phase 3 ≡ true → eqb (dropped_of (break_ended t)).phase 3 ≡ true
unfolding dropped_of pick
owes t e = rw (e, e)

pub obeys : Obeys after_input
unfolding after_input written_of break_ended break_asked dropped_of pick
obeys =
    record {
      ignores = λ t byte e. rw e;
      writes = λ t byte e. rw e;
      enables = λ t. refl;
      disables = λ t. refl;
      unasked = unasked;
      asks = asks;
      already = λ t e. rw e;
      drops = λ t e. rw e;
      resets = resets;
      frees = frees;
      owes = λ t e. (owes t e, refl);
      resets_chip = λ t. refl;
      changes = λ t.
          record { shifter = refl; free = refl; high = refl; stays = record { enabled = refl; full = refl; holding = refl; asked = refl } };
      nothing = λ t. refl;
    }

-- A chip reset leaves the levels of the pins alone, so what follows it is a run from there; a refused event leaves the device as it was, so it may be
-- dropped from a list, by induction over the list. Assumes nothing.
use Prim.Native.Nat.{ℕ}
use mathlib.Core.Path.{◌≡◌, refl, ap}
use mathlib.Core.Bool.{Bool, true, false}
use mathlib.Core.List.{List, [], ◌∷◌, ◌++◌}
use lib.Dec.{eqb}
use borrow.Author.Tests.{eqb-false}
use Rattle.format.specs.Pick.{pick}
use Rattle.events.specs.declared.events.Event.{Event}
use Rattle.events.specs.declared.events.Event.TheVariants.{ChipReset}
use Rattle.chip_device.specs.declared.device.Device.{Device}
use Rattle.chip_device.specs.Device.{fresh_device}
use Rattle.chip_step.specs.Chip.{step_of}
use Rattle.chip_laws.specs.Sound.{after}
use Rattle.chip_laws.specs.Lists.{seen_of, all_seen}
use Rattle.chip_laws.specs.Reset.{reset_at}
use Rattle.chip_laws.proofs.Reset.{resets}
use Rattle.chip_laws.proofs.Sound.{stays_sound}
use Rattle.chip_laws.proofs.Table.{table}
use Rattle.demands.specs.Chip.{chip_of}
use Rattle.demands.specs.Reached.{accepted, accepted_seen, Reached, Unaltered}
use Rattle.demands.proofs.Laws.Run.{run_append, step_sound, run_at}

-- ---- the refused ones of a list ----

still : (d : Device) (e : Event) → eqb (step_of d e).number 0 ≡ false → (step_of d e).state ≡ d
still d e h = table.unaltered d e (eqb-false _ 0 h)

states : (d : Device) (es : List Event) → after step_of d (accepted step_of d es) ≡ after step_of d es
unfolding after accepted pick
states d [] = refl
states d (e ∷ es) = go (eqb (step_of d e).number 0) refl (states (step_of d e).state es)
  where
    go : (t : Bool) → eqb (step_of d e).number 0 ≡ t
        → after step_of (step_of d e).state (accepted step_of (step_of d e).state es) ≡ after step_of (step_of d e).state es
        → after step_of d (pick t (e ∷ []) [] ++ accepted step_of (step_of d e).state es) ≡ after step_of (step_of d e).state es
    go true h ih = ih
    go false h ih = rw (still d e h) (rw (still d e h) at (ih))

answers : (d : Device) (es : List Event) → all_seen step_of d (accepted step_of d es) ≡ accepted_seen step_of d es
unfolding all_seen accepted accepted_seen pick
answers d [] = refl
answers d (e ∷ es) = go (eqb (step_of d e).number 0) refl (answers (step_of d e).state es)
  where
    go : (t : Bool) → eqb (step_of d e).number 0 ≡ t
        → all_seen step_of (step_of d e).state (accepted step_of (step_of d e).state es) ≡ accepted_seen step_of (step_of d e).state es
        → all_seen step_of d (pick t (e ∷ []) [] ++ accepted step_of (step_of d e).state es)
        ≡ pick t (seen_of (step_of d e) ∷ []) [] ++ accepted_seen step_of (step_of d e).state es
    go true h ih = rw ih
    go false h ih = rw (still d e h) (rw (still d e h) at (ih))

rest : (d : Device) (es : List Event) → accepted step_of d (accepted step_of d es) ≡ accepted step_of d es
unfolding accepted pick
rest d [] = refl
rest d (e ∷ es) = go (eqb (step_of d e).number 0) refl (rest (step_of d e).state es)
  where
    go : (t : Bool) → eqb (step_of d e).number 0 ≡ t
        → accepted step_of (step_of d e).state (accepted step_of (step_of d e).state es) ≡ accepted step_of (step_of d e).state es
        → accepted step_of d (pick t (e ∷ []) [] ++ accepted step_of (step_of d e).state es)
        ≡ pick t (e ∷ []) [] ++ accepted step_of (step_of d e).state es
    go true h ih = rw (h, ih)
    go false h ih = rw (still d e h) (rw (still d e h) at (ih))

-- ---- the run after a chip reset ----

pub reached : Reached step_of
unfolding chip_of fresh_device
reached =
    record {
      reset = resets.accepted;
      chip = λ d es e s. rw (resets.state d s);
      fresh = λ es e. refl;
      sound = λ d es s. stays_sound (step_of d ChipReset).state es (step_sound d ChipReset s);
      states = states;
      answers = answers;
      rest = rest;
    }

-- ---- a refused event ----

-- the run goes on as if it had not come
run_without : (levels : ℕ) (es fs : List Event) (e : Event) → ((step_of (run_at levels es) e).number ≡ 0 → ⊥)
    → run_at levels (es ++ e ∷ fs) ≡ run_at levels (es ++ fs)
unfolding after
run_without levels es fs e h =
    rw (run_append (reset_at levels) es (e ∷ fs), run_append (reset_at levels) es fs, table.unaltered (run_at levels es) e h)

pub unaltered : Unaltered (chip_of step_of)
unfolding chip_of
unaltered =
    record {
      refused = λ levels es fs e g h. ap (λ (d : Device). seen_of (step_of d g)) (run_without levels es fs e h);
      silent = λ levels es e h. table.silent (run_at levels es) e h;
    }

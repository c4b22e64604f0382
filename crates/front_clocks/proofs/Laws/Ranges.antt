-- A tick and a pin event keep the front in range, from any that is, reached or not, and hand to the receivers what is in range: each part by its
-- own law. Assumes nothing.
use Prim.Native.Nat.{ℕ}
use mathlib.Core.Path.{◌≡◌}
use mathlib.Core.Bool.{Bool, true, false}
use Rattle.format.proofs.Laws.Pick.{pick_all}
use Rattle.timer_state.specs.declared.counting.Counted.{Counted}
use Rattle.timer_state.specs.declared.counting.Timer.{Timer}
use Rattle.timer_state.specs.Counting.{mode_of}
use Rattle.timer.specs.Sound.{timer_in_range}
use Rattle.timer.proofs.Laws.Ranges.{ticked_kept, edged_kept, transmitted_kept}
use Rattle.inputs.specs.Inputs.{rises_of, moved_of}
use Rattle.front_side_clocks.specs.declared.clocking.Clocking.{Clocking}
use Rattle.front.specs.declared.front.Front.{Front}
use Rattle.front_clocks.specs.Clocking.{counted_of, clocked_with, clocked_of, ticked_of, levels_moved}
use Rattle.front.specs.Front.{with_ports}
use Rattle.inputs.proofs.Laws.Ranges.{moved_most}
use Rattle.front_side.proofs.Laws.Ranges.{HandsWithin}
use Rattle.front_side_clocks.proofs.Laws.Ranges.{clocked_within}
use Rattle.front.proofs.Laws.Ranges.{FrontWithin, HandedWithin, sides_within, ports_within}

counted_in_range : (f : Front) (before : ℕ) (tick : Bool) → FrontWithin f → timer_in_range (counted_of f before tick).timer ≡ true
unfolding counted_of
counted_in_range f before tick h =
    pick_all Next tick _ _ (ticked_kept mode f.timer h.timer)
    (pick_all Next (rises_of before f.inputs.levels 2) _ _ (edged_kept mode f.timer h.timer) h.timer)
  where
    Next : Counted → Type 0
    Next c = timer_in_range c.timer ≡ true

    mode : ℕ
    mode = mode_of f.acr

clocked_with_within : (f : Front) (t : Timer) (a b : Clocking) → FrontWithin f → timer_in_range t ≡ true
    → HandsWithin a.side a.feed → HandsWithin b.side b.feed
    → HandedWithin (clocked_with f t a b)
unfolding clocked_with
clocked_with_within f t a b h ht ha hb =
    record {
      front = sides_within f _ _ _ h ha.side hb.side (transmitted_kept (mode_of f.acr) a.one b.one t ht);
      a = ha.feed;
      b = hb.feed;
    }

clocked_front_within : (f : Front) (before : ℕ) (tick : Bool) → FrontWithin f → HandedWithin (clocked_of f before tick)
unfolding clocked_of
clocked_front_within f before tick h =
    clocked_with_within f _ _ _ h (counted_in_range f before tick h)
    (clocked_within f.a _ _ tick _ h.a)
    (clocked_within f.b _ _ tick _ h.b)

pub ticked_within : (f : Front) → FrontWithin f → HandedWithin (ticked_of f)
ticked_within f h = clocked_front_within f f.inputs.levels true h

pub levels_moved_within : (f : Front) (levels : ℕ) → FrontWithin f → HandedWithin (levels_moved f levels)
unfolding levels_moved
levels_moved_within f levels h =
    clocked_front_within (with_ports f (moved_of f.inputs levels) f.outputs) f.inputs.levels false
    (ports_within f _ _ h (moved_most f.inputs levels h.changes) h.opcr)

-- A read keeps the front in range, from any that is, reached or not, and hands to the receivers what is in range: it moves a pointer, clears
-- the change flags, starts or stops the counter/timer, or does nothing. Assumes nothing.
use Prim.Native.Nat.{ℕ, ◌/◌, ◌%◌}
use mathlib.Core.Path.{refl}
use mathlib.Core.Bool.{true}
use native.Mathlib.Omega.{arith}
use lib.Dec.{eqb}
use Rattle.format.proofs.Laws.Pick.{pick_all}
use Rattle.timer_state.specs.Counting.{mode_of}
use Rattle.timer.proofs.Laws.Ranges.{started_kept, stopped_kept}
use Rattle.inputs.specs.Inputs.{changes_cleared}
use Rattle.front_side.specs.declared.side.Side.{Side}
use Rattle.front.specs.declared.front.Front.{Front}
use Rattle.front_reads.specs.Reads.{side_read, shared_read, register_read}
use Rattle.front.proofs.Laws.Ranges.{FrontWithin, HandedWithin, SideHandedWithin, sides_within, ports_within, nothing_within, handed_a_within, handed_b_within}
use Rattle.front_side.proofs.Laws.Ranges.{SideWithin, pointed_within}

side_read_within : (s : Side) (n : ℕ) → SideWithin s → SideHandedWithin (side_read s n)
unfolding side_read
side_read_within s n h =
    pick_all SideHandedWithin (eqb n 0) _ _ (record { side = pointed_within s true s.enabled s.echo h; feed = refl })
    (pick_all SideHandedWithin (eqb n 3) _ _ (record { side = h; feed = refl }) (record { side = h; feed = refl }))

shared_read_within : (f : Front) (n : ℕ) → FrontWithin f → FrontWithin (shared_read f n)
unfolding shared_read
shared_read_within f n h =
    pick_all FrontWithin (eqb n 4) _ _ (ports_within f (changes_cleared f.inputs) f.outputs h (omega arith) h.opcr)
    (pick_all FrontWithin (eqb n 14) _ _ (sides_within f _ _ _ h h.a h.b (started_kept (mode_of f.acr) f.timer h.timer))
    (pick_all FrontWithin (eqb n 15) _ _ (sides_within f _ _ _ h h.a h.b (stopped_kept (mode_of f.acr) f.timer h.timer))
    h))

pub register_read_within : (f : Front) (n : ℕ) → FrontWithin f → HandedWithin (register_read f n)
unfolding register_read
register_read_within f n h =
    pick_all HandedWithin (eqb (n / 4) 0) _ _ (handed_a_within f _ h (side_read_within f.a (n % 4) h.a))
    (pick_all HandedWithin (eqb (n / 4) 2) _ _ (handed_b_within f _ h (side_read_within f.b (n % 4) h.b))
    (nothing_within _ (shared_read_within f n h)))

-- A chip reset leaves the front in range, and so does another part in range; what an access hands over is in range with it. Assumes nothing.
use Prim.Native.Nat.{ℕ, ◌≤◌}
use mathlib.Core.Path.{◌≡◌, refl}
use mathlib.Core.Bool.{true, false, and-eq-true_iff}
use native.Mathlib.Omega.{arith}
use borrow.Author.Tests.{not-true, leb-true, le-leb}
use lib.Dec.{leb}
use Rattle.timer_state.specs.declared.counting.Timer.{Timer}
use Rattle.timer.specs.Sound.{timer_in_range}
use Rattle.timer.proofs.Laws.Ranges.{fresh_in_range}
use Rattle.inputs.specs.declared.inputs.Inputs.{Inputs}
use Rattle.outputs.specs.declared.outputs.Outputs.{Outputs}
use Rattle.outputs.specs.Outputs.{opcr_not_modelled}
use Rattle.feed.specs.Ranges.{feed_in_range}
use Rattle.front_side.specs.declared.side.Side.{Side}
use Rattle.front_side.specs.Sound.{side_in_range}
use Rattle.front.specs.declared.front.Front.{Front}
use Rattle.front.specs.declared.front.Handed.{Handed}
use Rattle.front.specs.declared.front.SideHanded.{SideHanded}
use Rattle.front.specs.Front.{front_at, with_sides, with_ports, handed_nothing, handed_a, handed_b}
use Rattle.front.specs.Sound.{front_in_range}
use Rattle.front_side.proofs.Laws.Ranges.{SideWithin, HandsWithin, side_told, side_shown, fresh_side_within}

-- the ranges, a part a field
pub record FrontWithin (f : Front) : Type 0 where
  pub a : SideWithin f.a
  pub b : SideWithin f.b
  pub timer : timer_in_range f.timer ≡ true
  pub changes : f.inputs.changes ≤ 15
  pub opcr : opcr_not_modelled f.outputs.opcr ≡ false

pub front_told : (f : Front) → front_in_range f ≡ true → FrontWithin f
front_told f e =
    let a = (and-eq-true_iff (side_in_range f.a) _).0 e in
    let b = (and-eq-true_iff (side_in_range f.b) _).0 a.1 in
    let c = (and-eq-true_iff (timer_in_range f.timer) _).0 b.1 in
    let d = (and-eq-true_iff (leb f.inputs.changes 15) _).0 c.1 in
    record { a = side_told f.a a.0; b = side_told f.b b.0; timer = c.0; changes = leb-true _ _ d.0; opcr = not-true _ d.1 }

pub front_shown : (f : Front) → FrontWithin f → front_in_range f ≡ true
front_shown f h = rw (side_shown f.a h.a, side_shown f.b h.b, h.timer, le-leb _ _ h.changes, h.opcr)

-- what an event makes of the front and hands to the receivers, and the same of one side
pub record HandedWithin (h : Handed) : Type 0 where
  pub front : FrontWithin h.front
  pub a : feed_in_range h.a ≡ true
  pub b : feed_in_range h.b ≡ true

abbrev pub SideHandedWithin : SideHanded → Type 0
SideHandedWithin x = HandsWithin x.side x.feed

-- ---- a front with another part ----

pub sides_within : (f : Front) (a b : Side) (t : Timer) → FrontWithin f → SideWithin a → SideWithin b → timer_in_range t ≡ true
    → FrontWithin (with_sides f a b t)
sides_within f a b t h ha hb ht = record { a = ha; b = hb; timer = ht; changes = h.changes; opcr = h.opcr }

pub ports_within : (f : Front) (i : Inputs) (o : Outputs) → FrontWithin f → i.changes ≤ 15 → opcr_not_modelled o.opcr ≡ false
    → FrontWithin (with_ports f i o)
ports_within f i o h hi ho = record { a = h.a; b = h.b; timer = h.timer; changes = hi; opcr = ho }

pub nothing_within : (f : Front) → FrontWithin f → HandedWithin (handed_nothing f)
nothing_within f h = record { front = h; a = refl; b = refl }

pub handed_a_within : (f : Front) (x : SideHanded) → FrontWithin f → SideHandedWithin x → HandedWithin (handed_a f x)
handed_a_within f x h k = record { front = sides_within f _ _ _ h k.side h.b h.timer; a = k.feed; b = refl }

pub handed_b_within : (f : Front) (x : SideHanded) → FrontWithin f → SideHandedWithin x → HandedWithin (handed_b f x)
handed_b_within f x h k = record { front = sides_within f _ _ _ h h.a k.side h.timer; a = refl; b = k.feed }

-- ---- a chip reset ----

pub front_at_within : (levels : ℕ) → FrontWithin (front_at levels)
unfolding front_at
front_at_within levels = record { a = fresh_side_within; b = fresh_side_within; timer = fresh_in_range; changes = omega arith; opcr = refl }

-- Room for a tick is the divider's own rule: with room the next tick is no pulse and leaves one less, without it the next tick is
-- the pulse. Assumes nothing.
use Prim.Native.Nat.{◌+◌, ◌<◌, ◌≤◌}
use mathlib.Core.Path.{◌≡◌}
use mathlib.Core.Bool.{true, false}
use native.Mathlib.Omega.{arith}
use borrow.Author.Tests.{lt-ltb, le-ltb}
use Rattle.format.specs.declared.counts.Ticks.{Ticks}
use Rattle.format.specs.Pick.{pick}
use Rattle.dividers.specs.Divider.{divided_of, room_of}
use Rattle.dividers.proofs.Laws.Divider.{ticks_of}

pub room_counts : (phase period : Ticks) → 0 < (room_of phase period).0
    → divided_of phase period ≡ record { phase = ticks_of (phase.0 + 1); pulse = false }
unfolding divided_of room_of pick
room_counts phase period h = rw (lt-ltb (phase.0 + 1) period.0 (omega (arith, h)))

pub room_falls : (phase period : Ticks) → (room_of phase period).0 ≤ (room_of (ticks_of (phase.0 + 1)) period).0 + 1
unfolding room_of
room_falls phase period = omega arith

pub no_room_pulses : (phase period : Ticks) → (room_of phase period).0 ≡ 0 → (divided_of phase period).pulse ≡ true
unfolding divided_of room_of pick
no_room_pulses phase period h = rw (le-ltb (phase.0 + 1) period.0 (omega (arith, h)))

pub room_below : (phase period : Ticks) → 0 < (room_of phase period).0 → phase.0 + 1 < period.0
unfolding room_of
room_below phase period h = omega (arith, h)

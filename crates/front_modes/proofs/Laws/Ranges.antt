-- A write of the mode registers keeps a side in range, and what the receiver is handed is in range too. Assumes nothing.
use Prim.Native.Nat.{ℕ}
use mathlib.Core.Path.{◌≡◌, refl}
use mathlib.Core.Bool.{false, true}
use Rattle.format.proofs.Laws.Pick.{pick_all}
use Rattle.feed.specs.declared.feed.Feed.{Feed}
use Rattle.feed.specs.Ranges.{feed_in_range}
use Rattle.transmitter.proofs.Laws.Ranges.{ranges_kept}
use Rattle.front_side.specs.declared.side.Side.{Side}
use Rattle.front_side.specs.Side.{mode_not_modelled}
use Rattle.front_side.proofs.Laws.Ranges.{SideWithin, HandsWithin, mode_written_within}
use Rattle.front_modes.specs.Modes.{changes_mode, mode_set, mode_feed}

pub mode_set_within : (s : Side) (byte : ℕ) → mode_not_modelled s byte ≡ false → SideWithin s → HandsWithin (mode_set s byte) (mode_feed s byte)
unfolding mode_set mode_feed
mode_set_within s byte e h =
    let w = mode_written_within s byte e h in
    record {
      side =
          pick_all SideWithin (changes_mode s byte) _ _
          (record { mr1 = w.mr1; mr2 = w.mr2; transmitter = ranges_kept s.transmitter _ h.transmitter; phases = w.phases })
          w;
      feed = pick_all (λ (x : Feed). feed_in_range x ≡ true) (changes_mode s byte) _ _ refl refl;
    }

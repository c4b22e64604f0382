-- A receiver hears nothing where no clock of its channel has a pulse. Assumes nothing.
use mathlib.Core.Path.{◌≡◌, refl}
use mathlib.Core.Bool.{Bool, false, not, ◌||◌}
use Rattle.format.specs.Pick.{pick}
use Rattle.format.proofs.Laws.Pick.{pick_all}
use Rattle.feed.specs.declared.feed.Feed.{Feed}
use Rattle.feed.specs.declared.feed.Feed.TheVariants.{Nothing}
use Rattle.front_side.specs.declared.side.Side.{Side}
use Rattle.front_modes.specs.Modes.{local_mode, remote_mode}
use Rattle.front_side_clocks.specs.Clocking.{pulse_of, line_of}

pub hears_nothing : (s : Side) (rxd : Bool) → line_of s false false rxd ≡ Nothing
unfolding line_of pulse_of pick
hears_nothing s rxd =
    pick_all Silent (not s.enabled || remote_mode s.mr2) Nothing (pick (local_mode s.mr2) Nothing Nothing) refl
    (pick_all Silent (local_mode s.mr2) Nothing Nothing refl refl)
  where
    Silent : Feed → Type 0
    Silent x = x ≡ Nothing

-- A tick or a pin event keeps a side in range, and what the receiver is handed is in range too: each part by its own law. Assumes nothing.
use Prim.Native.Nat.{ℕ, ◌/◌, ◌%◌}
use mathlib.Core.Path.{◌≡◌, refl}
use mathlib.Core.Bool.{Bool, true}
use borrow.Author.Tests.{le-leb}
use Rattle.format.proofs.Laws.Format.{width_least, width_most, parity_most}
use Rattle.format.proofs.Laws.Pick.{pick_all}
use Rattle.clocks.proofs.Laws.Ranges.{phases_kept}
use Rattle.inputs.specs.declared.inputs.ChannelPins.{ChannelPins}
use Rattle.feed.specs.declared.feed.Feed.{Feed}
use Rattle.feed.specs.Ranges.{feed_in_range}
use Rattle.feed.specs.Ranges.{setting_in_range}
use Rattle.transmitter_state.specs.declared.state.Transmitter.{Transmitter}
use Rattle.transmitter.specs.Sound.{transmitter_in_range}
use Rattle.transmitter.proofs.Laws.Ranges.{ranges_kept}
use Rattle.front_side.specs.declared.side.Side.{Side}
use Rattle.front_side_clocks.specs.Clocking.{transmitter_pulsed, setting_of, pulse_of, line_of, side_clocked}
use Rattle.front_side.proofs.Laws.Ranges.{SideWithin, HandsWithin}

pulsed_in_range : (s : Side) (pulse cts : Bool) → SideWithin s → transmitter_in_range (transmitter_pulsed s pulse cts) ≡ true
unfolding transmitter_pulsed
pulsed_in_range s pulse cts h =
    pick_all (λ (t : Transmitter). transmitter_in_range t ≡ true) _ _ _ (ranges_kept s.transmitter _ h.transmitter) h.transmitter

setting_in_range_lem : (s : Side) (code : ℕ) → SideWithin s → setting_in_range (setting_of s.mr1 code) ≡ true
setting_in_range_lem s code h =
    rw (le-leb _ _ (width_least s.mr1), le-leb _ _ (width_most s.mr1), le-leb _ _ (parity_most s.mr1 h.mr1))

pub line_in_range : (s : Side) (receiver transmitter rxd : Bool) → SideWithin s → feed_in_range (line_of s receiver transmitter rxd) ≡ true
unfolding line_of pulse_of
line_in_range s receiver transmitter rxd h =
    pick_all Carries _ _ _ refl
    (pick_all Carries _ _ _ (pick_all Carries transmitter _ _ (setting_in_range_lem s (s.csr % 16) h) refl)
    (pick_all Carries receiver _ _ (setting_in_range_lem s (s.csr / 16) h) refl))
  where
    Carries : Feed → Type 0
    Carries e = feed_in_range e ≡ true

pub clocked_within : (s : Side) (second : Bool) (pins : ChannelPins) (tick toggled : Bool) → SideWithin s
    → HandsWithin (side_clocked s second pins tick toggled).side (side_clocked s second pins tick toggled).feed
unfolding side_clocked
clocked_within s second pins tick toggled h =
    let sent : SideWithin (side_clocked s second pins tick toggled).side =
    record {
      mr1 = h.mr1;
      mr2 = h.mr2;
      transmitter = pulsed_in_range s _ pins.cts h;
      phases = phases_kept s.phases second s.csr _ h.phases;
    } in
    record { side = sent; feed = line_in_range _ _ _ pins.rxd sent }

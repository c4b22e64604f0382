-- The pulses of a channel's clocks by the front's events, on the codes that take no divider: each tick and pin event brings the clocks one event,
-- and what is owed of the clocks says the rest. Assumes nothing.
use Prim.Native.Nat.{ℕ, ◌/◌, ◌<◌}
use mathlib.Core.Path.{◌≡◌, refl, ◌∙◌}
use mathlib.Core.Bool.{Bool, true, false, not, ◌&&◌}
use lib.Dec.{eqb}
use Rattle.clocks.specs.declared.channel.ClockEvent.{ClockEvent}
use Rattle.clocks.specs.Pulses.{Side, code_of, edge_of}
use Rattle.clocks.specs.Pulses.Side.{receives, transmits}
use Rattle.clocks.proofs.Pulses.{clocks}
use Rattle.byte_bits.specs.Bytes.{has_bit}
use Rattle.inputs.specs.declared.inputs.ChannelPins.{ChannelPins}
use Rattle.inputs.specs.Inputs.{moved_of, pins_of_a, pins_of_b}
use Rattle.front.specs.declared.front.Front.{Front}
use Rattle.front_clocks.specs.Clocking.{counted_of}
use Rattle.events.specs.declared.events.Event.TheVariants.{Pins, Tick}
use Rattle.demands.specs.Chip.{Channel, of_channel}
use Rattle.demands.specs.Chip.Channel.{A, B}
use Rattle.demands.specs.Clocks.{side_of, clocks_of, pulsed_by}
use Rattle.demands.specs.Pulses as Pulses
use Rattle.demands.proofs.Laws.Fronts.{front_moved}

-- what an event brings to a channel's clocks
abbrev brought_with : Channel → Front → ℕ → Bool → ClockEvent
brought_with ch f before tick =
    let pins : ChannelPins = of_channel ch (pins_of_a before f.inputs.levels) (pins_of_b before f.inputs.levels) in
    record { tick = tick; toggled = (counted_of f before tick).toggled; rising = pins.rising; falling = pins.falling }

-- ---- code 13: the timer's toggle to high ----

pub timer_pulse : (side : Side) (ch : Channel) (f : Front) → code_of side (side_of ch f).csr ≡ 13
    → pulsed_by side ch f Tick ≡ (counted_of f f.inputs.levels true).toggled
unfolding pulsed_by clocks_of
timer_pulse side ch f e = clocks.timer side (side_of ch f).phases (eqb (f.acr / 128) 1) (side_of ch f).csr _ e

pub timer_pins : (side : Side) (ch : Channel) (f : Front) (x : ℕ) → code_of side (side_of ch f).csr ≡ 13
    → pulsed_by side ch f (Pins x) ≡ (counted_of (front_moved f x) f.inputs.levels false).toggled
unfolding pulsed_by clocks_of
timer_pins side ch f x e = clocks.timer side (side_of ch f).phases (eqb (f.acr / 128) 1) (side_of ch f).csr _ e

-- ---- codes 14 and 15: the pin's edge ----

brought_edge : (side : Side) (ch : Channel) (f : Front) (before : ℕ) (tick : Bool)
    → edge_of side (brought_with ch f before tick) ≡ Pulses.edge_of side ch before f.inputs.levels
unfolding pins_of_a pins_of_b
brought_edge receives A f before tick = refl
brought_edge receives B f before tick = refl
brought_edge transmits A f before tick = refl
brought_edge transmits B f before tick = refl

no_edge : (side : Side) (ch : Channel) (levels : ℕ) → Pulses.edge_of side ch levels levels ≡ false
no_edge receives ch levels = go (has_bit levels (of_channel ch 4 2))
  where
    go : (b : Bool) → (not b && b) ≡ false
    go true = refl
    go false = refl
no_edge transmits ch levels = go (has_bit levels (of_channel ch 3 5))
  where
    go : (b : Bool) → (b && not b) ≡ false
    go true = refl
    go false = refl

pub pin_tick : (side : Side) (ch : Channel) (f : Front) → 13 < code_of side (side_of ch f).csr → pulsed_by side ch f Tick ≡ false
unfolding pulsed_by clocks_of
pin_tick side ch f h =
    clocks.pin side (side_of ch f).phases (eqb (f.acr / 128) 1) (side_of ch f).csr _ h
    ∙ brought_edge side ch f f.inputs.levels true ∙ no_edge side ch f.inputs.levels

pub pin_pulse : (side : Side) (ch : Channel) (f : Front) (x : ℕ) → 13 < code_of side (side_of ch f).csr
    → pulsed_by side ch f (Pins x) ≡ Pulses.edge_of side ch f.inputs.levels x
unfolding pulsed_by clocks_of moved_of
pin_pulse side ch f x h =
    clocks.pin side (side_of ch f).phases (eqb (f.acr / 128) 1) (side_of ch f).csr _ h
    ∙ brought_edge side ch (front_moved f x) f.inputs.levels false

-- The actions that ask nothing of the transmitter, or of the receiver. Assumes nothing.
use mathlib.Core.Path.{◌≡◌, refl}
use Rattle.format.specs.Pick.{pick}
use Rattle.feed.specs.declared.feed.Effect.TheVariants.{NoEffect}
use Rattle.transmitter.specs.declared.transmitter.Input.TheVariants as Inputs
use Rattle.front_commands.specs.declared.commands.Action.{Action}
use Rattle.front_commands.specs.declared.commands.Action.TheVariants.{Nothing, PointAtMr1, ResetReceiver, ResetTransmitter}
use Rattle.front_commands.specs.declared.commands.Action.TheVariants.{ClearErrors, ClearBreakChange, StartBreak, StopBreak}
use Rattle.front_commands.specs.Commands.{bits_of, transmitter_effect, receiver_effect}

pub no_transmitters : (o : Action) → (o ≡ ResetTransmitter → ⊥) → (o ≡ StartBreak → ⊥) → (o ≡ StopBreak → ⊥) → Inputs.Nothing ≡ transmitter_effect (bits_of o)
unfolding transmitter_effect pick
no_transmitters Nothing r s t = refl
no_transmitters PointAtMr1 r s t = refl
no_transmitters ResetReceiver r s t = refl
no_transmitters ResetTransmitter r s t = absurd (r refl)
no_transmitters ClearErrors r s t = refl
no_transmitters ClearBreakChange r s t = refl
no_transmitters StartBreak r s t = absurd (s refl)
no_transmitters StopBreak r s t = absurd (t refl)

pub no_receivers : (o : Action) → (o ≡ ResetReceiver → ⊥) → (o ≡ ClearErrors → ⊥) → (o ≡ ClearBreakChange → ⊥) → NoEffect ≡ receiver_effect (bits_of o)
unfolding receiver_effect pick
no_receivers Nothing r e b = refl
no_receivers PointAtMr1 r e b = refl
no_receivers ResetReceiver r e b = absurd (r refl)
no_receivers ResetTransmitter r e b = refl
no_receivers ClearErrors r e b = absurd (e refl)
no_receivers ClearBreakChange r e b = absurd (b refl)
no_receivers StartBreak r e b = refl
no_receivers StopBreak r e b = refl

-- The ranges of a channel's phases, which "hold every value a rule here can put there". docs/SOUND.md lists the same.
-- Assumes nothing.
use Rattle.std.specs.Prelude.{◌≡◌, ℕ, Bool, true, ◌&&◌, nat_le}
use Rattle.clocks.specs.declared.channel.ClockEvent.{ClockEvent}
use Rattle.clocks.specs.declared.channel.Phases.{Phases}
use Rattle.clocks.specs.Pulses.{Clock}

-- the longest period is 4608 ticks; 16 pulses make a bit
abbrev pub phases_in_range : Phases → Bool
phases_in_range p = nat_le p.receiver.0 4607 && (nat_le p.transmitter.0 4607 && nat_le p.sixteenths.0 15)

-- a way to clock a channel that keeps its phases in range, on all that are, reached or not
abbrev pub KeepsPhases : Clock → Type 0
KeepsPhases c =
    (p : Phases) (second : Bool) (csr : ℕ) (b : ClockEvent) → phases_in_range p ≡ true
    → phases_in_range (c p second csr b).phases ≡ true

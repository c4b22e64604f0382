-- One case of each code's source, and a restart: each is computed. Assumes nothing.
use Rattle.std.proofs.Common.{◌≡◌, ℕ, Bool, true, false, [], ◌∷◌, replicate, refl}
use Rattle.format.specs.Pick.{pick}
use Rattle.format.proofs.Laws.Numbers.{listed}
use Rattle.dividers.specs.Divider.{divided_of, sixteenth_of}
use Rattle.dividers.specs.Rates.{period_of}
use Rattle.clocks.specs.declared.channel.ClockEvent.{ClockEvent}
use Rattle.clocks.specs.declared.channel.Clocked.{Clocked}
use Rattle.clocks.specs.declared.channel.Phases.{Phases}
use Rattle.clocks.specs.Channel.{restarted, restarted_on_change, is_sixteen, ticked_of, side_of, transmitter1x, clocked_of}
use Rattle.clocks.specs.Pulses.{after_events, next}

abbrev pub tick : ClockEvent
tick = record { tick = true; toggled = false; rising = false; falling = false }

abbrev pub toggle : ClockEvent
toggle = record { tick = false; toggled = true; rising = false; falling = false }

abbrev pub fall : ClockEvent
fall = record { tick = false; toggled = false; rising = false; falling = true }

-- phases that are under way
abbrev pub midway : Phases
midway = record { receiver = record { 0 = 5 }; transmitter = record { 0 = 6 }; sixteenths = record { 0 = 7 } }

-- what the tick after n ticks since a restart brings, with code 11 on both sides
abbrev eleventh : Bool → ℕ → Clocked
eleventh second n = next clocked_of second 187 (replicate n tick) tick

-- code 11 is 24 ticks in both sets
code_11 : (second : Bool)
    → ((eleventh second 22).receiver ≡ false) × ((eleventh second 23).receiver ≡ true)
    × ((eleventh second 22).transmitter ≡ false) × ((eleventh second 23).transmitter ≡ true)
unfolding after_events clocked_of side_of ticked_of transmitter1x divided_of sixteenth_of period_of pick
code_11 true = (refl, refl, refl, refl)
code_11 false = (refl, refl, refl, refl)

-- code 13 on both sides pulses with a toggle of the timer, and not with a tick
code_13 : (p : Phases) (second : Bool)
    → ((clocked_of p second 221 toggle).receiver ≡ true) × ((clocked_of p second 221 toggle).transmitter ≡ true)
    × ((clocked_of p second 221 tick).receiver ≡ false) × ((clocked_of p second 221 tick).transmitter ≡ false)
unfolding clocked_of side_of pick
code_13 p second = (refl, refl, refl, refl)

-- code 15 on both sides: a falling edge is the transmitter's pulse and its whole bit, and not the receiver's
code_15 : (p : Phases) (second : Bool)
    → ((clocked_of p second 255 fall).transmitter ≡ true) × ((clocked_of p second 255 fall).one ≡ true) × ((clocked_of p second 255 fall).receiver ≡ false)
unfolding clocked_of side_of transmitter1x pick
code_15 p second = (refl, refl, refl)

-- ACR bit 7 restarts a channel's phases where it changes, and leaves them where it does not
bit_7 : (p : Phases) → (restarted_on_change p 112 240 ≡ restarted) × (restarted_on_change p 128 255 ≡ p)
unfolding restarted_on_change pick
bit_7 p = (refl, refl)

-- ---- the sixteen codes ----

-- "Ticks per 16X pulse, codes 0 to 12"; "13: the timer's toggle to high"; "14 (16X), 15 (1X)": of the codes from 0 on, 15 alone is 1X. The statement
-- takes the test that it speaks of.
abbrev pub OneAlone : (ℕ → Bool) → Type 0
OneAlone sixteen =
    listed sixteen 16 0
    ≡ true ∷ true ∷ true ∷ true ∷ true ∷ true ∷ true ∷ true ∷ true ∷ true ∷ true ∷ true ∷ true ∷ true ∷ true ∷ false ∷ []

pub codes : OneAlone is_sixteen
codes = refl

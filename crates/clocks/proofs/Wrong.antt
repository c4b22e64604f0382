-- The statements on dividers and channel clocks shut wrong ones out. Each is ours but for one fault, and each is refuted by computing a few
-- events: `Divides` is false of four, `Clocks` of five, `KeepsPhases` of one. Assumes nothing.
use Rattle.std.proofs.Common.{◌≡◌, ℕ, ◌+◌, ◌-◌, ◌/◌, ◌%◌, Bool, true, false, ◌&&◌, ◌||◌, eqb, ltb, [], ◌∷◌, replicate, sym, refl, true≢false, arith}
use Rattle.format.specs.declared.counts.Pulses.{Pulses}
use Rattle.format.specs.declared.counts.Ticks.{Ticks}
use Rattle.format.specs.Pick.{pick}
use Rattle.dividers.specs.declared.divider.Divided.{Divided}
use Rattle.dividers.specs.Divider.{divided_of, sixteenth_of}
use Rattle.dividers.specs.Rates.{period_of}
use Rattle.clocks.specs.declared.channel.ClockEvent.{ClockEvent}
use Rattle.clocks.specs.declared.channel.Phases.{Phases}
use Rattle.clocks.specs.Channel.{restarted, is_sixteen, ticked_of, side_of, transmitter1x, clocked_of}
use Rattle.clocks.specs.Pulses.{Divider, phase_after, pulses_by, Divides, Clock, after_events, ticks_in, sent_in, Clocks}
use Rattle.clocks.specs.Pulses.Side.{transmits}
use Rattle.clocks.specs.Sound.{KeepsPhases}
use Rattle.clocks.proofs.Examples.{tick, toggle, fall}

-- ---- dividers ----

abbrev ticks : ℕ → Ticks
ticks n = record { 0 = n }

-- one that pulses a tick early
abbrev early : Divider
early phase period = divided_of phase (ticks (period.0 - 1))

pub no_early : Divides early → ⊥
unfolding phase_after divided_of pick
no_early h = true≢false (sym (h.comes (ticks 3) 0 (omega arith)))

-- one that never pulses
abbrev never : Divider
never phase period = record { phase = (divided_of phase period).phase; pulse = false }

pub no_never : Divides never → ⊥
no_never h = true≢false (sym (h.comes (ticks 1) 0 (omega arith)))

-- one that pulses on every tick
abbrev always : Divider
always phase period = record { phase = (divided_of phase period).phase; pulse = true }

pub no_always : Divides always → ⊥
unfolding pulses_by
no_always h =
    let z : ◌≡◌ {A = ℕ} 1 2 = h.no_other (ticks 2) 1 (omega arith) refl in
    omega arith

-- one that counts past its period, and so pulses once and no more
abbrev past : Divider
past phase period = record { phase = ticks (phase.0 + 1); pulse = eqb (phase.0 + 1) period.0 }

pub no_past : Divides past → ⊥
unfolding phase_after
no_past h = true≢false (sym (h.comes (ticks 1) 1 (omega arith)))

-- ---- a channel's clocks ----

-- a side, and a way to make the 1X clock, that may be other than ours
abbrev SideRule : Type 0
SideRule = Ticks → Bool → ℕ → ClockEvent → Bool → Divided Ticks

abbrev BitRule : Type 0
BitRule = Pulses → ℕ → Bool → Divided Pulses

unfoldable pub clock_by : SideRule → BitRule → Clock
clock_by side bit_of p second csr b =
    let receiver : Divided Ticks = side p.receiver second (csr / 16) b b.rising in
    let transmitter : Divided Ticks = side p.transmitter second (csr % 16) b b.falling in
    let bit : Divided Pulses = bit_of p.sixteenths (csr % 16) transmitter.pulse in
    record {
      phases = record { receiver = receiver.phase; transmitter = transmitter.phase; sixteenths = bit.phase };
      receiver = receiver.pulse;
      transmitter = transmitter.pulse;
      one = bit.pulse;
    }

-- with ours it is ours
ours : (p : Phases) (second : Bool) (csr : ℕ) (b : ClockEvent) → clock_by side_of transmitter1x p second csr b ≡ clocked_of p second csr b
unfolding clock_by clocked_of
ours p second csr b = refl

abbrev rise : ClockEvent
rise = record { tick = false; toggled = false; rising = true; falling = false }

-- the transmitter takes the rising edge
abbrev takes_rising : Clock
takes_rising p second csr b = clocked_of p second csr (record { tick = b.tick; toggled = b.toggled; rising = b.rising; falling = b.rising })

pub no_takes_rising : Clocks takes_rising → ⊥
unfolding clocked_of side_of pick
no_takes_rising h = true≢false (sym (h.pin transmits restarted false 14 fall (omega arith)))

-- code 13 takes the divider, and hears no toggle
unfoldable pub divides_thirteen : SideRule
divides_thirteen phase second code b edge = pick (ltb code 14) (ticked_of phase (period_of second code) b.tick) (side_of phase second code b edge)

pub no_divides_thirteen : Clocks (clock_by divides_thirteen transmitter1x) → ⊥
unfolding clock_by divides_thirteen ticked_of pick
no_divides_thirteen h = true≢false (sym (h.timer transmits restarted false 13 toggle refl))

-- an edge of a pin moves the divider
unfoldable pub edge_moves : SideRule
edge_moves phase second code b edge =
    pick (ltb code 13) (ticked_of phase (period_of second code) (b.tick || edge)) (side_of phase second code b edge)

-- code 12 is 6 ticks: an edge and 5 ticks are a pulse here
pub no_edge_moves : Clocks (clock_by edge_moves transmitter1x) → ⊥
unfolding clock_by edge_moves ticked_of divided_of period_of after_events ticks_in pick
no_edge_moves h = true≢false (h.fixed transmits false 12 (fall ∷ tick ∷ tick ∷ tick ∷ tick ∷ []) tick (omega arith))

-- the 1X clock comes with every 15th pulse
unfoldable pub every_fifteenth : BitRule
every_fifteenth phase code pulse =
    pick (pulse && (is_sixteen code && eqb phase.0 14)) (record { phase = record { 0 = 0 }; pulse = true }) (transmitter1x phase code pulse)

pub no_every_fifteenth : Clocks (clock_by side_of every_fifteenth) → ⊥
unfolding clock_by side_of every_fifteenth transmitter1x sixteenth_of after_events sent_in pick
no_every_fifteenth h = true≢false (h.sixteenth false 14 (replicate 14 fall) fall refl)

-- at 1X too the 1X clock comes with every 16th pulse
abbrev sixteen_always : BitRule
sixteen_always phase code pulse = transmitter1x phase 14 pulse

pub no_sixteen_always : Clocks (clock_by side_of sixteen_always) → ⊥
unfolding clock_by side_of transmitter1x sixteenth_of pick
no_sixteen_always h = true≢false (sym (h.each restarted false 15 fall refl))

-- the divider counts past its period
unfoldable pub counts_past : SideRule
counts_past phase second code b edge =
    pick (ltb code 13 && b.tick) (past phase (period_of second code)) (side_of phase second code b edge)

pub no_counts_past : KeepsPhases (clock_by counts_past transmitter1x) → ⊥
unfolding clock_by counts_past pick
no_counts_past h =
    true≢false (sym (h (record { receiver = ticks 4607; transmitter = ticks 0; sixteenths = record { 0 = 0 } }) false 0 tick refl))

-- A tick within the room: each clock and the counter/timer by its own law, so the front only moves its phases and the count, hands nothing
-- on, and no line changes. Then many ticks, one after the other. Assumes nothing.
use Prim.Native.Nat.{ℕ, zero, suc, ◌/◌, ◌<◌, min}
use mathlib.Core.Path.{◌≡◌, refl, sym, ap}
use mathlib.Core.Bool.{Bool, true, false, not, ◌&&◌, ◌||◌}
use native.Mathlib.Omega.{arith}
use lib.Dec.{eqb, ltb, eqb-suc-zero}
use borrow.Author.Tests.{lt-ltb, le-ltb}
use Rattle.format.specs.Pick.{pick}
use Rattle.byte_bits.specs.Bytes.{has_bit}
use Rattle.format.specs.declared.counts.Ticks.{Ticks}
use Rattle.dividers.proofs.Laws.Divider.{ticks_of}
use Rattle.clocks.proofs.Laws.Passing.{channel_passes}
use Rattle.timer_state.specs.declared.counting.Timer.{Timer}
use Rattle.timer_state.specs.Counting.{with_count, with_phases, mode_of, pulsed_by}
use Rattle.timer.specs.Timer.{transmitted_by}
use Rattle.timer.specs.Passing.{timer_passed}
use Rattle.timer.proofs.Laws.Passing.{timer_passes}
use Rattle.inputs.specs.Inputs.{pins_of_a, pins_of_b}
use Rattle.feed.specs.declared.feed.Feed.TheVariants.{Nothing}
use Rattle.receiver.specs.Receiver.{fed_of}
use Rattle.front_side.specs.declared.side.Side.{Side}
use Rattle.front_side.specs.Side.{with_clocks}
use Rattle.front_side_clocks.specs.Clocking.{transmitter_pulsed, echo_taken, side_clocked}
use Rattle.front_side_clocks.proofs.Laws.Hears.{hears_nothing}
use Rattle.front.specs.declared.front.Front.{Front}
use Rattle.front.specs.Front.{with_sides}
use Rattle.front_clocks.specs.Clocking.{counted_of, clocked_with, clocked_of as front_clocked, ticked_of}
use Rattle.front_events.specs.FrontEvents.{front_stepped}
use Rattle.chip_device.specs.declared.device.Device.{Device}
use Rattle.chip_device.specs.Device.{device_lines}
use Rattle.chip_step.specs.Chip.{taken_of}
use Rattle.chip_laws.proofs.Computing.{computing}
use Rattle.chip_fast.specs.declared.passing.Counts.{Counts}
use Rattle.chip_fast.specs.Passing.{channel_room, front_room, side_on, front_on, counts_passed, passed_of}
use Rattle.chip_fast.specs.Fast.{full_of}

-- ---- the least of five ----

-- one that has none leaves none
pub none_left : (least : ℕ) → least ≡ 0 → false ≡ ltb 0 least
none_left least e = sym (le-ltb 0 least (omega (arith, e)))

-- where the others have some, the last decides
pub last_decides : (t ra ta rb tb : ℕ) → 0 < t → 0 < ra → 0 < ta → 0 < rb → not (eqb tb 0) ≡ ltb 0 (min t (min (min ra ta) (min rb tb)))
last_decides t ra ta rb zero a b c d = none_left (min t (min (min ra ta) (min rb 0))) (omega arith)
last_decides t ra ta rb (suc tb) a b c d =
    rw (eqb-suc-zero tb) (sym (lt-ltb 0 (min t (min (min ra ta) (min rb (suc tb)))) (omega arith)))

-- ---- what does not move in a tick ----

no_rise : (x : Bool) → (not x && x) ≡ false
no_rise true = refl
no_rise false = refl

no_fall : (x : Bool) → (x && not x) ≡ false
no_fall true = refl
no_fall false = refl

no_pulses : (x y : Bool) → ((x && false) || (y && false)) ≡ false
no_pulses true true = refl
no_pulses true false = refl
no_pulses false true = refl
no_pulses false false = refl

-- the counter has no pulse from the 1X transmitter clocks
not_transmitted : (t : Timer) (mode : ℕ) → transmitted_by t mode false false ≡ t
unfolding pulsed_by pick
not_transmitted t mode = ap (λ (x : Bool). (pulsed_by t mode x).timer) (no_pulses (eqb mode 1) (eqb mode 2))

-- ---- one tick ----

side_on_lem : (s : Side) (acr : ℕ) (cts rxd : Bool) → 0 < channel_room s acr
    → side_clocked s (eqb (acr / 128) 1) (record { cts = cts; rxd = rxd; rising = false; falling = false }) true false
    ≡ record { side = side_on s (ticks_of 1); feed = Nothing; one = false }
unfolding side_clocked transmitter_pulsed echo_taken pick
side_on_lem s acr cts rxd h =
    rw (
      channel_passes s.phases (eqb (acr / 128) 1) s.csr (omega (arith, h)) (omega (arith, h)),
      hears_nothing,
    )

pub front_on_lem : (f : Front) → f.timer.ticks.0 < 16 → 0 < front_room f
    → ticked_of f ≡ record { front = front_on f (ticks_of 1); a = Nothing; b = Nothing }
unfolding front_clocked counted_of clocked_with pins_of_a pins_of_b pick
front_on_lem f l h =
    let levels = f.inputs.levels in
    rw (
      timer_passes f.timer (mode_of f.acr) l (omega (arith, h)),
      no_rise (has_bit levels 4),
      no_fall (has_bit levels 3),
      no_rise (has_bit levels 2),
      no_fall (has_bit levels 5),
      side_on_lem f.a f.acr (has_bit levels 0) (has_bit levels 6) (omega (arith, h)),
      side_on_lem f.b f.acr (has_bit levels 1) (has_bit levels 7) (omega (arith, h)),
      not_transmitted,
    )

pub device_on : (d : Device) → d.front.timer.ticks.0 < 16 → 0 < front_room d.front → full_of d ≡ passed_of d (ticks_of 1)
unfolding taken_of front_stepped passed_of fed_of
device_on d l h = rw (front_on_lem d.front l h)

-- A device with the fields written that pass: the four phases, the count and the phase of ticks/16.
abbrev phases_with : Side → Ticks → Ticks → Side
phases_with s receiver transmitter =
    with_clocks s s.csr
    (record { receiver = record { 0 = receiver.0 }; transmitter = record { 0 = transmitter.0 }; sixteenths = s.phases.sixteenths })

abbrev timer_with : Timer → Counts → Timer
timer_with t k = with_count (with_phases t (record { 0 = k.ticks.0 }) t.edges) k.count t.output

abbrev pub written_with : Device → Counts → Device
written_with d k =
    let f : Front = d.front in
    record {
      front = with_sides f (phases_with f.a k.rxca k.txca) (phases_with f.b k.rxcb k.txcb) (timer_with f.timer k);
      a = d.a;
      b = d.b;
    }

pub passed_written : (d : Device) (ticks : Ticks) (k : Counts) → k ≡ counts_passed d.front ticks → written_with d k ≡ passed_of d ticks
unfolding passed_of timer_passed
passed_written d ticks k e = rw e

-- no line changes, however many ticks pass
pub lines_stay : (d : Device) (n : ℕ) → device_lines (passed_of d (ticks_of n)) ≡ device_lines d
unfolding computing passed_of timer_passed
lines_stay d n = refl

-- "Order in a tick or pin event: levels and flags; counter/timer from ticks or IP2; transmitter then receiver of A; the
-- same of B; counter from a 1X transmitter clock (every 16th 16X pulse since that phase restarted, or each 1X pulse)."
-- Assumes nothing.
use Rattle.std.specs.Prelude.{ℕ, ◌/◌, Bool, true, false, eqb}
use Rattle.format.specs.Pick.{pick}
use Rattle.inputs.specs.Inputs.{rises_of, moved_of, pins_of_a, pins_of_b}
use Rattle.front_side_clocks.specs.declared.clocking.Clocking.{Clocking}
use Rattle.front_side_clocks.specs.Clocking.{side_clocked}
use Rattle.timer_state.specs.declared.counting.Counted.{Counted}
use Rattle.timer_state.specs.declared.counting.Timer.{Timer}
use Rattle.timer_state.specs.Counting.{mode_of}
use Rattle.timer.specs.Timer.{ticked_by, edged_by, transmitted_by}
use Rattle.front.specs.declared.front.Front.{Front}
use Rattle.front.specs.declared.front.Handed.{Handed}
use Rattle.front.specs.Front.{with_sides, with_ports}

-- "counter/timer from ticks or IP2"
unfoldable pub counted_of : Front → ℕ → Bool → Counted
counted_of f before tick =
    pick tick (ticked_by f.timer (mode_of f.acr))
    (pick (rises_of before f.inputs.levels 2) (edged_by f.timer (mode_of f.acr))
    (record { timer = f.timer; toggled = false }))

-- "counter from a 1X transmitter clock", last of all
unfoldable pub clocked_with : Front → Timer → Clocking → Clocking → Handed
clocked_with f t a b =
    record {
      front = with_sides f a.side b.side (transmitted_by t (mode_of f.acr) a.one b.one);
      a = a.feed;
      b = b.feed;
    }

-- the rest of the order: `before` are the levels before the event, those after it stand in the front
unfoldable pub clocked_of : Front → ℕ → Bool → Handed
clocked_of f before tick =
    let after : ℕ = f.inputs.levels in
    let second : Bool = eqb (f.acr / 128) 1 in
    let c : Counted = counted_of f before tick in
    clocked_with f c.timer
    (side_clocked f.a second (pins_of_a before after) tick c.toggled)
    (side_clocked f.b second (pins_of_b before after) tick c.toggled)

-- a tick: no pin moves
abbrev pub ticked_of : Front → Handed
ticked_of f = clocked_of f f.inputs.levels true

-- a pin event: "levels and flags" first
unfoldable pub levels_moved : Front → ℕ → Handed
levels_moved f levels = clocked_of (with_ports f (moved_of f.inputs levels) f.outputs) f.inputs.levels false

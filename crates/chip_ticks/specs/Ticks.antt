-- Many ticks in a row: each is an event of its own. Assumes nothing.
use Rattle.std.specs.Prelude.{ℕ, zero, suc, Bool, true, false, ◌&&◌, eqb}
use Rattle.format.specs.Pick.{pick}
use Rattle.events.specs.declared.events.Event.TheVariants.{Tick}
use Rattle.chip_device.specs.declared.device.Device.{Device}
use Rattle.chip_device.specs.Device.{device_lines}
use Rattle.chip_step.specs.declared.chip.Answer.{Answer}
use Rattle.chip_step.specs.Chip.{step_of}
use Rattle.chip_ticks.specs.declared.ticks.Spent.{Spent}

-- the last answer, after so many ticks more
unfoldable pub ticked : ℕ → Answer → Answer
ticked zero a = a
ticked (suc n) a = ticked n (step_of a.state Tick)

-- ---- until IRQ is asserted ----

-- no tick, and one tick more
abbrev pub spent_none : Device → Spent
spent_none d = record { ticks = 0; state = d }

abbrev pub later : Spent → Spent
later s = record { ticks = suc s.ticks; state = s.state }

-- single ticks, at most so many; where IRQ is watched they end once it is asserted, which is looked at before each tick
unfoldable pub spent_of : Bool → ℕ → Device → Spent
spent_of watch zero d = spent_none d
spent_of watch (suc n) d =
    pick (watch && (device_lines d).irq) (spent_none d) (later (spent_of watch n (step_of d Tick).state))

-- ---- how the code goes: nothing here must be believed ----

unfoldable pub is_over : Bool → ℕ → Device → Bool
is_over watch left d = pick (eqb left 0) true (pick watch (device_lines d).irq false)

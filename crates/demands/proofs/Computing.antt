-- One name for what a proof by computing unfolds: what the demands ask of a chip. It says nothing by itself.
use mathlib.Core.Bool.{Bool, true}
use Rattle.chip_laws.proofs.Computing as Chips
use Rattle.timer.specs.Modes.{pulse_in}
use Rattle.request.specs.Request.{first_refusal, answer_of, request_of, space_after}
use Rattle.chip_laws.specs.Alone.{handed_after}
use Rattle.demands.specs.Chip.{chip_of, over}
use Rattle.demands.specs.Told.{programmed_then}
use Rattle.demands.specs.Clocks.{clocks_of, pulsed_by, one_after}
use Rattle.demands.specs.Counter.{elapsed_then, comes, pulses_from}

unfoldable pub computing : Bool
unfolding Chips.computing first_refusal answer_of request_of space_after handed_after chip_of over programmed_then clocks_of
    pulsed_by one_after elapsed_then pulse_in comes pulses_from
computing = true

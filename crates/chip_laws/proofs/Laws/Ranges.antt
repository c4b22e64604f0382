-- An event that row 5 does not refuse keeps the front in range, from any that is, reached or not, and hands to the receivers what is in range:
-- event by event. No other row is asked. Assumes nothing.
use Prim.Native.Nat.{ℕ}
use mathlib.Core.Path.{◌≡◌, refl}
use mathlib.Core.Bool.{false}
use Rattle.format.specs.Pick.{pick}
use Rattle.front.specs.declared.front.Front.{Front}
use Rattle.events.specs.declared.events.Event.{Event}
use Rattle.events.specs.declared.events.Event.TheVariants.{ChipReset, Read, Write, Acknowledge, Pins, Tick}
use Rattle.front_events.specs.FrontEvents.{front_stepped}
use Rattle.chip_refusals.specs.Rows.{write_not_modelled, setting_not_modelled}
use Rattle.front.proofs.Laws.Ranges.{FrontWithin, HandedWithin, nothing_within, front_at_within}
use Rattle.front_clocks.proofs.Laws.Ranges.{ticked_within, levels_moved_within}
use Rattle.front_reads.proofs.Laws.Ranges.{register_read_within}
use Rattle.front_writes.proofs.Laws.Ranges.{Modelled, register_written_within}

write_modelled : (f : Front) (n byte : ℕ) → write_not_modelled f n byte ≡ false → Modelled f n byte
unfolding write_not_modelled pick
write_modelled f n byte h =
    record {
      a = λ (e : n ≡ 0). rw e at h;
      b = λ (e : n ≡ 8). rw e at h;
      opcr = λ (e : n ≡ 13). rw e at h;
    }

pub stepped_within : (f : Front) (e : Event) → setting_not_modelled f e ≡ false → FrontWithin f → HandedWithin (front_stepped f e)
unfolding setting_not_modelled front_stepped
stepped_within f ChipReset m h = record { front = front_at_within f.inputs.levels; a = refl; b = refl }
stepped_within f (Read n) m h = register_read_within f n h
stepped_within f (Write n byte) m h = register_written_within f n byte (write_modelled f n byte m) h
stepped_within f Acknowledge m h = nothing_within f h
stepped_within f (Pins levels) m h = levels_moved_within f levels h
stepped_within f Tick m h = ticked_within f h

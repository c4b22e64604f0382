-- Wrong answers, each shut out by a definition: a routine that gave it would not meet its contract. Assumes nothing.
use Prim.Native.Nat.{ℕ}
use mathlib.Core.Path.{◌≡◌}
use mathlib.Core.Bool.{Bool, true, false}
use native.Mathlib.Omega.{arith}
use lib.ListN.{get_or}
use Rattle.format.specs.Digits.{digit_of}
use Rattle.events.specs.declared.events.Event.TheVariants.{Write}
use Rattle.chip_device.specs.declared.device.Device.{Device}
use Rattle.chip_device.specs.Device.{fresh_device}
use Rattle.chip_step.specs.declared.chip.Answer.{Answer}
use Rattle.chip_step.specs.Chip.{step_of}
use Rattle.chip_ticks.specs.Ticks.{ticked}
use Rattle.lister_line.specs.Line.{written, prepared_device, level_text, line_of, listed_of}
use Rattle.chip_laws.proofs.Computing.{computing}

-- TxDA high, TxDB low
abbrev only_a : Answer
only_a =
    record {
      number = 0;
      byte = 0;
      fresh = false;
      lines = record { irq = false; txda = true; txdb = false; op = 255 };
      state = fresh_device;
    }

-- "sends standard input on A"
no_level_of_txdb : ((a : Answer) → digit_of a.lines.txdb ≡ level_text a) → ⊥
unfolding digit_of
no_level_of_txdb h = omega (arith, h only_a)

-- no level is a line's end
level_not_10 : (level : Bool) → 10 ≡ digit_of level → ⊥
unfolding digit_of
level_not_10 true = omega arith
level_not_10 false = omega arith

-- "ten mid-bit levels": after nine the line's end stands in the tenth's place
no_nine_levels : ((d : Device) (byte : ℕ) → 10 ≡ get_or (listed_of d byte).line 9 0) → ⊥
unfolding listed_of line_of
no_nine_levels h = level_not_10 _ (h fresh_device 85)

-- what those below open: it holds no fact
opened : ℕ
unfolding computing ticked prepared_device line_of listed_of digit_of
opened = 0

-- "MR2 7": two stop bits
no_prepared_mr2_is15 : 15 ≡ prepared_device.front.a.mr2 → ⊥
unfolding opened
no_prepared_mr2_is15 = omega arith

-- "mid-bit levels": this one takes the first 384 ticks after the write, which is a bit at code 11. At code 12 a bit is 96.
no_level_at_bit_end :
    ((d : Device) (byte : ℕ) → level_text (ticked 384 (step_of d (Write 3 byte))) ≡ get_or (listed_of d byte).line 0 0) → ⊥
unfolding opened
no_level_at_bit_end h = omega (arith, h (written 1 204 prepared_device) 2)

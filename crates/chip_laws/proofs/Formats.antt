-- Formats on literal bytes: the levels of TxDA and what a receiver makes of levels, for each choice of parity and of the stop at 1X, computed. The
-- statement takes the step it speaks of, so that a chip without forced parity or without a second stop bit is refuted by it. Assumes nothing.
use Prim.Native.Nat.{ℕ, zero, suc}
use mathlib.Core.Path.{◌≡◌, refl}
use mathlib.Core.Bool.{Bool, true, false}
use mathlib.Core.List.{List, [], ◌∷◌, ◌++◌, map}
use Rattle.format.specs.Digits.{bit}
use Rattle.events.specs.declared.events.Event.{Event}
use Rattle.events.specs.declared.events.Event.TheVariants.{Read, Write, Pins}
use Rattle.chip_device.specs.declared.device.Device.{Device}
use Rattle.chip_device.specs.Device.{fresh_device}
use Rattle.chip_step.specs.declared.chip.Answer.{Answer}
use Rattle.chip_step.specs.Chip.{step_of}
use Rattle.chip_laws.specs.Sound.{after}
use Rattle.chip_laws.specs.Table.{Step}
use Rattle.chip_laws.proofs.Computing.{computing}
use Rattle.chip_laws.proofs.Registers.{to_a}

-- ---- sent ----

-- TxDA after each of so many pulses of A's transmitter, on falling IP3
abbrev pub line_over : Step → ℕ → Device → List ℕ
line_over step zero d = []
line_over step (suc n) d =
    let x : Answer = step d (Pins 247) in
    bit x.lines.txda ∷ line_over step n (step x.state (Pins 255)).state

-- with MR1 and MR2 so, at 1X, this byte is sent and 0 behind it: ten levels from the start bit on, which is the first
abbrev pub sent : Step → ℕ → ℕ → ℕ → List ℕ
sent step mr1 mr2 byte =
    let es : List Event = Write 0 mr1 ∷ Write 0 mr2 ∷ Write 1 255 ∷ Write 2 4 ∷ Write 3 byte ∷ Pins 247 ∷ Write 3 0 ∷ Pins 255 ∷ [] in
    bit (step (after step fresh_device es) (Read 1)).lines.txda ∷ line_over step 9 (after step fresh_device es)

-- 5 data bits, one stop bit, and parity with (even, odd), forced (low, high) and none: of 1, and of 3, which has two ones
pub record Sent (step : Step) : Type 0 where
  -- "4-3 parity 00 with, 01 forced, 10 none; 2 odd, or forced high"
  pub even : (sent step 0 7 1 ≡ 0 ∷ 1 ∷ 0 ∷ 0 ∷ 0 ∷ 0 ∷ 1 ∷ 1 ∷ 0 ∷ 0 ∷ []) × (sent step 0 7 3 ≡ 0 ∷ 1 ∷ 1 ∷ 0 ∷ 0 ∷ 0 ∷ 0 ∷ 1 ∷ 0 ∷ 0 ∷ [])
  pub odd : (sent step 4 7 1 ≡ 0 ∷ 1 ∷ 0 ∷ 0 ∷ 0 ∷ 0 ∷ 0 ∷ 1 ∷ 0 ∷ 0 ∷ []) × (sent step 4 7 3 ≡ 0 ∷ 1 ∷ 1 ∷ 0 ∷ 0 ∷ 0 ∷ 1 ∷ 1 ∷ 0 ∷ 0 ∷ [])
  pub low : (sent step 8 7 1 ≡ 0 ∷ 1 ∷ 0 ∷ 0 ∷ 0 ∷ 0 ∷ 0 ∷ 1 ∷ 0 ∷ 0 ∷ []) × (sent step 8 7 3 ≡ 0 ∷ 1 ∷ 1 ∷ 0 ∷ 0 ∷ 0 ∷ 0 ∷ 1 ∷ 0 ∷ 0 ∷ [])
  pub high : (sent step 12 7 1 ≡ 0 ∷ 1 ∷ 0 ∷ 0 ∷ 0 ∷ 0 ∷ 1 ∷ 1 ∷ 0 ∷ 0 ∷ []) × (sent step 12 7 3 ≡ 0 ∷ 1 ∷ 1 ∷ 0 ∷ 0 ∷ 0 ∷ 1 ∷ 1 ∷ 0 ∷ 0 ∷ [])
  pub none : (sent step 16 7 1 ≡ 0 ∷ 1 ∷ 0 ∷ 0 ∷ 0 ∷ 0 ∷ 1 ∷ 0 ∷ 0 ∷ 0 ∷ []) × (sent step 20 7 3 ≡ 0 ∷ 1 ∷ 1 ∷ 0 ∷ 0 ∷ 0 ∷ 1 ∷ 0 ∷ 0 ∷ 0 ∷ [])
  -- "1-0 data bits less 5": 6, 7 and 8
  pub six : sent step 17 7 1 ≡ 0 ∷ 1 ∷ 0 ∷ 0 ∷ 0 ∷ 0 ∷ 0 ∷ 1 ∷ 0 ∷ 0 ∷ []
  pub seven : sent step 18 7 1 ≡ 0 ∷ 1 ∷ 0 ∷ 0 ∷ 0 ∷ 0 ∷ 0 ∷ 0 ∷ 1 ∷ 0 ∷ []
  pub eight : sent step 19 7 1 ≡ 0 ∷ 1 ∷ 0 ∷ 0 ∷ 0 ∷ 0 ∷ 0 ∷ 0 ∷ 0 ∷ 1 ∷ []
  -- "With a 1X clock: one bit, two if bit 3 is set."
  pub once : (sent step 16 0 1 ≡ 0 ∷ 1 ∷ 0 ∷ 0 ∷ 0 ∷ 0 ∷ 1 ∷ 0 ∷ 0 ∷ 0 ∷ []) × (sent step 19 7 0 ≡ 0 ∷ 0 ∷ 0 ∷ 0 ∷ 0 ∷ 0 ∷ 0 ∷ 0 ∷ 0 ∷ 1 ∷ [])
  pub twice : (sent step 16 8 1 ≡ 0 ∷ 1 ∷ 0 ∷ 0 ∷ 0 ∷ 0 ∷ 1 ∷ 1 ∷ 0 ∷ 0 ∷ []) × (sent step 17 15 1 ≡ 0 ∷ 1 ∷ 0 ∷ 0 ∷ 0 ∷ 0 ∷ 0 ∷ 1 ∷ 1 ∷ 0 ∷ [])

pub sends : Sent step_of
unfolding computing
sends =
    record {
      even = (refl, refl);
      odd = (refl, refl);
      low = (refl, refl);
      high = (refl, refl);
      none = (refl, refl);
      six = refl;
      seven = refl;
      eight = refl;
      once = (refl, refl);
      twice = (refl, refl);
    }

-- ---- checked ----

-- with MR1 so, at 1X on rising IP4, a high, a start bit and the five data bits of 1 are heard, and then these levels: SRA
abbrev pub checked : Step → List Bool → ℕ → ℕ
checked step more mr1 =
    (step (after step fresh_device ((Write 0 mr1 ∷ Write 0 7 ∷ Write 1 255 ∷ Write 2 1 ∷ []) ++ to_a (true ∷ false ∷ true ∷ false ∷ false ∷ false ∷ false ∷ more)))
    (Read 1)).byte

-- even, odd, forced low, forced high and none
pub record Checked (step : Step) : Type 0 where
  -- "A wrong parity bit, forced ones too: parity mark.": SR 33; and where there is none the first of them is the stop: a low one is SR 65
  pub low : map (checked step (false ∷ true ∷ [])) (0 ∷ 4 ∷ 8 ∷ 12 ∷ 16 ∷ []) ≡ 33 ∷ 1 ∷ 1 ∷ 33 ∷ 65 ∷ []
  pub high : map (checked step (true ∷ true ∷ [])) (0 ∷ 4 ∷ 8 ∷ 12 ∷ 16 ∷ []) ≡ 1 ∷ 33 ∷ 33 ∷ 1 ∷ 1 ∷ []
  -- "the character arrives at the first stop sample": without parity one sample earlier
  pub early : map (checked step (true ∷ [])) (0 ∷ 4 ∷ 8 ∷ 12 ∷ 16 ∷ []) ≡ 0 ∷ 0 ∷ 0 ∷ 0 ∷ 1 ∷ []

pub checks : Checked step_of
unfolding computing
checks = record { low = refl; high = refl; early = refl }

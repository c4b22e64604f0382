-- Dumps computed, in order 6's own numbers: what is accepted, written and refused. Assumes nothing.
use Prim.Native.Nat.{ℕ}
use mathlib.Core.Path.{◌≡◌, refl}
use mathlib.Core.Bool.{Bool, true, false}
use mathlib.Core.List.{List, [], ◌∷◌, ◌++◌}
use lib.ListN.{length, drop, get_or, replicate}
use Rattle.format.specs.Digits.{bits_of}
use Rattle.chip_device.specs.Device.{fresh_device}
use Rattle.chip_device.proofs.Examples.{five_flags}
use Rattle.chip_laws.proofs.Computing.{computing}
use Rattle.text.specs.Bytes.{bytes_of}
use Rattle.vcd_dump.specs.Waves.{values_of}
use Rattle.vcd_dump.specs.Dump.{text_of, dump_refusal, dumped_of, space_after}
use Rattle.vcd_dump.proofs.Computing.{dumping}

-- an empty list: all values at time 0, and all lines of a fresh device are high (case 1: "OP 255, TxD high")
abbrev ended : List ℕ
ended = 10 ∷ []

pub empty_list : drop 336 (text_of fresh_device [])
    ≡ bytes_of "#0" ++ ended ++ bytes_of "1!" ++ ended ++ bytes_of "1\"" ++ ended ++ bytes_of "1#" ++ ended ++ bytes_of "1$" ++ ended
    ++ bytes_of "1%" ++ ended ++ bytes_of "1&" ++ ended ++ bytes_of "1'" ++ ended ++ bytes_of "1(" ++ ended ++ bytes_of "1)" ++ ended
    ++ bytes_of "1*" ++ ended ++ bytes_of "1+" ++ ended
unfolding computing dumping
empty_list = refl

-- a tick, and after it OP0 set low, which is written at that tick's time; a tick more leaves no trace
pub one_change : drop 372 (text_of fresh_device (5 ∷ 0 ∷ 0 ∷ 2 ∷ 14 ∷ 1 ∷ 5 ∷ 0 ∷ 0 ∷ [])) ≡ bytes_of "#271" ++ ended ++ bytes_of "0$" ++ ended
unfolding computing dumping
one_change = refl

-- before the first tick it is time 0's
pub at_zero : length (text_of fresh_device (2 ∷ 14 ∷ 1 ∷ [])) ≡ 372
unfolding computing dumping
at_zero = refl

-- "TxDA, TxDB, IRQ as line level (asserted is 0) and OP0 to OP7": each low alone
abbrev others : Bool → List Bool
others op0 = op0 ∷ replicate 7 true

each_wire : (values_of (record { txda = false; txdb = true; irq = false; op = 255 }) ≡ false ∷ true ∷ true ∷ others true)
    × (values_of (record { txda = true; txdb = false; irq = false; op = 255 }) ≡ true ∷ false ∷ true ∷ others true)
    × (values_of (record { txda = true; txdb = true; irq = true; op = 255 }) ≡ true ∷ true ∷ false ∷ others true)
    × (values_of (record { txda = true; txdb = true; irq = false; op = 254 }) ≡ true ∷ true ∷ true ∷ others false)
unfolding bits_of
each_wire = (refl, refl, refl, refl)

-- IRQ asserted is 0: transmitter A is enabled, and its TxRDY is in the mask; two wires at one time, in the order of the codes
pub irq_low : drop 372 (text_of fresh_device (5 ∷ 0 ∷ 0 ∷ 5 ∷ 0 ∷ 0 ∷ 2 ∷ 2 ∷ 4 ∷ 2 ∷ 14 ∷ 128 ∷ 2 ∷ 5 ∷ 1 ∷ []))
    ≡ bytes_of "#542" ++ ended ++ bytes_of "0#" ++ ended ++ bytes_of "0+" ++ ended
unfolding computing dumping
irq_low = refl

-- it stops before a refused event: a read of register 2
pub stops : length (text_of fresh_device (1 ∷ 2 ∷ 0 ∷ 5 ∷ 0 ∷ 0 ∷ 2 ∷ 14 ∷ 1 ∷ [])) ≡ 372
unfolding computing dumping
stops = refl

-- the numbers, and a space that just holds the text
pub numbers : (dump_refusal five_flags 1000001 372 371 ≡ 1)
    × (dump_refusal fresh_device 1000001 372 371 ≡ 9)
    × (dump_refusal fresh_device 1000000 372 371 ≡ 8)
    × (dump_refusal fresh_device 1000000 372 372 ≡ 0)
unfolding computing dumping
numbers = (refl, refl, refl, refl)

pub just_holds : ((dumped_of fresh_device [] 372).number ≡ 0)
    × ((dumped_of fresh_device [] 372).length ≡ 372)
    × (get_or (space_after fresh_device [] (replicate 372 7)) 371 0 ≡ 10)
    × (space_after fresh_device [] (replicate 371 7) ≡ replicate 371 7)
unfolding computing dumping
just_holds = (refl, refl, refl, refl)

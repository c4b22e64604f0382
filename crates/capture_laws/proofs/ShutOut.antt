-- Wrong readers: each is shown not to meet `Captures`, by a text that is computed, not to read a dump back, or to want longer logs. Assumes nothing.
use Prim.Native.Nat.{ℕ, ◌+◌}
use mathlib.Core.Path.{◌≡◌, refl, sym, ◌∙◌, ap}
use mathlib.Core.Bool.{Bool, true, false, not}
use mathlib.Core.List.{List, [], ◌∷◌, ◌++◌}
use native.Mathlib.Nat.{le_refl}
use native.Mathlib.Omega.{arith}
use lib.ListN.{length, take, get_or, replicate, length-replicate}
use Rattle.format.specs.Pick.{pick}
use Rattle.chip_device.specs.Device.{fresh_device}
use Rattle.text.specs.Bytes.{bytes_of}
use Rattle.vcd_text.specs.Header.{wires_from, chip_wires}
use Rattle.vcd_read.specs.Scan.{scan_of, scan_number}
use Rattle.vcd_dump.specs.Dump.{events_text}
use Rattle.vcd_laws.proofs.Shows.{dump_lines, shows}
use Rattle.vcd_subset.specs.Subset.{Named}
use Rattle.vcd_capture.proofs.Computing.{capturing, fast, both, twice, text_of, wire_a, wire_b}
use Rattle.capture_laws.specs.Captures.{Modelled, Number, Log, Captures}
use Rattle.capture_laws.specs.Enough.{Enough}
use Rattle.capture_laws.specs.ReadsBack.{ReadsBack}
use Rattle.capture_laws.proofs.Captures.{log_on}
use Rattle.capture_laws.proofs.Dumps.{dump_says}
use Rattle.capture_laws.proofs.Alike.{number-alike, log-read}

-- what is asked in the computed texts is modelled, and these are read
modelled : Modelled fast
unfolding capturing
modelled = (refl, omega arith)

read_both : scan_number (scan_of (text_of both) wire_a wire_b) ≡ 0
unfolding capturing
read_both = refl

read_twice : scan_number (scan_of (text_of twice) wire_a wire_b) ≡ 0
unfolding capturing
read_twice = refl

-- ---- the numbers ----

-- a constant, so also one that refuses all or takes all
no_constant : (n : ℕ) (log : Log) → Captures (λ q text a b room_a room_b. n) log → ⊥
unfolding capturing
no_constant n log h =
    let taken : n ≡ 0 = number-alike _ log h fast (text_of both) wire_a wire_b 2 2 in
    let refused : n ≡ 10 = number-alike _ log h fast [] wire_a wire_b 2 2 in
    omega arith

-- "in this order": 10 is asked before 5
no_text_first : (number : Number) (log : Log) → number (record { mr1 = 16; acr7 = false; code = 13 }) [] wire_a wire_b 0 0 ≡ 10 → Captures number log → ⊥
unfolding capturing
no_text_first number log e h =
    omega (arith, sym e ∙ number-alike number log h (record { mr1 = 16; acr7 = false; code = 13 }) [] wire_a wire_b 0 0)

-- ---- the logs ----

logs_are : (number : Number) (log : Log) → Captures number log → (second : Bool) → log second fast (text_of both) wire_a wire_b ≡ pick second (10 ∷ 0 ∷ []) (21 ∷ 0 ∷ [])
unfolding capturing pick
logs_are number log h true = log-read number log h fast (text_of both) wire_a wire_b modelled read_both true
logs_are number log h false = log-read number log h fast (text_of both) wire_a wire_b modelled read_both false

-- one that hears nothing
no_nothing_heard : (number : Number) → Captures number (λ second q text a b. []) → ⊥
unfolding pick
no_nothing_heard number h = omega (arith, ap length (logs_are number _ h false))

-- "one per channel": the other's, and A's for both
no_other_channel : (number : Number) → Captures number (λ second. log_on (not second)) → ⊥
unfolding capturing pick
no_other_channel number h = omega (arith, ap (λ (l : List ℕ). get_or l 0 0) (logs_are number _ h true))

no_first_for_both : (number : Number) → Captures number (λ second. log_on false) → ⊥
unfolding capturing pick
no_first_for_both number h = omega (arith, ap (λ (l : List ℕ). get_or l 0 0) (logs_are number _ h true))

-- one that is idle after the first character
no_first_alone : (number : Number) → Captures number (λ second q text a b. take 2 (log_on second q text a b)) → ⊥
unfolding capturing pick
no_first_alone number h = omega (arith, ap length (log-read number _ h fast (text_of twice) wire_a wire_b modelled read_twice false))

-- "Tick n samples the level at order 6's time": the stop's sample finds the value of its very time, a low
no_one_tick_late : (number : Number) (log : Log) → log false fast (text_of (both ++ "0!" ∷ [])) wire_a wire_b ≡ 21 ∷ 0 ∷ [] → Captures number log → ⊥
unfolding capturing pick
no_one_tick_late number log e h =
    omega (arith, ap (λ (l : List ℕ). get_or l 1 0) (sym e ∙ log-read number log h fast (text_of (both ++ "0!" ∷ [])) wire_a wire_b modelled refl false))

-- "just enabled": a line low from the start is no character
no_low_from_start : (number : Number) (log : Log) → log false fast (text_of ("#0" ∷ "0!" ∷ "#172526" ∷ [])) wire_a wire_b ≡ 0 ∷ 128 ∷ [] → Captures number log → ⊥
unfolding capturing pick
no_low_from_start number log e h =
    omega (arith, ap length (sym e ∙ log-read number log h fast (text_of ("#0" ∷ "0!" ∷ "#172526" ∷ [])) wire_a wire_b modelled refl false))

-- ---- a dump ----

txda : Named chip_wires (bytes_of "TxDA") (33 + 0)
unfolding chip_wires wires_from
txda = record { place = 0; within = omega arith; wire = refl }

txdb : Named chip_wires (bytes_of "TxDB") (33 + 1)
unfolding chip_wires wires_from
txdb = record { place = 1; within = omega arith; wire = refl }

-- "Order 6's dumps read back": one that takes them for another's text
no_dumps_refused : (n : ℕ) (log : Log) → (n ≡ 0 → ⊥) → ReadsBack (λ q text a b room_a room_b. n) log dump_lines → ⊥
no_dumps_refused n log z h =
    z (h.read fresh_device [] (omega arith) fast modelled (bytes_of "TxDA") (bytes_of "TxDB") 0 1 txda txdb _ _ (le_refl _) (le_refl _))

-- "8 either log too short": one that wants a byte more, of a dump without an event
no_longer : Enough (λ second q text a b. replicate 46811 0) → ⊥
no_longer h =
    omega (
      arith,
      length-replicate {A = ℕ} 46811 0,
      h.most fast (events_text fresh_device []) (bytes_of "TxDA") (bytes_of "TxDB") modelled chip_wires (dump_lines fresh_device []) 33 34
          (dump_says fresh_device [] (omega arith)) txda txdb (shows.tells.rise fresh_device []) false,
    )

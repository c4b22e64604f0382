-- Wrong answers, each shut out by a definition: a routine that gave it would not meet its contract. Assumes nothing.
use Prim.Native.Nat.{ℕ, ◌%◌}
use mathlib.Core.Path.{◌≡◌, ap}
use mathlib.Core.Bool.{Bool, false, not, ◌&&◌, true≢false, false≢true}
use mathlib.Core.List.{List}
use native.Mathlib.Omega.{arith}
use lib.Bits.{bit_xor}
use lib.Dec.{eqb}
use lib.ListN.{get_or}
use Rattle.byte_bits.specs.Bytes.{has_bit}
use Rattle.format.specs.Pick.{pick}
use Rattle.inputs.specs.declared.inputs.Inputs.{Inputs}
use Rattle.inputs.specs.Inputs.{rises_of, falls_of, moved_of, changes_cleared, has_chosen_change, channel_pins}
use Rattle.inputs.proofs.Laws.Edges.{Edges}

-- IP0 high, and the flag of IP1 set
abbrev some : Inputs
some = record { levels = 1; changes = 2 }

-- "levels and flags"
no_levels_stay : ((i : Inputs) (levels : ℕ) → i.levels ≡ (moved_of i levels).levels) → ⊥
unfolding moved_of
no_levels_stay h = omega (arith, h some 0)

no_flags_replaced : ((i : Inputs) (levels : ℕ) → bit_xor i.levels levels % 16 ≡ (moved_of i levels).changes) → ⊥
unfolding moved_of
no_flags_replaced h = omega (arith, h some 0)

-- "a read clears the flags"
no_levels_cleared : ((i : Inputs) → 0 ≡ (changes_cleared i).levels) → ⊥
no_levels_cleared h = omega (arith, h some)

-- "ISR bit 7: some flag is set whose ACR bit (3-0) is set."
no_acr_ignored : ((i : Inputs) (acr : ℕ) → not (eqb i.changes 0) ≡ has_chosen_change i acr) → ⊥
no_acr_ignored h = true≢false (h some 0)

-- "transmitter on a falling edge"
no_rising_clocks : ((before after pin : ℕ) → rises_of before after pin ≡ falls_of before after pin) → ⊥
unfolding has_bit pick
no_rising_clocks h = true≢false (h 0 1 0)

-- the levels after the event
no_cts_before : ((before after : ℕ) → has_bit before 0 ≡ (channel_pins before after 0 6 4 3).cts) → ⊥
unfolding has_bit pick
no_cts_before h = false≢true (h 0 1)

no_rxd_before : ((before after : ℕ) → has_bit before 6 ≡ (channel_pins before after 0 6 4 3).rxd) → ⊥
unfolding has_bit pick
no_rxd_before h = false≢true (h 0 64)

-- ---- wrong edges, each shut out by the eight pins written out ----
-- Made in the definition and in the code together, they would still be refused.

abbrev of_ip0 : List Bool → Bool
of_ip0 l = get_or l 0 false

-- "receiver on a rising edge": at every event that finds the pin high; and at every one that moves some pin
no_level_for_rise : Edges (λ (before after pin : ℕ). has_bit after pin) falls_of → ⊥
unfolding has_bit pick
no_level_for_rise h = true≢false (ap of_ip0 h.still.0)

no_other_pin_rises : Edges (λ (before after pin : ℕ). not (eqb before after) && has_bit after pin) falls_of → ⊥
unfolding has_bit pick
no_other_pin_rises h = true≢false (ap of_ip0 h.high.0)

-- "transmitter on a falling edge"
no_other_pin_falls : Edges rises_of (λ (before after pin : ℕ). not (eqb before after) && not (has_bit after pin)) → ⊥
unfolding has_bit pick
no_other_pin_falls h = true≢false (ap of_ip0 h.low.1)

-- Wrong answers, each shut out by a definition: a routine that gave it would not meet its contract. Assumes nothing.
use Prim.Native.Nat.{ℕ, ◌%◌}
use mathlib.Core.Path.{◌≡◌}
use mathlib.Core.Bool.{true, true≢false, false≢true}
use native.Mathlib.Omega.{arith}
use Rattle.format.specs.Format.{mr1_not_modelled, mr2_not_modelled}
use Rattle.format.specs.Pick.{pick}
use Rattle.clocks.proofs.Examples.{midway}
use Rattle.front_side.specs.declared.side.Side.{Side}
use Rattle.front_side.specs.Side.{fresh_side, with_clocks, mode_not_modelled, pointed_at, csr_written}

-- "MR2 .. bit 5 set"
no_mr2_bit5 :
    ((s : Side) (byte : ℕ)
    → pick s.moved (mr2_not_modelled (byte % 32)) (mr1_not_modelled byte) ≡ mode_not_modelled s byte)
    → ⊥
unfolding mode_not_modelled pick
no_mr2_bit5 h = false≢true (h (pointed_at fresh_side true) 32)

-- order 2: "5 no longer covers MR2 bits 7-6.": MR1's rule is not MR2's
no_mr2_channel_modes : ((s : Side) (byte : ℕ) → mr1_not_modelled byte ≡ mode_not_modelled s byte) → ⊥
unfolding mode_not_modelled pick
no_mr2_channel_modes h = true≢false (h (pointed_at fresh_side true) 128)

-- "A CSR write restarts that channel's phases"
no_csr_keeps_phases : ((s : Side) (byte : ℕ) → s.phases.receiver.0 ≡ (csr_written s byte).phases.receiver.0) → ⊥
unfolding csr_written
no_csr_keeps_phases h = omega (arith, h (with_clocks fresh_side 0 midway) 0)

-- Wrong answers, each shut out by a definition: a routine that gave it would not meet its contract. Assumes nothing.
use Prim.Native.Nat.{ℕ, ◌/◌, ◌%◌}
use mathlib.Core.Path.{◌≡◌, ap}
use mathlib.Core.Bool.{Bool, true, not, ◌&&◌, ◌||◌, true≢false, false≢true}
use native.Mathlib.Omega.{arith}
use lib.Dec.{eqb}
use lib.ListN.{length}
use Rattle.format.specs.Pick.{pick}
use Rattle.byte_bits.specs.Bytes.{has_bit, weight_of, byte_of}
use Rattle.outputs.specs.declared.outputs.Outputs.{Outputs}
use Rattle.outputs.specs.Outputs.{fresh_outputs, opcr_not_modelled, driven_by, driven_op3, op_levels}
use Rattle.outputs.proofs.Laws.{Modelled}

-- "OPCR bits 1-0 not 00, or bits 3-2 = 10 or 11"
no_opcr8_accepted : ((opcr : ℕ) → (not (eqb (opcr % 4) 0) && eqb (opcr / 8 % 2) 1) ≡ opcr_not_modelled opcr) → ⊥
no_opcr8_accepted h = false≢true (h 8)

-- and by document 01's numbers, which refuse it in the definition and in the code together: 11 in bits 3-2 let through
no_opcr12_accepted : Modelled (λ (opcr : ℕ). not (eqb (opcr % 4) 0) || eqb (opcr / 4 % 4) 2) → ⊥
no_opcr12_accepted h = omega (arith, ap length h)

-- "OPCR 3-2 = 01 puts the timer output on OP3", which is the complement of what drives it
no_timer_complemented :
    ((o : Outputs) (timer : Bool) → pick (eqb (o.opcr / 4 % 4) 1) timer (has_bit o.bits 3) ≡ driven_op3 o timer)
    → ⊥
unfolding driven_op3 pick
no_timer_complemented h = true≢false (h (record { bits = 0; opcr = 4 }) true)

-- "OP pins are the complement of the output bits."
no_op_not_complemented :
    ((o : Outputs) (isr : ℕ) (timer : Bool)
    → byte_of (driven_by o isr 7 4) (driven_by o isr 6 0) (driven_by o isr 5 5) (driven_by o isr 4 1)
    (driven_op3 o timer) (has_bit o.bits 2) (has_bit o.bits 1) (has_bit o.bits 0)
    ≡ op_levels o isr timer)
    → ⊥
unfolding op_levels driven_by driven_op3 has_bit byte_of weight_of pick
no_op_not_complemented h = omega (arith, h fresh_outputs 0 true)

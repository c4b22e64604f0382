-- Wrong answers, each shut out by a definition: a routine that gave it would not meet its contract. Assumes nothing.
use Prim.Native.Nat.{ℕ, ◌/◌, ◌%◌}
use mathlib.Core.Path.{◌≡◌, ap}
use mathlib.Core.Bool.{Bool, true, ◌&&◌, ◌||◌, false≢true}
use mathlib.Core.List.{List}
use lib.Dec.{eqb}
use lib.ListN.{get_or}
use Rattle.events.specs.Command.{command_forbidden}
use Rattle.events.proofs.Laws.{Forbidden}

-- "command whose bits 3-2 or 1-0 are 11": the transmitter's bits 11 accepted
no_transmitter_bits11_accepted :
    ((byte : ℕ) → (eqb (byte / 4 % 4) 4 || eqb (byte % 4) 3) ≡ command_forbidden byte) → ⊥
no_transmitter_bits11_accepted h = false≢true (h 12)

-- and by document 01's numbers, which refuse it in the definition and in the code together: 11 in both places asked for
no_one_of11_accepted : Forbidden (λ (byte : ℕ). eqb (byte / 4 % 4) 3 && eqb (byte % 4) 3) → ⊥
no_one_of11_accepted h = false≢true (ap (λ (l : List Bool). get_or l 3 true) h.codes)

-- a bit of the command beside them is looked at: 28 is accepted
no_eleven_with_command_accepted : Forbidden (λ (byte : ℕ). eqb (byte / 4 % 8) 3 || eqb (byte % 4) 3) → ⊥
no_eleven_with_command_accepted h = false≢true (h.above 28)

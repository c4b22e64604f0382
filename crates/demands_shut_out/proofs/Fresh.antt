-- Order 1's statement shuts out wrong flags: each chip answers as ours but for the flag, or takes where it should not, and differs after a few
-- events on receiver A with the 1X clock of its pin and five data bits. Assumes nothing.
use Prim.Native.Nat.{ℕ}
use mathlib.Core.Path.{refl}
use mathlib.Core.Bool.{Bool, true, false, not, ◌&&◌, ◌||◌, true≢false, false≢true}
use mathlib.Core.List.{List, [], ◌∷◌, ◌++◌}
use native.Mathlib.Omega.{arith}
use lib.Dec.{eqb}
use Rattle.byte_bits.specs.Bytes.{has_bit}
use Rattle.events.specs.declared.events.Event.{Event}
use Rattle.events.specs.declared.events.Event.TheVariants.{Read, Write}
use Rattle.chip_step.specs.Chip.{step_of}
use Rattle.chip_laws.specs.Lists.{Seen}
use Rattle.demands.specs.Chip.{Chip, shows, status_bit, chip_of}
use Rattle.demands.specs.Chip.Channel.{A, B}
use Rattle.demands.specs.Told.{programmed}
use Rattle.demands.specs.Delivery.{reads_buffer}
use Rattle.demands.specs.Fresh.{Fresh}
use Rattle.demands.specs.Cases.{heard}
use Rattle.demands.proofs.Computing.{computing}
use Rattle.demands_shut_out.proofs.Chips.{heard_at}

-- our chip, with another flag for some events
abbrev flagged : (ℕ → List Event → Event → Bool) → Chip
flagged flag levels es e =
    let x : Seen = chip_of step_of levels es e in
    record { number = x.number; byte = x.byte; fresh = flag levels es e; lines = x.lines }

abbrev ours : Chip
ours = chip_of step_of

-- a zero has arrived at A: seven lows would be a break, so its stop is high
abbrev one : List Event
one = heard_at 16 [] ++ heard (false ∷ false ∷ false ∷ false ∷ false ∷ false ∷ true ∷ [])

-- ---- the flag ----

pub no_always_fresh : Fresh (flagged (λ levels es e. true)) → ⊥
unfolding computing
no_always_fresh h = true≢false (h.exactly 255 A [])

pub no_never_fresh : Fresh (flagged (λ levels es e. false)) → ⊥
unfolding computing heard
no_never_fresh h = false≢true (h.exactly 255 A one)

-- "MR1: bit 6 FFULL instead of RxRDY for ISR": by ISR's bit one character is stale
pub no_fresh_by_isr : Fresh (flagged (λ levels es e. has_bit (shows ours levels es 5) 1)) → ⊥
unfolding computing heard
no_fresh_by_isr h = false≢true (h.exactly 255 A (one ++ Write 2 16 ∷ Write 0 80 ∷ []))

-- of a disabled receiver, too, what is held is fresh
pub no_fresh_while_enabled : Fresh (flagged (λ levels es e. (ours levels es e).fresh && (programmed A es).receives)) → ⊥
unfolding computing heard
no_fresh_while_enabled h = false≢true (h.exactly 255 A (one ++ Write 2 2 ∷ []))

-- a read that says fresh whatever is held
pub no_stale_says_fresh : Fresh (flagged (λ levels es e. reads_buffer A e || reads_buffer B e)) → ⊥
unfolding computing
no_stale_says_fresh h = true≢false (h.exactly 255 A [])

-- a status read
pub no_fresh_status : Fresh (flagged (λ levels es e. status_bit ours levels A es 0)) → ⊥
unfolding computing heard
no_fresh_status h = true≢false (h.other 255 one (Read 1) refl refl)

-- "a refused read"
pub no_fresh_refused : Fresh (flagged (λ levels es e. (ours levels es e).fresh || not (eqb (ours levels es e).number 0))) → ⊥
unfolding computing
no_fresh_refused h = true≢false (h.refused 255 [] (Read 19) (λ z. omega (arith, z)))

-- the flag of the other channel
pub no_fresh_of_b : Fresh (flagged (λ levels es e. (ours levels es (Read 11)).fresh)) → ⊥
unfolding computing heard
no_fresh_of_b h = false≢true (h.exactly 255 A one)

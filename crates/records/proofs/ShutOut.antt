-- Wrong answers, each shut out by a definition: a routine that gave it would not meet its contract. Assumes nothing.
use Prim.Native.Nat.{ℕ}
use mathlib.Core.Path.{◌≡◌}
use mathlib.Core.Bool.{Bool, true, false, false≢true}
use native.Mathlib.Omega.{arith}
use Rattle.format.specs.Pick.{pick}
use Rattle.chip_answers.specs.declared.answers.Lines.{Lines}
use Rattle.events.specs.declared.events.Event.TheVariants.{Read, Tick}
use Rattle.records.specs.Records.{event_of, seen_of}

-- "IRQ (1 when asserted)"
no_irq_never_seen : ((number byte : ℕ) (fresh : Bool) (l : Lines) → false ≡ (seen_of number byte fresh l).irq) → ⊥
no_irq_never_seen h = false≢true (h 0 0 true (record { irq = true; txda = true; txdb = true; op = 255 }))

-- order 1: "Everything that reads the buffer passes this on."
no_fresh_not_passed_on : ((number byte : ℕ) (fresh : Bool) (l : Lines) → false ≡ (seen_of number byte fresh l).fresh) → ⊥
no_fresh_not_passed_on h = false≢true (h 0 0 true (record { irq = true; txda = true; txdb = true; op = 255 }))

-- a kind that is no event's: a read that the chip answers, and not "register above 15"
no_unknown_kind_reads : Read 0 ≡ event_of (record { kind = 6; reg = 0; byte = 0 }) → ⊥
unfolding event_of pick
no_unknown_kind_reads h = let z : ◌≡◌ {A = ℕ} 0 255 = cc in omega arith

no_acknowledge_is_tick : Tick ≡ event_of (record { kind = 3; reg = 0; byte = 0 }) → ⊥
unfolding event_of pick
no_acknowledge_is_tick h = let z : ◌≡◌ {A = ℕ} 0 1 = cc in omega arith

-- What the events tell of the ports is what the front run alone holds: the change flags, the output bits and OPCR, event by event. Assumes nothing.
use Prim.Native.Nat.{ℕ, ◌≤◌}
use mathlib.Core.Path.{◌≡◌, refl}
use mathlib.Core.Bool.{Bool, true, false, and-eq-true_iff}
use mathlib.Core.List.{List}
use lib.Dec.{eqb}
use borrow.Author.Tests.{eqb-true}
use Rattle.format.specs.Pick.{pick}
use Rattle.format.proofs.Laws.Pick.{pick_all}
use Rattle.inputs.specs.declared.inputs.Inputs.{Inputs}
use Rattle.inputs.specs.Inputs.{moved_of}
use Rattle.outputs.specs.declared.outputs.Outputs.{Outputs}
use Rattle.outputs.specs.Outputs.{opcr_not_modelled}
use Rattle.front.specs.declared.front.Front.{Front}
use Rattle.front.specs.Front.{front_at}
use Rattle.front.specs.Sound.{front_in_range}
use Rattle.front.proofs.Laws.Ranges.{front_told}
use Rattle.events.specs.declared.events.Event.{Event}
use Rattle.events.specs.declared.events.Event.TheVariants.{ChipReset, Read, Write, Acknowledge, Pins, Tick}
use Rattle.demands.specs.Chip.{over}
use Rattle.demands.specs.Clocks.{front_then, front_after}
use Rattle.demands.specs.Registers.{Changes, changes_then, changes_after, outputs_then, opcr_then}
use Rattle.demands.proofs.Laws.Run.{run_at, run_front, run_sound}
use Rattle.demands.proofs.Laws.Fronts.{front_next, front_next_lem}
use Rattle.demands.proofs.Laws.Told.{follows, pick_with}

-- ---- the change flags ----

abbrev pub changes_of : Inputs → Changes
changes_of i = record { levels = i.levels; flags = i.changes }

changes_next : (f : Front) (e : Event) → changes_of (front_then f e).inputs ≡ changes_then (changes_of f.inputs) e
unfolding front_at moved_of
changes_next f e = rw (front_next_lem f e) (go e)
  where
    go : (e : Event) → changes_of (front_next f e).inputs ≡ changes_then (changes_of f.inputs) e
    go ChipReset = refl
    go (Read n) = pick_with changes_of (eqb n 4) refl refl
    go (Write n byte) = refl
    go Acknowledge = refl
    go (Pins x) = refl
    go Tick = refl

pub changes_told : (levels : ℕ) (es : List Event) → changes_after levels es ≡ changes_of (front_after levels es).inputs
unfolding front_at
changes_told levels es = follows (λ f. changes_of f.inputs) changes_then changes_next (front_at levels) es

-- four of them
pub changes_most : (levels : ℕ) (es : List Event) → (front_after levels es).inputs.changes ≤ 15
changes_most levels es =
    let f = (run_at levels es).front in
    rw (← run_front levels es) (front_told f ((and-eq-true_iff (front_in_range f) _).0 (run_sound levels es)).0).changes

-- ---- the output bits and OPCR ----

outputs_next : (f : Front) (e : Event) → (front_then f e).outputs.bits ≡ outputs_then f.outputs.bits e
unfolding front_at pick
outputs_next f e = rw (front_next_lem f e) (go e)
  where
    bits : Outputs → ℕ
    bits o = o.bits

    -- OPCR is no output bit
    written : (n byte : ℕ) (t : Bool) → eqb n 13 ≡ t → (front_next f (Write n byte)).outputs.bits ≡ outputs_then f.outputs.bits (Write n byte)
    written n byte true h =
        let z : n ≡ 13 = eqb-true n 13 h in
        rw z (pick_all (λ (o : Outputs). o.bits ≡ f.outputs.bits) (opcr_not_modelled byte) _ _ refl refl)
    written n byte false h = rw h (pick_with bits (eqb n 14) refl (pick_with bits (eqb n 15) refl refl))

    go : (e : Event) → (front_next f e).outputs.bits ≡ outputs_then f.outputs.bits e
    go ChipReset = refl
    go (Read n) = refl
    go (Write n byte) = written n byte (eqb n 13) refl
    go Acknowledge = refl
    go (Pins x) = refl
    go Tick = refl

pub outputs_told : (levels : ℕ) (es : List Event) → over outputs_then 0 es ≡ (front_after levels es).outputs.bits
unfolding front_at
outputs_told levels es = follows (λ f. f.outputs.bits) outputs_then outputs_next (front_at levels) es

opcr_next : (f : Front) (e : Event) → (front_then f e).outputs.opcr ≡ opcr_then f.outputs.opcr e
unfolding front_at
opcr_next f e = rw (front_next_lem f e) (go e)
  where
    opcr : Outputs → ℕ
    opcr o = o.opcr

    same : (o : Outputs) → Type 0
    same o = o.opcr ≡ f.outputs.opcr

    go : (e : Event) → (front_next f e).outputs.opcr ≡ opcr_then f.outputs.opcr e
    go ChipReset = refl
    go (Read n) = refl
    go (Write n byte) =
        pick_with opcr (eqb n 13) (pick_with opcr (opcr_not_modelled byte) refl refl)
        (pick_all same (eqb n 14) _ _ refl (pick_all same (eqb n 15) _ _ refl refl))
    go Acknowledge = refl
    go (Pins x) = refl
    go Tick = refl

pub opcr_told : (levels : ℕ) (es : List Event) → over opcr_then 0 es ≡ (front_after levels es).outputs.opcr
unfolding front_at
opcr_told levels es = follows (λ f. f.outputs.opcr) opcr_then opcr_next (front_at levels) es

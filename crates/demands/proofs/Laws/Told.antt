-- What the events tell is what the front run alone holds: a part of the front that one event changes as the telling says is told by any list
-- of them; and each part here is, event by event. Assumes nothing.
use Prim.Native.Nat.{ℕ}
use mathlib.Core.Path.{◌≡◌, refl, sym, ap, ◌∙◌}
use mathlib.Core.Bool.{Bool, true, false, not, ◌&&◌, ◌||◌, and-true, and-false, true≢false}
use mathlib.Core.List.{List, [], ◌∷◌, ◌++◌}
use lib.Dec.{eqb}
use Rattle.format.specs.Format.{mr1_not_modelled, mr2_not_modelled}
use Rattle.format.specs.Pick.{pick}
use Rattle.format.proofs.Laws.Pick.{pick_all}
use Rattle.transmitter_state.specs.declared.sending.Standing.{Standing}
use Rattle.transmitter_state.specs.declared.state.Transmitter.{Transmitter}
use Rattle.transmitter_state.specs.Sending.{begun_of, sent_on_of, held_high, pulsed_of}
use Rattle.transmitter.specs.declared.transmitter.Input.TheVariants as Input
use Rattle.transmitter.specs.Commands.{written_of, break_ended, dropped_of, break_asked}
use Rattle.transmitter.specs.Transmitter.{after_input}
use Rattle.inputs.specs.declared.inputs.Inputs.{Inputs}
use Rattle.inputs.specs.Inputs.{moved_of}
use Rattle.front_side.specs.declared.side.Side.{Side}
use Rattle.front_side.specs.Side.{fresh_side, mode_not_modelled, mode_written, csr_written, set_changed, buffer_written}
use Rattle.front_modes.specs.Modes.{mode_set}
use Rattle.front_side_clocks.specs.Clocking.{transmitter_pulsed}
use Rattle.front_commands.specs.Commands.{transmitter_effect, transmitter_enabling, enabled_after, side_commanded}
use Rattle.events.specs.Command.{command_forbidden}
use Rattle.front.specs.declared.front.Front.{Front}
use Rattle.front.specs.Front.{front_at}
use Rattle.events.specs.declared.events.Event.{Event}
use Rattle.events.specs.declared.events.Event.TheVariants.{ChipReset, Read, Write, Acknowledge, Pins, Tick}
use Rattle.demands.specs.Chip.{Channel, register_of, and_then, over}
use Rattle.demands.specs.Chip.Channel.{A, B}
use Rattle.demands.specs.Told.{last_written, levels_then, levels_after, Programmed, unprogrammed, mode_then, named, command_then, programmed_then, programmed}
use Rattle.demands.specs.Clocks.{front_then, front_after, side_of}
use Rattle.demands.specs.Pulses.{clocks}
use Rattle.demands.proofs.Laws.Fronts.{side_written, side_clocked_by, front_moved, front_next, front_next_lem, side_next, side_next_lem}

-- ---- over lists of events ----

pub over_append : {X : Type 0} (f : X → Event → X) (x : X) (es fs : List Event) → over f x (es ++ fs) ≡ over f (over f x es) fs
unfolding over
over_append f x [] fs = refl
over_append f x (e ∷ es) fs = over_append f (f x e) es fs

pub over_then : {X : Type 0} (f : X → Event → X) (x : X) (es : List Event) (e : Event) → over f x (and_then es e) ≡ f (over f x es) e
unfolding over
over_then f x es e = over_append f x es (e ∷ [])

pub follows : {X : Type 0} (p : Front → X) (g : X → Event → X) → ((f : Front) (e : Event) → p (front_then f e) ≡ g (p f) e)
    → (f : Front) (es : List Event) → over g (p f) es ≡ p (over front_then f es)
unfolding over
follows p g h f [] = refl
follows p g h f (e ∷ es) = rw (← h f e) (follows p g h (front_then f e) es)

-- a function of a choice
pub pick_with : {A B : Type 0} (g : A → B) (t : Bool) {x y : A} {x' y' : B} → g x ≡ x' → g y ≡ y' → g (pick t x y) ≡ pick t x' y'
unfolding pick
pick_with g true p q = p
pick_with g false p q = q

-- ---- the registers that both channels share, and the pins' levels ----

pub levels_next : (f : Front) (e : Event) → (front_then f e).inputs.levels ≡ levels_then f.inputs.levels e
unfolding front_at moved_of
levels_next f e = rw (front_next_lem f e) (go e)
  where
    go : (e : Event) → (front_next f e).inputs.levels ≡ levels_then f.inputs.levels e
    go ChipReset = refl
    go (Read n) = pick_all (λ (i : Inputs). i.levels ≡ f.inputs.levels) (eqb n 4) _ _ refl refl
    go (Write n byte) = refl
    go Acknowledge = refl
    go (Pins x) = refl
    go Tick = refl

-- IVR, IMR and ACR are as they were last written
record Last (f g : Front) (e : Event) : Type 0 where
  ivr : g.ivr ≡ last_written 12 15 f.ivr e
  imr : g.imr ≡ last_written 5 0 f.imr e
  acr : g.acr ≡ last_written 4 0 f.acr e

last_next : (f : Front) (e : Event) → Last f (front_then f e) e
unfolding front_at
last_next f e = rw (front_next_lem f e) (go e)
  where
    go : (e : Event) → Last f (front_next f e) e
    go ChipReset = record { ivr = refl; imr = refl; acr = refl }
    go (Read n) = record { ivr = refl; imr = refl; acr = refl }
    go (Write n byte) = record { ivr = refl; imr = refl; acr = refl }
    go Acknowledge = record { ivr = refl; imr = refl; acr = refl }
    go (Pins x) = record { ivr = refl; imr = refl; acr = refl }
    go Tick = record { ivr = refl; imr = refl; acr = refl }

pub acr_next : (f : Front) (e : Event) → (front_then f e).acr ≡ last_written 4 0 f.acr e
acr_next f e = (last_next f e).acr

pub levels_told : (levels : ℕ) (es : List Event) → levels_after levels es ≡ (front_after levels es).inputs.levels
unfolding front_at
levels_told levels es = follows (λ f. f.inputs.levels) levels_then levels_next (front_at levels) es

pub ivr_told : (levels : ℕ) (es : List Event) → over (last_written 12 15) 15 es ≡ (front_after levels es).ivr
unfolding front_at
ivr_told levels es = follows (λ f. f.ivr) (last_written 12 15) (λ f e. (last_next f e).ivr) (front_at levels) es

pub imr_told : (levels : ℕ) (es : List Event) → over (last_written 5 0) 0 es ≡ (front_after levels es).imr
unfolding front_at
imr_told levels es = follows (λ f. f.imr) (last_written 5 0) (λ f e. (last_next f e).imr) (front_at levels) es

pub acr_told : (levels : ℕ) (es : List Event) → over (last_written 4 0) 0 es ≡ (front_after levels es).acr
unfolding front_at
acr_told levels es = follows (λ f. f.acr) (last_written 4 0) acr_next (front_at levels) es

-- ---- a transmitter's enable ----

pub pulsed_enabled : (t : Transmitter) (s : Standing) → (pulsed_of t s).enabled ≡ t.enabled
unfolding pulsed_of sent_on_of held_high begun_of
pulsed_enabled t s =
    pick_all Same _ _ _ (pick_all Same _ _ _ refl begun)
    (pick_all Same _ _ _ refl (pick_all Same _ _ _ (pick_all Same _ _ _ (pick_all Same _ _ _ refl refl) refl) begun))
  where
    Same : Transmitter → Type 0
    Same x = x.enabled ≡ t.enabled

    begun : Same (begun_of t s)
    begun = pick_all Same _ _ _ refl (pick_all Same _ _ _ refl refl)

ended_enabled : (t : Transmitter) → (break_ended t).enabled ≡ t.enabled
unfolding break_ended
ended_enabled t = pick_all (λ (x : Transmitter). x.enabled ≡ t.enabled) _ _ _ refl refl

asked_enabled : (t : Transmitter) → (break_asked t).enabled ≡ t.enabled
unfolding break_asked
asked_enabled t = pick_all (λ (x : Transmitter). x.enabled ≡ t.enabled) _ _ _ refl refl

written_enabled : (t : Transmitter) (byte : ℕ) → (written_of t byte).enabled ≡ t.enabled
unfolding written_of
written_enabled t byte = pick_all (λ (x : Transmitter). x.enabled ≡ t.enabled) _ _ _ refl refl

effect_enabled : (t : Transmitter) (k : ℕ) → (after_input t (transmitter_effect k)).enabled ≡ t.enabled && not (eqb k 3)
unfolding transmitter_effect after_input dropped_of pick
effect_enabled t k = go (eqb k 3) (eqb k 6) (eqb k 7)
  where
    go : (b c d : Bool)
        → (after_input t (pick b Input.Reset (pick c Input.StartBreak (pick d Input.StopBreak Input.Nothing)))).enabled ≡ t.enabled && not b
    go true c d = rw and-false
    go false true d = rw and-true (asked_enabled t)
    go false false true = rw and-true (ended_enabled t)
    go false false false = rw and-true

enabling_enabled : (t : Transmitter) (j : ℕ) → (after_input t (transmitter_enabling j)).enabled ≡ named j t.enabled
unfolding transmitter_enabling after_input pick
enabling_enabled t j = go (eqb j 1) (eqb j 2)
  where
    go : (b c : Bool) → (after_input t (pick b Input.Enable (pick c Input.Disable Input.Nothing))).enabled ≡ pick b true (pick c false t.enabled)
    go true c = refl
    go false true = refl
    go false false = refl

-- ---- a channel's own registers ----

abbrev pub programmed_of : Side → Programmed
programmed_of s =
    record { mr1 = s.mr1; mr2 = s.mr2; moved = s.moved; csr = s.csr; receives = s.enabled; transmits = s.transmitter.enabled }

-- a mode change writes what any write of the mode registers does, and no enable
set_told : (s : Side) (byte : ℕ) → programmed_of (mode_set s byte) ≡ programmed_of (mode_written s byte)
unfolding mode_set mode_written after_input
set_told s byte = pick_all (λ (x : Side). programmed_of x ≡ programmed_of (mode_written s byte)) _ _ _ (ap with-enable kept) refl
  where
    with-enable : Bool → Programmed
    with-enable x =
        let w : Side = mode_written s byte in
        record { mr1 = w.mr1; mr2 = w.mr2; moved = w.moved; csr = w.csr; receives = w.enabled; transmits = x }

    kept : s.transmitter.enabled ≡ (mode_written s byte).transmitter.enabled
    kept = pick_all (λ (x : Side). s.transmitter.enabled ≡ x.transmitter.enabled) s.moved _ _ refl refl

mode_told : (s : Side) (byte : ℕ) → programmed_of (pick (mode_not_modelled s byte) s (mode_set s byte)) ≡ mode_then (programmed_of s) byte
unfolding mode_not_modelled mode_written pick
mode_told s byte =
    pick_with programmed_of (mode_not_modelled s byte) {x' = programmed_of s} {y' = programmed_of (mode_written s byte)} refl (set_told s byte)
    ∙ sym (pick_with programmed_of (mode_not_modelled s byte) {x = s} {y = mode_written s byte} refl refl)
    ∙ go s.moved refl
  where
    go : (t : Bool) → s.moved ≡ t → programmed_of (pick (mode_not_modelled s byte) s (mode_written s byte)) ≡ mode_then (programmed_of s) byte
    go true e = rw (e, mode_not_modelled, mode_written) (pick_with programmed_of (mr2_not_modelled byte) refl refl)
    go false e = rw (e, mode_not_modelled, mode_written) (pick_with programmed_of (mr1_not_modelled byte) refl refl)

receives_told : (enabled : Bool) (bits : ℕ) → enabled_after enabled bits ≡ named bits enabled
unfolding pick
receives_told enabled bits = go (eqb bits 1) (eqb bits 2)
  where
    go : (b c : Bool) → b || (enabled && not c) ≡ pick b true (pick c false enabled)
    go true c = refl
    go false true = and-false enabled
    go false false = and-true enabled

command_told : (s : Side) (byte : ℕ)
    → programmed_of (pick (command_forbidden byte) s (side_commanded s byte)) ≡ command_then (programmed_of s) byte
unfolding side_commanded
command_told s byte =
    pick_with programmed_of (command_forbidden byte) refl
    (rw (receives_told, enabling_enabled, effect_enabled))

written_told : (ch : Channel) (f : Front) (n byte : ℕ)
    → programmed_of (side_written ch f n byte) ≡ programmed_then ch (programmed_of (side_of ch f)) (Write n byte)
unfolding programmed_then csr_written buffer_written set_changed after_input
written_told ch f n byte =
    pick_with programmed_of _ (mode_told s byte)
    (pick_with programmed_of _ refl
    (pick_with programmed_of _ (command_told s byte)
    (pick_all (λ (x : Side). programmed_of x ≡ programmed_of s) _ _ _ (rw (written_enabled s.transmitter byte))
    (pick_all (λ (x : Side). programmed_of x ≡ programmed_of s) _ _ _ refl refl))))
  where
    s : Side
    s = side_of ch f

clocked_told : (ch : Channel) (f : Front) (before : ℕ) (tick : Bool) → programmed_of (side_clocked_by ch f before tick) ≡ programmed_of (side_of ch f)
unfolding transmitter_pulsed after_input
clocked_told ch f before tick = ap told_with (pick_all (λ (x : Transmitter). x.enabled ≡ s.transmitter.enabled) _ _ _ (pulsed_enabled _ _) refl)
  where
    s : Side
    s = side_of ch f

    told_with : Bool → Programmed
    told_with x = record { mr1 = s.mr1; mr2 = s.mr2; moved = s.moved; csr = s.csr; receives = s.enabled; transmits = x }

pub told_next : (ch : Channel) (f : Front) (e : Event) → programmed_of (side_of ch (front_then f e)) ≡ programmed_then ch (programmed_of (side_of ch f)) e
unfolding programmed_then fresh_side
told_next ch f e = rw (side_next_lem ch f e) (go e)
  where
    go : (e : Event) → programmed_of (side_next ch f e) ≡ programmed_then ch (programmed_of (side_of ch f)) e
    go ChipReset = refl
    go (Read n) = pick_with programmed_of (eqb n (register_of ch 0)) refl refl
    go (Write n byte) = written_told ch f n byte
    go Acknowledge = refl
    go (Pins x) = clocked_told ch (front_moved f x) f.inputs.levels false
    go Tick = clocked_told ch f f.inputs.levels true

pub told : (ch : Channel) (levels : ℕ) (es : List Event) → programmed ch es ≡ programmed_of (side_of ch (front_after levels es))
unfolding front_at fresh_side
told A levels es = follows (λ f. programmed_of (side_of A f)) (programmed_then A) (told_next A) (front_at levels) es
told B levels es = follows (λ f. programmed_of (side_of B f)) (programmed_then B) (told_next B) (front_at levels) es

-- a tick or a pin event sets nothing
pub programmed_stays : (ch : Channel) (es : List Event) (e : Event) → clocks e ≡ true → programmed ch (and_then es e) ≡ programmed ch es
unfolding programmed_then
programmed_stays ch es e k = over_then (programmed_then ch) unprogrammed es e ∙ go e k
  where
    go : (e : Event) → clocks e ≡ true → programmed_then ch (programmed ch es) e ≡ programmed ch es
    go ChipReset k = absurd (true≢false (sym k))
    go (Read n) k = absurd (true≢false (sym k))
    go (Write n byte) k = absurd (true≢false (sym k))
    go Acknowledge k = absurd (true≢false (sym k))
    go (Pins x) k = refl
    go Tick k = refl

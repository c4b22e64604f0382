-- The statements on breaks and commands shut wrong transmitters out, each `after_input` but for one fault: `Breaks` is false of five, `EachPulse`
-- of two, `Obeys` of ten. Assumes nothing.
use mathlib.Core.Path.{refl, sym, ap}
use mathlib.Core.Bool.{true, false, not, ◌&&◌, true≢false}
use mathlib.Core.List.{[], ◌∷◌}
use native.Mathlib.Omega.{arith}
use lib.Dec.{eqb, ltb}
use lib.ListN.{replicate}
use Rattle.format.specs.Pick.{pick}
use Rattle.transmitter_state.specs.declared.sending.Standing.{Standing}
use Rattle.transmitter_state.specs.declared.state.Transmitter.{Transmitter}
use Rattle.transmitter_state.specs.State.{fresh_transmitter, with_holding, with_phase, with_left, with_asked}
use Rattle.transmitter_state.specs.Sending.{can_start, idle_of, begun_of, held_high, pulsed_of}
use Rattle.transmitter.specs.declared.transmitter.Input.TheVariants.{Pulse, Write, StopBreak}
use Rattle.transmitter.specs.Commands.{written_of, high_after, break_ended, disabled_of, reset_of, sending_dropped}
use Rattle.transmitter.specs.Transmitter.{after_input}
use Rattle.transmitter.specs.Frames.{Step, after, pulses_in}
use Rattle.transmitter.specs.Breaks.{Breaks, EachPulse}
use Rattle.transmitter.specs.Breaks.Ends.{stops}
use Rattle.transmitter.specs.Obeys.{Obeys}
use Rattle.transmitter.proofs.Wrong.{once, enabled, ready, pulses, pulsing, writing, disabling, stopping, resetting, changing}

-- ---- breaks ----

-- a break is asked, and no character can start
abbrev asking : Transmitter
asking = with_asked enabled true

-- idle at once
unfoldable pub ends_at_once : Step
ends_at_once = stopping (λ t. pick (eqb t.phase 2) (idle_of t) (break_ended t))

-- a character is written in the break
pub no_ends_at_once : Breaks ends_at_once → ⊥
unfolding ends_at_once after pulses_in pulsed_of begun_of written_of pick
no_ends_at_once h = true≢false (sym (h.high asking once (Write 0 ∷ []) StopBreak false (pulses 1) refl refl refl refl stops refl (omega arith)))

-- fifteen pulses of high
unfoldable pub ends_early : Step
ends_early = stopping (λ t. pick (eqb t.phase 2) (with_left (high_after t) (record { 0 = 14 })) (break_ended t))

pub no_ends_early : Breaks ends_early → ⊥
unfolding ends_early after pulses_in pulsed_of begun_of held_high written_of pick
no_ends_early h =
    let u : Standing = record { mr1 = 16; mr2 = 7; sixteen = true; cts = false } in
    true≢false (sym (h.high asking u (Write 0 ∷ []) StopBreak true (replicate 16 (Pulse u)) refl refl refl refl stops refl (omega arith)))

-- ended by a write
unfoldable pub write_ends : Step
write_ends = writing (λ t byte. pick (eqb t.phase 2) (high_after (written_of t byte)) (written_of t byte))

pub no_write_ends : Breaks write_ends → ⊥
unfolding write_ends after pulsed_of begun_of pick
no_write_ends h = true≢false (h.low asking once (Write 0 ∷ []) refl refl refl refl)

-- ended by a pulse on which a character could start
unfoldable pub character_ends : Step
character_ends = pulsing (λ t s. pick (eqb t.phase 2 && can_start t s) (high_after t) (pulsed_of t s))

pub no_character_ends : Breaks character_ends → ⊥
unfolding character_ends after pulsed_of begun_of written_of pick
no_character_ends h = true≢false (h.low asking once (Write 0 ∷ pulses 1) refl refl refl refl)

-- a high bit that never ends
unfoldable pub never_ends : Step
never_ends = pulsing (λ t s. pick (eqb t.phase 3) t (pulsed_of t s))

pub no_never_ends : Breaks never_ends → ⊥
unfolding never_ends after after_input pulses_in pulsed_of begun_of break_ended pick
no_never_ends h = true≢false (sym (h.done asking once [] StopBreak false (pulses 1) refl refl refl refl stops refl refl))

-- a stop asks for a new break
unfoldable pub asks_again : Step
asks_again = stopping (λ t. with_asked (break_ended t) true)

pub no_asks_again : EachPulse asks_again → ⊥
unfolding asks_again break_ended pick
no_asks_again h = true≢false (ap (λ (t : Transmitter). t.asked) (h.ends (with_phase enabled 2 false) refl))

-- in the high bit, a pulse at 1X after some at 16X starts a character
unfoldable pub starts_in_bit : Step
starts_in_bit = pulsing (λ t s. pick (eqb t.phase 3 && (not s.sixteen && ltb t.left.0 15)) (begun_of t s) (pulsed_of t s))

pub no_starts_in_bit : EachPulse starts_in_bit → ⊥
unfolding starts_in_bit begun_of pick
no_starts_in_bit h =
    true≢false (sym (ap (λ (t : Transmitter). t.txd) (h.completes1x (with_phase (with_left (ready 0) (record { 0 = 10 })) 3 true) once refl refl)))

-- ---- a write while disabled, and a disable that forgets ----

unfoldable pub writes_always : Step
writes_always = writing (λ t byte. with_holding t true byte)

pub no_writes_always : Obeys writes_always → ⊥
unfolding writes_always
no_writes_always h = true≢false (ap (λ (t : Transmitter). t.full) (h.ignores fresh_transmitter 0 refl))

unfoldable pub disable_forgets : Step
disable_forgets = disabling (λ t. with_holding (disabled_of t) false 0)

pub no_disable_forgets : Obeys disable_forgets → ⊥
unfolding disable_forgets break_ended pick
no_disable_forgets h = true≢false (sym (ap (λ (t : Transmitter). t.full) (h.disables (ready 0))))

-- ---- a stop break that leaves what is asked ----

unfoldable pub keeps_asked : Step
keeps_asked = stopping (λ t. with_asked (break_ended t) t.asked)

pub no_keeps_asked : Obeys keeps_asked → ⊥
unfolding keeps_asked break_ended pick
no_keeps_asked h = true≢false (ap (λ (t : Transmitter). t.asked) (h.drops asking refl))

-- ---- a reset that hangs ----

unfoldable pub reset_hangs : Step
reset_hangs = resetting (λ t. with_phase (reset_of t) 2 true)

pub no_reset_hangs : Obeys reset_hangs → ⊥
unfolding reset_hangs break_ended pick
no_reset_hangs h = true≢false (sym (h.frees enabled refl))

-- ---- order 2: a change of mode ----

-- "drops what is being sent": one that keeps the shifter, and one that keeps the break
unfoldable pub change_keeps_frame : Step
change_keeps_frame = changing (λ t. pick (eqb t.phase 1) t (sending_dropped t))

pub no_change_keeps_frame : Obeys change_keeps_frame → ⊥
unfolding change_keeps_frame pick
no_change_keeps_frame h = true≢false (sym (h.changes (with_phase enabled 1 false)).shifter)

unfoldable pub change_keeps_break : Step
change_keeps_break = changing (λ t. pick (eqb t.phase 2) t (sending_dropped t))

pub no_change_keeps_break : Obeys change_keeps_break → ⊥
unfolding change_keeps_break pick
no_change_keeps_break h = true≢false (sym (h.changes (with_phase enabled 2 false)).high)

-- "holds TxD high until the next pulse", and no longer: one that ends a break as a stop does, and one that keeps the
-- bit that is owed
unfoldable pub change_owes : Step
change_owes = changing (λ t. pick (eqb t.phase 2) (high_after t) (sending_dropped t))

pub no_change_owes : Obeys change_owes → ⊥
unfolding change_owes pick
no_change_owes h = true≢false (sym (h.changes (with_phase enabled 2 false)).free)

unfoldable pub change_keeps_owed : Step
change_keeps_owed = changing (λ t. pick (eqb t.phase 3) t (sending_dropped t))

pub no_change_keeps_owed : Obeys change_keeps_owed → ⊥
unfolding change_keeps_owed pick
no_change_keeps_owed h = true≢false (sym (h.changes (with_phase enabled 3 true)).free)

-- "the holding place stays", and so does a break that is asked and is not being sent
unfoldable pub change_forgets : Step
change_forgets = changing (λ t. sending_dropped (with_holding t false 0))

pub no_change_forgets : Obeys change_forgets → ⊥
unfolding change_forgets
no_change_forgets h = true≢false (sym (h.changes (ready 0)).stays.full)

unfoldable pub change_unasks : Step
change_unasks = changing (λ t. sending_dropped (with_asked t false))

pub no_change_unasks : Obeys change_unasks → ⊥
unfolding change_unasks
no_change_unasks h = true≢false (sym (h.changes asking).stays.asked)

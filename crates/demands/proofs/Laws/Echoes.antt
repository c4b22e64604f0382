-- The echoed level that the events tell is the one that a side holds, event by event; so TxD, in each of the four modes, is what they tell, and in
-- normal mode the level of the transmitter run alone. Assumes nothing.
use Prim.Native.Nat.{ℕ, ◌/◌, ◌%◌}
use mathlib.Core.Path.{◌≡◌, refl, sym, ap, ◌∙◌}
use mathlib.Core.Bool.{Bool, true, false, not, ◌&&◌, ◌||◌, or-false, and-true, and-eq-true_iff}
use mathlib.Core.List.{List, [], ◌∷◌, ◌++◌, append_assoc, append-nil}
use lib.Dec.{eqb}
use borrow.Author.Tests.{eqb-true}
use Rattle.format.specs.Format.{mr2_not_modelled}
use Rattle.format.specs.Pick.{pick}
use Rattle.format.proofs.Laws.Pick.{pick_all}
use Rattle.transmitter.specs.Transmitter.{after_input}
use Rattle.transmitter.specs.Frames.{line}
use Rattle.inputs.specs.Inputs.{moved_of, pins_of_a, pins_of_b}
use Rattle.front_side.specs.declared.side.Side.{Side}
use Rattle.front_side.specs.Side.{fresh_side, mode_not_modelled, mode_written, csr_written, set_changed, buffer_written}
use Rattle.front_modes.specs.Modes.{txd_shown, txd_of, changes_mode, mode_set}
use Rattle.front_side_clocks.specs.Clocking.{echo_taken}
use Rattle.front_commands.specs.Commands.{side_commanded}
use Rattle.events.specs.Command.{command_forbidden}
use Rattle.front.specs.declared.front.Front.{Front}
use Rattle.front.specs.Front.{front_at}
use Rattle.events.specs.declared.events.Event.{Event}
use Rattle.events.specs.declared.events.Event.TheVariants.{ChipReset, Read, Write, Acknowledge, Pins, Tick}
use Rattle.chip_answers.specs.Answers.{lines_of}
use Rattle.chip_step.specs.Chip.{step_of}
use Rattle.demands.specs.Chip.{Channel, chip_of, register_of, and_then, over}
use Rattle.demands.specs.Chip.Channel.{A, B}
use Rattle.demands.specs.Told.{levels_then, programmed, mode_bits, in_normal, in_local}
use Rattle.demands.specs.Clocks.{front_then, front_after, side_of, clocks_of, pulsed_by}
use Rattle.demands.specs.Sending.{inputs_at, inputs_from, sender_after, raises, echo_then, echo_from, echo_after, shown_level, txd_after, keeps_sending, keeps_from, sent_from}
use Rattle.demands.proofs.Laws.Run.{run_front}
use Rattle.demands.proofs.Laws.Looks.{lines_after_lem}
use Rattle.demands.proofs.Laws.Fronts.{side_written, side_next, side_next_lem}
use Rattle.demands.proofs.Laws.Told.{told, levels_told, over_then, pick_with, programmed_of}
use Rattle.demands.proofs.Laws.Modes.{echo_told, changes_told, mode_stays}
use Rattle.demands.proofs.Laws.Frames.{line_append}
use Rattle.demands.proofs.Laws.Senders.{sender_told, sender_then, event_line}

-- ---- a write ----

-- raised, or as it was
raised : (b x : Bool) → pick b true x ≡ (x || (b || false))
unfolding pick
raised true true = refl
raised true false = refl
raised false true = refl
raised false false = refl

set_echo : (s : Side) (byte : ℕ) → (mode_set s byte).echo ≡ pick (changes_mode s byte) true s.echo
unfolding mode_set mode_written
set_echo s byte =
    pick_with (λ (x : Side). x.echo) (changes_mode s byte) refl (pick_all (λ (x : Side). x.echo ≡ s.echo) s.moved _ _ refl refl)

mode_echo : (s : Side) (byte : ℕ)
    → (pick (mode_not_modelled s byte) s (mode_set s byte)).echo
    ≡ (s.echo || ((s.moved && (not (mr2_not_modelled byte) && not (eqb (byte / 64 % 4) (mode_bits (programmed_of s))))) || false))
mode_echo s byte =
    pick_with (λ (x : Side). x.echo) (mode_not_modelled s byte) refl (set_echo s byte) ∙ changes_told s byte true s.echo ∙ raised _ s.echo

command_echo : (s : Side) (byte : ℕ)
    → (pick (command_forbidden byte) s (side_commanded s byte)).echo ≡ (s.echo || (not (command_forbidden byte) && raises s.enabled byte))
unfolding side_commanded pick
command_echo s byte = go (command_forbidden byte)
  where
    or-all : (n x a b c : Bool) → (n || x || a || b || c) ≡ (x || (n || (a || (b || c))))
    or-all true true a b c = refl
    or-all true false a b c = refl
    or-all false true a b c = refl
    or-all false false true b c = refl
    or-all false false false b c = refl

    go : (t : Bool) → (pick t s (side_commanded s byte)).echo ≡ (s.echo || (not t && raises s.enabled byte))
    go true = sym (or-false s.echo)
    go false = or-all (not s.enabled) s.echo (eqb (byte / 16 % 8) 2) (eqb (byte / 16 % 8) 3) (eqb (byte % 4) 2)

written_echo : (levels : ℕ) (ch : Channel) (es : List Event) (f : Front) (n byte : ℕ) → programmed ch es ≡ programmed_of (side_of ch f)
    → (side_written ch f n byte).echo ≡ echo_then levels ch es (side_of ch f).echo (Write n byte)
unfolding echo_then csr_written buffer_written set_changed pick
written_echo levels ch es f n byte p = mode (eqb n (register_of ch 0)) refl
  where
    Taken : Channel → ℕ → Type 0
    Taken ch n = (side_written ch f n byte).echo ≡ echo_then levels ch es (side_of ch f).echo (Write n byte)

    Same : Side → Type 0
    Same s = s.echo ≡ (side_of ch f).echo

    at-mode : (ch : Channel) → programmed ch es ≡ programmed_of (side_of ch f) → Taken ch (register_of ch 0)
    at-mode A p = mode_echo f.a byte ∙ rw p
    at-mode B p = mode_echo f.b byte ∙ rw p

    at-command : (ch : Channel) → programmed ch es ≡ programmed_of (side_of ch f) → Taken ch (register_of ch 2)
    at-command A p = command_echo f.a byte ∙ rw p
    at-command B p = command_echo f.b byte ∙ rw p

    command : (b : Bool) → eqb n (register_of ch 2) ≡ b → eqb n (register_of ch 0) ≡ false → Taken ch n
    command true e h = rw (eqb-true n (register_of ch 2) e) (at-command ch p)
    command false e h =
        rw (e, h, or-false (side_of ch f).echo)
        (pick_all Same (eqb n (register_of ch 1)) _ _ refl (pick_all Same (eqb n (register_of ch 3)) _ _ refl (pick_all Same (eqb n 4) _ _ refl refl)))

    mode : (b : Bool) → eqb n (register_of ch 0) ≡ b → Taken ch n
    mode true e = rw (eqb-true n (register_of ch 0) e) (at-mode ch p)
    mode false e = command (eqb n (register_of ch 2)) refl e

-- ---- any event ----

echo_next : (levels : ℕ) (ch : Channel) (es : List Event) (e : Event)
    → (side_of ch (front_after levels (and_then es e))).echo ≡ echo_then levels ch es (side_of ch (front_after levels es)).echo e
unfolding echo_then fresh_side echo_taken pulsed_by clocks_of pins_of_a pins_of_b moved_of
echo_next levels ch es e = rw (over_then front_then (front_at levels) es e, side_next_lem ch f e) (go ch e)
  where
    f : Front
    f = front_after levels es

    go : (ch : Channel) (e : Event) → (side_next ch f e).echo ≡ echo_then levels ch es (side_of ch f).echo e
    go ch ChipReset = refl
    go ch (Read n) = pick_all (λ (s : Side). s.echo ≡ (side_of ch f).echo) (eqb n (register_of ch 0)) _ _ refl refl
    go ch (Write n byte) = written_echo levels ch es f n byte (told ch levels es)
    go ch Acknowledge = refl
    go A (Pins x) = rw (told A levels es, echo_told f.a, over_then levels_then levels es (Pins x))
    go B (Pins x) = rw (told B levels es, echo_told f.b, over_then levels_then levels es (Pins x))
    go A Tick = rw (told A levels es, echo_told f.a, over_then levels_then levels es Tick, levels_told levels es)
    go B Tick = rw (told B levels es, echo_told f.b, over_then levels_then levels es Tick, levels_told levels es)

echo_from_lem : (levels : ℕ) (ch : Channel) (before es : List Event)
    → echo_from levels ch (side_of ch (front_after levels before)).echo before es ≡ (side_of ch (front_after levels (before ++ es))).echo
unfolding echo_from
echo_from_lem levels ch before [] = ap (λ (xs : List Event). (side_of ch (front_after levels xs)).echo) (sym (append-nil before))
echo_from_lem levels ch before (e ∷ es) =
    rw (← echo_next levels ch before e)
    (echo_from_lem levels ch (and_then before e) es
    ∙ ap (λ (xs : List Event). (side_of ch (front_after levels xs)).echo) (append_assoc before (e ∷ []) es))

pub echo_after_lem : (levels : ℕ) (ch : Channel) (es : List Event) → echo_after levels ch es ≡ (side_of ch (front_after levels es)).echo
unfolding over front_at fresh_side
echo_after_lem levels A es = echo_from_lem levels A [] es
echo_after_lem levels B es = echo_from_lem levels B [] es

-- ---- TxD, by the lines of an answer ----

pub txd_line : (levels : ℕ) (ch : Channel) (es : List Event) → txd_after (chip_of step_of) levels ch es ≡ txd_of (side_of ch (front_after levels es))
unfolding lines_of
txd_line levels A es = rw (lines_after_lem levels es, run_front levels es)
txd_line levels B es = rw (lines_after_lem levels es, run_front levels es)

pub txd_shown_lem : (levels : ℕ) (ch : Channel) (es : List Event) → txd_after (chip_of step_of) levels ch es ≡ shown_level levels ch es
unfolding txd_shown
txd_shown_lem levels ch es =
    txd_line levels ch es
    ∙ sym (rw (echo_after_lem levels ch es, sender_told levels ch es, told ch levels es, echo_told (side_of ch (front_after levels es))))

-- in local loopback, and in normal mode
pub txd_local : (levels : ℕ) (ch : Channel) (es : List Event) → in_local (programmed ch es) ≡ true → txd_after (chip_of step_of) levels ch es ≡ true
unfolding pick
txd_local levels ch es h = txd_shown_lem levels ch es ∙ rw h

pub txd_normal : (levels : ℕ) (ch : Channel) (es : List Event) → in_normal (programmed ch es) ≡ true
    → txd_after (chip_of step_of) levels ch es ≡ (sender_after levels ch es).txd
unfolding pick
txd_normal levels ch es h =
    let z : mode_bits (programmed ch es) ≡ 0 = eqb-true _ 0 h in
    txd_shown_lem levels ch es ∙ rw z

-- TxD at the pulses, by the transmitter: in normal mode, while no event changes it
pub line_from : (levels : ℕ) (ch : Channel) (before es : List Event) → in_normal (programmed ch before) ≡ true → keeps_from ch before es ≡ true
    → sent_from (chip_of step_of) levels ch before es ≡ line after_input (sender_after levels ch before) (inputs_from levels ch before es)
unfolding sent_from inputs_from line keeps_from
line_from levels ch before [] mode h = refl
line_from levels ch before (e ∷ es) mode h =
    let both = (and-eq-true_iff (keeps_sending ch before e) _).0 h in
    let next : in_normal (programmed ch (and_then before e)) ≡ true = rw (mode_stays ch before e both.0) mode in
    let z : mode_bits (programmed ch before) ≡ 0 = eqb-true _ 0 mode in
    rw (
      line_append (sender_after levels ch before) (inputs_at levels ch before e) _,
      event_line levels ch before e (sender_after levels ch before),
      z,
      and-true,
      ← sender_then levels ch before e,
      line_from levels ch (and_then before e) es next both.1,
      txd_normal levels ch (and_then before e) next,
    )

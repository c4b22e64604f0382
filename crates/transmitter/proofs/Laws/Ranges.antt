-- Every input keeps every field of a transmitter in its range, on every transmitter in range, reached or not: each rule's answers are
-- gone through, `pick` by `pick`; only one more pulse of a frame has to know that fewer than its length have come. Assumes nothing.
use Prim.Native.Nat.{ℕ, ◌≤◌}
use mathlib.Core.Path.{◌≡◌, refl}
use mathlib.Core.Bool.{Bool, true, false, and-eq-true_iff}
use mathlib.Core.List.{List, [], ◌∷◌}
use native.Mathlib.Omega.{arith}
use lib.Dec.{eqb, ltb, leb}
use borrow.Author.Tests.{ltb-true, leb-true, le-leb}
use Rattle.format.specs.Pick.{pick}
use Rattle.format.specs.Format.{format_of, stop_code_of}
use Rattle.format.proofs.Laws.Pick.{pick_all}
use Rattle.frame.specs.Levels.{frame_length_of}
use Rattle.frame.proofs.Laws.Levels.{length_most}
use Rattle.transmitter_state.specs.declared.sending.Standing.{Standing}
use Rattle.transmitter_state.specs.declared.state.Transmitter.{Transmitter}
use Rattle.transmitter_state.specs.State.{fresh_transmitter}
use Rattle.transmitter_state.specs.Sending.{can_start, taken_of, idle_of, begun_of, sent_on_of, held_high, pulsed_of}
use Rattle.transmitter.specs.declared.transmitter.Input.{Input}
use Rattle.transmitter.specs.declared.transmitter.Input.TheVariants.{Nothing, Pulse, Write, Enable, Disable, StartBreak, StopBreak, Reset, ChipReset, ModeChange}
use Rattle.transmitter.specs.Commands.{written_of, break_ended, dropped_of, break_asked}
use Rattle.transmitter.specs.Transmitter.{after_input}
use Rattle.transmitter.specs.Frames.{after}
use Rattle.transmitter.specs.Sound.{transmitter_in_range, KeepsRanges}

-- the ranges as inequalities
record Within (t : Transmitter) : Type 0 where
  phase : t.phase ≤ 3
  length : t.shifter.length.0 ≤ 192
  sent : t.shifter.sent.0 ≤ 192
  left : t.left.0 ≤ 15

-- ---- a pulse ----

frame_most : (sixteen : Bool) (mr1 c : ℕ) → (frame_length_of sixteen (format_of mr1) c).0 ≤ 192
unfolding pick
frame_most true mr1 c = length_most true mr1 c
frame_most false mr1 c =
    let most : (frame_length_of false (format_of mr1) c).0 ≤ 12 = length_most false mr1 c in
    omega arith

begun_within : (t : Transmitter) (s : Standing) → Within t → Within (begun_of t s)
unfolding begun_of taken_of
begun_within t s h =
    pick_all Within (can_start t s) _ _
    (record { phase = omega arith; length = frame_most s.sixteen s.mr1 (stop_code_of s.mr2); sent = omega arith; left = h.left })
    (pick_all Within t.asked _ _
    (record { phase = omega arith; length = h.length; sent = h.sent; left = h.left })
    (record { phase = omega arith; length = h.length; sent = h.sent; left = h.left }))

sent_on_within : (t : Transmitter) (s : Standing) → Within t → Within (sent_on_of t s)
unfolding sent_on_of pick
sent_on_within t s h = go (ltb t.shifter.sent.0 t.shifter.length.0) refl
  where
    go : (more : Bool) → ltb t.shifter.sent.0 t.shifter.length.0 ≡ more → Within (sent_on_of t s)
    go true e =
        let below = ltb-true t.shifter.sent.0 t.shifter.length.0 e in
        let most = h.length in
        rw e (record { phase = h.phase; length = h.length; sent = omega arith; left = h.left })
    go false e = rw e (begun_within t s h)

held_within : (t : Transmitter) (s : Standing) → Within t → Within (held_high t s)
unfolding held_high
held_within t s h =
    let idle : Within (idle_of t) = record { phase = omega arith; length = h.length; sent = h.sent; left = h.left } in
    let most = h.left in
    pick_all Within s.sixteen _ _
    (pick_all Within (eqb t.left.0 0) _ _ idle (record { phase = h.phase; length = h.length; sent = h.sent; left = omega arith }))
    idle

pulsed_within : (t : Transmitter) (s : Standing) → Within t → Within (pulsed_of t s)
unfolding pulsed_of
pulsed_within t s h =
    pick_all Within (eqb t.phase 1) _ _ (sent_on_within t s h)
    (pick_all Within (eqb t.phase 2) _ _ h
    (pick_all Within (eqb t.phase 3) _ _ (held_within t s h)
    (begun_within t s h)))

-- ---- what the program does ----

written_within : (t : Transmitter) (byte : ℕ) → Within t → Within (written_of t byte)
unfolding written_of
written_within t byte h = pick_all Within t.enabled _ _ (record { phase = h.phase; length = h.length; sent = h.sent; left = h.left }) h

ended_within : (t : Transmitter) → Within t → Within (break_ended t)
unfolding break_ended
ended_within t h =
    pick_all Within (eqb t.phase 2) _ _
    (record { phase = omega arith; length = h.length; sent = h.sent; left = omega arith })
    (record { phase = h.phase; length = h.length; sent = h.sent; left = h.left })

dropped_within : (t : Transmitter) → Within t → Within (dropped_of t)
unfolding dropped_of
dropped_within t h =
    record {
      phase = pick_all (λ (n : ℕ). n ≤ 3) (eqb t.phase 3) _ _ h.phase (omega arith);
      length = omega arith;
      sent = omega arith;
      left = h.left;
    }

asked_within : (t : Transmitter) → Within t → Within (break_asked t)
unfolding break_asked
asked_within t h = pick_all Within (eqb t.phase 2) _ _ h (record { phase = h.phase; length = h.length; sent = h.sent; left = h.left })

input_within : (t : Transmitter) (x : Input) → Within t → Within (after_input t x)
unfolding after_input
input_within t Nothing h = h
input_within t (Pulse s) h = pulsed_within t s h
input_within t (Write byte) h = written_within t byte h
input_within t Enable h = record { phase = h.phase; length = h.length; sent = h.sent; left = h.left }
input_within t Disable h =
    let ended = ended_within t h in
    record { phase = ended.phase; length = ended.length; sent = ended.sent; left = ended.left }
input_within t StartBreak h = asked_within t h
input_within t StopBreak h = ended_within t h
input_within t Reset h = dropped_within (break_ended t) (ended_within t h)
input_within t ChipReset h = record { phase = omega arith; length = omega arith; sent = omega arith; left = omega arith }
input_within t ModeChange h = record { phase = omega arith; length = omega arith; sent = omega arith; left = h.left }

-- ---- the tests of specs/Sound ----

told : (t : Transmitter) → transmitter_in_range t ≡ true → Within t
told t e =
    let a = (and-eq-true_iff (leb t.phase 3) _).0 e in
    let b = (and-eq-true_iff (leb t.shifter.length.0 192) _).0 a.1 in
    let c = (and-eq-true_iff (leb t.shifter.sent.0 192) _).0 b.1 in
    record {
      phase = leb-true t.phase 3 a.0;
      length = leb-true t.shifter.length.0 192 b.0;
      sent = leb-true t.shifter.sent.0 192 c.0;
      left = leb-true t.left.0 15 c.1;
    }

shown : (t : Transmitter) → Within t → transmitter_in_range t ≡ true
shown t h = rw (le-leb _ _ h.phase, le-leb _ _ h.length, le-leb _ _ h.sent, le-leb _ _ h.left)

pub ranges_kept : KeepsRanges after_input
ranges_kept t x e = shown (after_input t x) (input_within t x (told t e))

-- ---- from a chip reset ----

kept_after : (t : Transmitter) (xs : List Input) → transmitter_in_range t ≡ true → transmitter_in_range (after after_input t xs) ≡ true
unfolding after
kept_after t [] e = e
kept_after t (x ∷ xs) e = kept_after (after_input t x) xs (ranges_kept t x e)

pub reached_in_range : (t : Transmitter) (xs : List Input) → transmitter_in_range (after after_input (after_input t ChipReset) xs) ≡ true
unfolding after_input
reached_in_range t xs = kept_after fresh_transmitter xs refl

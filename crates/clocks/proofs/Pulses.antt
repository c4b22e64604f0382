-- The dividers and a channel's clocks keep their promises. A divider's phase after m ticks is m % n, a side's after some events is its
-- count of ticks % its period, and the 1X clock's is the count of 16X pulses % 16: each by one step, and by induction. Assumes nothing.
use Rattle.std.proofs.Common.{◌≡◌, ℕ, zero, suc, ◌+◌, ◌*◌, ◌/◌, ◌%◌, ◌<◌, Bool, true, false, ◌&&◌, eqb, List, [], ◌∷◌, sym, refl, ap, ◌∙◌, add-zero, div-add-mod', zero-add, mul-div_cancel, one-add, arith, le-ltb, lt-ltb, ne_eqb, eqb-true}
use mathlib.Core.Bool.{false≢true}
use native.Mathlib.Nat.{mul-mod_left, zero-div, zero-mod}
use Rattle.format.specs.declared.counts.Pulses.{Pulses}
use Rattle.format.specs.declared.counts.Ticks.{Ticks}
use Rattle.format.specs.Digits.{bit}
use Rattle.format.specs.Pick.{pick}
use Rattle.format.proofs.Laws.Pick.{pick_yes}
use Rattle.dividers.specs.declared.divider.Divided.{Divided}
use Rattle.dividers.specs.Divider.{divided_of}
use Rattle.dividers.specs.Rates.{period_of}
use Rattle.dividers.proofs.Laws.Divider.{ticks_of, pulses_of, divided_at, sixteenth_at}
use Rattle.dividers.proofs.Laws.Rates.{period_between}
use Rattle.dividers.proofs.Laws.Runs.{runs_more}
use Rattle.clocks.specs.declared.channel.ClockEvent.{ClockEvent}
use Rattle.clocks.specs.declared.channel.Clocked.{Clocked}
use Rattle.clocks.specs.declared.channel.Phases.{Phases}
use Rattle.clocks.specs.Channel.{restarted, is_sixteen, ticked_of, side_of, transmitter1x, clocked_of}
use Rattle.clocks.specs.Pulses.{phase_after, pulse_at, pulses_by, Divides, Side, code_of, pulsed, edge_of, after_events, ticks_in, sent_in, next, Clocks}
use Rattle.clocks.specs.Pulses.Side.{receives, transmits}

-- ---- a divider ----

phase_at : (n : Ticks) (m : ℕ) → 0 < n.0 → phase_after divided_of n m ≡ ticks_of (m % n.0)
unfolding phase_after
phase_at n zero z = rw (zero-mod n.0)
phase_at n (suc m) z = ap (λ (q : Ticks). (divided_of q n).phase) (phase_at n m z) ∙ ap (λ (d : Divided Ticks). d.phase) (divided_at n m z)

pulse_at_lem : (n : Ticks) (m : ℕ) → 0 < n.0 → 0 < m → pulse_at divided_of n m ≡ eqb (m % n.0) 0
pulse_at_lem n zero z y = absurd (omega arith)
pulse_at_lem n (suc m) z y = ap (λ (q : Ticks). (divided_of q n).pulse) (phase_at n m z) ∙ ap (λ (d : Divided Ticks). d.pulse) (divided_at n m z)

pulses_are : (n : Ticks) (m : ℕ) → 0 < n.0 → pulses_by divided_of n m ≡ m / n.0
unfolding pulses_by
pulses_are n zero z = rw (zero-div n.0)
pulses_are n (suc m) z = rw (pulses_are n m z, pulse_at_lem n (suc m) z (omega arith), runs_more n.0 m z)

no_other_lem : (n : Ticks) (m : ℕ) → 0 < n.0 → pulse_at divided_of n m ≡ true → m ≡ pulses_by divided_of n m * n.0
no_other_lem n zero z e = absurd (false≢true e)
no_other_lem n (suc m) z e =
    let whole : suc m / n.0 * n.0 + suc m % n.0 ≡ suc m = div-add-mod' (suc m) n.0 in
    let none : suc m % n.0 ≡ 0 = eqb-true (suc m % n.0) 0 (sym (pulse_at_lem n (suc m) z (omega arith)) ∙ e) in
    rw (pulses_are n (suc m) z) (omega arith)

pub divides : Divides divided_of
divides =
    record {
      comes = λ n k z. rw (pulse_at_lem n (suc k * n.0) z (omega arith), mul-mod_left (suc k) n.0);
      kth = λ n k z. pulses_are n (k * n.0) z ∙ mul-div_cancel k z;
      no_other = no_other_lem;
    }

-- ---- a side of a channel ----

abbrev pub phase_of : Side → Phases → Ticks
phase_of receives p = p.receiver
phase_of transmits p = p.transmitter

abbrev pub side_in : Side → Clocked → Divided Ticks
side_in side c = record { phase = phase_of side c.phases; pulse = pulsed side c }

-- a channel's clocks are its two sides
clocked_side : (side : Side) (p : Phases) (second : Bool) (csr : ℕ) (b : ClockEvent)
    → side_in side (clocked_of p second csr b) ≡ side_of (phase_of side p) second (code_of side csr) b (edge_of side b)
unfolding clocked_of
clocked_side receives p second csr b = refl
clocked_side transmits p second csr b = refl

timed : (phase : Ticks) (second : Bool) (code : ℕ) (b : ClockEvent) (edge : Bool) → code ≡ 13 → (side_of phase second code b edge).pulse ≡ b.toggled
unfolding side_of pick
timed phase second code b edge e = rw e

pinned : (phase : Ticks) (second : Bool) (code : ℕ) (b : ClockEvent) (edge : Bool) → 13 < code → (side_of phase second code b edge).pulse ≡ edge
unfolding side_of pick
pinned phase second code b edge h = rw (le-ltb code 13 (omega arith), ne_eqb code 13 (omega arith))

-- the phase after k ticks takes one more event
ticked_at : (n : Ticks) (k : ℕ) (tick : Bool) → 0 < n.0
    → ticked_of (ticks_of (k % n.0)) n tick ≡ record { phase = ticks_of ((bit tick + k) % n.0); pulse = tick && eqb (suc k % n.0) 0 }
unfolding ticked_of pick
ticked_at n k true z = rw (one-add k) (divided_at n k z)
ticked_at n k false z = rw (zero-add k)

side_at : (phase : Ticks) (second : Bool) (code k : ℕ) (b : ClockEvent) (edge : Bool) → code < 13 → phase ≡ ticks_of (k % (period_of second code).0)
    → side_of phase second code b edge
    ≡ record { phase = ticks_of ((bit b.tick + k) % (period_of second code).0); pulse = b.tick && eqb (suc k % (period_of second code).0) 0 }
unfolding side_of
side_at phase second code k b edge h e =
    let z = (period_between second code h).0 in
    pick_yes _ _ _ (lt-ltb code 13 h) ∙ rw e (ticked_at (period_of second code) k b.tick (omega arith))

after_events_lem : (side : Side) (second : Bool) (csr : ℕ) (bs : List ClockEvent) (p : Phases) (k : ℕ) → code_of side csr < 13
    → phase_of side p ≡ ticks_of (k % (period_of second (code_of side csr)).0)
    → phase_of side (after_events clocked_of p second csr bs) ≡ ticks_of ((k + ticks_in bs) % (period_of second (code_of side csr)).0)
unfolding after_events ticks_in
after_events_lem side second csr [] p k h e = rw (add-zero k) e
after_events_lem side second csr (b ∷ bs) p k h e =
    let moved = clocked_side side p second csr b ∙ side_at (phase_of side p) second (code_of side csr) k b (edge_of side b) h e in
    let sum : k + (bit b.tick + ticks_in bs) ≡ bit b.tick + k + ticks_in bs = omega arith in
    rw sum (after_events_lem side second csr bs (clocked_of p second csr b).phases (bit b.tick + k) h (ap (λ (d : Divided Ticks). d.phase) moved))

since_restart : (side : Side) (second : Bool) (csr : ℕ) (bs : List ClockEvent) → code_of side csr < 13
    → phase_of side (after_events clocked_of restarted second csr bs) ≡ ticks_of (ticks_in bs % (period_of second (code_of side csr)).0)
since_restart side second csr bs h = rw (zero-add (ticks_in bs)) at (after_events_lem side second csr bs restarted 0 h (rw zero-mod (zero-phase side)))
  where
    zero-phase : (s : Side) → phase_of s restarted ≡ ticks_of 0
    zero-phase receives = refl
    zero-phase transmits = refl

-- ---- the 1X transmitter clock ----

abbrev pub bit_in : Clocked → Divided Pulses
bit_in c = record { phase = c.phases.sixteenths; pulse = c.one }

clocked_bit : (p : Phases) (second : Bool) (csr : ℕ) (b : ClockEvent)
    → bit_in (clocked_of p second csr b) ≡ transmitter1x p.sixteenths (csr % 16) (clocked_of p second csr b).transmitter
unfolding clocked_of
clocked_bit p second csr b = refl

whole_bit : (phase : Pulses) (code : ℕ) (pulse : Bool) → is_sixteen code ≡ false → (transmitter1x phase code pulse).pulse ≡ pulse
unfolding transmitter1x pick
whole_bit phase code true h = rw h
whole_bit phase code false h = refl

bit_at : (phase : Pulses) (code k : ℕ) (pulse : Bool) → is_sixteen code ≡ true → phase ≡ pulses_of (k % 16)
    → transmitter1x phase code pulse ≡ record { phase = pulses_of ((bit pulse + k) % 16); pulse = pulse && eqb (suc k % 16) 0 }
unfolding transmitter1x pick
bit_at phase code k true h e = rw (h, e, one-add k) (sixteenth_at k)
bit_at phase code k false h e = rw (e, zero-add k)

after_sent : (second : Bool) (csr : ℕ) (bs : List ClockEvent) (p : Phases) (k : ℕ) → is_sixteen (csr % 16) ≡ true → p.sixteenths ≡ pulses_of (k % 16)
    → (after_events clocked_of p second csr bs).sixteenths ≡ pulses_of ((k + sent_in clocked_of p second csr bs) % 16)
unfolding after_events sent_in
after_sent second csr [] p k h e = rw (add-zero k) e
after_sent second csr (b ∷ bs) p k h e =
    let sent : Bool = (clocked_of p second csr b).transmitter in
    let rest : ℕ = sent_in clocked_of (clocked_of p second csr b).phases second csr bs in
    let moved = clocked_bit p second csr b ∙ bit_at p.sixteenths (csr % 16) k sent h e in
    let sum : k + (bit sent + rest) ≡ bit sent + k + rest = omega arith in
    rw sum (after_sent second csr bs (clocked_of p second csr b).phases (bit sent + k) h (ap (λ (d : Divided Pulses). d.phase) moved))

-- ---- both ----

pulse_in : (side : Side) (p : Phases) (second : Bool) (csr : ℕ) (b : ClockEvent)
    → pulsed side (clocked_of p second csr b) ≡ (side_of (phase_of side p) second (code_of side csr) b (edge_of side b)).pulse
pulse_in side p second csr b = ap (λ (d : Divided Ticks). d.pulse) (clocked_side side p second csr b)

one_in : (p : Phases) (second : Bool) (csr : ℕ) (b : ClockEvent)
    → (clocked_of p second csr b).one ≡ (transmitter1x p.sixteenths (csr % 16) (clocked_of p second csr b).transmitter).pulse
one_in p second csr b = ap (λ (d : Divided Pulses). d.pulse) (clocked_bit p second csr b)

pub clocks : Clocks clocked_of
clocks =
    record {
      fixed =
          λ side second csr bs b h.
          pulse_in side (after_events clocked_of restarted second csr bs) second csr b
          ∙ ap (λ (d : Divided Ticks). d.pulse) (side_at _ second (code_of side csr) (ticks_in bs) b (edge_of side b) h (since_restart side second csr bs h));
      timer = λ side p second csr b e. pulse_in side p second csr b ∙ timed (phase_of side p) second (code_of side csr) b (edge_of side b) e;
      pin = λ side p second csr b h. pulse_in side p second csr b ∙ pinned (phase_of side p) second (code_of side csr) b (edge_of side b) h;
      sixteenth =
          λ second csr bs b h.
          let sent : ℕ = sent_in clocked_of restarted second csr bs in
          let since = rw (zero-add sent) at (after_sent second csr bs restarted 0 h refl) in
          one_in (after_events clocked_of restarted second csr bs) second csr b
          ∙ ap (λ (d : Divided Pulses). d.pulse) (bit_at _ (csr % 16) sent (next clocked_of second csr bs b).transmitter h since);
      each = λ p second csr b h. one_in p second csr b ∙ whole_bit p.sixteenths (csr % 16) (clocked_of p second csr b).transmitter h;
    }

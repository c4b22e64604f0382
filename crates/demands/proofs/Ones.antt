-- The 1X transmitter clocks are as the statement has them: on every code but 15 the phase of a channel's sixteenths stands at the number of the
-- transmitter's pulses since the restart % 16, whatever events came between; a code is set by a write of CSR, which restarts it. Assumes nothing.
use Prim.Native.Nat.{ℕ, suc, ◌+◌, ◌%◌}
use mathlib.Core.Path.{◌≡◌, refl, sym, ◌∙◌, ap}
use mathlib.Core.Bool.{Bool, true, false, ◌&&◌}
use mathlib.Core.List.{List, [], ◌∷◌, ◌++◌, append-nil, append_assoc}
use native.Mathlib.Omega.{arith}
use native.Mathlib.Nat.{add-zero}
use lib.Dec.{eqb}
use borrow.Author.Tests.{ne_eqb}
use Rattle.format.specs.declared.counts.Pulses.{Pulses}
use Rattle.format.specs.Digits.{bit}
use Rattle.format.specs.Pick.{pick}
use Rattle.format.proofs.Laws.Pick.{pick_all}
use Rattle.dividers.specs.declared.divider.Divided.{Divided}
use Rattle.dividers.proofs.Laws.Divider.{pulses_of, sixteenth_at}
use Rattle.clocks.specs.declared.channel.ClockEvent.{ClockEvent}
use Rattle.clocks.specs.declared.channel.Phases.{Phases}
use Rattle.clocks.specs.Channel.{restarted, is_sixteen, transmitter1x, clocked_of}
use Rattle.clocks.specs.Pulses.{code_of}
use Rattle.clocks.specs.Pulses.Side.{transmits}
use Rattle.clocks.proofs.Pulses.{clocks}
use Rattle.clocks.proofs.Pulses.{bit_in}
use Rattle.front_side.specs.declared.side.Side as Sides
use Rattle.front_side.specs.Side.{fresh_side}
use Rattle.front.specs.declared.front.Front.{Front}
use Rattle.front.specs.Front.{front_at}
use Rattle.events.specs.declared.events.Event.{Event}
use Rattle.events.specs.declared.events.Event.TheVariants.{ChipReset, Read, Write, Acknowledge, Pins, Tick}
use Rattle.demands.specs.Chip.{Channel, register_of, and_then, over}
use Rattle.demands.specs.Chip.Channel.{A, B}
use Rattle.demands.specs.Told.{last_written}
use Rattle.demands.specs.Clocks.{front_then, front_after, side_of, clocks_of, pulsed_by, pulsed_after, one_after}
use Rattle.demands.specs.Pulses as Pulsing
use Rattle.demands.specs.Pulses.{Restarts, restarts_then, code_after, sent_since, sent_after, Ones}
use Rattle.demands.proofs.Laws.Fronts.{side_next, side_next_lem}
use Rattle.demands.proofs.Laws.Told.{over_then, acr_next}
use Rattle.demands.proofs.Laws.Restarts.{SameClocks, acr_restarts, Counts, counts_written}
use Rattle.demands.proofs.Pulses.{code_told}

-- ---- one event of the clocks ----

bit_at : (phase : Pulses) (code k : ℕ) (pulse : Bool) → is_sixteen code ≡ true → phase ≡ pulses_of (k % 16)
    → transmitter1x phase code pulse ≡ record { phase = pulses_of ((k + bit pulse) % 16); pulse = pulse && eqb (suc k % 16) 0 }
unfolding transmitter1x pick
bit_at phase code k true h e =
    let next : k + 1 ≡ suc k = omega arith in
    rw (h, e, next) (sixteenth_at k)
bit_at phase code k false h e = rw (e, add-zero k)

clocked_bit : (p : Phases) (second : Bool) (csr k : ℕ) (b : ClockEvent) → is_sixteen (csr % 16) ≡ true → p.sixteenths ≡ pulses_of (k % 16)
    → bit_in (clocked_of p second csr b)
    ≡ record {
      phase = pulses_of ((k + bit (clocked_of p second csr b).transmitter) % 16);
      pulse = (clocked_of p second csr b).transmitter && eqb (suc k % 16) 0;
    }
unfolding clocked_of
clocked_bit p second csr k b h e = bit_at p.sixteenths (csr % 16) k _ h e

-- ---- where the phase stands, so many pulses after a restart ----

abbrev Stands : ℕ → Sides.Side → Type 0
Stands sent s = is_sixteen (s.csr % 16) ≡ true → s.phases.sixteenths ≡ pulses_of (sent % 16)

stands_restarted : (s : Sides.Side) → s.phases ≡ restarted → Stands 0 s
stands_restarted s e h = rw e

stands_same : (sent : ℕ) (r s : Sides.Side) → SameClocks r s → Stands sent r → Stands sent s
stands_same sent r s same p h = rw same.1 (p (rw same.0 at h))

stands_clocked : (sent : ℕ) (s : Sides.Side) (second : Bool) (b : ClockEvent) → Stands sent s → is_sixteen (s.csr % 16) ≡ true
    → (clocked_of s.phases second s.csr b).phases.sixteenths
    ≡ pulses_of ((sent + bit (clocked_of s.phases second s.csr b).transmitter) % 16)
stands_clocked sent s second b p h = ap (λ (d : Divided Pulses). d.phase) (clocked_bit s.phases second s.csr sent b h (p h))

-- ---- any event ----

-- a front whose phase stands as the pulses tell
record Told (ch : Channel) (x : Restarts) (f : Front) : Type 0 where
  acr : f.acr ≡ x.acr
  phase : Stands x.ticks (side_of ch f)

stands : Counts (λ acr n s. Stands n s)
stands = record { restarts = λ acr s e. stands_restarted s e; same = λ acr n r s. stands_same n r s; set = λ acr byte n s e p. p }

-- the count after an event
abbrev sent_then : Channel → Front → Restarts → Event → Restarts
sent_then ch f x e =
    pick (Pulsing.clocks e) (record { acr = x.acr; ticks = x.ticks + bit (pulsed_by transmits ch f e) }) (restarts_then ch x e)

phase_next : (ch : Channel) (x : Restarts) (f : Front) (e : Event) → Told ch x f → Stands (sent_then ch f x e).ticks (side_next ch f e)
unfolding fresh_side clocks_of pulsed_by pick
phase_next ch x f ChipReset p = stands_restarted fresh_side refl
phase_next ch x f (Read n) p =
    stands_same x.ticks (side_of ch f) (side_next ch f (Read n))
    (pick_all (SameClocks (side_of ch f)) (eqb n (register_of ch 0)) _ _ (refl, refl) (refl, refl)) p.phase
phase_next ch x f (Write n byte) p = counts_written (λ acr n s. Stands n s) stands ch x f n byte p.acr p.phase
phase_next ch x f Acknowledge p = p.phase
phase_next ch x f (Pins levels) p = stands_clocked x.ticks (side_of ch f) _ _ p.phase
phase_next ch x f Tick p = stands_clocked x.ticks (side_of ch f) _ _ p.phase

acr_sent : (ch : Channel) (x : Restarts) (f : Front) (e : Event) → (sent_then ch f x e).acr ≡ last_written 4 0 x.acr e
unfolding pick
acr_sent ch x f ChipReset = refl
acr_sent ch x f (Read n) = refl
acr_sent ch x f (Write n byte) = acr_restarts ch x (Write n byte)
acr_sent ch x f Acknowledge = refl
acr_sent ch x f (Pins levels) = refl
acr_sent ch x f Tick = refl

told_next : (ch : Channel) (x : Restarts) (f : Front) (e : Event) → Told ch x f → Told ch (sent_then ch f x e) (front_then f e)
told_next ch x f e p =
    record {
      acr = acr_next f e ∙ ap (λ (acr : ℕ). last_written 4 0 acr e) p.acr ∙ sym (acr_sent ch x f e);
      phase = rw (side_next_lem ch f e) (phase_next ch x f e p);
    }

-- ---- any events ----

sent_from : (ch : Channel) (levels : ℕ) (x : Restarts) (before es : List Event) → Told ch x (front_after levels before)
    → Stands (sent_since pulsed_after ch levels x before es) (side_of ch (front_after levels (before ++ es)))
unfolding sent_since
sent_from ch levels x before [] p = rw (append-nil before) p.phase
sent_from ch levels x before (e ∷ es) p =
    rw (append_assoc before (e ∷ []) es) at
    (sent_from ch levels (sent_then ch (front_after levels before) x e) (and_then before e) es
    (rw (over_then front_then (front_at levels) before e) (told_next ch x (front_after levels before) e p)))

sent_told : (ch : Channel) (levels : ℕ) (es : List Event) → Stands (sent_after pulsed_after ch levels es) (side_of ch (front_after levels es))
unfolding front_at fresh_side over
sent_told ch levels es =
    sent_from ch levels _ [] es (record { acr = refl; phase = stands_restarted (side_of ch (front_at levels)) (fresh ch) })
  where
    fresh : (ch : Channel) → (side_of ch (front_at levels)).phases ≡ restarted
    fresh A = refl
    fresh B = refl

-- ---- the 1X clock ----

sixteenth : (ch : Channel) (levels : ℕ) (es : List Event) (e : Event) → (code_after transmits ch es ≡ 15 → ⊥)
    → one_after ch levels es e ≡ (pulsed_after transmits ch levels es e && eqb (suc (sent_after pulsed_after ch levels es) % 16) 0)
unfolding one_after pulsed_by clocks_of
sixteenth ch levels es e other = go e
  where
    f : Front
    f = front_after levels es

    code : is_sixteen ((side_of ch f).csr % 16) ≡ true
    code = rw (ne_eqb ((side_of ch f).csr % 16) 15 (λ h. other (code_told transmits ch levels es ∙ h)))

    go : (e : Event)
        → one_after ch levels es e ≡ (pulsed_after transmits ch levels es e && eqb (suc (sent_after pulsed_after ch levels es) % 16) 0)
    go ChipReset = refl
    go (Read n) = refl
    go (Write n byte) = refl
    go Acknowledge = refl
    go (Pins x) =
        ap (λ (d : Divided Pulses). d.pulse) (clocked_bit (side_of ch f).phases _ (side_of ch f).csr _ _ code (sent_told ch levels es code))
    go Tick =
        ap (λ (d : Divided Pulses). d.pulse) (clocked_bit (side_of ch f).phases _ (side_of ch f).csr _ _ code (sent_told ch levels es code))

each : (ch : Channel) (levels : ℕ) (es : List Event) (e : Event) → code_after transmits ch es ≡ 15
    → one_after ch levels es e ≡ pulsed_after transmits ch levels es e
unfolding one_after pulsed_by clocks_of
each ch levels es e c = go e
  where
    f : Front
    f = front_after levels es

    code : is_sixteen (code_of transmits (side_of ch f).csr) ≡ false
    code = ap is_sixteen (sym (code_told transmits ch levels es) ∙ c)

    go : (e : Event) → one_after ch levels es e ≡ pulsed_after transmits ch levels es e
    go ChipReset = refl
    go (Read n) = refl
    go (Write n byte) = refl
    go Acknowledge = refl
    go (Pins x) = clocks.each (side_of ch f).phases _ (side_of ch f).csr _ code
    go Tick = clocks.each (side_of ch f).phases _ (side_of ch f).csr _ code

pub ones : Ones pulsed_after one_after
ones = record { sixteenth = sixteenth; each = each }

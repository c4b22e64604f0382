-- Every event keeps a channel's phases in their ranges, from any that are, reached or not: a divider's next phase is below its period, and no
-- other rule moves one. Assumes nothing.
use Rattle.std.proofs.Common.{◌≡◌, ℕ, ◌≤◌, Bool, true, eqb, ltb, leb, refl, ltb-true, le-leb, leb-true}
use mathlib.Core.Bool.{and-eq-true_iff}
use Rattle.format.specs.declared.counts.Pulses.{Pulses}
use Rattle.format.specs.declared.counts.Ticks.{Ticks}
use Rattle.format.proofs.Laws.Pick.{pick_all, pick_known}
use Rattle.dividers.specs.declared.divider.Divided.{Divided}
use Rattle.dividers.specs.Rates.{period_of}
use Rattle.dividers.proofs.Laws.Ranges.{divided_most, sixteenth_most}
use Rattle.dividers.proofs.Laws.Rates.{period_between}
use Rattle.clocks.specs.declared.channel.ClockEvent.{ClockEvent}
use Rattle.clocks.specs.declared.channel.Phases.{Phases}
use Rattle.clocks.specs.Channel.{restarted, restarted_on_change, is_sixteen, ticked_of, side_of, transmitter1x, clocked_of}
use Rattle.clocks.specs.Sound.{phases_in_range, KeepsPhases}

-- ---- a channel's phases ----

side_most : (phase : Ticks) (second : Bool) (code : ℕ) (b : ClockEvent) (edge : Bool) → phase.0 ≤ 4607 → (side_of phase second code b edge).phase.0 ≤ 4607
unfolding side_of ticked_of
side_most phase second code b edge h =
    pick_known Most (ltb code 13) _ _
    (λ (e : ltb code 13 ≡ true).
    let most = (period_between second code (ltb-true code 13 e)).1 in
    pick_all Most b.tick _ _ (divided_most phase (period_of second code) 4607 most) h)
    (pick_all Most (eqb code 13) _ _ h h)
  where
    Most : Divided Ticks → Type 0
    Most d = d.phase.0 ≤ 4607

bit_most : (phase : Pulses) (code : ℕ) (pulse : Bool) → phase.0 ≤ 15 → (transmitter1x phase code pulse).phase.0 ≤ 15
unfolding transmitter1x
bit_most phase code pulse h =
    pick_all Most pulse _ _ (pick_all Most (is_sixteen code) _ _ (sixteenth_most phase) h) h
  where
    Most : Divided Pulses → Type 0
    Most d = d.phase.0 ≤ 15

-- the ranges as inequalities
record Within (p : Phases) : Type 0 where
  receiver : p.receiver.0 ≤ 4607
  transmitter : p.transmitter.0 ≤ 4607
  sixteenths : p.sixteenths.0 ≤ 15

phases_told : (p : Phases) → phases_in_range p ≡ true → Within p
phases_told p e =
    let a = (and-eq-true_iff (leb p.receiver.0 4607) _).0 e in
    let b = (and-eq-true_iff (leb p.transmitter.0 4607) _).0 a.1 in
    record { receiver = leb-true _ _ a.0; transmitter = leb-true _ _ b.0; sixteenths = leb-true _ _ b.1 }

phases_shown : (p : Phases) → Within p → phases_in_range p ≡ true
phases_shown p h = rw (le-leb _ _ h.receiver, le-leb _ _ h.transmitter, le-leb _ _ h.sixteenths)

pub phases_kept : KeepsPhases clocked_of
unfolding clocked_of
phases_kept p second csr b e =
    let h = phases_told p e in
    phases_shown _
    (record {
      receiver = side_most p.receiver second _ b _ h.receiver;
      transmitter = side_most p.transmitter second _ b _ h.transmitter;
      sixteenths = bit_most p.sixteenths _ _ h.sixteenths;
    })

pub restarted_in_range : phases_in_range restarted ≡ true
restarted_in_range = refl

pub restarted_on_change_kept : (p : Phases) (before after : ℕ) → phases_in_range p ≡ true → phases_in_range (restarted_on_change p before after) ≡ true
unfolding restarted_on_change
restarted_on_change_kept p before after e = pick_all (λ (q : Phases). phases_in_range q ≡ true) _ p restarted e refl

-- A sound device stays sound: where no row before it refuses an event, its new state is, the front by the laws of its parts and each receiver
-- by its own, so row 7 never answers; and a refused event leaves the device as it was. Assumes nothing.
use Prim.Native.Nat.{ℕ, suc, ◌≤◌}
use mathlib.Core.Path.{◌≡◌, refl, sym, subst}
use mathlib.Core.Bool.{Bool, true, false, and-eq-true_iff}
use mathlib.Core.List.{[], ◌∷◌}
use native.Mathlib.Omega.{arith}
use borrow.Author.Tests.{eqb-true, eqb-false}
use lib.Dec.{eqb}
use Rattle.format.specs.Format.{format_of}
use Rattle.format.specs.Pick.{pick}
use Rattle.format.proofs.Laws.Pick.{pick_all}
use Rattle.receiver_state.specs.declared.arrivals.Receiver.{Receiver}
use Rattle.feed.specs.declared.feed.Feed.{Feed}
use Rattle.receiver.specs.Receiver.{fed_of}
use Rattle.receiver.specs.Sound.{receiver_in_range}
use Rattle.feed.specs.Ranges.{feed_in_range}
use Rattle.receiver.proofs.Laws.Reached.{sound_fed}
use Rattle.chip_soundness.specs.Soundness.{receiver_sound}
use Rattle.front.specs.Sound.{front_in_range}
use Rattle.events.specs.declared.events.Event.{Event}
use Rattle.chip_device.specs.declared.device.Device.{Device}
use Rattle.chip_step.specs.declared.chip.Answer.{Answer}
use Rattle.chip_device.specs.Device.{fresh_device, is_sound_of}
use Rattle.chip_step.specs.Chip.{taken_of, step_of}
use Rattle.chip_refusals.specs.Rows.{unsound, register_above15, forbidden_read, forbidden_command, setting_not_modelled, acknowledged_unasserted}
use Rattle.chip_refusals.specs.Refusals.{first_of}
use Rattle.chip_step.proofs.Laws.Table.{accepts, refuses_first}
use Rattle.chip_laws.specs.Sound.{KeepsSound, NeverSeven, StaysSound, after}
use Rattle.chip_laws.proofs.Laws.Ranges.{stepped_within}
use Rattle.front.proofs.Laws.Ranges.{front_told, front_shown, front_at_within}

-- ---- the rows before the seventh ----

free_row : (t : Bool) (k rest : ℕ) → pick t (suc k) rest ≡ 0 → (t ≡ false) × (rest ≡ 0)
unfolding pick
free_row true k rest h = absurd (omega arith)
free_row false k rest h = (refl, h)

free_fifth : (d : Device) (e : Event) → first_of d e 0 ≡ 0 → setting_not_modelled d.front e ≡ false
unfolding first_of
free_fifth d e h =
    let first = free_row (unsound d) 0 _ h in
    let second = free_row (register_above15 e) 1 _ first.1 in
    let third = free_row (forbidden_read e) 2 _ second.1 in
    let fourth = free_row (forbidden_command e) 3 _ third.1 in
    (free_row (setting_not_modelled d.front e) 4 _ fourth.1).0

first_most : (d : Device) (e : Event) → first_of d e 0 ≤ 6
unfolding first_of
first_most d e =
    pick_all Most (unsound d) _ _ (omega arith)
    (pick_all Most (register_above15 e) _ _ (omega arith)
    (pick_all Most (forbidden_read e) _ _ (omega arith)
    (pick_all Most (forbidden_command e) _ _ (omega arith)
    (pick_all Most (setting_not_modelled d.front e) _ _ (omega arith)
    (pick_all Most (acknowledged_unasserted d e) _ _ (omega arith) (omega arith))))))
  where
    Most : ℕ → Type 0
    Most n = n ≤ 6

-- ---- an event that is taken ----

fed_sound : (r : Receiver) (x : Feed) → receiver_sound r ≡ true → feed_in_range x ≡ true → receiver_sound (fed_of r x).receiver ≡ true
fed_sound r x s h =
    let both = (and-eq-true_iff (receiver_in_range r) _).0 s in
    let next = sound_fed r x (record { ranges = both.0; waiting = both.1 }) h in
    rw (next.ranges, next.waiting)

pub keeps_sound : KeepsSound taken_of
unfolding taken_of
keeps_sound d e s z =
    let parts = (and-eq-true_iff (front_in_range d.front) _).0 s in
    let two = (and-eq-true_iff (receiver_sound d.a) _).0 parts.1 in
    let h = stepped_within d.front e (free_fifth d e z) (front_told d.front parts.0) in
    rw (front_shown _ h.front, fed_sound d.a _ two.0 h.a, fed_sound d.b _ two.1 h.b)

-- ---- one event, and a list of them ----

answer_sound : (d : Device) (e : Event) → is_sound_of d ≡ true → ((step_of d e).number ≤ 6) × (is_sound_of (step_of d e).state ≡ true)
answer_sound d e s = go (eqb (first_of d e 0) 0) refl
  where
    Fine : Answer → Type 0
    Fine x = (x.number ≤ 6) × (is_sound_of x.state ≡ true)

    go : (t : Bool) → eqb (first_of d e 0) 0 ≡ t → Fine (step_of d e)
    go true z =
        let free = eqb-true _ 0 z in
        let kept = keeps_sound d e s free in
        subst Fine (sym (accepts d e free kept)) (omega arith, kept)
    go false z = subst Fine (sym (refuses_first d e (eqb-false _ 0 z))) (first_most d e, s)

pub never_seven : NeverSeven step_of
never_seven d e s seven = let most = (answer_sound d e s).0 in omega arith

pub fresh_sound : is_sound_of fresh_device ≡ true
unfolding fresh_device format_of
fresh_sound = rw (front_shown _ (front_at_within 255))

pub stays_sound : StaysSound step_of
unfolding after
stays_sound d [] s = s
stays_sound d (e ∷ es) s = stays_sound (step_of d e).state es (answer_sound d e s).1

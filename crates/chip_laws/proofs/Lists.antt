-- The laid-out chip and the chip over lists give the same answers: every sound receiver has room for what is fed to it, so the laws of the two
-- receivers hold on both sides, and the chips differ in nothing else; and the step keeps a sound device sound by row 7. Assumes nothing.
use Prim.Native.Nat.{ℕ, zero, suc}
use mathlib.Core.Path.{◌≡◌, refl, ◌∙◌, ap}
use mathlib.Core.Bool.{Bool, true, false, and-eq-true_iff}
use mathlib.Core.List.{List, [], ◌∷◌}
use native.Mathlib.Omega.{arith}
use lib.Dec.{eqb}
use borrow.Author.Tests.{not-false}
use Rattle.format.specs.Pick.{pick}
use Rattle.sampler.specs.Sound.{sampler_in_range}
use Rattle.receiver_state.specs.declared.arrivals.Receiver.{Receiver}
use Rattle.receiver.specs.Sound.{receiver_in_range}
use Rattle.receiver.proofs.Laws.Waiting.{Room, sound_room, fed_room}
use Rattle.receiver.proofs.Delivery.{four_counted}
use Rattle.chip_soundness.specs.Soundness.{receiver_sound}
use Rattle.front.specs.Sound.{front_in_range}
use Rattle.chip_shown.specs.Shown.{block_errors}
use Rattle.events.specs.declared.events.Event.{Event}
use Rattle.events.specs.declared.events.Event.TheVariants.{ChipReset, Read, Write, Acknowledge, Pins, Tick}
use Rattle.front_events.specs.FrontEvents.{front_stepped}
use Rattle.chip_device.specs.declared.device.Device.{Device}
use Rattle.chip_step.specs.declared.chip.Answer.{Answer}
use Rattle.chip_device.specs.Device.{is_sound_of, shown_a, shown_b, device_lines}
use Rattle.chip_step.specs.Chip.{taken_of, number_of, refusal_lines, refused_of, accepted_of, step_of}
use Rattle.chip_refusals.specs.Rows.{acknowledged_unasserted}
use Rattle.chip_refusals.specs.Refusals.{first_of}
use Rattle.chip_laws.specs.Lists.{list_is_sound, list_shown_a, list_shown_b, list_lines, list_next, list_byte, list_fresh, list_unasserted, list_number, list_refused, ListAnswer, list_step_of, lists_of, seen_of, all_seen, list_all_seen, SameAnswers}
use Rattle.chip_laws.proofs.Laws.Lists.{status_held, sound_held, fed_held}
use Rattle.chip_laws.specs.Table.{row}
use Rattle.chip_laws.proofs.Table.{table}

-- ---- there is room ----

receiver_room : (r : Receiver) → receiver_sound r ≡ true → Room r
receiver_room r s =
    let both = (and-eq-true_iff (receiver_in_range r) _).0 s in
    sound_room r ((and-eq-true_iff (sampler_in_range r.sampler) _).0 both.0).1 both.1

record Rooms (d : Device) : Type 0 where
  a : Room d.a
  b : Room d.b

device_rooms : (d : Device) → is_sound_of d ≡ true → Rooms d
device_rooms d s =
    let both = (and-eq-true_iff (receiver_sound d.a) _).0 ((and-eq-true_iff (front_in_range d.front) _).0 s).1 in
    record { a = receiver_room d.a both.0; b = receiver_room d.b both.1 }

-- ---- what is seen of a device ----

same_sound : (d : Device) → Rooms d → list_is_sound (lists_of d) ≡ is_sound_of d
same_sound d h = rw (sound_held d.a (four_counted d.a h.a), sound_held d.b (four_counted d.b h.b))

same_a : (d : Device) → Rooms d → list_shown_a (lists_of d) ≡ shown_a d
same_a d h = rw (status_held d.a (block_errors d.front.a) (four_counted d.a h.a))

same_b : (d : Device) → Rooms d → list_shown_b (lists_of d) ≡ shown_b d
same_b d h = rw (status_held d.b (block_errors d.front.b) (four_counted d.b h.b))

same_lines : (d : Device) → Rooms d → list_lines (lists_of d) ≡ device_lines d
same_lines d h = rw (same_a d h, same_b d h)

same_unasserted : (d : Device) (e : Event) → Rooms d → list_unasserted (lists_of d) e ≡ acknowledged_unasserted d e
unfolding list_unasserted acknowledged_unasserted
same_unasserted d ChipReset h = refl
same_unasserted d (Read n) h = refl
same_unasserted d (Write n byte) h = refl
same_unasserted d Acknowledge h = rw (same_a d h, same_b d h)
same_unasserted d (Pins levels) h = refl
same_unasserted d Tick h = refl

-- ---- what is taken ----

taken_rooms : (d : Device) (e : Event) → Rooms d → Rooms (taken_of d e).state
unfolding taken_of
taken_rooms d e h = record { a = fed_room d.a (front_stepped d.front e).a h.a; b = fed_room d.b (front_stepped d.front e).b h.b }

same_next : (d : Device) (e : Event) → Rooms d → list_next (lists_of d) e ≡ lists_of (taken_of d e).state
unfolding list_next taken_of
same_next d e h = rw (fed_held d.a (front_stepped d.front e).a h.a, fed_held d.b (front_stepped d.front e).b h.b)

same_byte : (d : Device) (e : Event) → Rooms d → list_byte (lists_of d) e ≡ (taken_of d e).byte
unfolding list_byte taken_of
same_byte d e h =
    rw (same_a d h, same_b d h, fed_held d.a (front_stepped d.front e).a h.a, fed_held d.b (front_stepped d.front e).b h.b)

same_fresh : (d : Device) (e : Event) → Rooms d → list_fresh (lists_of d) e ≡ (taken_of d e).fresh
unfolding list_fresh taken_of
same_fresh d e h = rw (fed_held d.a (front_stepped d.front e).a h.a, fed_held d.b (front_stepped d.front e).b h.b)

same_number : (d : Device) (e : Event) → Rooms d → list_number (lists_of d) e ≡ number_of d e
unfolding list_number number_of first_of
same_number d e h = rw (same_sound d h, same_unasserted d e h, same_next d e h, same_sound (taken_of d e).state (taken_rooms d e h))

-- ---- the answer ----

-- an answer over the lists that its state means
abbrev listed : Answer → ListAnswer
listed x = record { seen = seen_of x; state = lists_of x.state }

pick_ap : {A B : Type 0} (f : A → B) (t : Bool) (x y : A) → f (pick t x y) ≡ pick t (f x) (f y)
unfolding pick
pick_ap f true x y = refl
pick_ap f false x y = refl

same_step : (d : Device) (e : Event) → is_sound_of d ≡ true → listed (step_of d e) ≡ list_step_of (lists_of d) e
unfolding list_step_of list_refused step_of refusal_lines
same_step d e s =
    let h : Rooms d = device_rooms d s in
    rw (same_number d e h, same_byte d e h, same_fresh d e h, same_next d e h, same_lines d h, same_lines (taken_of d e).state (taken_rooms d e h))
    (pick_ap listed (eqb (number_of d e) 0) (accepted_of (taken_of d e)) (refused_of d (number_of d e)))

-- by row 7 where it is accepted
pub step_sound : (d : Device) (e : Event) → is_sound_of d ≡ true → is_sound_of (step_of d e).state ≡ true
unfolding row pick
step_sound d e s = go (step_of d e).number refl
  where
    go : (n : ℕ) → (step_of d e).number ≡ n → is_sound_of (step_of d e).state ≡ true
    go zero z = ap (λ (x : Answer). is_sound_of x.state) (table.taken d e z) ∙ not-false _ (table.free d e z 7)
    go (suc n) z = ap is_sound_of (table.unaltered d e (omega arith)) ∙ s

same_lists : (d : Device) (es : List Event) → is_sound_of d ≡ true → all_seen step_of d es ≡ list_all_seen list_step_of (lists_of d) es
unfolding all_seen list_all_seen
same_lists d [] s = refl
same_lists d (e ∷ es) s = rw (← same_step d e s, same_lists (step_of d e).state es (step_sound d e s))

pub same_answers : SameAnswers step_of list_step_of
same_answers =
    record {
      answers = λ d e s. ap (λ (x : ListAnswer). x.seen) (same_step d e s);
      states = λ d e s. ap (λ (x : ListAnswer). x.state) (same_step d e s);
      lists = same_lists;
    }

-- Many ticks within the room, by induction: the first is passed, leaves one less of the room, and what passes after it adds up. So n ticks
-- move the phases and the count by n and nothing else, and no line changes. Assumes nothing.
use Prim.Native.Nat.{ℕ, zero, suc, ◌+◌, ◌/◌, ◌%◌, ◌^◌, ◌<◌, ◌≤◌, min}
use mathlib.Core.Path.{◌≡◌, sym, ◌∙◌, ap}
use mathlib.Core.Bool.{true, and-eq-true_iff}
use native.Mathlib.Omega.{arith}
use lib.Dec.{eqb, leb}
use borrow.Author.Tests.{leb-true}
use Rattle.dividers.proofs.Laws.Divider.{ticks_of}
use Rattle.clocks.specs.Sound.{phases_in_range}
use Rattle.clocks.proofs.Laws.Passing.{side_falls, side_most, side_none, side_adds}
use Rattle.timer_state.specs.Counting.{mode_of}
use Rattle.timer.proofs.Laws.Passing.{timer_falls, timer_none, timer_adds}
use Rattle.events.specs.declared.events.Event.TheVariants.{Tick}
use Rattle.front_side.specs.declared.side.Side.{Side}
use Rattle.front.specs.declared.front.Front.{Front}
use Rattle.front.specs.Sound.{front_in_range}
use Rattle.front.proofs.Laws.Ranges.{front_told}
use Rattle.chip_device.specs.declared.device.Device.{Device}
use Rattle.chip_device.specs.Device.{is_sound_of, device_lines}
use Rattle.chip_step.specs.declared.chip.Answer.{Answer}
use Rattle.chip_step.specs.Chip.{step_of}
use Rattle.chip_laws.proofs.Sound.{keeps_sound}
use Rattle.chip_fast.specs.Passing.{channel_room, front_room, side_on, front_on, passed_of}
use Rattle.chip_fast.specs.Fast.{at_rest}
use Rattle.chip_fast.proofs.Laws.Passing.{device_on, lines_stay}
use Rattle.chip_fast.proofs.Laws.Ticked.{tick_free, tick_step, sound_ticks}

-- ---- the statement ----

-- the state after so many ticks, each the chip's own answer to the one before
abbrev pub ticked : ℕ → Device → Device
ticked zero d = d
ticked (suc n) d = ticked n (step_of d Tick).state

pub record Passes : Type 0 where
  -- phases and counts move by n, and nothing else
  pub states : (n : ℕ) (d : Device) → is_sound_of d ≡ true → n ≤ front_room d.front → ticked n d ≡ passed_of d (ticks_of n)
  -- no line changes
  pub lines : (n : ℕ) (d : Device) → is_sound_of d ≡ true → n ≤ front_room d.front → device_lines (ticked n d) ≡ device_lines d

-- ---- the room ----

room_most : (f : Front) → front_room f ≤ 1000000
room_most f = let most = side_most f.a.phases.receiver (eqb (f.acr / 128) 1) (f.a.csr / 16) in omega (arith, most)

-- what all of them lose, the least loses
least_falls : (x y x' y' : ℕ) → x ≤ x' + 1 → y ≤ y' + 1 → min x y ≤ min x' y' + 1
least_falls x y x' y' h k = omega arith

channel_falls : (s : Side) (acr : ℕ) → 0 < channel_room s acr → channel_room s acr ≤ channel_room (side_on s (ticks_of 1)) acr + 1
channel_falls s acr h =
    let r = side_falls s.phases.receiver (eqb (acr / 128) 1) (s.csr / 16) (omega (arith, h)) in
    let t = side_falls s.phases.transmitter (eqb (acr / 128) 1) (s.csr % 16) (omega (arith, h)) in
    least_falls _ _ _ _ r t

front_falls : (f : Front) → f.timer.ticks.0 < 16 → 0 < front_room f → front_room f ≤ front_room (front_on f (ticks_of 1)) + 1
front_falls f l h =
    let t = timer_falls f.timer (mode_of f.acr) l (omega (arith, h)) in
    let a = channel_falls f.a f.acr (omega (arith, h)) in
    let b = channel_falls f.b f.acr (omega (arith, h)) in
    least_falls _ _ _ _ t (least_falls _ _ _ _ a b)

-- ---- none, and some more ----

phases_most : (s : Side) → phases_in_range s.phases ≡ true → (s.phases.receiver.0 ≤ 4607) × (s.phases.transmitter.0 ≤ 4607)
phases_most s e =
    let r = (and-eq-true_iff (leb s.phases.receiver.0 4607) _).0 e in
    let t = (and-eq-true_iff (leb s.phases.transmitter.0 4607) _).0 r.1 in
    (leb-true _ _ r.0, leb-true _ _ t.0)

passed_none : (d : Device) → is_sound_of d ≡ true → passed_of d (ticks_of 0) ≡ d
unfolding passed_of
passed_none d s =
    let f = d.front in
    let told = front_told f ((and-eq-true_iff (front_in_range f) _).0 s).0 in
    let a = phases_most f.a told.a.phases in
    let b = phases_most f.b told.b.phases in
    rw (
      side_none f.a.phases.receiver (f.a.csr / 16) a.0,
      side_none f.a.phases.transmitter (f.a.csr % 16) a.1,
      side_none f.b.phases.receiver (f.b.csr / 16) b.0,
      side_none f.b.phases.transmitter (f.b.csr % 16) b.1,
      timer_none f.timer (mode_of f.acr) (sound_ticks d s),
    )

passed_adds : (d : Device) (n m : ℕ) → d.front.timer.ticks.0 + (n + m) < 2 ^ 64
    → passed_of (passed_of d (ticks_of n)) (ticks_of m) ≡ passed_of d (ticks_of (n + m))
unfolding passed_of
passed_adds d n m l =
    let f = d.front in
    rw (
      side_adds f.a.phases.receiver (f.a.csr / 16) n m,
      side_adds f.a.phases.transmitter (f.a.csr % 16) n m,
      side_adds f.b.phases.receiver (f.b.csr / 16) n m,
      side_adds f.b.phases.transmitter (f.b.csr % 16) n m,
      timer_adds f.timer (mode_of f.acr) n m l,
    )

-- ---- many ticks ----

-- the first of them
pub first_passes : (d : Device) → is_sound_of d ≡ true → 0 < front_room d.front → (step_of d Tick).state ≡ passed_of d (ticks_of 1)
unfolding at_rest
first_passes d s h = ap (λ (x : Answer). x.state) (tick_step d s) ∙ device_on d (sound_ticks d s) h

-- it leaves a sound device, and one less of the room
pub first_sound : (d : Device) → is_sound_of d ≡ true → is_sound_of (step_of d Tick).state ≡ true
unfolding at_rest
first_sound d s = ap (λ (x : Answer). is_sound_of x.state) (tick_step d s) ∙ keeps_sound d Tick s (tick_free d s)

pub first_falls : (n : ℕ) (d : Device) → is_sound_of d ≡ true → suc n ≤ front_room d.front → n ≤ front_room (step_of d Tick).state.front
unfolding passed_of
first_falls n d s h =
    let falls = front_falls d.front (sound_ticks d s) (omega (arith, h)) in
    rw (first_passes d s (omega (arith, h))) (omega (arith, falls, h))

many : (n : ℕ) (d : Device) → is_sound_of d ≡ true → n ≤ front_room d.front → ticked n d ≡ passed_of d (ticks_of n)
many zero d s h = sym (passed_none d s)
many (suc n) d s h =
    let most = room_most d.front in
    let small = sound_ticks d s in
    let one : 1 + n ≡ suc n = omega arith in
    many n (step_of d Tick).state (first_sound d s) (first_falls n d s h)
    ∙ ap (λ (x : Device). passed_of x (ticks_of n)) (first_passes d s (omega (arith, h)))
    ∙ passed_adds d 1 n (omega (arith, most, small, h))
    ∙ ap (λ (k : ℕ). passed_of d (ticks_of k)) one

pub passes : Passes
passes = record { states = many; lines = λ n d s h. ap device_lines (many n d s h) ∙ lines_stay d n }

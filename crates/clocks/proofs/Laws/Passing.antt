-- Ticks within the room of a channel's clocks: one clock by its divider's law or because no tick is its pulse, then both clocks. One
-- tick leaves one less of the room. Assumes nothing.
use Rattle.std.proofs.Common.{◌≡◌, ℕ, ◌+◌, ◌/◌, ◌%◌, ◌^◌, ◌<◌, ◌≤◌, Bool, true, false, eqb, ltb, sym, refl, ap, ◌∙◌, add-zero, add_assoc, mod-eq_of_lt, arith, ltb-true}
use native.Mathlib.Nat.{mod-add-mod}
use Rattle.format.specs.declared.counts.Ticks.{Ticks}
use Rattle.format.specs.Pick.{pick}
use Rattle.format.proofs.Laws.Pick.{pick_no, pick_all, pick_known}
use Rattle.dividers.specs.declared.divider.Divided.{Divided}
use Rattle.dividers.specs.Divider.{room_of, far_off}
use Rattle.dividers.specs.Rates.{period_of}
use Rattle.dividers.proofs.Laws.Divider.{ticks_of}
use Rattle.dividers.proofs.Laws.Rates.{period_between}
use Rattle.dividers.proofs.Laws.Room.{room_counts, room_falls, room_below}
use Rattle.clocks.specs.declared.channel.ClockEvent.{ClockEvent}
use Rattle.clocks.specs.declared.channel.Phases.{Phases}
use Rattle.clocks.specs.Channel.{ticked_of, side_of, transmitter1x, clocked_of, side_room, side_passed, channel_passed}

-- what a tick brings to a channel's clocks where the timer does not toggle: no edge
abbrev pub plain_tick : ClockEvent
plain_tick = record { tick = true; toggled = false; rising = false; falling = false }

-- ---- one clock ----

-- a clock without a pulse
abbrev at_rest : Ticks → Divided Ticks
at_rest phase = record { phase = phase; pulse = false }

-- a side of a code that has a divider, and of one that has none
abbrev SidePasses : Ticks → Bool → ℕ → Type 0
SidePasses phase second code =
    side_of phase second code plain_tick false ≡ record { phase = side_passed phase code (ticks_of 1); pulse = false }

-- a phase with room for a tick is far below 2^64
next_small : (phase : Ticks) (second : Bool) (code : ℕ) → ltb code 13 ≡ true → 0 < (room_of phase (period_of second code)).0
    → phase.0 + 1 < 2 ^ 64
next_small phase second code e h =
    let below = room_below phase (period_of second code) h in
    let most = (period_between second code (ltb-true code 13 e)).1 in
    omega arith

divider_passes : (phase : Ticks) (second : Bool) (code : ℕ) → ltb code 13 ≡ true → 0 < (side_room phase second code).0
    → SidePasses phase second code
unfolding side_of ticked_of side_room side_passed pick
divider_passes phase second code e h =
    let room : 0 < (room_of phase (period_of second code)).0 = rw e at h in
    rw (e, room_counts phase (period_of second code) room, mod-eq_of_lt (next_small phase second code e room))

-- the timer's toggle is none, and no edge comes with a tick
other_passes : (phase : Ticks) (second : Bool) (code : ℕ) → ltb code 13 ≡ false → SidePasses phase second code
unfolding side_of side_passed
other_passes phase second code e =
    pick_no _ _ _ e ∙ pick_all (λ (d : Divided Ticks). d ≡ at_rest phase) (eqb code 13) _ _ refl refl ∙ ap at_rest (sym (pick_no (ltb code 13) _ phase e))

pub side_passes : (phase : Ticks) (second : Bool) (code : ℕ) → 0 < (side_room phase second code).0 → SidePasses phase second code
side_passes phase second code h = go (ltb code 13) refl
  where
    go : (t : Bool) → ltb code 13 ≡ t → SidePasses phase second code
    go true e = divider_passes phase second code e h
    go false e = other_passes phase second code e

divider_falls : (phase : Ticks) (second : Bool) (code : ℕ) → ltb code 13 ≡ true → 0 < (side_room phase second code).0
    → (side_room phase second code).0 ≤ (side_room (side_passed phase code (ticks_of 1)) second code).0 + 1
unfolding side_room side_passed pick
divider_falls phase second code e h =
    let room : 0 < (room_of phase (period_of second code)).0 = rw e at h in
    rw (e, mod-eq_of_lt (next_small phase second code e room)) (room_falls phase (period_of second code))

other_falls : (phase : Ticks) (second : Bool) (code : ℕ) → ltb code 13 ≡ false
    → (side_room phase second code).0 ≤ (side_room (side_passed phase code (ticks_of 1)) second code).0 + 1
unfolding side_room pick
other_falls phase second code e = rw e (omega arith)

-- a tick leaves one less
pub side_falls : (phase : Ticks) (second : Bool) (code : ℕ) → 0 < (side_room phase second code).0
    → (side_room phase second code).0 ≤ (side_room (side_passed phase code (ticks_of 1)) second code).0 + 1
side_falls phase second code h = go (ltb code 13) refl
  where
    go : (t : Bool) → ltb code 13 ≡ t → (side_room phase second code).0 ≤ (side_room (side_passed phase code (ticks_of 1)) second code).0 + 1
    go true e = divider_falls phase second code e h
    go false e = other_falls phase second code e

-- no more than is passed at once
pub side_most : (phase : Ticks) (second : Bool) (code : ℕ) → (side_room phase second code).0 ≤ 1000000
unfolding side_room room_of
side_most phase second code = pick_known (λ (x : Ticks). x.0 ≤ 1000000) (ltb code 13) _ far_off few (omega arith)
  where
    few : ltb code 13 ≡ true → (room_of phase (period_of second code)).0 ≤ 1000000
    few e = let most = (period_between second code (ltb-true code 13 e)).1 in omega arith

-- no tick
pub side_none : (phase : Ticks) (code : ℕ) → phase.0 ≤ 4607 → side_passed phase code (ticks_of 0) ≡ phase
unfolding side_passed
side_none phase code l = pick_all (λ (x : Ticks). x ≡ phase) (ltb code 13) _ phase (ap ticks_of same) refl
  where
    same : (phase.0 + 0) % 2 ^ 64 ≡ phase.0
    same = rw add-zero (mod-eq_of_lt (omega arith))

-- some ticks and then some more
pub side_adds : (phase : Ticks) (code n m : ℕ)
    → side_passed (side_passed phase code (ticks_of n)) code (ticks_of m) ≡ side_passed phase code (ticks_of (n + m))
unfolding side_passed pick
side_adds phase code n m = go (ltb code 13) refl
  where
    sum : ((phase.0 + n) % 2 ^ 64 + m) % 2 ^ 64 ≡ (phase.0 + (n + m)) % 2 ^ 64
    sum = mod-add-mod (phase.0 + n) (2 ^ 64) m ∙ ap (λ (k : ℕ). k % 2 ^ 64) (add_assoc phase.0 n m)

    go : (t : Bool) → ltb code 13 ≡ t
        → side_passed (side_passed phase code (ticks_of n)) code (ticks_of m) ≡ side_passed phase code (ticks_of (n + m))
    go true e = rw (e, sum)
    go false e = rw e

-- ---- a channel's two ----

pub channel_passes : (p : Phases) (second : Bool) (csr : ℕ) → 0 < (side_room p.receiver second (csr / 16)).0
    → 0 < (side_room p.transmitter second (csr % 16)).0
    → clocked_of p second csr plain_tick
    ≡ record { phases = channel_passed p csr (ticks_of 1); receiver = false; transmitter = false; one = false }
unfolding clocked_of transmitter1x pick
channel_passes p second csr r t =
    rw (side_passes p.receiver second (csr / 16) r, side_passes p.transmitter second (csr % 16) t)

-- So many pulses from a count; and one tick within the room of the counter/timer: no pulse, or a pulse that is not terminal. It leaves
-- one less of the room, and ticks add up. Assumes nothing.
use Rattle.std.proofs.Common.{◌≡◌, ℕ, zero, suc, ◌+◌, ◌-◌, ◌*◌, ◌/◌, ◌%◌, ◌^◌, ◌<◌, ◌≤◌, Bool, true, false, ◌||◌, eqb, sym, refl, ap, ◌∙◌, true≢false, add-zero, add_assoc, mod-eq_of_lt, zero-add, arith, le-ltb, lt-ltb, ne_eqb}
use native.Mathlib.Decide.{dec_lt}
use native.Mathlib.Nat.{mod-add-mod}
use lib.Dec.{eqb-suc-zero}
use Rattle.format.specs.Digits.{bit}
use Rattle.format.specs.Pick.{pick}
use Rattle.dividers.specs.Divider.{divided_of}
use Rattle.dividers.proofs.Laws.Divider.{ticks_of}
use Rattle.timer_state.specs.declared.counting.Counted.{Counted}
use Rattle.timer_state.specs.declared.counting.Timer.{Timer}
use Rattle.timer_state.specs.Counting.{with_count, with_phases, is_timer, tick_pulses, counted_down, counter_pulsed, timer_pulsed, pulsed_by}
use Rattle.timer.specs.Timer.{ticked_by}
use Rattle.timer.specs.Passing.{runs_in, sixteenths_room, running_room, timer_room, counted_by, onward, pulses_in, timer_passed}

-- ---- so many pulses ----

pub counted_one : (count : ℕ) → counted_by count 1 ≡ counted_down count
unfolding counted_by pick
counted_one count = refl

-- the count less so many pulses, modulo 65,536
pub counted_back : (count pulses : ℕ) → count < 65536 → (count + (65536 - pulses % 65536)) % 65536 ≡ counted_by count pulses
unfolding counted_by pick
counted_back count zero l = omega arith
counted_back count (suc n) l = rw (eqb-suc-zero n) (omega arith)

-- ---- a tick that is not terminal ----

-- the answer to a tick that does not bring the counter/timer to its end
abbrev quiet : Timer → Counted
quiet t = record { timer = t; toggled = false }

no_more : (x : Bool) → (x || false) ≡ x
no_more true = refl
no_more false = refl

-- a pulse that leaves a count
pulse_counts : (t : Timer) (mode : ℕ) → runs_in t mode ≡ true → eqb (counted_down t.count) 0 ≡ false
    → pulsed_by t mode true ≡ quiet (with_count t (counted_down t.count) t.output)
unfolding pulsed_by timer_pulsed counter_pulsed pick
pulse_counts t mode r e = go (is_timer mode) t.running refl refl
  where
    go : (x y : Bool) → is_timer mode ≡ x → t.running ≡ y
        → pulsed_by t mode true ≡ quiet (with_count t (counted_down t.count) t.output)
    go true y i u = rw (i, e)
    go false true i u = rw (i, u, e, no_more t.ready)
    go false false i u = absurd (true≢false (sym r ∙ rw (i, u)))

-- what does not run takes no pulse
pulse_idle : (t : Timer) (mode : ℕ) (pulse : Bool) → runs_in t mode ≡ false → pulsed_by t mode pulse ≡ quiet t
unfolding pulsed_by counter_pulsed pick
pulse_idle t mode false r = refl
pulse_idle t mode true r = go (is_timer mode) t.running refl refl
  where
    go : (x y : Bool) → is_timer mode ≡ x → t.running ≡ y → pulsed_by t mode true ≡ quiet t
    go true y i u = absurd (true≢false (rw (i) at r))
    go false true i u = absurd (true≢false (rw (i, u) at r))
    go false false i u = rw (i, u)

-- where its clock has a pulse that is not terminal, and where it has none
beat : (t : Timer) (mode : ℕ) (x : Bool) → (x ≡ true → runs_in t mode ≡ true → eqb (counted_down t.count) 0 ≡ false)
    → pulsed_by t mode x ≡ quiet (with_count t (pick (runs_in t mode) (counted_by t.count (bit x)) t.count) t.output)
unfolding pulsed_by counted_by pick
beat t mode false h = go (runs_in t mode) refl
  where
    go : (r : Bool) → runs_in t mode ≡ r
        → quiet t ≡ quiet (with_count t (pick (runs_in t mode) (counted_by t.count 0) t.count) t.output)
    go true e = rw e
    go false e = rw e
beat t mode true h = go (runs_in t mode) refl
  where
    go : (r : Bool) → runs_in t mode ≡ r
        → pulsed_by t mode true ≡ quiet (with_count t (pick (runs_in t mode) (counted_by t.count 1) t.count) t.output)
    go true e = rw e (pulse_counts t mode e (h refl e))
    go false e = rw e (pulse_idle t mode true e)

-- ---- ticks/16 ----

-- the phase of ticks/16 after a tick, and whether that is the 16th
data Sixteenth (t : Timer) : Type 0 where
  within : t.ticks.0 + 1 < 16 → divided_of t.ticks (ticks_of 16) ≡ record { phase = ticks_of (t.ticks.0 + 1); pulse = false } → Sixteenth t
  ends : t.ticks.0 ≡ 15 → divided_of t.ticks (ticks_of 16) ≡ record { phase = ticks_of 0; pulse = true } → Sixteenth t

sixteenth : (t : Timer) → t.ticks.0 < 16 → Sixteenth t
unfolding divided_of pick
sixteenth t l = go (dec_lt (t.ticks.0 + 1) 16)
  where
    go : Dec (t.ticks.0 + 1 < 16) → Sixteenth t
    go (yes h) = within h (rw (lt-ltb (t.ticks.0 + 1) 16 h))
    go (no h) = ends (omega arith) (rw (le-ltb (t.ticks.0 + 1) 16 (omega arith)))

-- the counter/timer's next phase is that of so many ticks
next_phase : (t : Timer) → t.ticks.0 < 16 → (divided_of t.ticks (ticks_of 16)).phase ≡ ticks_of (onward t (ticks_of 1) % 16)
next_phase t l = go (sixteenth t l)
  where
    small : (t.ticks.0 + 1) % 2 ^ 64 ≡ t.ticks.0 + 1
    small = mod-eq_of_lt (omega arith)

    go : Sixteenth t → (divided_of t.ticks (ticks_of 16)).phase ≡ ticks_of (onward t (ticks_of 1) % 16)
    go (within h e) = rw (e, small, mod-eq_of_lt h)
    go (ends h e) = rw (e, small, h)

-- one tick is a pulse or none
pulses_one : (t : Timer) (mode : ℕ) → t.ticks.0 < 16
    → pulses_in t mode (ticks_of 1) ≡ bit (tick_pulses mode (divided_of t.ticks (ticks_of 16)).pulse)
unfolding pulses_in pick
pulses_one t mode l = go (eqb mode 6) (eqb mode 3 || eqb mode 7) refl refl (sixteenth t l)
  where
    small : (t.ticks.0 + 1) % 2 ^ 64 ≡ t.ticks.0 + 1
    small = mod-eq_of_lt (omega arith)

    go : (s y : Bool) → eqb mode 6 ≡ s → (eqb mode 3 || eqb mode 7) ≡ y → Sixteenth t
        → pulses_in t mode (ticks_of 1) ≡ bit (tick_pulses mode (divided_of t.ticks (ticks_of 16)).pulse)
    go true y i j k = rw i
    go false false i j k = rw (i, j)
    go false true i j (within h e) = rw (i, j, e, small) (omega arith)
    go false true i j (ends h e) = rw (i, j, e, small, h)

-- ---- within the room ----

-- with room, no pulse of this tick is terminal
not_terminal : (t : Timer) (mode : ℕ) → t.ticks.0 < 16 → 0 < (timer_room t mode).0
    → tick_pulses mode (divided_of t.ticks (ticks_of 16)).pulse ≡ true → runs_in t mode ≡ true → eqb (counted_down t.count) 0 ≡ false
unfolding timer_room running_room sixteenths_room pick
not_terminal t mode l h p r = go (eqb mode 6) (eqb mode 3 || eqb mode 7) refl refl (sixteenth t l)
  where
    go : (s y : Bool) → eqb mode 6 ≡ s → (eqb mode 3 || eqb mode 7) ≡ y → Sixteenth t → eqb (counted_down t.count) 0 ≡ false
    go true y i j k =
        let room : 0 < counted_down t.count = rw (r, i) at h in
        ne_eqb (counted_down t.count) 0 (omega arith)
    go false false i j k = absurd (true≢false (sym (rw (i, j) at p)))
    go false true i j (within m e) = absurd (true≢false (sym (rw (i, j, e) at p)))
    go false true i j (ends m e) =
        let room : 0 < 15 - t.ticks.0 + 16 * counted_down t.count = rw (r, i, j, lt-ltb t.ticks.0 16 l) at h in
        ne_eqb (counted_down t.count) 0 (omega arith)

pub timer_passes : (t : Timer) (mode : ℕ) → t.ticks.0 < 16 → 0 < (timer_room t mode).0
    → ticked_by t mode ≡ quiet (timer_passed t mode (ticks_of 1))
unfolding ticked_by timer_passed
timer_passes t mode l h =
    rw (next_phase t l, pulses_one t mode l)
    (beat (with_phases t (ticks_of (onward t (ticks_of 1) % 16)) t.edges) mode (tick_pulses mode (divided_of t.ticks (ticks_of 16)).pulse)
    (not_terminal t mode l h))

-- a tick leaves one less
pub timer_falls : (t : Timer) (mode : ℕ) → t.ticks.0 < 16 → 0 < (timer_room t mode).0
    → (timer_room t mode).0 ≤ (timer_room (timer_passed t mode (ticks_of 1)) mode).0 + 1
unfolding timer_room running_room sixteenths_room timer_passed counted_by pick
timer_falls t mode l h = go (runs_in t mode) (eqb mode 6) (eqb mode 3 || eqb mode 7) refl refl refl (sixteenth t l)
  where
    small : (t.ticks.0 + 1) % 2 ^ 64 ≡ t.ticks.0 + 1
    small = mod-eq_of_lt (omega arith)

    go : (r s y : Bool) → runs_in t mode ≡ r → eqb mode 6 ≡ s → (eqb mode 3 || eqb mode 7) ≡ y → Sixteenth t
        → (timer_room t mode).0 ≤ (timer_room (timer_passed t mode (ticks_of 1)) mode).0 + 1
    go false s y r i j k = rw r (omega arith)
    go true false false r i j k = rw (r, i, j) (omega arith)
    go true true y r i j k = rw (pulses_one t mode l, r, i) (omega arith)
    go true false true r i j (within m e) =
        rw (pulses_one t mode l, r, i, j, e, small, mod-eq_of_lt m, lt-ltb t.ticks.0 16 l, lt-ltb (t.ticks.0 + 1) 16 m) (omega arith)
    go true false true r i j (ends m e) =
        let room : 0 < 15 - t.ticks.0 + 16 * counted_down t.count = rw (r, i, j, lt-ltb t.ticks.0 16 l) at h in
        rw (pulses_one t mode l, r, i, j, e, small, m) (omega arith)

-- ---- some ticks and then some more ----

counted_adds : (count a b : ℕ) → counted_by (counted_by count a) b ≡ counted_by count (a + b)
unfolding counted_by pick
counted_adds count zero b = ap (counted_by count) (sym (zero-add b))
counted_adds count (suc a) zero = ap (counted_by count) (sym (add-zero (suc a)))
counted_adds count (suc a) (suc b) =
    rw (eqb-suc-zero a, eqb-suc-zero b, ne_eqb (suc a + suc b) 0 (omega arith))
    (mod-add-mod (count + 65535 * suc a) 65536 (65535 * suc b) ∙ ap (λ (k : ℕ). k % 65536) sum)
  where
    sum : count + 65535 * suc a + 65535 * suc b ≡ count + 65535 * (suc a + suc b)
    sum = omega arith

-- where it runs, and where it does not
counted_on : (r : Bool) (count a b c : ℕ) → a + b ≡ c
    → pick r (counted_by (pick r (counted_by count a) count) b) (pick r (counted_by count a) count) ≡ pick r (counted_by count c) count
unfolding pick
counted_on true count a b c e = counted_adds count a b ∙ ap (counted_by count) e
counted_on false count a b c e = refl

-- no sum on the way comes to 2^64
first_small : (p n m : ℕ) → p + (n + m) < 2 ^ 64 → (p + n) % 2 ^ 64 ≡ p + n
first_small p n m l = mod-eq_of_lt (omega (arith, l))

then_small : (p n m : ℕ) → p + (n + m) < 2 ^ 64 → ((p + n) % 16 + m) % 2 ^ 64 ≡ (p + n) % 16 + m
then_small p n m l = mod-eq_of_lt (omega (arith, l))

-- the pulses of the first ticks and of those after them
pulses_add : (t : Timer) (mode n m : ℕ) → t.ticks.0 + (n + m) < 2 ^ 64
    → pulses_in t mode (ticks_of n) + pulses_in (timer_passed t mode (ticks_of n)) mode (ticks_of m) ≡ pulses_in t mode (ticks_of (n + m))
unfolding pulses_in timer_passed pick
pulses_add t mode n m l = go (eqb mode 6) (eqb mode 3 || eqb mode 7) refl refl
  where
    go : (s y : Bool) → eqb mode 6 ≡ s → (eqb mode 3 || eqb mode 7) ≡ y
        → pulses_in t mode (ticks_of n) + pulses_in (timer_passed t mode (ticks_of n)) mode (ticks_of m) ≡ pulses_in t mode (ticks_of (n + m))
    go true y i j = rw i
    go false false i j = rw (i, j)
    go false true i j =
        rw (i, j, first_small t.ticks.0 n m l, then_small t.ticks.0 n m l, mod-eq_of_lt l) (omega arith)

pub timer_adds : (t : Timer) (mode n m : ℕ) → t.ticks.0 + (n + m) < 2 ^ 64
    → timer_passed (timer_passed t mode (ticks_of n)) mode (ticks_of m) ≡ timer_passed t mode (ticks_of (n + m))
unfolding timer_passed
timer_adds t mode n m l = rw (phase, count)
  where
    p : ℕ
    p = t.ticks.0

    phase : ((p + n) % 2 ^ 64 % 16 + m) % 2 ^ 64 % 16 ≡ (p + (n + m)) % 2 ^ 64 % 16
    phase =
        rw (first_small p n m l, then_small p n m l, mod-eq_of_lt l)
        (mod-add-mod (p + n) 16 m ∙ ap (λ (k : ℕ). k % 16) (add_assoc p n m))

    count : pick (runs_in t mode) (counted_by (pick (runs_in t mode) (counted_by t.count (pulses_in t mode (ticks_of n))) t.count)
        (pulses_in (timer_passed t mode (ticks_of n)) mode (ticks_of m)))
        (pick (runs_in t mode) (counted_by t.count (pulses_in t mode (ticks_of n))) t.count)
        ≡ pick (runs_in t mode) (counted_by t.count (pulses_in t mode (ticks_of (n + m)))) t.count
    count = counted_on (runs_in t mode) t.count _ _ _ (pulses_add t mode n m l)

-- no tick
pub timer_none : (t : Timer) (mode : ℕ) → t.ticks.0 < 16 → timer_passed t mode (ticks_of 0) ≡ t
unfolding timer_passed pulses_in counted_by pick
timer_none t mode l = go (runs_in t mode) (eqb mode 6) (eqb mode 3 || eqb mode 7) refl refl refl
  where
    same : (t.ticks.0 + 0) % 2 ^ 64 ≡ t.ticks.0
    same = rw add-zero (mod-eq_of_lt (omega arith))

    none : t.ticks.0 / 16 ≡ 0
    none = omega (arith, l)

    go : (r s y : Bool) → runs_in t mode ≡ r → eqb mode 6 ≡ s → (eqb mode 3 || eqb mode 7) ≡ y → timer_passed t mode (ticks_of 0) ≡ t
    go false s y r i j = rw (r, same, mod-eq_of_lt l)
    go true true y r i j = rw (r, i, same, mod-eq_of_lt l)
    go true false true r i j = rw (r, i, j, same, none, mod-eq_of_lt l)
    go true false false r i j = rw (r, i, j, same, mod-eq_of_lt l)

-- The counter/timer keeps its promises. A counter has gone down by one a pulse, modulo 65,536; a timer has gone m % n into its run of n
-- pulses, the m / n before it whole: each by one step, and by induction on the pulses. Assumes nothing.
use Rattle.std.proofs.Common.{◌≡◌, ℕ, zero, suc, ◌+◌, ◌-◌, ◌*◌, ◌/◌, ◌%◌, ◌<◌, ◌≤◌, Bool, true, false, not, ◌&&◌, ◌||◌, eqb, leb, sym, refl, ap, ◌∙◌, ap₂, add-zero, add-suc, zero-add, arith, eq-eqb, ne_eqb, le-leb}
use mathlib.Core.Bool.{or-false, or_assoc}
use native.Mathlib.Decide.{dec_le}
use native.Mathlib.Nat.{sub-zero, zero-mod, zero-div}
use lib.Dec.{eqb-suc-zero}
use borrow.Author.Tests.{lt-leb}
use Rattle.format.specs.Pick.{pick}
use Rattle.format.proofs.Laws.Pick.{pick_all, pick_yes, pick_no}
use Rattle.dividers.proofs.Laws.Runs.{Turn, turn, first_whole, both_runs, alternates}
use Rattle.dividers.proofs.Laws.Runs.Turn.{goes, ends}
use Rattle.timer_state.specs.declared.counting.Counted.{Counted}
use Rattle.timer_state.specs.declared.counting.Timer.{Timer}
use Rattle.timer_state.specs.Counting.{with_count, with_ready, mode_of, is_timer, counted_down, counter_pulsed, timer_pulsed, pulsed_by}
use Rattle.timer.specs.Timer.{started_of, stopped_of, mode_changed}
use Rattle.timer.specs.Counts.{after_pulses, pulses_of, Counts, Gone, Toggles, Obeys}
use Rattle.timer.proofs.Modes.{timer_mode}

-- ---- the pulses of a preload ----

record Stands (preload n : ℕ) : Type 0 where
  some : 0 < n
  most : n ≤ 65536
  loads : n % 65536 ≡ preload

stands : (preload : ℕ) → preload < 65536 → Stands preload (pulses_of preload)
unfolding pick
stands zero h = record { some = omega arith; most = omega arith; loads = refl }
stands (suc p) h = rw (ne_eqb (suc p) 0 (omega arith)) (record { some = omega arith; most = omega arith; loads = omega arith })

-- ---- a counter ----

-- where a counter that was loaded has come to after m pulses
abbrev gone : ℕ → ℕ → ℕ
gone preload m = (preload + 65535 * m) % 65536

gone_zero : (preload n m : ℕ) → Stands preload n → 0 < m → eqb (gone preload m) 0 ≡ (leb n m && eqb ((m - n) % 65536) 0)
gone_zero preload n m s z = go (dec_le n m) ((m - n) % 65536) refl
  where
    go : Dec (n ≤ m) → (r : ℕ) → (m - n) % 65536 ≡ r → eqb (gone preload m) 0 ≡ (leb n m && eqb ((m - n) % 65536) 0)
    go (no h) r e = rw (lt-leb n m (omega arith), ne_eqb (gone preload m) 0 (omega arith))
    go (yes h) zero e = rw (le-leb n m h, e, eq-eqb (gone preload m) 0 (omega arith))
    go (yes h) (suc r) e = rw (le-leb n m h, e, ne_eqb (gone preload m) 0 (omega arith), eqb-suc-zero r)

-- it sets the bit the first time that it comes to 0
first_zero : (preload n m : ℕ) → Stands preload n → (leb n m || eqb (gone preload (suc m)) 0) ≡ leb n (suc m)
first_zero preload n m s = rw (gone_zero preload n (suc m) s (omega arith)) (go (dec_le n m) (dec_le n (suc m)))
  where
    go : Dec (n ≤ m) → Dec (n ≤ suc m) → (leb n m || leb n (suc m) && eqb ((suc m - n) % 65536) 0) ≡ leb n (suc m)
    go (yes h) k = rw (le-leb n m h, le-leb n (suc m) (omega arith))
    go (no h) (yes k) = let e : (suc m - n) % 65536 ≡ 0 = omega arith in rw (lt-leb n m (omega arith), le-leb n (suc m) k, e)
    go (no h) (no k) = rw (lt-leb n m (omega arith), lt-leb n (suc m) (omega arith))

counter_pulse : (t : Timer) (mode : ℕ) → is_timer mode ≡ false → t.running ≡ true
    → pulsed_by t mode true
    ≡ record { timer = with_ready (with_count t (counted_down t.count) t.output) (t.ready || eqb (counted_down t.count) 0); toggled = false }
unfolding pulsed_by counter_pulsed pick
counter_pulse t mode h r = rw (h, r)

-- a running counter after m pulses
record Down (preload m : ℕ) (t : Timer) : Type 0 where
  running : t.running ≡ true
  count : t.count ≡ gone preload m

down_first : (t : Timer) (mode : ℕ) → is_timer mode ≡ false → t.preload < 65536 → Down t.preload 0 (started_of t mode)
unfolding started_of pick
down_first t mode h l = rw h (record { running = refl; count = omega arith })

down_more : (t : Timer) (mode preload m : ℕ) → is_timer mode ≡ false → Down preload m t → Down preload (suc m) (pulsed_by t mode true).timer
down_more t mode preload m h d = let c = d.count in rw (counter_pulse t mode h d.running) (record { running = d.running; count = omega arith })

down_ready : (t : Timer) (mode preload m : ℕ) → is_timer mode ≡ false → Down preload m t
    → (pulsed_by t mode true).timer.ready ≡ (t.ready || eqb (gone preload (suc m)) 0)
down_ready t mode preload m h d =
    let c = d.count in
    let e : counted_down t.count ≡ gone preload (suc m) = omega arith in
    rw (counter_pulse t mode h d.running, e)

-- a start of a counter leaves the bit
counter_started : (t : Timer) (mode : ℕ) → is_timer mode ≡ false → (started_of t mode).ready ≡ t.ready
unfolding started_of pick
counter_started t mode h = rw h

-- a halted counter takes no pulse
halted : (t : Timer) (mode : ℕ) → is_timer mode ≡ false → t.running ≡ false → pulsed_by t mode true ≡ record { timer = t; toggled = false }
unfolding pulsed_by counter_pulsed pick
halted t mode h r = rw (h, r)

counter_after : (t : Timer) (mode m : ℕ) → is_timer mode ≡ false → t.preload < 65536
    → Down t.preload m (after_pulses pulsed_by mode (started_of t mode) m)
unfolding after_pulses
counter_after t mode zero h l = down_first t mode h l
counter_after t mode (suc m) h l = down_more (after_pulses pulsed_by mode (started_of t mode) m) mode t.preload m h (counter_after t mode m h l)

-- a bit that was set before stays set
counter_ready : (t : Timer) (mode m : ℕ) → is_timer mode ≡ false → t.preload < 65536
    → (after_pulses pulsed_by mode (started_of t mode) m).ready ≡ (t.ready || leb (pulses_of t.preload) m)
unfolding after_pulses
counter_ready t mode zero h l =
    let s = (stands t.preload l).some in
    rw (lt-leb (pulses_of t.preload) 0 s, or-false) (counter_started t mode h)
counter_ready t mode (suc m) h l =
    down_ready (after_pulses pulsed_by mode (started_of t mode) m) mode t.preload m h (counter_after t mode m h l)
    ∙ ap (λ (x : Bool). x || eqb (gone t.preload (suc m)) 0) (counter_ready t mode m h l)
    ∙ or_assoc t.ready (leb (pulses_of t.preload) m) (eqb (gone t.preload (suc m)) 0)
    ∙ ap (◌||◌ t.ready) (first_zero t.preload (pulses_of t.preload) m (stands t.preload l))

pub counts : Counts pulsed_by started_of
counts =
    record {
      takes = λ t mode h. counter_pulse t mode (timer_mode mode ∙ h);
      halted = λ t mode h. halted t mode (timer_mode mode ∙ h);
      count = λ t mode m h l. (counter_after t mode m (timer_mode mode ∙ h) l).count;
      terminal =
          λ t mode m h l z.
          rw (counter_after t mode m (timer_mode mode ∙ h) l).count (gone_zero t.preload (pulses_of t.preload) m (stands t.preload l) z);
      sets = λ t mode m h l. counter_ready t mode m (timer_mode mode ∙ h) l;
    }

-- ---- a timer ----

timer_pulse : (t : Timer) (mode : ℕ) → is_timer mode ≡ true → pulsed_by t mode true ≡ timer_pulsed t
unfolding pulsed_by pick
timer_pulse t mode h = rw h

-- a timer after m pulses
record Turned (preload n m : ℕ) (t : Timer) : Type 0 where
  loaded : t.preload ≡ preload
  count : t.count ≡ (n - m % n) % 65536
  output : t.output ≡ eqb (m / n % 2) 0

-- what one more pulse leaves
abbrev Turns : ℕ → ℕ → ℕ → Counted → Type 0
Turns preload n m c = Turned preload n m c.timer × (c.toggled ≡ eqb (m % (2 * n)) 0)

turned_more : (t : Timer) (mode preload n m : ℕ) → is_timer mode ≡ true → Stands preload n → Turned preload n m t
    → Turns preload n (suc m) (pulsed_by t mode true)
unfolding timer_pulsed
turned_more t mode preload n m timer s d = rw (timer_pulse t mode timer) (go (turn n m s.some))
  where
    go : Turn n m → Turns preload n (suc m) (timer_pulsed t)
    go (goes h e q) =
        let c = d.count in
        let down : counted_down t.count ≡ n - (m % n + 1) = omega arith in
        rw (pick_no _ _ _ (ne_eqb (counted_down t.count) 0 (omega arith))) (
          record { loaded = d.loaded; count = rw (down, e) (omega arith); output = rw q d.output },
          rw (both_runs n (suc m) s.some, e, ne_eqb (m % n + 1) 0 (omega arith)),
        )
    go (ends h e q) =
        let c = d.count in
        let high : not t.output ≡ eqb (suc m / n % 2) 0 = rw (q, d.output) (sym (alternates (m / n))) in
        rw (pick_yes _ _ _ (eq-eqb (counted_down t.count) 0 (omega arith))) (
          record { loaded = d.loaded; count = rw (e, d.loaded, sub-zero) (sym s.loads); output = high },
          rw (both_runs n (suc m) s.some, e) high,
        )

turned_first : (t : Timer) (mode : ℕ) → is_timer mode ≡ true → t.preload < 65536 → Turned t.preload (pulses_of t.preload) 0 (started_of t mode)
unfolding started_of pick
turned_first t mode h l =
    let s = (stands t.preload l).loads in
    rw h (record { loaded = refl; count = rw (zero-mod, sub-zero) (sym s); output = rw zero-div })

turned_after : (t : Timer) (mode preload n k m : ℕ) → is_timer mode ≡ true → Stands preload n → Turned preload n k t
    → Turned preload n (k + m) (after_pulses pulsed_by mode t m)
unfolding after_pulses
turned_after t mode preload n k zero h s d = rw (add-zero k) d
turned_after t mode preload n k (suc m) h s d =
    rw (add-suc k m) (turned_more (after_pulses pulsed_by mode t m) mode preload n (k + m) h s (turned_after t mode preload n k m h s d)).0

timer_after : (t : Timer) (mode m : ℕ) → is_timer mode ≡ true → t.preload < 65536
    → Turned t.preload (pulses_of t.preload) m (after_pulses pulsed_by mode (started_of t mode) m)
timer_after t mode m h l =
    rw (zero-add m) at
    (turned_after (started_of t mode) mode t.preload (pulses_of t.preload) 0 m h (stands t.preload l) (turned_first t mode h l))

timer_high : (t : Timer) (mode m : ℕ) → is_timer mode ≡ true → t.preload < 65536
    → (pulsed_by (after_pulses pulsed_by mode (started_of t mode) m) mode true).toggled ≡ eqb (suc m % (2 * pulses_of t.preload)) 0
timer_high t mode m h l = (turned_more _ mode t.preload (pulses_of t.preload) m h (stands t.preload l) (timer_after t mode m h l)).1

-- the bit is set by a toggle to high, and by nothing else
pulse_ready : (t : Timer) (mode : ℕ) → is_timer mode ≡ true → (pulsed_by t mode true).timer.ready ≡ (t.ready || (pulsed_by t mode true).toggled)
unfolding timer_pulsed
pulse_ready t mode h =
    rw (timer_pulse t mode h)
    (pick_all (λ (c : Counted). c.timer.ready ≡ (t.ready || c.toggled)) (eqb (counted_down t.count) 0) _ _ refl (sym (or-false t.ready)))

-- a start of a timer sets it where the output was low
timer_started : (t : Timer) (mode : ℕ) → is_timer mode ≡ true → (started_of t mode).ready ≡ (t.ready || not t.output)
unfolding started_of pick
timer_started t mode h = rw h

timer_ready : (t : Timer) (mode m : ℕ) → is_timer mode ≡ true → t.preload < 65536
    → (after_pulses pulsed_by mode (started_of t mode) m).ready ≡ ((t.ready || not t.output) || leb (2 * pulses_of t.preload) m)
unfolding after_pulses
timer_ready t mode zero h l =
    let s = (stands t.preload l).some in
    rw (lt-leb (2 * pulses_of t.preload) 0 (omega arith), or-false) (timer_started t mode h)
timer_ready t mode (suc m) h l =
    let s = (stands t.preload l).some in
    pulse_ready (after_pulses pulsed_by mode (started_of t mode) m) mode h
    ∙ ap₂ ◌||◌ (timer_ready t mode m h l) (timer_high t mode m h l)
    ∙ or_assoc (t.ready || not t.output) (leb (2 * pulses_of t.preload) m) (eqb (suc m % (2 * pulses_of t.preload)) 0)
    ∙ ap (◌||◌ (t.ready || not t.output)) (sym (first_whole (2 * pulses_of t.preload) m (omega arith)))

-- the statement's record and the one of the proof
turned : (k : ℕ) (t : Timer) → Gone k t → Turned t.preload (pulses_of t.preload) k t
turned k t g = record { loaded = refl; count = g.count; output = g.output }

gone_by : (preload k : ℕ) (t : Timer) → Turned preload (pulses_of preload) k t → Gone k t
gone_by preload k t d = record { count = rw d.loaded d.count; output = rw d.loaded d.output }

pub toggles : Toggles pulsed_by started_of
toggles =
    record {
      goes = λ t mode k m h l g. gone_by t.preload (k + m) _ (turned_after t mode t.preload _ k m (timer_mode mode ∙ h) (stands t.preload l) (turned k t g));
      high = λ t mode k h l g. (turned_more t mode t.preload _ k (timer_mode mode ∙ h) (stands t.preload l) (turned k t g)).1;
      sets = λ t mode h. pulse_ready t mode (timer_mode mode ∙ h);
      output = λ t mode m h l. (timer_after t mode m (timer_mode mode ∙ h) l).output;
      ready = λ t mode m h l. timer_ready t mode m (timer_mode mode ∙ h) l;
    }

-- ---- a start, a stop, another mode ----

pub obeys : Obeys started_of stopped_of mode_changed
unfolding started_of stopped_of mode_changed pick
obeys =
    record {
      starts_counter = λ t mode h. rw (timer_mode mode ∙ h);
      stops_counter = λ t mode h. rw (timer_mode mode ∙ h);
      starts_timer = λ t mode h. rw (timer_mode mode ∙ h);
      stops_timer = λ t mode h. rw (timer_mode mode ∙ h);
      changes = λ t before after h. rw (h, timer_mode (mode_of after));
      unchanged = λ t before after h. rw h;
    }

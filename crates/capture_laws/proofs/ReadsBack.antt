-- The theorem: order 6's dumps read back as their waves. A dump is a text that order 7 reads; at each tick up to its last time the level that its lines give a wire is the chip's line, by what order 6's dump shows. Assumes nothing.
use Prim.Native.Nat.{ℕ, zero, suc, ◌+◌, ◌*◌, ◌≤◌, ◌<◌}
use mathlib.Core.Path.{◌≡◌, refl, sym, ◌∙◌, ap, subst}
use mathlib.Core.Bool.{Bool, true, false}
use mathlib.Core.List.{List, [], ◌∷◌, ◌++◌, map}
use native.Mathlib.Nat.{mul-le-mul_right}
use native.Mathlib.Omega.{arith}
use lib.Dec.{eqb}
use lib.ListN.{length-map}
use borrow.Author.Tests.{eqb-true}
use Rattle.format.specs.Pick.{pick}
use Rattle.format.specs.Format.{format_of}
use Rattle.feed.specs.declared.feed.Setting.{Setting}
use Rattle.character.specs.declared.character.Character.{Character}
use Rattle.sampler_state.specs.State.{hunting}
use Rattle.sampler.specs.Lines.{at16, arrivals}
use Rattle.events.specs.declared.events.Event.{Event}
use Rattle.chip_answers.specs.declared.answers.Lines.{Lines}
use Rattle.chip_device.specs.declared.device.Device.{Device}
use Rattle.chip_step.specs.Chip.{step_of}
use Rattle.chip_fast.specs.Fast.{is_tick}
use Rattle.vcd_text.specs.Header.{chip_wires}
use Rattle.vcd_text.specs.Time.{time_of}
use Rattle.vcd_text.specs.Lines.{Line, level_at, times_of}
use Rattle.vcd_dump.specs.Waves.{values_of, waves_from}
use Rattle.vcd_dump.specs.Dump.{events_text}
use Rattle.vcd_laws.specs.Shows.{Accepted, ticks_in, TimeEnds}
use Rattle.vcd_laws.proofs.Waves.{waves_count}
use Rattle.vcd_laws.proofs.Lines.{lines_of}
use Rattle.vcd_laws.proofs.Shows.{dump_lines, shows}
use Rattle.vcd_capture.specs.declared.capturing.Asked.{Asked}
use Rattle.vcd_capture.specs.Capture.{number_of}
use Rattle.vcd_capture.specs.Waves.{level_pulses}
use Rattle.capture_laws.specs.Captures.{period_for, Heard, last_of, HeardBy, sampled_on, Logged}
use Rattle.capture_laws.specs.ReadsBack.{events_to, chip_line, shown_of, ReadsBack}
use Rattle.capture_laws.proofs.Captures.{log_on, captures}
use Rattle.capture_laws.proofs.Dumps.{dump_says, lines_none, last_within}

-- ---- the events up to a tick ----

record Split (n : ℕ) (es : List Event) : Type 0 where
  later : List Event
  whole : es ≡ events_to n es ++ later
  ends : TimeEnds later
  ticks : ticks_in (events_to n es) ≡ n

module _ (e : Event) (es : List Event) where
  split-now : is_tick e ≡ true → Split zero (e ∷ es)
  unfolding events_to TimeEnds ticks_in pick
  split-now q = record { later = e ∷ es; whole = rw q; ends = q; ticks = rw q }

  split-on : is_tick e ≡ false → Split zero es → Split zero (e ∷ es)
  unfolding events_to ticks_in pick
  split-on q s =
      record { later = s.later; whole = rw q (ap (λ (l : List Event). e ∷ l) s.whole); ends = s.ends; ticks = rw (q, q) s.ticks }

  split-tick : (n : ℕ) → is_tick e ≡ true → Split n es → Split (suc n) (e ∷ es)
  unfolding events_to ticks_in pick
  split-tick n q s =
      record { later = s.later; whole = rw q (ap (λ (l : List Event). e ∷ l) s.whole); ends = s.ends; ticks = rw q (ap suc s.ticks) }

  split-other : (n : ℕ) → is_tick e ≡ false → Split (suc n) es → Split (suc n) (e ∷ es)
  unfolding events_to ticks_in pick
  split-other n q s =
      record { later = s.later; whole = rw q (ap (λ (l : List Event). e ∷ l) s.whole); ends = s.ends; ticks = rw q s.ticks }

split : (n : ℕ) (es : List Event) → n ≤ ticks_in es → Split n es
unfolding events_to TimeEnds ticks_in pick
split zero [] h = record { later = []; whole = refl; ends = tt; ticks = refl }
split (suc n) [] h = absurd (omega arith)
split zero (e ∷ es) h = go (is_tick e) refl (split zero es (omega arith))
  where
    go : (t : Bool) → is_tick e ≡ t → Split zero es → Split zero (e ∷ es)
    go true q s = split-now e es q
    go false q s = split-on e es q s
split (suc n) (e ∷ es) h = go (is_tick e) refl h (split n es) (split (suc n) es)
  where
    go : (t : Bool) → is_tick e ≡ t → suc n ≤ pick t (suc (ticks_in es)) (ticks_in es) → (n ≤ ticks_in es → Split n es)
        → (suc n ≤ ticks_in es → Split (suc n) es) → Split (suc n) (e ∷ es)
    go true q l one more = split-tick e es n q (one (omega arith))
    go false q l one more = split-other e es n q (more l)

-- at each tick of the dump, the level that its lines give
line_at : (d : Device) (es : List Event) → Accepted d es → (k : ℕ) → k < 11 → (n : ℕ) → n ≤ ticks_in es
    → sampled_on (33 + k) (dump_lines d es) n ≡ chip_line d es k n
line_at d es ok k l n h =
    let s = split n es h in
    let all : Accepted d (events_to n es ++ s.later) = subst (Accepted d) s.whole ok in
    let shown = shows.tells.show d (events_to n es) s.later all s.ends k l true in
    let same : sampled_on (33 + k) (dump_lines d es) n ≡ level_at (time_of (ticks_in (events_to n es))) (33 + k) true (dump_lines d (events_to n es ++ s.later)) =
    ap (λ (l : List Event). sampled_on (33 + k) (dump_lines d l) n) s.whole
    ∙ ap (λ (m : ℕ). level_at (time_of m) (33 + k) true (dump_lines d (events_to n es ++ s.later))) (sym s.ticks) in
    same ∙ shown

-- ---- pulses of two levels that are the same ----

pulses_same : (one two : ℕ → Bool) (period : ℕ) (f : Setting) (n first : ℕ)
    → ((j : ℕ) → j < first + n → one (j * period) ≡ two (j * period)) → level_pulses one period f first n ≡ level_pulses two period f first n
unfolding level_pulses
pulses_same one two period f zero first h = refl
pulses_same one two period f (suc n) first h =
    rw (h first (omega arith), pulses_same one two period f n (suc first) (λ (j : ℕ) (l : j < suc first + n). h j (omega arith)))

heard_same : (q : Asked) (one two : ℕ → Bool) (last : ℕ) (cs : List Character) → ((n : ℕ) → time_of n ≤ last → one n ≡ two n)
    → Heard q one last cs → Heard q two last cs
heard_same q one two last cs same h =
    let in_time = h.up_to in
    let within : (j : ℕ) → j < 1 + h.pulses → one (j * period_for q) ≡ two (j * period_for q) = λ (j : ℕ) (l : j < 1 + h.pulses).
    let less : j * period_for q ≤ h.pulses * period_for q = mul-le-mul_right (period_for q) (omega arith) in
    same (j * period_for q) (omega arith) in
    record {
      pulses = h.pulses;
      up_to = h.up_to;
      no_more = h.no_more;
      are = h.are ∙ ap (arrivals (hunting false)) (pulses_same one two (period_for q) (at16 (format_of q.mr1)) h.pulses 1 within);
    }

by_same : (q : Asked) (one two : ℕ → Bool) (end : ℕ) (times : List ℕ) (cs : List Character)
    → ((t : ℕ) (ts : List ℕ) → times ≡ t ∷ ts → last_of t ts ≤ end) → ((n : ℕ) → time_of n ≤ end → one n ≡ two n)
    → HeardBy q one times cs → HeardBy q two times cs
unfolding HeardBy
by_same q one two end [] cs l same h = h
by_same q one two end (t ∷ ts) cs l same h =
    let last = l t ts refl in
    heard_same q one two (last_of t ts) cs (λ (n : ℕ) (m : time_of n ≤ last_of t ts). same n (omega arith)) h

-- ---- the theorem ----

read_waves : (d : Device) (es : List Event) → Accepted d es → (q : Asked) (k : ℕ) → k < 11 → (log : List ℕ)
    → Logged q (sampled_on (33 + k) (dump_lines d es)) (times_of (dump_lines d es)) log
    → Logged q (chip_line d es k) (times_of (dump_lines d es)) log
read_waves d es ok q k l log h =
    let waves = waves_from step_of d es in
    let many = waves_count d es ok in
    let long = length-map waves values_of in
    let none = lines_none (ticks_in es) 0 [] (map values_of waves) (omega arith) in
    record {
      characters = h.characters;
      heard = by_same q (sampled_on (33 + k) (dump_lines d es)) (chip_line d es k) (time_of (ticks_in es)) (times_of (dump_lines d es)) h.characters
          (λ (t : ℕ) (ts : List ℕ) (e : times_of (dump_lines d es) ≡ t ∷ ts). last_within (time_of (ticks_in es)) (dump_lines d es) t ts none e)
          (λ (n : ℕ) (m : time_of n ≤ time_of (ticks_in es)). line_at d es ok k l n (omega arith))
          h.heard;
      bytes = h.bytes;
    }

either_wire : (j k : ℕ) (second : Bool) → pick second (33 + k) (33 + j) ≡ 33 + pick second k j
unfolding pick
either_wire j k true = refl
either_wire j k false = refl

either_below : (j k : ℕ) (second : Bool) → j < 11 → k < 11 → pick second k j < 11
unfolding pick
either_below j k true a b = b
either_below j k false a b = a

-- ---- the events before a refused one ----

shown_ok : (d : Device) (es : List Event) → Accepted d (shown_of d es)
unfolding Accepted shown_of pick
shown_ok d [] = tt
shown_ok d (e ∷ es) = go (eqb (step_of d e).number 0) refl (shown_ok (step_of d e).state es)
  where
    go : (t : Bool) → eqb (step_of d e).number 0 ≡ t → Accepted (step_of d e).state (shown_of (step_of d e).state es)
        → Accepted d (pick t (e ∷ shown_of (step_of d e).state es) [])
    go true z h = (eqb-true (step_of d e).number 0 z, h)
    go false z h = tt

shown_waves : (d : Device) (es : List Event) → waves_from step_of d (shown_of d es) ≡ waves_from step_of d es
unfolding waves_from shown_of pick
shown_waves d [] = refl
shown_waves d (e ∷ es) = go (eqb (step_of d e).number 0) refl (shown_waves (step_of d e).state es)
  where
    go : (t : Bool) → eqb (step_of d e).number 0 ≡ t → waves_from step_of (step_of d e).state (shown_of (step_of d e).state es) ≡ waves_from step_of (step_of d e).state es
        → waves_from step_of d (shown_of d (e ∷ es)) ≡ waves_from step_of d (e ∷ es)
    go true z h = rw (z, z, h)
    go false z h = rw z

shown_lines : (d : Device) (es : List Event) → dump_lines d (shown_of d es) ≡ dump_lines d es
shown_lines d es = ap (λ (ls : List Lines). lines_of 0 [] (map values_of ls)) (shown_waves d es)

all_waves : (d : Device) (es : List Event) (q : Asked) (k : ℕ) → k < 11 → (log : List ℕ)
    → Logged q (sampled_on (33 + k) (dump_lines d es)) (times_of (dump_lines d es)) log
    → Logged q (chip_line d (shown_of d es) k) (times_of (dump_lines d es)) log
all_waves d es q k l log h =
    let e = shown_lines d es in
    subst (λ (ls : List Line). Logged q (chip_line d (shown_of d es) k) (times_of ls) log) e
    (read_waves d (shown_of d es) (shown_ok d es) q k l log
    (subst (λ (ls : List Line). Logged q (sampled_on (33 + k) ls) (times_of ls) log) (sym e) h))

pub reads_back : ReadsBack number_of log_on dump_lines
reads_back =
    record {
      read = λ d es few q m a b j k na nb room_a room_b fa fb.
          captures.none q (events_text d es) a b room_a room_b m chip_wires (dump_lines d es) (33 + j) (33 + k) (dump_says d es few) na nb (shows.tells.rise d es) fa fb;
      waves = λ d es few q m a b j k lj lk na nb second.
          all_waves d es q (pick second k j) (either_below j k second lj lk) (log_on second q (events_text d es) a b)
          (subst (λ (c : ℕ). Logged q (sampled_on c (dump_lines d es)) (times_of (dump_lines d es)) (log_on second q (events_text d es) a b)) (either_wire j k second)
          (captures.hears q (events_text d es) a b m chip_wires (dump_lines d es) (33 + j) (33 + k) (dump_says d es few) na nb (shows.tells.rise d es) second));
    }

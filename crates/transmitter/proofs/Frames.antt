-- A character sent. Once it has started the shifter holds its frame and TxD is the level of the last pulse (`Sending`); a pulse takes that
-- one level on, every other input but a reset leaves it, and over lists both follow by induction. Assumes nothing.
use Prim.Native.Nat.{ℕ, zero, suc, ◌+◌, ◌-◌, ◌/◌, ◌≤◌, ◌<◌}
use mathlib.Core.Path.{◌≡◌, refl, sym, ap, subst, ◌∙◌}
use mathlib.Core.Bool.{Bool, true, false, and-eq-true_iff, true≢false}
use mathlib.Core.List.{List, [], ◌∷◌, ◌++◌, append_assoc, append-nil}
use native.Mathlib.Omega.{arith}
use native.Mathlib.Decide.{dec_lt}
use native.Mathlib.Numerals.{add-one}
use native.Mathlib.Nat.{add-zero, zero-add}
use lib.Dec.{eqb, ltb, leb}
use lib.ListN.{length, get_or, drop, replicate, drop_of_length-le, get_or-eq_default}
use lib.Seq.{drop-cons}
use borrow.Author.Tests.{ltb-true, lt-ltb, le-leb}
use Rattle.format.specs.declared.counts.Pulses.{Pulses}
use Rattle.format.specs.Pick.{pick}
use Rattle.format.specs.Format.{format_of, stop_code_of}
use Rattle.format.proofs.Laws.Pick.{pick_yes, pick_no, pick_all}
use Rattle.frame.specs.Levels.{before_stop, frame, frame_bits_of, frame_length_of, level_of}
use Rattle.frame.proofs.Laws.Levels.{before_stop_most, length_before_stop, frame_length, frame_at_lem}
use Rattle.frame.proofs.Laws.Register.{register_at}
use Rattle.transmitter_state.specs.declared.sending.Standing.{Standing}
use Rattle.transmitter_state.specs.declared.state.Shifter.{Shifter}
use Rattle.transmitter_state.specs.declared.state.Transmitter.{Transmitter}
use Rattle.transmitter_state.specs.State.{with_holding, with_phase, with_shifter}
use Rattle.transmitter_state.specs.Sending.{can_start, taken_of, started_of, break_begun, idle_of, begun_of, bit_of_pulse, sent_on_of, pulsed_of}
use Rattle.transmitter.specs.declared.transmitter.Input.{Input}
use Rattle.transmitter.specs.declared.transmitter.Input.TheVariants.{Nothing, Pulse, Write, Enable, Disable, StartBreak, StopBreak, Reset, ChipReset, ModeChange}
use Rattle.transmitter.specs.Commands.{written_of, break_ended, break_asked}
use Rattle.transmitter.specs.Status.{shifter_empty}
use Rattle.transmitter.specs.Transmitter.{after_input}
use Rattle.transmitter.specs.Frames.{after, pulses_in, line, no_reset, free, Startable, frame_at, Sends, in_time, stream, frames_of, GoesBackToBack}
use Rattle.transmitter.proofs.Laws.Free.{free_begins, none_begins}

-- ---- the shifter's level is the frame's ----

level_is : (sixteen : Bool) (mr1 c byte i : ℕ)
    → level_of (frame_bits_of (format_of mr1) byte) (bit_of_pulse sixteen (record { 0 = i })) ≡ get_or (frame sixteen (format_of mr1) c byte) i true
unfolding bit_of_pulse pick
level_is sixteen mr1 c byte i = go sixteen (frame_at_lem sixteen (format_of mr1) c byte i)
  where
    fits : length (before_stop (format_of mr1) byte) ≤ 16
    fits =
        let most = before_stop_most mr1 in
        rw (length_before_stop (format_of mr1) byte) (omega arith)

    go : (k : Bool) → get_or (frame k (format_of mr1) c byte) i true ≡ get_or (before_stop (format_of mr1) byte) (i / pick k 16 1) true
        → level_of (frame_bits_of (format_of mr1) byte) (bit_of_pulse k (record { 0 = i })) ≡ get_or (frame k (format_of mr1) c byte) i true
    go true e = register_at (format_of mr1) byte (i / 16) fits ∙ sym e
    go false e =
        let one : i / 1 ≡ i = omega arith in
        register_at (format_of mr1) byte i fits ∙ sym (rw one at e)

-- "Start bit 0"
starts_low : (s : Standing) (byte : ℕ) → get_or (frame_at s byte) 0 true ≡ false
unfolding before_stop pick
starts_low s byte = go s.sixteen (frame_at_lem s.sixteen (format_of s.mr1) (stop_code_of s.mr2) byte 0)
  where
    go : (k : Bool) → get_or (frame_at s byte) 0 true ≡ get_or (before_stop (format_of s.mr1) byte) (0 / pick k 16 1) true
        → get_or (frame_at s byte) 0 true ≡ false
    go true e = e
    go false e = e

-- ---- a character under way ----

-- the pulses of a frame, which no byte changes
abbrev length_at : Standing → Pulses
length_at s = frame_length_of s.sixteen (format_of s.mr1) (stop_code_of s.mr2)

-- the shifter with the frame of a byte, of which so many pulses have come
abbrev holding_at : Standing → ℕ → ℕ → Shifter
holding_at s byte sent =
    record {
      frame = frame_bits_of (format_of s.mr1) byte;
      sixteen = s.sixteen;
      length = length_at s;
      sent = record { 0 = sent };
    }

module _ (s : Standing) (byte : ℕ) where
  -- level `i` of its frame is on the line
  record Sending (i : ℕ) (t : Transmitter) : Type 0 where
    phase : t.phase ≡ 1
    shifter : t.shifter ≡ holding_at s byte (suc i)
    level : t.txd ≡ get_or (frame_at s byte) i true

  long : length (frame_at s byte) ≡ (length_at s).0
  long = frame_length s.sixteen (format_of s.mr1) (stop_code_of s.mr2) byte

  -- whatever this pulse finds
  pulsed : {i : ℕ} {t : Transmitter} (u : Standing) → Sending i t → suc i < length (frame_at s byte)
      → after_input t (Pulse u) ≡ with_phase (with_shifter t (holding_at s byte (suc (suc i)))) 1 (get_or (frame_at s byte) (suc i) true)
  unfolding after_input pulsed_of sent_on_of pick
  pulsed {i} {t} u h l =
      let below : ltb (suc i) (length_at s).0 ≡ true = lt-ltb _ _ (rw long at l) in
      rw (h.phase, h.shifter, below, level_is s.sixteen s.mr1 (stop_code_of s.mr2) byte (suc i), add-one)

  pulsed-sending : {i : ℕ} {t : Transmitter} (u : Standing) → Sending i t → suc i < length (frame_at s byte) → Sending (suc i) (after_input t (Pulse u))
  pulsed-sending u h l = rw (pulsed u h l) (record { phase = refl; shifter = refl; level = refl })

  -- in a frame there is no break to end
  ended-sending : {i : ℕ} {t : Transmitter} → Sending i t → Sending i (break_ended t)
  unfolding break_ended pick
  ended-sending h = rw h.phase (record { phase = refl; shifter = h.shifter; level = h.level })

  written-sending : {i : ℕ} {t : Transmitter} (x : ℕ) → Sending i t → Sending i (written_of t x)
  unfolding written_of
  written-sending {i} {t} x h = pick_all (Sending i) t.enabled _ _ (record { phase = h.phase; shifter = h.shifter; level = h.level }) h

  asked-sending : {i : ℕ} {t : Transmitter} → Sending i t → Sending i (break_asked t)
  unfolding break_asked
  asked-sending {i} {t} h = pick_all (Sending i) (eqb t.phase 2) _ _ h (record { phase = h.phase; shifter = h.shifter; level = h.level })

  sends-on : (xs : List Input) {i : ℕ} {t : Transmitter} → Sending i t → no_reset xs ≡ true → i + pulses_in xs < length (frame_at s byte)
      → Sending (i + pulses_in xs) (after after_input t xs)
  unfolding after after_input pulses_in pick
  sends-on [] h k l = rw add-zero h
  sends-on (Nothing ∷ xs) h k l = sends-on xs h k l
  sends-on (Pulse u ∷ xs) {i} h k l =
      let one : i + suc (pulses_in xs) ≡ suc i + pulses_in xs = omega arith in
      rw one (sends-on xs (pulsed-sending u h (omega arith)) k (omega arith))
  sends-on (Write x ∷ xs) h k l = sends-on xs (written-sending x h) k l
  sends-on (Enable ∷ xs) h k l = sends-on xs (record { phase = h.phase; shifter = h.shifter; level = h.level }) k l
  sends-on (Disable ∷ xs) h k l =
      let ended = ended-sending h in
      sends-on xs (record { phase = ended.phase; shifter = ended.shifter; level = ended.level }) k l
  sends-on (StartBreak ∷ xs) h k l = sends-on xs (asked-sending h) k l
  sends-on (StopBreak ∷ xs) h k l = sends-on xs (ended-sending h) k l
  sends-on (Reset ∷ xs) h k l = absurd (true≢false (sym k))
  sends-on (ChipReset ∷ xs) h k l = absurd (true≢false (sym k))
  sends-on (ModeChange ∷ xs) h k l = absurd (true≢false (sym k))

  -- its last level is on the line
  over-free : {i : ℕ} {t : Transmitter} → Sending i t → suc i ≡ length (frame_at s byte) → free t ≡ true
  unfolding pick
  over-free {i} {t} h e =
      let all : leb (length_at s).0 (suc i) ≡ true = rw (← long, ← e) (le-leb (suc i) (suc i) (omega arith)) in
      rw (h.phase, h.shifter, all)

-- ---- the start ----

starts : {t : Transmitter} {s : Standing} → Startable t s → after_input t (Pulse s) ≡ started_of t s
unfolding begun_of pick
starts {t} {s} h = free_begins t s h.idle ∙ rw (h.enabled, h.full, h.clear)

started_sending : {t : Transmitter} {s : Standing} → Startable t s → Sending s t.holding 0 (after_input t (Pulse s))
unfolding taken_of
started_sending {t} {s} h = rw (starts h) (record { phase = refl; shifter = refl; level = sym (starts_low s t.holding) })

-- ---- one character ----

sending_after : (t : Transmitter) (s : Standing) (xs : List Input) → Startable t s → no_reset xs ≡ true → pulses_in xs < length (frame_at s t.holding)
    → Sending s t.holding (pulses_in xs) (after after_input t (Pulse s ∷ xs))
unfolding after
sending_after t s xs h k l = rw zero-add at (sends-on s t.holding xs (started_sending h) k (rw zero-add l))

-- a pulse that finds nothing to start leaves the shifter empty
empties : (t : Transmitter) (u : Standing) → free t ≡ true → can_start t u ≡ false → shifter_empty (after_input t (Pulse u)) ≡ true
empties t u f c =
    rw (none_begins t u f c) (pick_all (λ (n : Transmitter). shifter_empty n ≡ true) t.asked (break_begun t) (idle_of t) refl refl)

rests_on : (t : Transmitter) (s : Standing) → free t ≡ true → can_start t s ≡ false → t.asked ≡ false → after_input t (Pulse s) ≡ idle_of t
rests_on t s f c a = none_begins t s f c ∙ pick_no t.asked (break_begun t) (idle_of t) a

pub sends : Sends after_input
sends =
    record {
      level = λ t s xs h k l. (sending_after t s xs h k l).level;
      holds = λ t s xs h k l. rw (sending_after t s xs h k l).phase;
      leaves = λ t s h. rw (starts h) (record { enabled = refl; full = refl; holding = refl; asked = refl });
      inside = λ t s xs u h k l.
          rw (pulsed s t.holding u (sending_after t s xs h k (omega arith)) l) (record { enabled = refl; full = refl; holding = refl; asked = refl });
      over = λ t s xs h k e.
          let all = over-free s t.holding (sending_after t s xs h k (omega arith)) e in
          (all, λ u c. empties (after after_input t (Pulse s ∷ xs)) u all c);
      rests = rests_on;
    }

-- ---- characters back to back ----

-- what the pulses of a frame leave
record Same (t u : Transmitter) : Type 0 where
  enabled : u.enabled ≡ t.enabled
  full : u.full ≡ t.full
  holding : u.holding ≡ t.holding

cons_eq : {a b : Bool} {x y : List Bool} → a ≡ b → x ≡ y → ◌≡◌ {A = List Bool} (a ∷ x) (b ∷ y)
cons_eq e f = cc

-- Over the frame's next pulses the line has its next levels: it has the rest of them if it has the rest of them from there.
run : (s : Standing) (byte m i : ℕ) (t : Transmitter) (xs : List Input) (rest : List Bool) → Sending s byte i t → i + m < length (frame_at s byte)
    → ((u : Transmitter) → Sending s byte (i + m) u → Same t u → line after_input u xs ≡ drop (suc (i + m)) (frame_at s byte) ++ rest)
    → line after_input t (replicate m (Pulse s) ++ xs) ≡ drop (suc i) (frame_at s byte) ++ rest
unfolding line pick
run s byte zero i t xs rest h l k = rw add-zero at (k t (rw add-zero h) (record { enabled = refl; full = refl; holding = refl }))
run s byte (suc m) i t xs rest h l k =
    let one : suc i + m ≡ i + suc m = omega arith in
    let more : suc i < length (frame_at s byte) = omega arith in
    let p = pulsed s byte s h more in
    let next = pulsed-sending s byte s h more in
    let then =
    run s byte m (suc i) (after_input t (Pulse s)) xs rest next (omega arith)
    (λ u g e. rw one (k u (rw one at g) (record { enabled = rw p at e.enabled; full = rw p at e.full; holding = rw p at e.holding }))) in
    cons_eq next.level then ∙ rw (drop-cons (frame_at s byte) (suc i) true more)

-- and so from the start
run_first : (s : Standing) (m : ℕ) (t : Transmitter) (xs : List Input) (rest : List Bool) → Startable t s → m < length (frame_at s t.holding)
    → ((u : Transmitter) → Sending s t.holding m u → u.enabled ≡ true → line after_input u xs ≡ drop (suc m) (frame_at s t.holding) ++ rest)
    → line after_input t (replicate (suc m) (Pulse s) ++ xs) ≡ frame_at s t.holding ++ rest
unfolding line pick
run_first s m t xs rest h l k =
    let levels : List Bool = frame_at s t.holding in
    let whole : levels ≡ get_or levels 0 true ∷ drop 1 levels = drop-cons levels 0 true (omega arith) in
    let then =
    run s t.holding m 0 (after_input t (Pulse s)) xs rest (started_sending h) (rw zero-add l)
    (λ u g e. rw zero-add (k u (rw zero-add at g) (e.enabled ∙ rw (starts h) h.enabled))) in
    cons_eq (started_sending h).level then ∙ sym (ap (λ (r : List Bool). r ++ rest) whole)

-- a frame has a start bit
some_level : (s : Standing) (byte : ℕ) → 0 < length (frame_at s byte)
some_level s byte = go (dec_lt 0 (length (frame_at s byte)))
  where
    go : Dec (0 < length (frame_at s byte)) → 0 < length (frame_at s byte)
    go (yes h) = h
    go (no h) = absurd (true≢false (sym (get_or-eq_default (frame_at s byte) true (omega arith)) ∙ starts_low s byte))

written_is : (t : Transmitter) (byte : ℕ) → t.enabled ≡ true → after_input t (Write byte) ≡ with_holding t true byte
unfolding after_input written_of
written_is t byte e = pick_yes t.enabled _ t e

-- Each byte is written in the frame before it, waits there, and can start where that frame is over.
goes : (s : Standing) (n : ℕ) (l : List (ℕ × ℕ)) (t : Transmitter) → ((byte : ℕ) → length (frame_at s byte) ≡ n) → Startable t s → in_time n l ≡ true
    → line after_input t (stream s n l) ≡ frames_of s t.holding l
unfolding line pick
goes s n [] t e h k =
    let long : length (frame_at s t.holding) ≡ n = e t.holding in
    let some = some_level s t.holding in
    let all : suc (n - 1) ≡ n = omega arith in
    let then =
    run_first s (n - 1) t [] [] h (omega arith) (λ u g i. rw (drop_of_length-le (frame_at s t.holding) {i = suc (n - 1)} (omega arith))) in
    ap (line after_input t) (sym (append-nil (replicate n (Pulse s))))
    ∙ subst (λ (k : ℕ). line after_input t (replicate k (Pulse s) ++ []) ≡ frame_at s t.holding ++ []) all then
    ∙ append-nil (frame_at s t.holding)
goes s n ((later, byte) ∷ l) t e h k =
    let long : length (frame_at s t.holding) ≡ n = e t.holding in
    let both = (and-eq-true_iff (ltb later n) (in_time n l)).0 k in
    let below = ltb-true later n both.0 in
    ap (line after_input t) (append_assoc (replicate (suc later) (Pulse s)) (Write byte ∷ replicate (n - suc later) (Pulse s)) (stream s n l))
    ∙ run_first s later t (Write byte ∷ replicate (n - suc later) (Pulse s) ++ stream s n l) (frames_of s byte l) h (omega arith)
    (λ u g i.
    let v = written_is u byte i in
    run s t.holding (n - suc later) later (after_input u (Write byte)) (stream s n l) (frames_of s byte l)
    (rw v (record { phase = g.phase; shifter = g.shifter; level = g.level })) (omega arith)
    (λ w f j.
    let gone = drop_of_length-le (frame_at s t.holding) {i = suc (later + (n - suc later))} (omega arith) in
    let ready : Startable w s =
    record { idle = over-free s t.holding f (omega arith); enabled = j.enabled ∙ rw v i; full = j.full ∙ rw v; clear = h.clear } in
    let next : w.holding ≡ byte = j.holding ∙ rw v in
    rw gone (subst (λ (b : ℕ). line after_input w (stream s n l) ≡ frames_of s b l) next (goes s n l w e ready both.1))))

pub goes_back_to_back : GoesBackToBack after_input
unfolding line pick
goes_back_to_back t s first l f e c k =
    let v = written_is t first e in
    let ready : Startable (with_holding t true first) s = record { idle = f; enabled = e; full = refl; clear = c } in
    let n : ℕ = length (frame_at s first) in
    rw v (goes s n l (with_holding t true first) (λ byte. long s byte ∙ sym (long s first)) ready k)

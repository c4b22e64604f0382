-- A break. While it is sent TxD is low and only a stop, a disable or a reset does anything to it (`InBreak`); after it TxD is high and so
-- many pulses of the one bit are owed (`Owing`): each pulse takes one off, every other input but a chip reset leaves them. Assumes nothing.
use Prim.Native.Nat.{ℕ, zero, suc, ◌-◌, ◌≤◌}
use mathlib.Core.Path.{◌≡◌, refl, sym, ◌∙◌}
use mathlib.Core.Bool.{Bool, true, false, and-eq-true_iff, true≢false}
use mathlib.Core.List.{List, [], ◌∷◌, ◌++◌}
use native.Mathlib.Omega.{arith}
use native.Mathlib.Nat.{sub-zero, suc-sub-suc}
use lib.Dec.{eqb}
use borrow.Author.Tests.{eqb-true, ne_eqb}
use Rattle.format.specs.Pick.{pick}
use Rattle.format.proofs.Laws.Pick.{pick_yes, pick_no, pick_all}
use Rattle.transmitter_state.specs.declared.sending.Standing.{Standing}
use Rattle.transmitter_state.specs.declared.state.Transmitter.{Transmitter}
use Rattle.transmitter_state.specs.State.{with_asked}
use Rattle.transmitter_state.specs.Sending.{can_start, break_begun, idle_of, held_high, pulsed_of}
use Rattle.transmitter.specs.declared.transmitter.Input.{Input}
use Rattle.transmitter.specs.declared.transmitter.Input.TheVariants.{Nothing, Pulse, Write, Enable, Disable, StartBreak, StopBreak, Reset, ChipReset, ModeChange}
use Rattle.transmitter.specs.Commands.{written_of, high_after, break_ended, dropped_of, break_asked}
use Rattle.transmitter.specs.Transmitter.{after_input}
use Rattle.transmitter.specs.Frames.{after, pulses_in, free}
use Rattle.transmitter.specs.Breaks.{unended, clocked_at, all_at, Ends, Breaks, EachPulse}
use Rattle.transmitter.specs.Breaks.Ends.{stops, disables, resets}
use Rattle.transmitter.proofs.Laws.Free.{no_test, none_begins, after_append}

-- ---- while it is sent ----

record InBreak (t : Transmitter) : Type 0 where
  phase : t.phase ≡ 2
  low : t.txd ≡ false

begins : (t : Transmitter) (s : Standing) → free t ≡ true → can_start t s ≡ false → t.asked ≡ true → InBreak (after_input t (Pulse s))
begins t s f c a = rw (none_begins t s f c, pick_yes t.asked (break_begun t) (idle_of t) a) (record { phase = refl; low = refl })

stays : (xs : List Input) (t : Transmitter) → InBreak t → unended xs ≡ true → InBreak (after after_input t xs)
unfolding after after_input pulsed_of written_of break_asked pick
stays [] t h k = h
stays (Nothing ∷ xs) t h k = stays xs t h k
stays (Pulse s ∷ xs) t h k = stays xs (after_input t (Pulse s)) (rw h.phase (record { phase = refl; low = h.low })) k
stays (Write byte ∷ xs) t h k =
    stays xs (after_input t (Write byte)) (pick_all InBreak t.enabled _ _ (record { phase = h.phase; low = h.low }) h) k
stays (Enable ∷ xs) t h k = stays xs (after_input t Enable) (record { phase = h.phase; low = h.low }) k
stays (Disable ∷ xs) t h k = absurd (true≢false (sym k))
stays (StartBreak ∷ xs) t h k = stays xs (after_input t StartBreak) (rw h.phase (record { phase = refl; low = h.low })) k
stays (StopBreak ∷ xs) t h k = absurd (true≢false (sym k))
stays (Reset ∷ xs) t h k = absurd (true≢false (sym k))
stays (ChipReset ∷ xs) t h k = absurd (true≢false (sym k))
stays (ModeChange ∷ xs) t h k = absurd (true≢false (sym k))

-- ---- after it ----

-- idle once no pulse is owed
abbrev phase_owing : ℕ → ℕ
phase_owing zero = 0
phase_owing (suc n) = 3

-- those before the last of them
abbrev besides : ℕ → ℕ
besides zero = 0
besides (suc n) = n

-- At 16X the count says how many are owed before the last; at 1X it is not looked at, and stays.
record Owing (sixteen : Bool) (n : ℕ) (t : Transmitter) : Type 0 where
  phase : t.phase ≡ phase_owing n
  left : t.left.0 ≡ pick sixteen (besides n) 15
  high : t.txd ≡ true

whole_bit : (sixteen : Bool) (t : Transmitter) → t.phase ≡ 3 → t.left.0 ≡ 15 → t.txd ≡ true → Owing sixteen (pick sixteen 16 1) t
unfolding pick
whole_bit true t p l h = record { phase = p; left = l; high = h }
whole_bit false t p l h = record { phase = p; left = l; high = h }

ends : {x : Input} (sixteen : Bool) (t : Transmitter) → Ends x → InBreak t → Owing sixteen (pick sixteen 16 1) (after_input t x)
unfolding after_input break_ended dropped_of pick
ends sixteen t stops h = whole_bit sixteen (after_input t StopBreak) (rw h.phase) (rw h.phase) (rw h.phase)
ends sixteen t disables h = whole_bit sixteen (after_input t Disable) (rw h.phase) (rw h.phase) (rw h.phase)
ends sixteen t resets h = whole_bit sixteen (after_input t Reset) (rw h.phase) (rw h.phase) refl

no_break : (n : ℕ) → eqb (phase_owing n) 2 ≡ false
no_break zero = refl
no_break (suc n) = refl

still_owing : (n : ℕ) → pick (eqb (phase_owing n) 3) (phase_owing n) 0 ≡ phase_owing n
unfolding pick
still_owing zero = refl
still_owing (suc n) = refl

module _ (sixteen : Bool) where
  ended-owing : (n : ℕ) (t : Transmitter) → Owing sixteen n t → Owing sixteen n (break_ended t)
  unfolding break_ended
  ended-owing n t h =
      let over : eqb t.phase 2 ≡ false = rw h.phase (no_break n) in
      rw (pick_no (eqb t.phase 2) (high_after (with_asked t false)) (with_asked t false) over)
      (record { phase = h.phase; left = h.left; high = h.high })

  dropped-owing : (n : ℕ) (t : Transmitter) → Owing sixteen n t → Owing sixteen n (dropped_of t)
  unfolding dropped_of
  dropped-owing n t h = record { phase = rw h.phase (still_owing n); left = h.left; high = refl }

  written-owing : (n byte : ℕ) (t : Transmitter) → Owing sixteen n t → Owing sixteen n (written_of t byte)
  unfolding written_of
  written-owing n byte t h = pick_all (Owing sixteen n) t.enabled _ _ (record { phase = h.phase; left = h.left; high = h.high }) h

  asked-owing : (n : ℕ) (t : Transmitter) → Owing sixteen n t → Owing sixteen n (break_asked t)
  unfolding break_asked
  asked-owing n t h = pick_all (Owing sixteen n) (eqb t.phase 2) _ _ h (record { phase = h.phase; left = h.left; high = h.high })

pulse_clock : (sixteen : Bool) (s : Standing) → clocked_at sixteen (Pulse s) ≡ true → s.sixteen ≡ sixteen
pulse_clock true s k = k
pulse_clock false s k = no_test s.sixteen k

pulsed_owing : (sixteen : Bool) (n : ℕ) (t : Transmitter) (s : Standing) → suc n ≤ pick sixteen 16 1 → s.sixteen ≡ sixteen
    → Owing sixteen (suc n) t → Owing sixteen n (after_input t (Pulse s))
unfolding after_input pulsed_of held_high pick
pulsed_owing true zero t s l c h = rw (h.phase, c, h.left) (record { phase = refl; left = refl; high = refl })
pulsed_owing true (suc n) t s l c h =
    let more : eqb (suc n) 0 ≡ false = ne_eqb (suc n) 0 (λ e. omega arith) in
    rw (h.phase, c, h.left, more) (record { phase = refl; left = omega arith; high = h.high })
pulsed_owing false zero t s l c h = rw (h.phase, c) (record { phase = refl; left = h.left; high = refl })
pulsed_owing false (suc n) t s l c h = absurd (omega arith)

settles : (sixteen : Bool) (ys : List Input) (n : ℕ) (t : Transmitter)
    → Owing sixteen n t → n ≤ pick sixteen 16 1 → all_at sixteen ys ≡ true → pulses_in ys ≤ n
    → Owing sixteen (n - pulses_in ys) (after after_input t ys)
unfolding after after_input pulses_in pick
settles sixteen [] n t h m k l = rw sub-zero h
settles sixteen (Nothing ∷ ys) n t h m k l = settles sixteen ys n t h m k l
settles sixteen (Pulse s ∷ ys) zero t h m k l = absurd (omega arith)
settles sixteen (Pulse s ∷ ys) (suc n) t h m k l =
    let both = (and-eq-true_iff (clocked_at sixteen (Pulse s)) (all_at sixteen ys)).0 k in
    let less = pulsed_owing sixteen n t s m (pulse_clock sixteen s both.0) h in
    rw suc-sub-suc (settles sixteen ys n (after_input t (Pulse s)) less (omega arith) both.1 (omega arith))
settles sixteen (Write byte ∷ ys) n t h m k l = settles sixteen ys n _ (written-owing sixteen n byte t h) m k l
settles sixteen (Enable ∷ ys) n t h m k l = settles sixteen ys n _ (record { phase = h.phase; left = h.left; high = h.high }) m k l
settles sixteen (Disable ∷ ys) n t h m k l =
    let ended = ended-owing sixteen n t h in
    settles sixteen ys n _ (record { phase = ended.phase; left = ended.left; high = ended.high }) m k l
settles sixteen (StartBreak ∷ ys) n t h m k l = settles sixteen ys n _ (asked-owing sixteen n t h) m k l
settles sixteen (StopBreak ∷ ys) n t h m k l = settles sixteen ys n _ (ended-owing sixteen n t h) m k l
settles sixteen (Reset ∷ ys) n t h m k l = settles sixteen ys n _ (dropped-owing sixteen n (break_ended t) (ended-owing sixteen n t h)) m k l
settles sixteen (ChipReset ∷ ys) n t h m k l = absurd (true≢false (sym k))
settles sixteen (ModeChange ∷ ys) n t h m k l = absurd (true≢false (sym k))

-- ---- all of it ----

sent : (t : Transmitter) (s : Standing) (xs : List Input) → free t ≡ true → can_start t s ≡ false → t.asked ≡ true → unended xs ≡ true
    → InBreak (after after_input t (Pulse s ∷ xs))
unfolding after
sent t s xs f c a k = stays xs (after_input t (Pulse s)) (begins t s f c a) k

settled : (t : Transmitter) (s : Standing) (xs : List Input) (x : Input) (sixteen : Bool) (ys : List Input)
    → free t ≡ true → can_start t s ≡ false → t.asked ≡ true → unended xs ≡ true → Ends x → all_at sixteen ys ≡ true → pulses_in ys ≤ pick sixteen 16 1
    → Owing sixteen (pick sixteen 16 1 - pulses_in ys) (after after_input t (Pulse s ∷ xs ++ x ∷ ys))
unfolding after
settled t s xs x sixteen ys f c a k e g l =
    let b : Transmitter = after after_input t (Pulse s ∷ xs) in
    rw (after_append after_input t (Pulse s ∷ xs) (x ∷ ys))
    (settles sixteen ys (pick sixteen 16 1) (after_input b x) (ends sixteen b e (sent t s xs f c a k)) (omega arith) g l)

pub breaks : Breaks after_input
unfolding pick
breaks =
    record {
      low = λ t s xs f c a k. (sent t s xs f c a k).low;
      high = λ t s xs x sixteen ys f c a k e g l. (settled t s xs x sixteen ys f c a k e g (omega arith)).high;
      done = λ t s xs x sixteen ys f c a k e g l.
          let none : pick sixteen 16 1 - pulses_in ys ≡ 0 = omega arith in
          rw (rw none at (settled t s xs x sixteen ys f c a k e g (omega arith)).phase);
    }

-- ---- input by input ----

begun : (t : Transmitter) (s : Standing) → free t ≡ true → can_start t s ≡ false → t.asked ≡ true → after_input t (Pulse s) ≡ break_begun t
begun t s f c a = none_begins t s f c ∙ pick_yes t.asked (break_begun t) (idle_of t) a

-- a pulse in the high bit
held : (t : Transmitter) (s : Standing) → eqb t.phase 3 ≡ true → after_input t (Pulse s) ≡ held_high t s
unfolding after_input pulsed_of pick
held t s e = rw (eqb-true t.phase 3 e)

pub each_pulse : EachPulse after_input
unfolding after_input pulsed_of held_high break_ended pick
each_pulse =
    record {
      begins = begun;
      lasts = λ t s e. rw (eqb-true t.phase 2 e);
      ends = λ t e. rw e;
      counts = λ t s e k l. held t s e ∙ rw (k, l);
      completes = λ t s e k l. held t s e ∙ rw (k, l);
      completes1x = λ t s e k. held t s e ∙ rw k;
    }

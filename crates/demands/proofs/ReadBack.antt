-- Demand 2, the read-back: while nothing disturbs it a receiver is handed pulses alone, so what it becomes hangs on what its pulses find; and of one
-- receiver that finds a frame the read-back is proved. What a sender's pulses show is its frame. Assumes nothing.
use Prim.Native.Nat.{ℕ}
use mathlib.Core.Path.{◌≡◌, refl, sym, ap, ◌∙◌}
use mathlib.Core.Bool.{Bool, true, false, not, ◌&&◌, true≢false, and-eq-true_iff}
use mathlib.Core.List.{List, [], ◌∷◌, ◌++◌}
use native.Mathlib.Omega.{arith}
use lib.Dec.{eqb}
use borrow.Author.Tests.{eqb-true}
use lib.ListN.{length}
use lib.Seq.{take-length}
use Rattle.format.specs.Format.{stop_code_of}
use Rattle.format.specs.declared.format.Format.{Format}
use Rattle.format.specs.Stop.{stop_length_of}
use Rattle.frame.specs.Levels.{frame}
use Rattle.feed.specs.declared.feed.Setting.{Setting}
use Rattle.sampler.specs.Lines.{Line, at16}
use Rattle.sampler.specs.Lines.Line.{pulse, enable, disable}
use Rattle.queue.specs.Queue.{held_of}
use Rattle.queue.proofs.Laws.Queue.{is_empty_held}
use Rattle.receiver_state.specs.declared.arrivals.Receiver.{Receiver}
use Rattle.feed.specs.declared.feed.Feed.{Feed}
use Rattle.feed.specs.declared.feed.Feed.TheVariants as Feeds
use Rattle.receiver.specs.Receiver.{fed_of}
use Rattle.receiver.specs.Delivery as Receivers
use Rattle.receiver.specs.Delivery.{lines_over}
use Rattle.receiver.specs.ReadBack.{pulses, sent}
use Rattle.receiver.proofs.ReadBack.{sent_frame, read_back_frame}
use Rattle.transmitter.specs.Transmitter.{after_input}
use Rattle.transmitter.specs.Frames.{line}
use Rattle.events.specs.Command.{command_forbidden}
use Rattle.front.specs.declared.front.Front.{Front}
use Rattle.events.specs.declared.events.Event.{Event}
use Rattle.events.specs.declared.events.Event.TheVariants.{ChipReset, Read, Write, Acknowledge, Pins, Tick}
use Rattle.chip_step.specs.Chip.{step_of}
use Rattle.chip_laws.specs.Reset.{reset_at}
use Rattle.demands.specs.Chip.{Chip, Channel, chip_of, register_of, and_then, each_of}
use Rattle.demands.specs.Told.{programmed, commands, in_normal, in_local, mode_changes}
use Rattle.demands.specs.Clocks.{front_then, front_after, side_of}
use Rattle.demands.specs.Delivery.{lines_from, ledger}
use Rattle.demands.specs.Sending.{inputs_from, sender_after, standing, Starts, started_frame, keeps_from, pulses_from, sent_from}
use Rattle.demands.specs.ReadBack.{Listens, undisturbed, carried, format_after, SameFormat, ReadBack, ReadsBack}
use Rattle.demands.proofs.Laws.Run.{run_at, run_append, run_sound, run_front, receiver_at, feeds_from, run_receiver}
use Rattle.demands.proofs.Laws.Looks.{change_bit, ready_bit}
use Rattle.demands.proofs.Laws.Told.{programmed_of}
use Rattle.demands.proofs.Laws.Looped.{pick_not, no_command, no_change, Looping, looped_lines, undisturbed_keeps}
use Rattle.demands.proofs.Laws.Feeds.{hands_to, hands, pulse_all}
use Rattle.demands.proofs.Laws.Lines.{lines_from_lem}
use Rattle.demands.proofs.Laws.Formats.{same_format, same_frame}
use Rattle.demands.proofs.Laws.Buffer.{overrun_shown, held_queue}
use Rattle.demands.proofs.Delivery.{run_sampler}
use Rattle.demands.proofs.Sends.{frame_line, sends}

-- ---- pulses alone ----

-- a pulse, or nothing
abbrev pulse_or_nothing : Feed → Bool
pulse_or_nothing Feeds.Nothing = true
pulse_or_nothing (Feeds.Pulse level f) = true
pulse_or_nothing (Feeds.Command e t) = false
pulse_or_nothing Feeds.Read = false
pulse_or_nothing Feeds.ChipReset = false

abbrev only_pulses : List Feed → Bool
only_pulses [] = true
only_pulses (x ∷ xs) = pulse_or_nothing x && only_pulses xs

pulse_handed : (ch : Channel) (f : Front) (e : Event) → undisturbed ch e ≡ true → pulse_or_nothing (hands_to ch f e) ≡ true
pulse_handed ch f ChipReset h = absurd (true≢false (sym h))
pulse_handed ch f (Read n) h = pick_not (λ (y : Feed). pulse_or_nothing y ≡ true) (eqb n (register_of ch 3)) _ _ h refl
pulse_handed ch f (Write n byte) h =
    pick_not (λ (y : Feed). pulse_or_nothing y ≡ true) (commands ch n byte) _ _
    (no_command (eqb n (register_of ch 0)) (eqb n (register_of ch 1)) (eqb n (register_of ch 2)) (not (command_forbidden byte)) h)
    (pick_not (λ (y : Feed). pulse_or_nothing y ≡ true) (mode_changes ch (programmed_of (side_of ch f)) n byte) _ _
    (no_change (eqb n (register_of ch 0)) _ _ h) refl)
pulse_handed ch f Acknowledge h = refl
pulse_handed ch f (Pins x) h = pulse_all (λ (y : Feed). pulse_or_nothing y ≡ true) refl (λ level g. refl) _ _ _ _
pulse_handed ch f Tick h = pulse_all (λ (y : Feed). pulse_or_nothing y ≡ true) refl (λ level g. refl) _ _ _ _

pulses_handed : (ch : Channel) (f : Front) (es : List Event) → each_of (undisturbed ch) es ≡ true → only_pulses (feeds_from ch f es) ≡ true
unfolding feeds_from
pulses_handed ch f [] h = refl
pulses_handed ch f (e ∷ es) h =
    let both = (and-eq-true_iff (undisturbed ch e) _).0 h in
    rw (hands ch f e)
    ((and-eq-true_iff (pulse_or_nothing (hands_to ch f e)) _).1 (pulse_handed ch f e both.0, pulses_handed ch (front_then f e) es both.1))

-- ---- what the pulses find ----

-- a receiver that is pulsed as these lines say; it hears no other
unfoldable found : Receiver → List Line → Receiver
found r [] = r
found r (pulse level f ∷ xs) = found (fed_of r (Feeds.Pulse level f)).receiver xs
found r (enable ∷ xs) = found r xs
found r (disable ∷ xs) = found r xs

fed_found : (r : Receiver) (xs : List Feed) → only_pulses xs ≡ true → Receivers.after fed_of r xs ≡ found r (lines_over xs)
unfolding Receivers.after lines_over found fed_of
fed_found r [] h = refl
fed_found r (Feeds.Nothing ∷ xs) h = fed_found r xs h
fed_found r (Feeds.Pulse level f ∷ xs) h = fed_found (fed_of r (Feeds.Pulse level f)).receiver xs h
fed_found r (Feeds.Command e t ∷ xs) h = absurd (true≢false (sym h))
fed_found r (Feeds.Read ∷ xs) h = absurd (true≢false (sym h))
fed_found r (Feeds.ChipReset ∷ xs) h = absurd (true≢false (sym h))

pulses_only : (f : Setting) (ls : List Bool) → only_pulses (pulses f ls) ≡ true
pulses_only f [] = refl
pulses_only f (level ∷ ls) = pulses_only f ls

pulses_lines : (f : Setting) (ls : List Bool) → lines_over (pulses f ls) ≡ carried f ls
unfolding lines_over
pulses_lines f [] = refl
pulses_lines f (level ∷ ls) = ap (λ (xs : List Line). pulse level f ∷ xs) (pulses_lines f ls)

-- so it is as if it had been handed these pulses
receiver_found : (levels : ℕ) (ch : Channel) (es gs : List Event) (f : Setting) (ls : List Bool) → each_of (undisturbed ch) gs ≡ true
    → lines_from ch levels es gs ≡ carried f ls
    → receiver_at ch (run_at levels (es ++ gs)) ≡ Receivers.after fed_of (receiver_at ch (run_at levels es)) (pulses f ls)
receiver_found levels ch es gs f ls h e =
    let r : Receiver = receiver_at ch (run_at levels es) in
    let xs : List Feed = feeds_from ch (front_after levels es) gs in
    ap (receiver_at ch) (run_append (reset_at levels) es gs)
    ∙ run_receiver ch (run_at levels es) gs (run_sound levels es)
    ∙ rw (run_front levels es) (fed_found r xs (pulses_handed ch (front_after levels es) gs h))
    ∙ ap (found r) (sym (lines_from_lem ch levels es gs) ∙ e ∙ sym (pulses_lines f ls))
    ∙ sym (fed_found r (pulses f ls) (pulses_only f ls))

-- ---- a frame ----

nothing_held : (levels : ℕ) (ch : Channel) (es : List Event) → Listens (chip_of step_of) levels ch es
    → held_of (receiver_at ch (run_at levels es)).queue ≡ []
nothing_held levels ch es h =
    (is_empty_held (receiver_at ch (run_at levels es)).queue).0 (not-false _ (sym (ready_bit levels ch es) ∙ h.empty))
  where
    not-false : (b : Bool) → not b ≡ false → b ≡ true
    not-false true e = refl
    not-false false e = absurd (true≢false e)

frame_read : (levels : ℕ) (ch : Channel) (es gs : List Event) (code x : ℕ) → Listens (chip_of step_of) levels ch es → each_of (undisturbed ch) gs ≡ true
    → lines_from ch levels es gs ≡ carried (at16 (format_after ch es)) (frame true (format_after ch es) code x)
    → ReadBack (chip_of step_of) levels ch es gs x
frame_read levels ch es gs code x h k e =
    let r : Receiver = receiver_at ch (run_at levels es) in
    let f : Setting = at16 (format_after ch es) in
    let ls : List Bool = frame true (format_after ch es) code x in
    let same : r.sampler ≡ (ledger ch levels es).sampler = run_sampler levels ch es in
    let b = read_back_frame (programmed ch es).mr1 code x r (rw same h.idle) (nothing_held levels ch es h) in
    let whole : receiver_at ch (run_at levels (es ++ gs)) ≡ Receivers.after fed_of r (pulses f ls) = receiver_found levels ch es gs f ls k e in
    let feeds : pulses f ls ≡ sent (format_after ch es) (stop_length_of (format_after ch es).width code).0 x = sent_frame (format_after ch es) code x in
    record {
      one = rw (e, ← pulses_lines f ls, ← same, feeds) b.one;
      held = held_queue levels ch (es ++ gs) ∙ rw (whole, feeds) b.held;
      overrun = overrun_shown levels ch (es ++ gs) ∙ rw (whole, feeds) b.overrun ∙ sym (overrun_shown levels ch es);
      change = change_bit levels ch (es ++ gs) ∙ rw (whole, feeds) b.change ∙ sym (change_bit levels ch es);
      idle = rw (← run_sampler levels ch (es ++ gs), whole, feeds) b.idle;
    }

-- ---- what a sender sent ----

sent_read : (there here : ℕ) (sender receiver : Channel) (es fs before gs : List Event) (e : Event) → Starts there sender es e
    → in_normal (programmed sender es) ≡ true → keeps_from sender (and_then es e) fs ≡ true → pulses_from there sender es (e ∷ fs) ≡ length (started_frame there sender es e)
    → (standing there sender es e).sixteen ≡ true → SameFormat (format_after sender es) (format_after receiver before)
    → Listens (chip_of step_of) here receiver before → each_of (undisturbed receiver) gs ≡ true
    → lines_from receiver here before gs ≡ carried (at16 (format_after receiver before)) (sent_from (chip_of step_of) there sender es (e ∷ fs))
    → ReadBack (chip_of step_of) here receiver before gs (sender_after there sender es).holding
sent_read there here sender receiver es fs before gs e h normal k all sixteen format l u lines =
    let code : ℕ = stop_code_of (programmed sender es).mr2 in
    let x : ℕ = (sender_after there sender es).holding in
    let whole : sent_from (chip_of step_of) there sender es (e ∷ fs) ≡ started_frame there sender es e =
    sends.line there sender es fs e h normal k (omega arith) ∙ rw all (take-length (started_frame there sender es e)) in
    let same : started_frame there sender es e ≡ frame true (format_after receiver before) code x =
    rw sixteen (same_frame true (format_after sender es) (format_after receiver before) code x format) in
    frame_read here receiver before gs code x l u (lines ∙ ap (carried (at16 (format_after receiver before))) (whole ∙ same))

-- ---- local loopback ----

looped_read : (levels : ℕ) (ch : Channel) (es fs : List Event) (e : Event) → Starts levels ch es e → in_local (programmed ch es) ≡ true
    → pulses_from levels ch es (e ∷ fs) ≡ length (started_frame levels ch es e) → (standing levels ch es e).sixteen ≡ true
    → Listens (chip_of step_of) levels ch es → each_of (undisturbed ch) (e ∷ fs) ≡ true
    → ReadBack (chip_of step_of) levels ch es (e ∷ fs) (sender_after levels ch es).holding
looped_read levels ch es fs e h local all sixteen l u =
    let code : ℕ = stop_code_of (programmed ch es).mr2 in
    let x : ℕ = (sender_after levels ch es).holding in
    let f : Format = format_after ch es in
    let both = (and-eq-true_iff (undisturbed ch e) _).0 u in
    let loop : Looping (programmed ch es) f = record { receives = l.enabled; local = eqb-true _ 2 local; format = refl; sixteen = sixteen } in
    let whole : line after_input (sender_after levels ch es) (inputs_from levels ch es (e ∷ fs)) ≡ started_frame levels ch es e =
    frame_line levels ch es fs e h (undisturbed_keeps ch (and_then es e) fs both.1) (omega arith) ∙ rw all (take-length (started_frame levels ch es e)) in
    let same : started_frame levels ch es e ≡ frame true f code x = rw sixteen in
    frame_read levels ch es (e ∷ fs) code x l u (looped_lines levels ch es (e ∷ fs) f u loop ∙ ap (carried (at16 f)) (whole ∙ same))

pub reads_back : ReadsBack (chip_of step_of)
reads_back = record { frame = frame_read; sent = sent_read; looped = looped_read }

-- of equal formats, which are the same, any chip that meets the statement reads back what is sent
pub sent_equal : (c : Chip) → ReadsBack c → (there here : ℕ) (sender receiver : Channel) (es fs before gs : List Event) (e : Event)
    → Starts there sender es e → in_normal (programmed sender es) ≡ true → keeps_from sender (and_then es e) fs ≡ true
    → pulses_from there sender es (e ∷ fs) ≡ length (started_frame there sender es e)
    → (standing there sender es e).sixteen ≡ true → format_after sender es ≡ format_after receiver before
    → Listens c here receiver before → each_of (undisturbed receiver) gs ≡ true
    → lines_from receiver here before gs ≡ carried (at16 (format_after receiver before)) (sent_from c there sender es (e ∷ fs))
    → ReadBack c here receiver before gs (sender_after there sender es).holding
sent_equal c h there here sender receiver es fs before gs e starts normal keeps whole sixteen equal =
    h.sent there here sender receiver es fs before gs e starts normal keeps whole sixteen (same_format _ _ equal)

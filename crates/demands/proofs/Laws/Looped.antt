-- Order 2, local loopback: while nothing disturbs it a channel's receiver hears, of each event, the level that the event's pulse puts out; so over a list
-- of them it hears the line of the transmitter run alone. Assumes nothing.
use Prim.Native.Nat.{ℕ, ◌/◌, ◌%◌}
use mathlib.Core.Path.{◌≡◌, refl, sym, subst, ◌∙◌}
use mathlib.Core.Bool.{Bool, true, false, not, ◌&&◌, ◌||◌, true≢false, and-true, and-eq-true_iff}
use mathlib.Core.List.{List, [], ◌∷◌, map-append}
use lib.Dec.{eqb}
use Rattle.format.specs.Pick.{pick}
use Rattle.format.specs.Format.{format_of}
use Rattle.format.specs.declared.format.Format.{Format}
use Rattle.format.proofs.Laws.Pick.{pick_no, pick_all}
use Rattle.sampler.specs.Lines.{Line, at16}
use Rattle.sampler.specs.Lines.Line.{pulse}
use Rattle.transmitter.specs.Transmitter.{after_input}
use Rattle.transmitter.specs.Frames.{line}
use Rattle.clocks.specs.Channel.{is_sixteen}
use Rattle.clocks.specs.Pulses.Side.{transmits}
use Rattle.events.specs.Command.{command_forbidden}
use Rattle.events.specs.declared.events.Event.{Event}
use Rattle.events.specs.declared.events.Event.TheVariants.{ChipReset, Read, Write, Acknowledge, Pins, Tick}
use Rattle.demands.specs.Chip.{Channel, register_of, and_then, each_of}
use Rattle.demands.specs.Told.{Programmed, unprogrammed, with_pointer, mode_then, csr_then, command_then, programmed_then, programmed, commands, mode_bits}
use Rattle.demands.specs.Told.{mode_changes}
use Rattle.demands.specs.Clocks.{pulsed_by, pulsed_after}
use Rattle.demands.specs.Delivery.{lines_at, lines_from}
use Rattle.demands.specs.Sending.{inputs_at, inputs_from, sender_after, keeps_sending, keeps_from}
use Rattle.demands.specs.ReadBack.{undisturbed, carried}
use Rattle.demands.proofs.Laws.Told.{over_then}
use Rattle.demands.proofs.Laws.Frames.{line_append}
use Rattle.demands.proofs.Laws.Senders.{sender_then, event_line}

-- ---- what an undisturbed event is not ----

pub pick_not : {X : Type 0} (P : X → Type 0) (t : Bool) (x y : X) → not t ≡ true → P y → P (pick t x y)
unfolding pick
pick_not P true x y h q = absurd (true≢false (sym h))
pick_not P false x y h q = q

pub no_command : (a b c d : Bool) → not (a || (b || c)) ≡ true → not (c && d) ≡ true
no_command true b c d h = absurd (true≢false (sym h))
no_command false true c d h = absurd (true≢false (sym h))
no_command false false true d h = absurd (true≢false (sym h))
no_command false false false d h = refl

pub no_change : (a b c : Bool) → not (a || b) ≡ true → not (a && c) ≡ true
no_change true b c h = absurd (true≢false (sym h))
no_change false b c h = refl

-- ---- what it leaves, and what is heard of it ----

-- an undisturbed event sets nothing of the channel but the pointer
told_kept : (ch : Channel) (p : Programmed) (e : Event) → undisturbed ch e ≡ true → programmed_then ch p e ≡ with_pointer p (programmed_then ch p e).moved
unfolding programmed_then
told_kept ch p ChipReset h = absurd (true≢false (sym h))
told_kept ch p (Read n) h = pick_all (λ (q : Programmed). q ≡ with_pointer p q.moved) _ _ _ refl refl
told_kept ch p (Write n byte) h = go (eqb n (register_of ch 0)) (eqb n (register_of ch 1)) (eqb n (register_of ch 2)) h
  where
    Kept : Programmed → Type 0
    Kept q = q ≡ with_pointer p q.moved

    go : (a b c : Bool) → not (a || (b || c)) ≡ true → Kept (pick a (mode_then p byte) (pick b (csr_then p byte) (pick c (command_then p byte) p)))
    go true b c h = absurd (true≢false (sym h))
    go false true c h = absurd (true≢false (sym h))
    go false false true h = absurd (true≢false (sym h))
    go false false false h = pick-no-three
      where
        pick-no-three : Kept (pick false (mode_then p byte) (pick false (csr_then p byte) (pick false (command_then p byte) p)))
        pick-no-three = rw (pick_no false (mode_then p byte) _ refl, pick_no false (csr_then p byte) _ refl, pick_no false (command_then p byte) p refl)
told_kept ch p Acknowledge h = refl
told_kept ch p (Pins x) h = refl
told_kept ch p Tick h = refl

-- in local loopback, at 16X and in this format
pub record Looping (p : Programmed) (f : Format) : Type 0 where
  pub receives : p.receives ≡ true
  pub local : mode_bits p ≡ 2
  pub format : format_of p.mr1 ≡ f
  pub sixteen : is_sixteen (p.csr % 16) ≡ true

looping_next : (ch : Channel) (es : List Event) (e : Event) (f : Format) → undisturbed ch e ≡ true → Looping (programmed ch es) f
    → Looping (programmed ch (and_then es e)) f
looping_next ch es e f h l =
    subst (λ (p : Programmed). Looping p f) (sym (over_then (programmed_then ch) unprogrammed es e ∙ told_kept ch (programmed ch es) e h))
    (record { receives = l.receives; local = l.local; format = l.format; sixteen = l.sixteen })

-- what is heard of an event is the level that its pulse puts out
looped_event : (levels : ℕ) (ch : Channel) (es : List Event) (e : Event) (f : Format) → undisturbed ch e ≡ true → Looping (programmed ch es) f
    → lines_at ch levels es e ≡ carried (at16 f) (line after_input (sender_after levels ch es) (inputs_at levels ch es e))
unfolding lines_at pulsed_by pick
looped_event levels ch es e f h l =
    let put : line after_input (sender_after levels ch es) (inputs_at levels ch es e) ≡ pick (pulsed_after transmits ch levels es e) (level e ∷ []) [] =
    event_line levels ch es e (sender_after levels ch es) ∙ rw (l.local, and-true, ← sender_then levels ch es e) in
    rw put (heard e h ∙ sym (carry (pulsed_after transmits ch levels es e) (level e)))
  where
    level : Event → Bool
    level e = (sender_after levels ch (and_then es e)).txd

    carry : (b x : Bool) → carried (at16 f) (pick b (x ∷ []) []) ≡ pick b (pulse x (at16 f) ∷ []) []
    carry true x = refl
    carry false x = refl

    Heard : Event → Type 0
    Heard e = lines_at ch levels es e ≡ pick (pulsed_after transmits ch levels es e) (pulse (level e) (at16 f) ∷ []) []

    heard : (e : Event) → undisturbed ch e ≡ true → Heard e
    heard ChipReset h = absurd (true≢false (sym h))
    heard (Read n) h = refl
    heard (Write n byte) h =
        pick_not (λ (xs : List Line). xs ≡ []) (commands ch n byte) _ _
        (no_command (eqb n (register_of ch 0)) (eqb n (register_of ch 1)) (eqb n (register_of ch 2)) (not (command_forbidden byte)) h)
        (pick_not (λ (xs : List Line). xs ≡ []) (mode_changes ch (programmed ch es) n byte) _ _ (no_change (eqb n (register_of ch 0)) _ _ h) refl)
    heard Acknowledge h = refl
    heard (Pins x) h = rw (l.receives, l.local, l.format, l.sixteen)
    heard Tick h = rw (l.receives, l.local, l.format, l.sixteen)

pub looped_lines : (levels : ℕ) (ch : Channel) (before gs : List Event) (f : Format) → each_of (undisturbed ch) gs ≡ true → Looping (programmed ch before) f
    → lines_from ch levels before gs ≡ carried (at16 f) (line after_input (sender_after levels ch before) (inputs_from levels ch before gs))
unfolding lines_from inputs_from line
looped_lines levels ch before [] f h l = refl
looped_lines levels ch before (e ∷ es) f h l =
    let both = (and-eq-true_iff (undisturbed ch e) _).0 h in
    rw (
      line_append (sender_after levels ch before) (inputs_at levels ch before e) _,
      ← sender_then levels ch before e,
      map-append,
      looped_event levels ch before e f both.0 l,
      looped_lines levels ch (and_then before e) es f both.1 (looping_next ch before e f both.0 l),
    )

-- what disturbs no receiver keeps what is sent
pub undisturbed_keeps : (ch : Channel) (before gs : List Event) → each_of (undisturbed ch) gs ≡ true → keeps_from ch before gs ≡ true
unfolding keeps_from
undisturbed_keeps ch before [] h = refl
undisturbed_keeps ch before (e ∷ es) h =
    let both = (and-eq-true_iff (undisturbed ch e) _).0 h in
    (and-eq-true_iff (keeps_sending ch before e) _).1 (go e both.0, undisturbed_keeps ch (and_then before e) es both.1)
  where
    go : (e : Event) → undisturbed ch e ≡ true → keeps_sending ch before e ≡ true
    go ChipReset h = absurd (true≢false (sym h))
    go (Read n) h = refl
    go (Write n byte) h =
        (and-eq-true_iff (not (commands ch n byte && eqb (byte / 16 % 8) 3)) _).1 (
          no-reset (eqb n (register_of ch 0)) (eqb n (register_of ch 1)) (eqb n (register_of ch 2)) _ _ h,
          no_change (eqb n (register_of ch 0)) _ _ h,
        )
      where
        no-reset : (a b c d r : Bool) → not (a || (b || c)) ≡ true → not (c && d && r) ≡ true
        no-reset true b c d r h = absurd (true≢false (sym h))
        no-reset false true c d r h = absurd (true≢false (sym h))
        no-reset false false true d r h = absurd (true≢false (sym h))
        no-reset false false false d r h = refl
    go Acknowledge h = refl
    go (Pins x) h = refl
    go Tick h = refl

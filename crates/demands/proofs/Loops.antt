-- Order 2, local loopback: an event that leaves the mode registers makes the same of two fronts that differ in MR2 bits 7-6 alone, part by part; so
-- their transmitters stay one, which the one's TxD shows and the other's receiver hears. Assumes nothing.
use Prim.Native.Nat.{ℕ, ◌/◌, ◌%◌}
use mathlib.Core.Path.{◌≡◌, refl, sym, ap, ◌∙◌}
use mathlib.Core.Bool.{Bool, true, false, not, ◌&&◌, ◌||◌, true≢false, and-eq-true_iff}
use mathlib.Core.List.{List, [], ◌∷◌}
use native.Mathlib.Omega.{arith}
use lib.Dec.{eqb}
use borrow.Author.Tests.{not-true}
use Rattle.format.specs.Format.{format_of}
use Rattle.format.specs.Pick.{pick}
use Rattle.format.proofs.Laws.Pick.{pick_all, pick_no, pick_known}
use Rattle.feed.specs.declared.feed.Feed.{Feed}
use Rattle.feed.specs.declared.feed.Feed.TheVariants as Feeds
use Rattle.receiver.specs.Receiver.{fed_of}
use Rattle.transmitter_state.specs.declared.state.Transmitter.{Transmitter}
use Rattle.transmitter_state.specs.Sending.{taken_of, begun_of, sent_on_of, held_high, pulsed_of}
use Rattle.transmitter.specs.Transmitter.{after_input}
use Rattle.byte_bits.specs.Bytes.{has_bit}
use Rattle.clocks.specs.Channel.{is_sixteen}
use Rattle.clocks.specs.Pulses.Side.{receives, transmits}
use Rattle.front_side.specs.declared.side.Side.{Side}
use Rattle.front_side.specs.Side.{with_modes, csr_written, set_changed, buffer_written}
use Rattle.front_modes.specs.Modes.{txd_shown, txd_of}
use Rattle.front_side_clocks.specs.Clocking.{transmitter_pulsed, echo_taken, pulse_of, line_of}
use Rattle.front_commands.specs.Commands.{side_commanded}
use Rattle.front.specs.declared.front.Front.{Front}
use Rattle.front.specs.Front.{with_sides}
use Rattle.front_clocks.specs.Clocking.{counted_of}
use Rattle.events.specs.Command.{command_forbidden}
use Rattle.events.specs.declared.events.Event.{Event}
use Rattle.events.specs.declared.events.Event.TheVariants.{ChipReset, Read, Write, Acknowledge, Pins, Tick}
use Rattle.chip_answers.specs.Answers.{lines_of}
use Rattle.chip_device.specs.declared.device.Device.{Device}
use Rattle.chip_device.specs.Device.{is_sound_of}
use Rattle.chip_step.specs.Chip.{step_of}
use Rattle.chip_laws.specs.Sound.{after}
use Rattle.chip_laws.proofs.Alone.{alone}
use Rattle.demands.specs.Chip.{Channel, of_channel, register_of, each_of}
use Rattle.demands.specs.Chip.Channel.{A, B}
use Rattle.demands.specs.Clocks.{front_then, side_of, clocks_of, pulsed_by}
use Rattle.demands.specs.Pulses.{clocks}
use Rattle.demands.specs.Loops.{with_mr2, Apart, leaves_modes, receiver_of, txd_in, looped_feed, Loops}
use Rattle.demands.proofs.Laws.Run.{step_sound, receiver_at, step_receiver}
use Rattle.demands.proofs.Laws.Fronts.{side_written, front_next, front_next_lem, side_next, side_next_lem}
use Rattle.demands.proofs.Laws.Told.{pick_with}
use Rattle.demands.proofs.Laws.Looks.{step_lines}
use Rattle.demands.proofs.Laws.Feeds.{hands_to, hands}

-- ---- a side with another MR2 ----

abbrev modes_with : Side → ℕ → Side
modes_with s mr2 = with_modes s s.mr1 mr2 s.moved

-- two values of MR2 that differ in bits 7-6, and do not echo
record Alike (a b : ℕ) : Type 0 where
  below : a % 64 ≡ b % 64
  first : eqb (a / 64 % 4 % 2) 1 ≡ false
  second : eqb (b / 64 % 4 % 2) 1 ≡ false

-- a pulse finds the same stop code and the same choice of CTS
pulsed_alike : (t : Transmitter) (mr1 a b : ℕ) (sixteen cts : Bool) → a % 64 ≡ b % 64
    → pulsed_of t (record { mr1 = mr1; mr2 = a; sixteen = sixteen; cts = cts }) ≡ pulsed_of t (record { mr1 = mr1; mr2 = b; sixteen = sixteen; cts = cts })
unfolding pulsed_of sent_on_of begun_of taken_of held_high
pulsed_alike t mr1 a b sixteen cts e =
    let code : a % 16 ≡ b % 16 = low a ∙ ap (λ (n : ℕ). n % 16) e ∙ sym (low b) in
    let chosen : a / 16 % 2 ≡ b / 16 % 2 = fourth a ∙ ap (λ (n : ℕ). n / 16 % 2) e ∙ sym (fourth b) in
    rw (code, chosen)
  where
    low : (n : ℕ) → n % 16 ≡ n % 64 % 16
    low n = omega arith

    fourth : (n : ℕ) → n / 16 % 2 ≡ n % 64 / 16 % 2
    fourth n = omega arith

sender_alike : (s : Side) (a b : ℕ) (pulse cts : Bool) → Alike a b → transmitter_pulsed (modes_with s a) pulse cts ≡ transmitter_pulsed (modes_with s b) pulse cts
unfolding transmitter_pulsed after_input
sender_alike s a b pulse cts h = rw (h.first, h.second, pulsed_alike s.transmitter s.mr1 a b _ cts h.below)

echo_alike : (s : Side) (a b : ℕ) (pulse rxd : Bool) → Alike a b → echo_taken (modes_with s a) pulse rxd ≡ echo_taken (modes_with s b) pulse rxd
unfolding echo_taken
echo_alike s a b pulse rxd h = rw (h.first, h.second)

-- ---- one event, of a side ----

-- a write that is not to its mode registers: to CSR, a command, to the buffer, to ACR, or none of these
abbrev other_written : Side → ℕ → ℕ → Bool → Bool → Bool → Bool → Side
other_written s acr byte csr command buffer shared =
    pick csr (csr_written s byte)
    (pick command (pick (command_forbidden byte) s (side_commanded s byte)) (pick buffer (buffer_written s byte) (pick shared (set_changed s acr byte) s)))

other_same : (s : Side) (m acr byte : ℕ) (csr command buffer shared : Bool)
    → other_written (modes_with s m) acr byte csr command buffer shared ≡ modes_with (other_written s acr byte csr command buffer shared) m
unfolding csr_written side_commanded buffer_written set_changed pick
other_same s m acr byte true command buffer shared = refl
other_same s m acr byte false true buffer shared = go (command_forbidden byte)
  where
    go : (b : Bool) → pick b (modes_with s m) (side_commanded (modes_with s m) byte) ≡ modes_with (pick b s (side_commanded s byte)) m
    go true = refl
    go false = refl
other_same s m acr byte false false true shared = refl
other_same s m acr byte false false false true = refl
other_same s m acr byte false false false false = refl

written_same : (ch : Channel) (g : Front) (m n byte : ℕ) → eqb n (register_of ch 0) ≡ false
    → side_written ch (with_mr2 ch g m) n byte ≡ modes_with (side_written ch g n byte) m
written_same A g m n byte k =
    pick_no (eqb n 0) _ _ k ∙ other_same g.a m g.acr byte (eqb n 1) (eqb n 2) (eqb n 3) (eqb n 4)
    ∙ ap (λ (s : Side). modes_with s m) (sym (pick_no (eqb n 0) _ _ k))
written_same B g m n byte k =
    pick_no (eqb n 8) _ _ k ∙ other_same g.b m g.acr byte (eqb n 9) (eqb n 10) (eqb n 11) (eqb n 4)
    ∙ ap (λ (s : Side). modes_with s m) (sym (pick_no (eqb n 8) _ _ k))

side_same : (ch : Channel) (g : Front) (m : ℕ) (e : Event) → Alike m (side_of ch g).mr2 → leaves_modes ch e ≡ true
    → side_next ch (with_mr2 ch g m) e ≡ modes_with (side_next ch g e) m
unfolding clocks_of counted_of
side_same ch g m ChipReset h k = absurd (true≢false (sym k))
side_same A g m (Read n) h k = sym (pick_with (λ (s : Side). modes_with s m) (eqb n 0) refl refl)
side_same B g m (Read n) h k = sym (pick_with (λ (s : Side). modes_with s m) (eqb n 8) refl refl)
side_same ch g m (Write n byte) h k = written_same ch g m n byte (not-true (eqb n (register_of ch 0)) k)
side_same A g m Acknowledge h k = refl
side_same B g m Acknowledge h k = refl
side_same A g m (Pins x) h k = rw (sender_alike g.a m g.a.mr2 _ _ h, echo_alike g.a m g.a.mr2 _ _ h)
side_same B g m (Pins x) h k = rw (sender_alike g.b m g.b.mr2 _ _ h, echo_alike g.b m g.b.mr2 _ _ h)
side_same A g m Tick h k = rw (sender_alike g.a m g.a.mr2 _ _ h, echo_alike g.a m g.a.mr2 _ _ h)
side_same B g m Tick h k = rw (sender_alike g.b m g.b.mr2 _ _ h, echo_alike g.b m g.b.mr2 _ _ h)

-- the side of the front that follows
next_side : (ch : Channel) (f : Front) (e : Event) → side_of ch (front_next f e) ≡ side_next ch f e
next_side ch f e = ap (side_of ch) (sym (front_next_lem f e)) ∙ side_next_lem ch f e

-- ---- and of the front ----

abbrev a_side : Front → Side → Front
a_side f s = with_sides f s f.b f.timer

abbrev b_side : Front → Side → Front
b_side f s = with_sides f f.a s f.timer

front_same : (ch : Channel) (g : Front) (m : ℕ) (e : Event) → Alike m (side_of ch g).mr2 → leaves_modes ch e ≡ true
    → front_then (with_mr2 ch g m) e ≡ with_mr2 ch (front_then g e) m
unfolding clocks_of counted_of
front_same ch g m e h k =
    rw (front_next_lem (with_mr2 ch g m) e, front_next_lem g e)
    (go ch e (next_side ch (with_mr2 ch g m) e ∙ side_same ch g m e h k ∙ ap (λ (s : Side). modes_with s m) (sym (next_side ch g e))) k)
  where
    go : (ch : Channel) (e : Event) → side_of ch (front_next (with_mr2 ch g m) e) ≡ modes_with (side_of ch (front_next g e)) m → leaves_modes ch e ≡ true
        → front_next (with_mr2 ch g m) e ≡ with_mr2 ch (front_next g e) m
    go ch ChipReset p k = absurd (true≢false (sym k))
    go A (Read n) p k = ap (a_side (front_next g (Read n))) p
    go A (Write n byte) p k = ap (a_side (front_next g (Write n byte))) p
    go A Acknowledge p k = refl
    go A (Pins x) p k = ap (a_side (front_next g (Pins x))) p
    go A Tick p k = ap (a_side (front_next g Tick)) p
    go B (Read n) p k = ap (b_side (front_next g (Read n))) p
    go B (Write n byte) p k = ap (b_side (front_next g (Write n byte))) p
    go B Acknowledge p k = refl
    go B (Pins x) p k = ap (b_side (front_next g (Pins x))) p
    go B Tick p k = ap (b_side (front_next g Tick)) p

-- MR2 stays
mr2_stays : (ch : Channel) (g : Front) (e : Event) → leaves_modes ch e ≡ true → (side_of ch (front_then g e)).mr2 ≡ (side_of ch g).mr2
unfolding csr_written side_commanded buffer_written set_changed
mr2_stays ch g e k = rw (side_next_lem ch g e) (go e k)
  where
    Same : Side → Type 0
    Same s = s.mr2 ≡ (side_of ch g).mr2

    go : (e : Event) → leaves_modes ch e ≡ true → Same (side_next ch g e)
    go ChipReset k = absurd (true≢false (sym k))
    go (Read n) k = pick_all Same (eqb n (register_of ch 0)) _ _ refl refl
    go (Write n byte) k =
        pick_known Same (eqb n (register_of ch 0)) _ _ (λ e. absurd (true≢false (sym e ∙ not-true (eqb n (register_of ch 0)) k)))
        (pick_all Same (eqb n (register_of ch 1)) _ _ refl
        (pick_all Same (eqb n (register_of ch 2)) _ _ (pick_all Same (command_forbidden byte) _ _ refl refl)
        (pick_all Same (eqb n (register_of ch 3)) _ _ refl (pick_all Same (eqb n 4) _ _ refl refl))))
    go Acknowledge k = refl
    go (Pins x) k = refl
    go Tick k = refl

mr2_of : (ch : Channel) (f : Front) (m : ℕ) → (side_of ch (with_mr2 ch f m)).mr2 ≡ m
mr2_of A f m = refl
mr2_of B f m = refl

alike : (ch : Channel) (f g : Front) → Apart ch f g → Alike (side_of ch f).mr2 (side_of ch g).mr2
alike ch f g h = record { below = h.below; first = rw h.local; second = rw h.normal }

apart_next : (ch : Channel) (f g : Front) (e : Event) → Apart ch f g → leaves_modes ch e ≡ true → Apart ch (front_then f e) (front_then g e)
apart_next ch f g e h k =
    let m : ℕ = (side_of ch f).mr2 in
    let next : front_then f e ≡ with_mr2 ch (front_then g e) m = ap (λ (x : Front). front_then x e) h.same ∙ front_same ch g m e (alike ch f g h) k in
    let stays : (side_of ch (front_then f e)).mr2 ≡ m = mr2_stays ch f e k in
    let other : (side_of ch (front_then g e)).mr2 ≡ (side_of ch g).mr2 = mr2_stays ch g e k in
    record {
      local = rw stays h.local;
      normal = rw other h.normal;
      below = rw (stays, other) h.below;
      same = rw stays next;
    }

-- ---- over lists ----

apart_after : (ch : Channel) (d g : Device) (es : List Event) → is_sound_of d ≡ true → is_sound_of g ≡ true → Apart ch d.front g.front
    → each_of (leaves_modes ch) es ≡ true → Apart ch (after step_of d es).front (after step_of g es).front
unfolding after
apart_after ch d g [] s t h k = h
apart_after ch d g (e ∷ es) s t h k =
    let both = (and-eq-true_iff (leaves_modes ch e) _).0 k in
    apart_after ch (step_of d e).state (step_of g e).state es (step_sound d e s) (step_sound g e t)
    (rw (alone.front d e s, alone.front g e t) (apart_next ch d.front g.front e h both.0)) both.1

sound_after : (d : Device) (es : List Event) → is_sound_of d ≡ true → is_sound_of (after step_of d es) ≡ true
unfolding after
sound_after d [] s = s
sound_after d (e ∷ es) s = sound_after (step_of d e).state es (step_sound d e s)

-- ---- what is heard, and what is shown ----

-- TxD of a sound device after an event
pub txd_then : (ch : Channel) (d : Device) (e : Event) → is_sound_of d ≡ true → txd_in ch (step_of d e).lines ≡ txd_of (side_of ch (front_then d.front e))
unfolding lines_of
txd_then A d e s = rw (step_lines d e s, ← alone.front d e s)
txd_then B d e s = rw (step_lines d e s, ← alone.front d e s)

-- in normal mode it is the transmitter's, in local loopback it is high
txd_sent : (s : Side) → s.mr2 / 64 % 4 ≡ 0 → txd_of s ≡ s.transmitter.txd
unfolding txd_shown pick
txd_sent s h = rw h

txd_high : (s : Side) → s.mr2 / 64 % 4 ≡ 2 → txd_of s ≡ true
unfolding txd_shown pick
txd_high s h = rw h

-- a looped receiver hears the level that its transmitter puts out
line_looped : (s : Side) (receiver transmitter rxd : Bool) → s.mr2 / 64 % 4 ≡ 2
    → line_of s receiver transmitter rxd
    ≡ pick (s.enabled && transmitter)
    (Feeds.Pulse s.transmitter.txd (record { format = format_of s.mr1; sixteen = is_sixteen (s.csr % 16) }))
    Feeds.Nothing
unfolding line_of pulse_of pick
line_looped s receiver transmitter rxd h = rw h (go s.enabled)
  where
    x : Feed
    x = pick transmitter (Feeds.Pulse s.transmitter.txd (record { format = format_of s.mr1; sixteen = is_sixteen (s.csr % 16) })) Feeds.Nothing

    go : (b : Bool) → pick (not b || false) Feeds.Nothing x
        ≡ pick (b && transmitter) (Feeds.Pulse s.transmitter.txd (record { format = format_of s.mr1; sixteen = is_sixteen (s.csr % 16) })) Feeds.Nothing
    go true = refl
    go false = refl

-- a tick or a pin event leaves the enable, MR1 and CSR
record Stands (s t : Side) : Type 0 where
  enabled : t.enabled ≡ s.enabled
  mr1 : t.mr1 ≡ s.mr1
  csr : t.csr ≡ s.csr

stands : (ch : Channel) (f : Front) (e : Event) → clocks e ≡ true → Stands (side_of ch f) (side_of ch (front_then f e))
stands ch f e k = rw (side_next_lem ch f e) (go ch e k)
  where
    go : (ch : Channel) (e : Event) → clocks e ≡ true → Stands (side_of ch f) (side_next ch f e)
    go ch ChipReset k = absurd (true≢false (sym k))
    go ch (Read n) k = absurd (true≢false (sym k))
    go ch (Write n byte) k = absurd (true≢false (sym k))
    go ch Acknowledge k = absurd (true≢false (sym k))
    go A (Pins x) k = record { enabled = refl; mr1 = refl; csr = refl }
    go B (Pins x) k = record { enabled = refl; mr1 = refl; csr = refl }
    go A Tick k = record { enabled = refl; mr1 = refl; csr = refl }
    go B Tick k = record { enabled = refl; mr1 = refl; csr = refl }

-- a tick or a pin event writes no register
clocks_leave : (ch : Channel) (e : Event) → clocks e ≡ true → leaves_modes ch e ≡ true
clocks_leave ch ChipReset k = absurd (true≢false (sym k))
clocks_leave ch (Read n) k = refl
clocks_leave ch (Write n byte) k = absurd (true≢false (sym k))
clocks_leave ch Acknowledge k = refl
clocks_leave ch (Pins x) k = refl
clocks_leave ch Tick k = refl

-- what a tick or a pin event hands on
pub pulse_handed : (ch : Channel) (f : Front) (e : Event) → clocks e ≡ true
    → (rxd : Bool) × (hands_to ch f e ≡ line_of (side_of ch (front_then f e)) (pulsed_by receives ch f e) (pulsed_by transmits ch f e) rxd)
pulse_handed ch f ChipReset k = absurd (true≢false (sym k))
pulse_handed ch f (Read n) k = absurd (true≢false (sym k))
pulse_handed ch f (Write n byte) k = absurd (true≢false (sym k))
pulse_handed ch f Acknowledge k = absurd (true≢false (sym k))
pulse_handed ch f (Pins x) k = (has_bit x (of_channel ch 6 7), refl)
pulse_handed ch f Tick k = (has_bit f.inputs.levels (of_channel ch 6 7), refl)

heard_one : (ch : Channel) (d g : Device) (e : Event) → is_sound_of d ≡ true → is_sound_of g ≡ true → Apart ch d.front g.front → clocks e ≡ true
    → receiver_of ch (step_of d e).state
    ≡ (fed_of (receiver_of ch d) (looped_feed ch d.front e (txd_in ch (step_of g e).lines))).receiver
heard_one ch d g e s t h k =
    let f : Front = d.front in
    let next = apart_next ch f g.front e h (clocks_leave ch e k) in
    let same : (side_of ch (front_then f e)).transmitter ≡ (side_of ch (front_then g.front e)).transmitter =
    ap (λ (x : Front). (side_of ch x).transmitter) next.same ∙ sender-of ch (front_then g.front e) _ in
    let shown : txd_in ch (step_of g e).lines ≡ (side_of ch (front_then f e)).transmitter.txd =
    txd_then ch g e t ∙ txd_sent (side_of ch (front_then g.front e)) next.normal ∙ ap (λ (x : Transmitter). x.txd) (sym same) in
    let handed = pulse_handed ch f e k in
    let still = stands ch f e k in
    step_receiver ch d e s
    ∙ ap (λ (x : Feed). (fed_of (receiver_at ch d) x).receiver)
    (hands ch f e ∙ handed.1 ∙ line_looped (side_of ch (front_then f e)) _ _ handed.0 next.local
    ∙ rw (still.enabled, still.mr1, still.csr, shown))
  where
    sender-of : (ch : Channel) (f : Front) (m : ℕ) → (side_of ch (with_mr2 ch f m)).transmitter ≡ (side_of ch f).transmitter
    sender-of A f m = refl
    sender-of B f m = refl

pub loops : Loops step_of
loops =
    record {
      apart = apart_after;
      heard = λ ch d g es e s t h k c.
          heard_one ch (after step_of d es) (after step_of g es) e (sound_after d es s) (sound_after g es t) (apart_after ch d g es s t h k) c;
      high = λ ch d g es s t h k.
          let x : Device = after step_of d es in
          txd_then ch x (Read 1) (sound_after d es s)
          ∙ txd_high (side_of ch (front_then x.front (Read 1))) (rw (mr2_stays ch x.front (Read 1) refl) (apart_after ch d g es s t h k).local);
    }

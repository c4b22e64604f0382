-- What ReadsBack supposes of a sender is met for every modelled MR1, every modelled MR2 of normal mode, every byte and either channel, on its pin's clock. So what it
-- sends is read back by a receiver with the same format, on either channel of this chip or of another. Assumes nothing.
use Prim.Native.Nat.{ℕ, zero, suc, ◌<◌, ◌-◌, ◌/◌, ◌%◌, ◌^◌, ◌+◌}
use mathlib.Core.Path.{◌≡◌, refl, sym, ◌∙◌, ap, subst}
use mathlib.Core.Bool.{Bool, true, false, and-false, or-true}
use mathlib.Core.List.{List, [], ◌∷◌, ◌++◌}
use native.Mathlib.Omega.{arith}
use lib.ListN.{length}
use Rattle.format.specs.Pick.{pick}
use Rattle.format.specs.Format.{mr1_not_modelled, mr2_not_modelled, format_of, stop_code_of}
use Rattle.format.specs.declared.counts.Bits.{Bits}
use Rattle.format.specs.declared.format.Format.{Format}
use Rattle.frame.specs.Levels.{frame}
use Rattle.frame.proofs.Laws.Levels.{frame_length, length_sixteen}
use Rattle.character.specs.Character.{clean}
use Rattle.clocks.specs.Pulses.Side.{transmits}
use Rattle.transmitter_state.specs.declared.state.Transmitter.{Transmitter}
use Rattle.transmitter_state.specs.State as Transmitters
use Rattle.transmitter_state.specs.Sending.{clear_to_send}
use Rattle.transmitter.specs.declared.transmitter.Input.TheVariants as Inputs
use Rattle.transmitter.specs.Transmitter.{after_input}
use Rattle.transmitter.specs.Frames.{after, Startable}
use Rattle.byte_bits.specs.Bytes.{has_bit}
use Rattle.events.specs.declared.events.Event.{Event}
use Rattle.events.specs.declared.events.Event.TheVariants.{Write, Pins}
use Rattle.demands.specs.Chip.{Channel, of_channel, register_of, and_then, over}
use Rattle.demands.specs.Chip.Channel.{A, B}
use Rattle.demands.specs.Told.{levels_after, Programmed, programmed_then, programmed, in_normal}
use Rattle.demands.specs.Clocks.{pulsed_after}
use Rattle.demands.specs.Pulses.{edge_by}
use Rattle.demands.specs.Delivery.{held}
use Rattle.demands.specs.Sending.{standing, inputs_at, inputs_from, sender_after, Starts, started_frame, keeps_from, pulses_from, sent_from}
use Rattle.demands.specs.ReadBack.{format_after, SameFormat, ReadBack}
use Rattle.demands.proofs.Laws.Formats.{none_same}
use Rattle.demands.proofs.Pulses.{pulses}
use Rattle.demands.proofs.ReadBack.{reads_back}
use Rattle.demands.proofs.Laws.Looks.{chip}
use Rattle.demands.proofs.Computing.{computing}
use Rattle.demands_met.proofs.EveryFormat.{told_on, levels_on, heard, Modelled, modelled, listening, Met, met}

-- ---- a sender ----

-- any MR2 that writes accept ("MR2 .. bit 5 set" is refused) and that chooses normal mode, in which TxD shows what is sent
pub record Modelled2 (mr2 : ℕ) : Type 0 where
  pub mode : mr2 / 64 % 4 ≡ 0
  pub five : mr2 / 32 % 2 ≡ 0

modelled2 : (mr2 : ℕ) → Modelled2 mr2 → mr2_not_modelled mr2 ≡ false
modelled2 mr2 m = rw m.five

-- MR1, MR2, CSR code 14, the transmitter enabled, and a byte to send
abbrev pub writing : Channel → ℕ → ℕ → ℕ → List Event
writing ch mr1 mr2 x =
    Write (register_of ch 0) mr1 ∷ Write (register_of ch 0) mr2 ∷ Write (register_of ch 1) 238 ∷ Write (register_of ch 2) 4
    ∷ Write (register_of ch 3) x ∷ []

-- "transmitter on a falling edge (A IP3, B IP5)", with IP0 and IP1, CTS "if chosen", low and every other pin high: it falls, and so many times more
abbrev pub falls : Channel → Event
falls ch = Pins (of_channel ch 244 220)

abbrev pub falls_on : Channel → ℕ → List Event
falls_on ch zero = []
falls_on ch (suc n) = Pins 252 ∷ falls ch ∷ falls_on ch n

abbrev written : ℕ → ℕ → Programmed
written mr1 mr2 = record { mr1 = mr1; mr2 = mr2; moved = true; csr = 238; receives = false; transmits = true }

writing_told : (ch : Channel) (mr1 mr2 x : ℕ) → mr1_not_modelled mr1 ≡ false → mr2_not_modelled mr2 ≡ false
    → programmed ch (writing ch mr1 mr2 x) ≡ written mr1 mr2
unfolding over programmed_then pick
writing_told A mr1 mr2 x m n = rw (m, n)
writing_told B mr1 mr2 x m n = rw (m, n)

-- the transmitter's pin
falls_pulse : (levels : ℕ) (ch : Channel) (es : List Event) → (programmed ch es).csr ≡ 238 → levels_after levels es ≡ 252
    → pulsed_after transmits ch levels es (falls ch) ≡ true
unfolding has_bit pick
falls_pulse levels ch es csr up =
    let code : 13 < (programmed ch es).csr % 16 = rw csr (omega arith) in
    pulses.pin transmits ch levels es (falls ch) code ∙ rw up (go ch)
  where
    go : (ch : Channel) → edge_by transmits ch 252 (falls ch) ≡ true
    go A = refl
    go B = refl

back_none : (levels : ℕ) (ch : Channel) (es : List Event) → (programmed ch es).csr ≡ 238 → pulsed_after transmits ch levels es (Pins 252) ≡ false
unfolding has_bit pick
back_none levels ch es csr =
    let code : 13 < (programmed ch es).csr % 16 = rw csr (omega arith) in
    pulses.pin transmits ch levels es (Pins 252) code ∙ go ch
  where
    go : (ch : Channel) → edge_by transmits ch (levels_after levels es) (Pins 252) ≡ false
    go A = rw and-false
    go B = rw and-false

pulses_on : (levels : ℕ) (ch : Channel) (es : List Event) (n : ℕ) → (programmed ch es).csr ≡ 238 → pulses_from levels ch es (falls_on ch n) ≡ n
unfolding pulses_from
pulses_on levels ch es zero csr = refl
pulses_on levels ch es (suc n) csr =
    let fs : List Event = and_then es (Pins 252) in
    let gs : List Event = and_then fs (falls ch) in
    let once : (programmed ch fs).csr ≡ 238 = rw (told_on ch es 252) csr in
    let twice : (programmed ch gs).csr ≡ 238 = rw (told_on ch fs (of_channel ch 244 220)) once in
    rw (back_none levels ch es csr, falls_pulse levels ch fs once (levels_on levels es 252), pulses_on levels ch gs n twice) (omega arith)

keeps_on : (ch : Channel) (before : List Event) (n : ℕ) → keeps_from ch before (falls_on ch n) ≡ true
unfolding keeps_from
keeps_on ch before zero = refl
keeps_on ch before (suc n) = keeps_on ch (and_then (and_then before (Pins 252)) (falls ch)) n

-- ---- all that is supposed of it ----

-- its frame: MR2 has the stop code in bits 3-0
abbrev pub frame_of : ℕ → ℕ → ℕ → List Bool
frame_of mr1 mr2 x = frame true (format_of mr1) (stop_code_of mr2) x

-- it has as many pulses as the pin falls
abbrev pub sending : Channel → ℕ → ℕ → ℕ → List Event
sending ch mr1 mr2 x = falls_on ch (length (frame_of mr1 mr2 x) - 1)

-- before it starts
record Ready (ch : Channel) (mr1 mr2 x : ℕ) : Type 0 where
  rests : levels_after 252 (writing ch mr1 mr2 x) ≡ 252
  startable : Startable (sender_after 252 ch (writing ch mr1 mr2 x)) (standing 252 ch (writing ch mr1 mr2 x) (falls ch))
  holding : (sender_after 252 ch (writing ch mr1 mr2 x)).holding ≡ x

-- what the writes bring to it: the first of MR1 and MR2 finds the pointer at MR1, and the second changes no mode
inputs_are : (ch : Channel) (mr1 mr2 x : ℕ) → mr1_not_modelled mr1 ≡ false → mr2 / 64 % 4 ≡ 0
    → inputs_from 252 ch [] (writing ch mr1 mr2 x) ≡ Inputs.Enable ∷ Inputs.Write x ∷ []
unfolding over programmed_then inputs_at inputs_from pick
inputs_are A mr1 mr2 x m z = rw (m, z, and-false)
inputs_are B mr1 mr2 x m z = rw (m, z, and-false)

by_computing : (ch : Channel) (mr1 mr2 x : ℕ) → mr1_not_modelled mr1 ≡ false → mr2 / 64 % 4 ≡ 0 → Ready ch mr1 mr2 x
unfolding computing
by_computing ch mr1 mr2 x m z =
    let t : Transmitter = Transmitters.with_holding (Transmitters.with_enabled Transmitters.fresh_transmitter true) true x in
    let sender : sender_after 252 ch (writing ch mr1 mr2 x) ≡ t = ap (after after_input Transmitters.fresh_transmitter) (inputs_are ch mr1 mr2 x m z) in
    record {
      rests = rested ch;
      startable = rw sender (record { idle = refl; enabled = refl; full = refl; clear = cleared ch });
      holding = ap (λ (u : Transmitter). u.holding) sender;
    }
  where
    rested : (ch : Channel) → levels_after 252 (writing ch mr1 mr2 x) ≡ 252
    rested A = refl
    rested B = refl

    cleared : (ch : Channel) → clear_to_send (standing 252 ch (writing ch mr1 mr2 x) (falls ch)) ≡ true
    cleared A = rw or-true
    cleared B = rw or-true

some : (mr1 mr2 x : ℕ) → 1 + (length (frame_of mr1 mr2 x) - 1) ≡ length (frame_of mr1 mr2 x)
some mr1 mr2 x = rw (frame_length true (format_of mr1) (stop_code_of mr2) x, length_sixteen (format_of mr1) (stop_code_of mr2)) (omega arith)

pub record MetSender (ch : Channel) (mr1 mr2 x : ℕ) : Type 0 where
  pub starts : Starts 252 ch (writing ch mr1 mr2 x) (falls ch)
  pub normal : in_normal (programmed ch (writing ch mr1 mr2 x)) ≡ true
  pub keeps : keeps_from ch (and_then (writing ch mr1 mr2 x) (falls ch)) (sending ch mr1 mr2 x) ≡ true
  pub whole : pulses_from 252 ch (writing ch mr1 mr2 x) (falls ch ∷ sending ch mr1 mr2 x)
      ≡ length (started_frame 252 ch (writing ch mr1 mr2 x) (falls ch))
  pub sixteen : (standing 252 ch (writing ch mr1 mr2 x) (falls ch)).sixteen ≡ true
  pub format : format_after ch (writing ch mr1 mr2 x) ≡ format_of mr1
  pub holding : (sender_after 252 ch (writing ch mr1 mr2 x)).holding ≡ x

pub met_sender : (ch : Channel) (mr1 mr2 x : ℕ) → Modelled mr1 → Modelled2 mr2 → MetSender ch mr1 mr2 x
unfolding pulses_from
met_sender ch mr1 mr2 x m n =
    let es : List Event = writing ch mr1 mr2 x in
    let told : programmed ch es ≡ written mr1 mr2 = writing_told ch mr1 mr2 x (modelled mr1 m) (modelled2 mr2 n) in
    let csr : (programmed ch es).csr ≡ 238 = rw told in
    let r : Ready ch mr1 mr2 x = by_computing ch mr1 mr2 x (modelled mr1 m) n.mode in
    let pulse : pulsed_after transmits ch 252 es (falls ch) ≡ true = falls_pulse 252 ch es csr r.rests in
    let on : (programmed ch (and_then es (falls ch))).csr ≡ 238 = rw (told_on ch es (of_channel ch 244 220)) csr in
    record {
      starts = record { pulse = pulse; mode = rw (told, n.mode); startable = r.startable };
      normal = rw (told, n.mode);
      keeps = keeps_on ch (and_then es (falls ch)) (length (frame_of mr1 mr2 x) - 1);
      whole =
          rw (pulse, pulses_on 252 ch (and_then es (falls ch)) (length (frame_of mr1 mr2 x) - 1) on)
          (some mr1 mr2 x ∙ rw (told, r.holding));
      sixteen = rw told;
      format = rw told;
      holding = r.holding;
    }

-- ---- what it sends is read back ----

-- the levels of TxD at its pulses, which the receiver's pulses find
abbrev pub on_tx_d : Channel → ℕ → ℕ → ℕ → List Bool
on_tx_d ch mr1 mr2 x = sent_from chip 252 ch (writing ch mr1 mr2 x) (falls ch ∷ sending ch mr1 mr2 x)

-- "A frame the transmitter sends is read back by an idle, enabled, empty, undisturbed receiver with the same format and 16X pulses as the same
-- character, cut to its data bits, without an error mark.": MR1 of the sender and of the receiver choose the same format
pub record SentRead (here : ℕ) (sender receiver : Channel) (mr1 mr2 other x : ℕ) : Type 0 where
  pub back : ReadBack chip here receiver (listening receiver other) (heard receiver (on_tx_d sender mr1 mr2 x)) x
  pub held : held chip here receiver (listening receiver other ++ heard receiver (on_tx_d sender mr1 mr2 x)) ≡ clean (x % 2 ^ (mr1 % 4 + 5)) ∷ []

pub sent_read : (here : ℕ) (sender receiver : Channel) (mr1 mr2 other x : ℕ) → Modelled mr1 → Modelled2 mr2 → Modelled other
    → SameFormat (format_of mr1) (format_of other) → SentRead here sender receiver mr1 mr2 other x
unfolding format_of
sent_read here sender receiver mr1 mr2 other x m n o same =
    let s : MetSender sender mr1 mr2 x = met_sender sender mr1 mr2 x m n in
    let r : Met here receiver other (on_tx_d sender mr1 mr2 x) = met here receiver other (on_tx_d sender mr1 mr2 x) o in
    let back : ReadBack chip here receiver (listening receiver other) (heard receiver (on_tx_d sender mr1 mr2 x)) x =
    subst (λ (y : ℕ). ReadBack chip here receiver (listening receiver other) (heard receiver (on_tx_d sender mr1 mr2 x)) y) s.holding
    (reads_back.sent 252 here sender receiver (writing sender mr1 mr2 x) (sending sender mr1 mr2 x) (listening receiver other)
    (heard receiver (on_tx_d sender mr1 mr2 x)) (falls sender) s.starts s.normal s.keeps s.whole s.sixteen (rw (s.format, r.format) same)
    r.listens r.undisturbed (r.found ∙ rw r.format)) in
    record {
      back = back;
      held =
          back.held ∙ ap (λ (f : Format). clean (x % 2 ^ f.width.0) ∷ []) r.format
          ∙ ap (λ (w : Bits). clean (x % 2 ^ w.0) ∷ []) (sym same.bits);
    }

-- "10 none; 2 odd, or forced high": MR1 23 sends to MR1 19, and 19 to 23
pub none_read : (mr2 x : ℕ) → Modelled2 mr2 → SentRead 255 A B 23 mr2 19 x × SentRead 255 A B 19 mr2 23 x
none_read mr2 x n =
    let odd : Modelled 23 = record { seven = refl; parity = omega arith } in
    let even : Modelled 19 = record { seven = refl; parity = omega arith } in (
      sent_read 255 A B 23 mr2 19 x odd n even (none_same 23 19 refl refl refl),
      sent_read 255 A B 19 mr2 23 x even n odd (none_same 19 23 refl refl refl),
    )

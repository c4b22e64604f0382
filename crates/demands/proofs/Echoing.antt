-- Order 2, the echo of any sound device: the side after a tick or a pin event is known part by part, and in an echo mode its echoed level alone moves;
-- what TxD shows is read off the side. Assumes nothing.
use Prim.Native.Nat.{ℕ, zero, suc, ◌/◌, ◌%◌, ◌<◌}
use mathlib.Core.Path.{◌≡◌, refl, sym, ap, ◌∙◌}
use mathlib.Core.Bool.{Bool, true, false, not, ◌&&◌, ◌||◌, true≢false, and-false, or-true}
use native.Mathlib.Omega.{arith}
use lib.Dec.{eqb}
use Rattle.format.specs.Pick.{pick}
use Rattle.byte_bits.specs.Bytes.{has_bit}
use Rattle.feed.specs.declared.feed.Feed.{Feed}
use Rattle.feed.specs.declared.feed.Feed.TheVariants as Feeds
use Rattle.receiver.specs.Receiver.{fed_of}
use Rattle.clocks.specs.Pulses.Side.{receives}
use Rattle.inputs.specs.Inputs.{moved_of, pins_of_a, pins_of_b}
use Rattle.front_side.specs.declared.side.Side.{Side}
use Rattle.front_modes.specs.Modes.{txd_shown, txd_of}
use Rattle.front_side_clocks.specs.Clocking.{transmitter_pulsed, echo_taken, line_of}
use Rattle.front_commands.specs.Commands.{side_commanded}
use Rattle.events.specs.Command.{command_forbidden}
use Rattle.front.specs.declared.front.Front.{Front}
use Rattle.events.specs.declared.events.Event.{Event}
use Rattle.events.specs.declared.events.Event.TheVariants.{ChipReset, Read, Write, Acknowledge, Pins, Tick}
use Rattle.chip_device.specs.declared.device.Device.{Device}
use Rattle.chip_device.specs.Device.{is_sound_of}
use Rattle.chip_step.specs.Chip.{step_of}
use Rattle.chip_laws.proofs.Alone.{alone}
use Rattle.demands.specs.Chip.{Channel, of_channel, register_of}
use Rattle.demands.specs.Chip.Channel.{A, B}
use Rattle.demands.specs.Clocks.{front_then, side_of, clocks_of, pulsed_by}
use Rattle.demands.specs.Pulses.{clocks}
use Rattle.demands.specs.Loops.{txd_in}
use Rattle.demands.specs.Echoing.{mode_on, echoes_on, Echoing}
use Rattle.demands.proofs.Laws.Run.{receiver_at, step_receiver}
use Rattle.demands.proofs.Laws.Fronts.{side_next, side_next_lem}
use Rattle.demands.proofs.Laws.Told.{levels_next}
use Rattle.demands.proofs.Laws.Feeds.{hands}
use Rattle.demands.proofs.Loops.{txd_then, pulse_handed}

-- ---- a side in an echo mode ----

record Echoes (mode : ℕ) : Type 0 where
  loops : eqb mode 2 ≡ false
  echoes : eqb (mode % 2) 1 ≡ true

echo_mode : (m : ℕ) → m < 4 → (eqb m 1 || eqb m 3) ≡ true → Echoes m
echo_mode zero l h = absurd (true≢false (sym h))
echo_mode (suc zero) l h = record { loops = refl; echoes = refl }
echo_mode (suc (suc zero)) l h = absurd (true≢false (sym h))
echo_mode (suc (suc (suc zero))) l h = record { loops = refl; echoes = refl }
echo_mode (suc (suc (suc (suc m)))) l h = absurd (omega arith)

shows_echo : (ch : Channel) (f : Front) → echoes_on ch f ≡ true → txd_of (side_of ch f) ≡ (not (side_of ch f).enabled || (side_of ch f).echo)
unfolding txd_shown pick
shows_echo ch f h = let m = echo_mode (mode_on ch f) (omega arith) h in rw (m.loops, m.echoes)

-- ---- a tick or a pin event ----

-- what it makes of a side in an echo mode
record Clocked (ch : Channel) (f : Front) (e : Event) (s : Side) : Type 0 where
  mr2 : s.mr2 ≡ (side_of ch f).mr2
  enabled : s.enabled ≡ (side_of ch f).enabled
  echo : s.echo
      ≡ pick (pulsed_by receives ch f e && (side_of ch f).enabled) (has_bit (front_then f e).inputs.levels (of_channel ch 6 7)) (side_of ch f).echo
  sender : s.transmitter ≡ (side_of ch f).transmitter

clocked : (ch : Channel) (f : Front) (e : Event) → clocks e ≡ true → echoes_on ch f ≡ true → Clocked ch f e (side_of ch (front_then f e))
unfolding transmitter_pulsed echo_taken pulsed_by clocks_of pins_of_a pins_of_b moved_of pick
clocked ch f e k h = rw (side_next_lem ch f e) (go ch e k (echo_mode (mode_on ch f) (omega arith) h).echoes)
  where
    and_yes : (b : Bool) → (b && true) ≡ b
    and_yes true = refl
    and_yes false = refl

    go : (ch : Channel) (e : Event) → clocks e ≡ true → eqb (mode_on ch f % 2) 1 ≡ true → Clocked ch f e (side_next ch f e)
    go ch ChipReset k z = absurd (true≢false (sym k))
    go ch (Read n) k z = absurd (true≢false (sym k))
    go ch (Write n byte) k z = absurd (true≢false (sym k))
    go ch Acknowledge k z = absurd (true≢false (sym k))
    go A (Pins x) k z = record { mr2 = refl; enabled = refl; echo = rw (levels_next f (Pins x), z, and_yes); sender = rw (z, and-false) }
    go B (Pins x) k z = record { mr2 = refl; enabled = refl; echo = rw (levels_next f (Pins x), z, and_yes); sender = rw (z, and-false) }
    go A Tick k z = record { mr2 = refl; enabled = refl; echo = rw (levels_next f Tick, z, and_yes); sender = rw (z, and-false) }
    go B Tick k z = record { mr2 = refl; enabled = refl; echo = rw (levels_next f Tick, z, and_yes); sender = rw (z, and-false) }

-- ---- what TxD shows ----

shown_after : (ch : Channel) (d : Device) (e : Event) → is_sound_of d ≡ true → clocks e ≡ true → echoes_on ch d.front ≡ true
    → txd_in ch (step_of d e).lines ≡ (not (side_of ch (front_then d.front e)).enabled || (side_of ch (front_then d.front e)).echo)
shown_after ch d e s k h =
    let c = clocked ch d.front e k h in
    txd_then ch d e s ∙ shows_echo ch (front_then d.front e) (rw c.mr2 h)

taken : (ch : Channel) (d : Device) (e : Event) → is_sound_of d ≡ true → clocks e ≡ true → echoes_on ch d.front ≡ true
    → (side_of ch d.front).enabled ≡ true → pulsed_by receives ch d.front e ≡ true
    → txd_in ch (step_of d e).lines ≡ has_bit (step_of d e).state.front.inputs.levels (of_channel ch 6 7)
unfolding pick
taken ch d e s k h on p =
    let c = clocked ch d.front e k h in
    shown_after ch d e s k h ∙ rw (c.enabled, c.echo, on, p, alone.front d e s)

-- a status read leaves a side
read_side : (ch : Channel) (f : Front) → side_of ch (front_then f (Read 1)) ≡ side_of ch f
unfolding pick
read_side A f = side_next_lem A f (Read 1)
read_side B f = side_next_lem B f (Read 1)

stays : (ch : Channel) (d : Device) (e : Event) → is_sound_of d ≡ true → clocks e ≡ true → echoes_on ch d.front ≡ true
    → pulsed_by receives ch d.front e ≡ false → txd_in ch (step_of d e).lines ≡ txd_in ch (step_of d (Read 1)).lines
unfolding pick
stays ch d e s k h p =
    let c = clocked ch d.front e k h in
    shown_after ch d e s k h ∙ rw (c.enabled, c.echo, p)
    (sym (txd_then ch d (Read 1) s ∙ ap txd_of (read_side ch d.front) ∙ shows_echo ch d.front h))

off_shown : (ch : Channel) (f : Front) → echoes_on ch f ≡ true → (side_of ch f).enabled ≡ false → txd_of (side_of ch f) ≡ true
off_shown ch f h off = shows_echo ch f h ∙ rw off

-- ---- a command to a receiver that is off ----

record Raised (ch : Channel) (f : Front) (s : Side) : Type 0 where
  mr2 : s.mr2 ≡ (side_of ch f).mr2
  echo : s.echo ≡ true

commanded : (ch : Channel) (f : Front) (byte : ℕ) → (side_of ch f).enabled ≡ false → command_forbidden byte ≡ false
    → Raised ch f (side_of ch (front_then f (Write (register_of ch 2) byte)))
unfolding side_commanded pick
commanded A f byte off free = rw (side_next_lem A f (Write 2 byte)) (record { mr2 = rw free; echo = rw (free, off) })
commanded B f byte off free = rw (side_next_lem B f (Write 10 byte)) (record { mr2 = rw free; echo = rw (free, off) })

enables : (ch : Channel) (d : Device) (byte : ℕ) → is_sound_of d ≡ true → echoes_on ch d.front ≡ true → (side_of ch d.front).enabled ≡ false
    → command_forbidden byte ≡ false → txd_in ch (step_of d (Write (register_of ch 2) byte)).lines ≡ true
enables ch d byte s h off free =
    let e : Event = Write (register_of ch 2) byte in
    let r = commanded ch d.front byte off free in
    txd_then ch d e s ∙ shows_echo ch (front_then d.front e) (rw r.mr2 h) ∙ rw (r.echo, or-true)

-- ---- remote loopback ----

line_remote : (s : Side) (receiver transmitter rxd : Bool) → eqb (s.mr2 / 64 % 4) 3 ≡ true → line_of s receiver transmitter rxd ≡ Feeds.Nothing
unfolding line_of pick
line_remote s receiver transmitter rxd h = rw (h, or-true)

pub echoing : Echoing step_of
unfolding fed_of
echoing =
    record {
      disabled = λ ch d e s h off. txd_then ch d e s ∙ off_shown ch (front_then d.front e) (rw (← alone.front d e s) h) (rw (← alone.front d e s) off);
      enables = enables;
      taken = taken;
      stays = stays;
      sender = λ ch d e s k h. rw (alone.front d e s) (clocked ch d.front e k h).sender;
      receiver = λ ch d e s k h.
          let f : Front = d.front in
          let handed = pulse_handed ch f e k in
          let m : (side_of ch (front_then f e)).mr2 ≡ (side_of ch f).mr2 = (clocked ch f e k (rw h)).mr2 in
          step_receiver ch d e s
          ∙ ap (λ (x : Feed). (fed_of (receiver_at ch d) x).receiver)
          (hands ch f e ∙ handed.1 ∙ line_remote (side_of ch (front_then f e)) _ _ handed.0 (rw (m, h)));
    }

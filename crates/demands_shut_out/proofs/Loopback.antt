-- Order 2: wrong loopback, each ours but for one fault, and each shut out by a statement: by what TxD and TxRDY show, by demand 3's characters, and by
-- the law that ties what is looped back to a pin. Assumes nothing.
use Prim.Native.Nat.{ℕ, ◌+◌, ◌-◌, ◌/◌, ◌%◌, ◌<◌}
use mathlib.Core.Path.{◌≡◌, refl, sym, ap}
use mathlib.Core.Bool.{Bool, true, false, ◌&&◌, ◌||◌, true≢false}
use mathlib.Core.List.{List, [], ◌∷◌, ◌++◌}
use native.Mathlib.Omega.{arith}
use lib.Dec.{eqb}
use lib.ListN.{replicate}
use Rattle.format.specs.Pick.{pick}
use Rattle.format.specs.Format.{format_of}
use Rattle.frame.specs.Levels.{frame}
use Rattle.byte_bits.specs.Bytes.{has_bit}
use Rattle.receiver_state.specs.declared.arrivals.Receiver.{Receiver}
use Rattle.transmitter_state.specs.declared.state.Transmitter.{Transmitter}
use Rattle.transmitter.specs.declared.transmitter.Input.TheVariants.{ModeChange}
use Rattle.transmitter.specs.Transmitter.{after_input}
use Rattle.front_side.specs.Side.{with_echo}
use Rattle.front.specs.Front.{with_sides}
use Rattle.events.specs.declared.events.Event.{Event}
use Rattle.events.specs.declared.events.Event.TheVariants.{Write, Pins}
use Rattle.chip_device.specs.declared.device.Device.{Device}
use Rattle.chip_step.specs.declared.chip.Answer.{Answer}
use Rattle.chip_step.specs.Chip.{step_of}
use Rattle.chip_laws.specs.Table.{Step}
use Rattle.chip_laws.specs.Sound.{after}
use Rattle.chip_laws.specs.Reset.{reset_at}
use Rattle.chip_laws.proofs.Wrong as Wrong
use Rattle.demands.specs.Chip.{chip_of}
use Rattle.demands.specs.Chip.Channel.{A}
use Rattle.demands.specs.Delivery.{lines_at, fate_of, ledger_from, read_from, held_for, Demand3}
use Rattle.demands.specs.Demand1.{Request}
use Rattle.demands.specs.Registers.{Interrupts, Outputs}
use Rattle.demands.specs.Received.{change_from, Received}
use Rattle.demands.specs.Sending.{inputs_at, inputs_from, echo_then, echo_from, Transmits}
use Rattle.demands.specs.Loops.{Apart, Loops}
use Rattle.demands.specs.Echoing.{Echoing}
use Rattle.demands.specs.Cases.{heard, holds, all_hold, pulsed, case7looped}
use Rattle.demands.proofs.Computing.{computing}
use Rattle.demands_shut_out.proofs.Chips.{chip_with, reset_goes_on, is_write_of, is_clock, with_front, with_sender, with_mode2, leads_to, shown_by, falls}
use Rattle.demands_shut_out.proofs.Delivery.{due, had, differs, line}

-- ---- what is wrong ----

-- A's mode
abbrev mode_a : Device → ℕ
mode_a d = d.front.a.mr2 / 64 % 4

abbrev echoes_a : Device → Bool
echoes_a d = eqb (mode_a d) 1 || eqb (mode_a d) 3

-- what a tick or a pin event makes of A in another mode
abbrev found_in : ℕ → Device → Event → Device
found_in mode d e = with_mode2 d.front.a.mr2 (step_of (with_mode2 (mode + d.front.a.mr2 % 64) d) e).state

-- "RxD is ignored": in local loopback it is heard, and by the receiver's own clock
abbrev hears_rxd : Step
hears_rxd = leads_to (λ d e x. pick (is_clock e && eqb (mode_a d) 2) (found_in 0 d e) x)

-- "no character or break starts": in the echo modes they do
abbrev starts_in_echo : Step
starts_in_echo = leads_to (λ d e x. pick (is_clock e && echoes_a d) (with_sender x (found_in 0 d e).front.a.transmitter) x)

-- "no character is put together": in remote loopback the receiver works as in automatic echo
abbrev remote_puts : Step
remote_puts = leads_to (λ d e x. pick (is_clock e && eqb (mode_a d) 3) (found_in 64 d e) x)

abbrev with_txda : Answer → Bool → Answer
with_txda x level = Wrong.with_lines x (record { irq = x.lines.irq; txda = level; txdb = x.lines.txdb; op = x.lines.op })

-- "TxD stays high": it shows what is sent, in every mode
abbrev moves_txd : Step
moves_txd d e = let x : Answer = step_of d e in with_txda x x.state.front.a.transmitter.txd

-- "at each pulse": the echo follows RxD between them
abbrev follows_rxd : Step
follows_rxd d e =
    let x : Answer = step_of d e in
    with_txda x (pick (echoes_a x.state) (has_bit x.state.front.inputs.levels 6) x.lines.txda)

-- "TxRDY and TxEMT read 0": SR bit 2 is set in the echo modes; or ISR bit 0 is; or OP6, which OPCR bit 6 turns into its complement, is low
abbrev ready_in_echo : Step
ready_in_echo = shown_by (λ d n byte. pick (eqb n 1 && echoes_a d) (byte + 4) byte)

abbrev asks_in_echo : Step
asks_in_echo = shown_by (λ d n byte. pick (eqb n 5 && echoes_a d) (byte + 1) byte)

abbrev lowers_in_echo : Step
lowers_in_echo d e =
    let x : Answer = step_of d e in
    Wrong.with_lines x
    (record {
      irq = x.lines.irq;
      txda = x.lines.txda;
      txdb = x.lines.txdb;
      op = pick (echoes_a x.state && has_bit x.lines.op 6) (x.lines.op - 64) x.lines.op;
    })

-- "(high while disabled)": the level echoed last is shown
abbrev low_while_disabled : Step
low_while_disabled d e =
    let x : Answer = step_of d e in
    with_txda x (pick (echoes_a x.state) x.state.front.a.echo x.lines.txda)

-- a character under way goes on in an echo mode, though none starts
abbrev goes_on_in_echo : Step
goes_on_in_echo =
    leads_to
    (λ d e x. pick (is_clock e && (echoes_a d && eqb d.front.a.transmitter.phase 1)) (with_sender x (found_in 0 d e).front.a.transmitter) x)

-- a write to A's MR2
abbrev to_mr2 : Device → Event → Bool
to_mr2 d e = is_write_of 0 e && d.front.a.moved

-- "A mode change drops what is being sent": it is kept
abbrev keeps_sent : Step
keeps_sent = leads_to (λ d e x. pick (to_mr2 d e) (with_sender x d.front.a.transmitter) x)

-- the same mode written again is taken for a change
abbrev same_changes : Step
same_changes = leads_to (λ d e x. pick (to_mr2 d e) (with_sender x (after_input x.front.a.transmitter ModeChange)) x)

-- ---- the events ----

-- MR1 19 and this MR2, CSR code 15 (1X), and the transmitter enabled; then 85 to send, and its start bit
abbrev enabled : ℕ → List Event
enabled mr2 = Write 0 19 ∷ Write 0 mr2 ∷ Write 1 255 ∷ Write 2 4 ∷ []

abbrev started : ℕ → List Event
started mr2 = enabled mr2 ++ Write 3 85 ∷ falls ∷ []

-- RxDA goes low with no pulse of an enabled receiver's clock
abbrev low_between : List Event
low_between = Write 0 19 ∷ Write 0 71 ∷ Write 2 1 ∷ Pins 191 ∷ []

-- a one comes in, in remote loopback
abbrev remote : List Event
remote = Write 0 16 ∷ Write 0 192 ∷ Write 1 255 ∷ Write 2 1 ∷ heard (true ∷ frame false (format_of 16) 7 1)

-- RxDA is low for a character, in remote loopback
abbrev broken : List Event
broken = Write 0 16 ∷ Write 0 192 ∷ Write 1 255 ∷ Write 2 1 ∷ heard (true ∷ replicate 7 false)

-- into automatic echo in the middle of a one: "leaves an enabled receiver as just enabled"
abbrev midway : List Event
midway = line [] ++ heard (false ∷ true ∷ false ∷ []) ++ Write 0 64 ∷ heard (false ∷ false ∷ false ∷ true ∷ [])

-- both sides at 1X in local loopback, enabled, one pulse gone, with IP4 low; and in normal mode
abbrev looped : Device
looped = after step_of (reset_at 239) (Write 0 19 ∷ Write 0 135 ∷ Write 1 255 ∷ Write 2 5 ∷ Pins 231 ∷ Pins 239 ∷ [])

abbrev unlooped : Device
unlooped = with_mode2 7 looped

-- IP3 falls and IP4 rises, RxDA low
abbrev both : Event
both = Pins 183

record Computed : Type 0 where
  due_remote : due A remote ≡ []
  had_remote_puts : had (chip_of remote_puts) A remote ≡ 1 ∷ []
  due_midway : due A midway ≡ []
  had_reset_goes_on : had (chip_with reset_goes_on) A midway ≡ 1 ∷ []
  apart : Apart A looped.front unlooped.front

computed : Computed
unfolding computing lines_at fate_of ledger_from read_from held_for heard
computed =
    record {
      due_remote = refl;
      had_remote_puts = refl;
      due_midway = refl;
      had_reset_goes_on = refl;
      apart = record { local = refl; normal = refl; below = refl; same = refl };
    }

-- in automatic echo: a receiver that is off, and a low echoed; a frame under way
abbrev low_off : Device
low_off =
    let d : Device = after step_of (reset_at 255) (enabled 71) in
    with_front d (with_sides d.front (with_echo d.front.a false) d.front.b d.front.timer)

abbrev under_way : Device
under_way = with_mode2 71 (after step_of (reset_at 255) (started 7 ++ Pins 255 ∷ []))

three_six : 3 < 6
three_six = omega arith

six_eight : 6 < 8
six_eight = omega arith

-- ---- shut out ----

pub record WrongLoopback : Type 0 where
  -- by TxD
  pub no_moves_txd : Transmits (chip_of moves_txd) → ⊥
  pub no_follows_rxd : Transmits (chip_of follows_rxd) → ⊥
  pub no_keeps_sent : Transmits (chip_of keeps_sent) → ⊥
  pub no_same_changes : Transmits (chip_of same_changes) → ⊥
  -- by TxRDY
  pub no_ready_in_echo : Transmits (chip_of ready_in_echo) → ⊥
  pub no_starts_in_echo : Transmits (chip_of starts_in_echo) → ⊥
  pub no_asks_in_echo : Interrupts (chip_of asks_in_echo) → ⊥
  pub no_lowers_in_echo : Outputs (chip_of lowers_in_echo) → ⊥
  -- by the characters
  pub no_remote_puts : Demand3 (chip_of remote_puts) → ⊥
  pub no_keeps_assembly : Demand3 (chip_with reset_goes_on) → ⊥
  pub no_remote_breaks : Received (chip_of remote_puts) → ⊥
  -- by case 7 in local loopback
  pub no_hears_rxd_case : (r : Request) → all_hold (chip_of hears_rxd) r case7looped ≡ false
  pub no_moves_txd_case : (r : Request) → all_hold (chip_of moves_txd) r case7looped ≡ false
  -- by what is looped back
  pub no_hears_rxd : Loops hears_rxd → ⊥
  -- by the echo of states that no events reach
  pub no_low_while_disabled : Echoing low_while_disabled → ⊥
  pub no_goes_on_in_echo : Echoing goes_on_in_echo → ⊥

pub wrong_loopback : WrongLoopback
unfolding computing inputs_at inputs_from echo_then echo_from lines_at change_from ledger_from fate_of heard all_hold holds pulsed
wrong_loopback =
    record {
      no_moves_txd = λ h. true≢false (sym (h.line 255 A (started 135)));
      no_follows_rxd = λ h. true≢false (sym (h.line 255 A low_between));
      no_keeps_sent = λ h. true≢false (sym (h.line 255 A (started 7 ++ Write 0 71 ∷ Write 0 7 ∷ [])));
      no_same_changes = λ h. true≢false (h.line 255 A (started 7 ++ Write 0 15 ∷ []));
      no_ready_in_echo = λ h. true≢false (h.ready 255 A (enabled 71));
      no_starts_in_echo = λ h. true≢false (h.ready 255 A (started 71 ++ Write 0 7 ∷ []));
      no_asks_in_echo = λ h. true≢false (h.ready 255 A (enabled 71));
      no_lowers_in_echo = λ h. true≢false (sym (h.chosen 255 6 (Write 13 64 ∷ enabled 71) three_six six_eight));
      no_remote_breaks = λ h. true≢false (h.change 255 A broken);
      no_remote_puts = differs A remote 0 computed.due_remote computed.had_remote_puts (λ e. omega arith);
      no_keeps_assembly = differs A midway 0 computed.due_midway computed.had_reset_goes_on (λ e. omega arith);
      no_hears_rxd_case = λ r. refl;
      no_moves_txd_case = λ r. refl;
      no_low_while_disabled = λ h. true≢false (sym (h.disabled A low_off falls refl refl refl));
      no_goes_on_in_echo = λ h.
          let z : ◌≡◌ {A = ℕ} 2 1 = ap (λ (t : Transmitter). t.shifter.sent.0) (h.sender A under_way falls refl refl refl) in
          omega arith;
      no_hears_rxd = λ h.
          let z : ◌≡◌ {A = ℕ} 2 0 = ap (λ (r : Receiver). r.sampler.phase) (h.heard A looped unlooped [] both refl refl computed.apart refl refl) in
          omega arith;
    }

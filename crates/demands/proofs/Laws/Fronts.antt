-- What one event makes of the front, refused or not, part by part: each register has its own clause, and the parts it leaves are the same by
-- computing. Assumes nothing.
use Prim.Native.Nat.{ℕ, zero, suc, ◌<◌}
use mathlib.Core.Path.{◌≡◌, refl, ◌∙◌, ap}
use mathlib.Core.Bool.{Bool, true, false, or-false}
use native.Mathlib.Omega.{arith}
use lib.Dec.{eqb}
use borrow.Author.Tests.{lt-ltb, ne_eqb}
use Rattle.format.specs.Pick.{pick}
use Rattle.clocks.specs.declared.channel.Clocked.{Clocked}
use Rattle.inputs.specs.declared.inputs.ChannelPins.{ChannelPins}
use Rattle.inputs.specs.Inputs.{moved_of, changes_cleared, pins_of_a, pins_of_b}
use Rattle.outputs.specs.declared.outputs.Outputs.{Outputs}
use Rattle.outputs.specs.Outputs.{bits_set, bits_reset, outputs_chosen, opcr_not_modelled}
use Rattle.front_side.specs.declared.side.Side.{Side}
use Rattle.front_side.specs.Side.{fresh_side, with_transmitter, with_echo, with_clocks, mode_not_modelled, pointed_at, csr_written, set_changed, buffer_written}
use Rattle.front_modes.specs.Modes.{mode_set}
use Rattle.front_side_clocks.specs.Clocking.{transmitter_pulsed, echo_taken, side_clocked}
use Rattle.front_commands.specs.Commands.{side_commanded}
use Rattle.timer_state.specs.Counting.{with_preload, mode_of}
use Rattle.timer.specs.Timer.{started_of, stopped_of, mode_changed, transmitted_by}
use Rattle.front.specs.declared.front.Front.{Front}
use Rattle.front.specs.declared.front.SideHanded.{SideHanded}
use Rattle.front.specs.Front.{front_at, with_sides, with_ports, handed_nothing, handed_a, handed_b}
use Rattle.front_clocks.specs.Clocking.{counted_of, clocked_with, clocked_of, levels_moved}
use Rattle.front_reads.specs.Reads.{side_read, shared_read, register_read}
use Rattle.front_writes.specs.Writes.{commanded, preload_high, preload_low, acr_written, outputs_written, shared_written, register_written}
use Rattle.front_writes.specs.Writes as Writes
use Rattle.events.specs.declared.events.Event.{Event}
use Rattle.events.specs.declared.events.Event.TheVariants.{ChipReset, Read, Write, Acknowledge, Pins, Tick}
use Rattle.front_events.specs.FrontEvents.{front_stepped}
use Rattle.events.specs.Command.{command_forbidden}
use Rattle.chip_refusals.specs.Rows.{register_above15, forbidden_read, forbidden_command, write_not_modelled, setting_not_modelled}
use Rattle.chip_laws.specs.Alone.{handed_after}
use Rattle.demands.specs.Chip.{Channel, of_channel, register_of}
use Rattle.demands.specs.Chip.Channel.{A, B}
use Rattle.demands.specs.Clocks.{front_then, side_of, clocks_of}

-- ---- a write ----

abbrev pub side_written : Channel → Front → ℕ → ℕ → Side
side_written ch f n byte =
    let s : Side = side_of ch f in
    pick (eqb n (register_of ch 0)) (pick (mode_not_modelled s byte) s (mode_set s byte))
    (pick (eqb n (register_of ch 1)) (csr_written s byte)
    (pick (eqb n (register_of ch 2)) (pick (command_forbidden byte) s (side_commanded s byte))
    (pick (eqb n (register_of ch 3)) (buffer_written s byte)
    (pick (eqb n 4) (set_changed s f.acr byte)
    s))))

abbrev pub front_written : Front → ℕ → ℕ → Front
front_written f n byte =
    record {
      a = side_written A f n byte;
      b = side_written B f n byte;
      timer =
          pick (eqb n 4) (mode_changed f.timer f.acr byte)
          (pick (eqb n 6) (with_preload f.timer (preload_high f.timer.preload byte))
          (pick (eqb n 7) (with_preload f.timer (preload_low f.timer.preload byte))
          f.timer));
      inputs = f.inputs;
      outputs =
          pick (eqb n 13) (pick (opcr_not_modelled byte) f.outputs (outputs_chosen f.outputs byte))
          (pick (eqb n 14) (bits_set f.outputs byte)
          (pick (eqb n 15) (bits_reset f.outputs byte)
          f.outputs));
      acr = pick (eqb n 4) byte f.acr;
      imr = pick (eqb n 5) byte f.imr;
      ivr = pick (eqb n 12) byte f.ivr;
    }

-- a write that may be refused
handed_a_lem : (t : Bool) (f : Front) (x : SideHanded)
    → (pick t (handed_nothing f) (handed_a f x)).front ≡ with_sides f (pick t f.a x.side) f.b f.timer
unfolding pick
handed_a_lem true f x = refl
handed_a_lem false f x = refl

handed_b_lem : (t : Bool) (f : Front) (x : SideHanded)
    → (pick t (handed_nothing f) (handed_b f x)).front ≡ with_sides f f.a (pick t f.b x.side) f.timer
unfolding pick
handed_b_lem true f x = refl
handed_b_lem false f x = refl

handed_outputs : (t : Bool) (f : Front) (o : Outputs)
    → (pick t (handed_nothing f) (handed_nothing (outputs_written f o))).front ≡ outputs_written f (pick t f.outputs o)
unfolding pick
handed_outputs true f o = refl
handed_outputs false f o = refl

above_fifteen : (f : Front) (e : Event) → register_above15 e ≡ true → front_then f e ≡ f
unfolding handed_after pick
above_fifteen f e h = rw (h, front_then)

written_above : (f : Front) (n byte : ℕ) → 15 < n → front_then f (Write n byte) ≡ front_written f n byte
unfolding register_above15 pick
written_above f n byte h =
    above_fifteen f (Write n byte) (lt-ltb 15 n h)
    ∙ rw (
      ne_eqb n 0 (omega arith),
      ne_eqb n 1 (omega arith),
      ne_eqb n 2 (omega arith),
      ne_eqb n 3 (omega arith),
      ne_eqb n 4 (omega arith),
      ne_eqb n 5 (omega arith),
      ne_eqb n 6 (omega arith),
      ne_eqb n 7 (omega arith),
      ne_eqb n 8 (omega arith),
      ne_eqb n 9 (omega arith),
      ne_eqb n 10 (omega arith),
      ne_eqb n 11 (omega arith),
      ne_eqb n 12 (omega arith),
      ne_eqb n 13 (omega arith),
      ne_eqb n 14 (omega arith),
      ne_eqb n 15 (omega arith),
    )

pub front_written_lem : (f : Front) (n byte : ℕ) → front_then f (Write n byte) ≡ front_written f n byte
unfolding handed_after register_above15 forbidden_read forbidden_command setting_not_modelled write_not_modelled front_stepped register_written Writes.side_written shared_written acr_written pick
front_written_lem f zero byte = handed_a_lem (mode_not_modelled f.a byte) f _
front_written_lem f (suc zero) byte = refl
front_written_lem f (suc (suc zero)) byte =
    ap (λ (t : Bool). (pick t (handed_nothing f) (handed_a f (commanded f.a byte))).front) (or-false (command_forbidden byte))
    ∙ handed_a_lem (command_forbidden byte) f _
front_written_lem f (suc (suc (suc zero))) byte = refl
front_written_lem f (suc (suc (suc (suc zero)))) byte = refl
front_written_lem f (suc (suc (suc (suc (suc zero))))) byte = refl
front_written_lem f (suc (suc (suc (suc (suc (suc zero)))))) byte = refl
front_written_lem f (suc (suc (suc (suc (suc (suc (suc zero))))))) byte = refl
front_written_lem f (suc (suc (suc (suc (suc (suc (suc (suc zero)))))))) byte = handed_b_lem (mode_not_modelled f.b byte) f _
front_written_lem f (suc (suc (suc (suc (suc (suc (suc (suc (suc zero))))))))) byte = refl
front_written_lem f (suc (suc (suc (suc (suc (suc (suc (suc (suc (suc zero)))))))))) byte =
    ap (λ (t : Bool). (pick t (handed_nothing f) (handed_b f (commanded f.b byte))).front) (or-false (command_forbidden byte))
    ∙ handed_b_lem (command_forbidden byte) f _
front_written_lem f (suc (suc (suc (suc (suc (suc (suc (suc (suc (suc (suc zero))))))))))) byte = refl
front_written_lem f (suc (suc (suc (suc (suc (suc (suc (suc (suc (suc (suc (suc zero)))))))))))) byte = refl
front_written_lem f (suc (suc (suc (suc (suc (suc (suc (suc (suc (suc (suc (suc (suc zero))))))))))))) byte = handed_outputs (opcr_not_modelled byte) f _
front_written_lem f (suc (suc (suc (suc (suc (suc (suc (suc (suc (suc (suc (suc (suc (suc zero)))))))))))))) byte = refl
front_written_lem f (suc (suc (suc (suc (suc (suc (suc (suc (suc (suc (suc (suc (suc (suc (suc zero))))))))))))))) byte = refl
front_written_lem f (suc (suc (suc (suc (suc (suc (suc (suc (suc (suc (suc (suc (suc (suc (suc (suc n)))))))))))))))) byte =
    written_above f (suc (suc (suc (suc (suc (suc (suc (suc (suc (suc (suc (suc (suc (suc (suc (suc n)))))))))))))))) byte (omega arith)

-- ---- a read ----

abbrev pub front_read : Front → ℕ → Front
front_read f n =
    record {
      a = pick (eqb n 0) (pointed_at f.a true) f.a;
      b = pick (eqb n 8) (pointed_at f.b true) f.b;
      timer =
          pick (eqb n 14) (started_of f.timer (mode_of f.acr))
          (pick (eqb n 15) (stopped_of f.timer (mode_of f.acr))
          f.timer);
      inputs = pick (eqb n 4) (changes_cleared f.inputs) f.inputs;
      outputs = f.outputs;
      acr = f.acr;
      imr = f.imr;
      ivr = f.ivr;
    }

read_above : (f : Front) (n : ℕ) → 15 < n → front_then f (Read n) ≡ front_read f n
unfolding register_above15 pick
read_above f n h =
    above_fifteen f (Read n) (lt-ltb 15 n h)
    ∙ rw (ne_eqb n 0 (omega arith), ne_eqb n 4 (omega arith), ne_eqb n 8 (omega arith), ne_eqb n 14 (omega arith), ne_eqb n 15 (omega arith))

pub front_read_lem : (f : Front) (n : ℕ) → front_then f (Read n) ≡ front_read f n
unfolding handed_after register_above15 forbidden_read forbidden_command setting_not_modelled front_stepped register_read side_read shared_read pick
front_read_lem f zero = refl
front_read_lem f (suc zero) = refl
front_read_lem f (suc (suc zero)) = refl
front_read_lem f (suc (suc (suc zero))) = refl
front_read_lem f (suc (suc (suc (suc zero)))) = refl
front_read_lem f (suc (suc (suc (suc (suc zero))))) = refl
front_read_lem f (suc (suc (suc (suc (suc (suc zero)))))) = refl
front_read_lem f (suc (suc (suc (suc (suc (suc (suc zero))))))) = refl
front_read_lem f (suc (suc (suc (suc (suc (suc (suc (suc zero)))))))) = refl
front_read_lem f (suc (suc (suc (suc (suc (suc (suc (suc (suc zero))))))))) = refl
front_read_lem f (suc (suc (suc (suc (suc (suc (suc (suc (suc (suc zero)))))))))) = refl
front_read_lem f (suc (suc (suc (suc (suc (suc (suc (suc (suc (suc (suc zero))))))))))) = refl
front_read_lem f (suc (suc (suc (suc (suc (suc (suc (suc (suc (suc (suc (suc zero)))))))))))) = refl
front_read_lem f (suc (suc (suc (suc (suc (suc (suc (suc (suc (suc (suc (suc (suc zero))))))))))))) = refl
front_read_lem f (suc (suc (suc (suc (suc (suc (suc (suc (suc (suc (suc (suc (suc (suc zero)))))))))))))) = refl
front_read_lem f (suc (suc (suc (suc (suc (suc (suc (suc (suc (suc (suc (suc (suc (suc (suc zero))))))))))))))) = refl
front_read_lem f (suc (suc (suc (suc (suc (suc (suc (suc (suc (suc (suc (suc (suc (suc (suc (suc n)))))))))))))))) =
    read_above f (suc (suc (suc (suc (suc (suc (suc (suc (suc (suc (suc (suc (suc (suc (suc (suc n)))))))))))))))) (omega arith)

-- ---- a tick, and a pin event ----

abbrev pub side_clocked_by : Channel → Front → ℕ → Bool → Side
side_clocked_by ch f before tick =
    let s : Side = side_of ch f in
    let c : Clocked = clocks_of ch f before tick in
    let pins : ChannelPins = of_channel ch (pins_of_a before f.inputs.levels) (pins_of_b before f.inputs.levels) in
    with_clocks (with_echo (with_transmitter s (transmitter_pulsed s c.transmitter pins.cts)) (echo_taken s c.receiver pins.rxd))
    s.csr c.phases

abbrev pub front_clocked : Front → ℕ → Bool → Front
front_clocked f before tick =
    with_sides f (side_clocked_by A f before tick) (side_clocked_by B f before tick)
    (transmitted_by (counted_of f before tick).timer (mode_of f.acr) (clocks_of A f before tick).one (clocks_of B f before tick).one)

-- the levels have moved, and no more
abbrev pub front_moved : Front → ℕ → Front
front_moved f levels = with_ports f (moved_of f.inputs levels) f.outputs

-- ---- any event ----

abbrev pub front_next : Front → Event → Front
front_next f ChipReset = front_at f.inputs.levels
front_next f (Read n) = front_read f n
front_next f (Write n byte) = front_written f n byte
front_next f Acknowledge = f
front_next f (Pins levels) = front_clocked (front_moved f levels) f.inputs.levels false
front_next f Tick = front_clocked f f.inputs.levels true

pub front_next_lem : (f : Front) (e : Event) → front_then f e ≡ front_next f e
unfolding handed_after register_above15 forbidden_read forbidden_command setting_not_modelled front_stepped levels_moved clocked_of clocked_with side_clocked clocks_of pick
front_next_lem f ChipReset = refl
front_next_lem f (Read n) = front_read_lem f n
front_next_lem f (Write n byte) = front_written_lem f n byte
front_next_lem f Acknowledge = refl
front_next_lem f (Pins levels) = refl
front_next_lem f Tick = refl

-- and of a channel's side
abbrev pub side_next : Channel → Front → Event → Side
side_next ch f ChipReset = fresh_side
side_next ch f (Read n) = pick (eqb n (register_of ch 0)) (pointed_at (side_of ch f) true) (side_of ch f)
side_next ch f (Write n byte) = side_written ch f n byte
side_next ch f Acknowledge = side_of ch f
side_next ch f (Pins levels) = side_clocked_by ch (front_moved f levels) f.inputs.levels false
side_next ch f Tick = side_clocked_by ch f f.inputs.levels true

pub side_next_lem : (ch : Channel) (f : Front) (e : Event) → side_of ch (front_then f e) ≡ side_next ch f e
unfolding front_at
side_next_lem ch f e = rw (front_next_lem f e) (go ch e)
  where
    go : (ch : Channel) (e : Event) → side_of ch (front_next f e) ≡ side_next ch f e
    go A ChipReset = refl
    go A (Read n) = refl
    go A (Write n byte) = refl
    go A Acknowledge = refl
    go A (Pins levels) = refl
    go A Tick = refl
    go B ChipReset = refl
    go B (Read n) = refl
    go B (Write n byte) = refl
    go B Acknowledge = refl
    go B (Pins levels) = refl
    go B Tick = refl

-- Wrong answers, each shut out by a definition: a routine that gave it would not meet its contract. Assumes nothing.
use Prim.Native.Nat.{ℕ}
use mathlib.Core.Path.{◌≡◌, ap}
use mathlib.Core.Bool.{Bool, true, false, ◌&&◌, true≢false, false≢true}
use mathlib.Core.List.{List}
use lib.Dec.{leb}
use lib.ListN.{get_or}
use Rattle.format.specs.Format.{format_of}
use Rattle.sampler_state.specs.declared.state.Sampler.{Sampler}
use Rattle.sampler_state.specs.State.{empty_at}
use Rattle.sampler.specs.Sound.{sampler_in_range}
use Rattle.transmitter_state.specs.declared.state.Shifter.{Shifter}
use Rattle.transmitter_state.specs.declared.state.Transmitter.{Transmitter}
use Rattle.transmitter_state.specs.State.{fresh_transmitter, with_shifter}
use Rattle.transmitter.specs.Sound.{transmitter_in_range}
use Rattle.timer_state.specs.Counting.{with_phases}
use Rattle.outputs.specs.Outputs.{fresh_outputs}
use Rattle.front_side.specs.Side.{fresh_side}
use Rattle.front.specs.declared.front.Front.{Front}
use Rattle.front.specs.Front.{front_at, with_sides, with_timer, with_ports}
use Rattle.front.specs.Sound.{front_in_range}
use Rattle.receiver.specs.Sound.{receiver_in_range}
use Rattle.chip_soundness.specs.Soundness.{receiver_sound}
use Rattle.chip_soundness.proofs.Edges.{Edges}

-- so many pulses of a frame's 192 sent
abbrev shifted : ℕ → Shifter
shifted n = record { frame = record { 0 = 0 }; sixteen = true; length = record { 0 = 192 }; sent = record { 0 = n } }

-- the ranges, with so many pulses for the most that are sent
abbrev in_range_to : ℕ → Transmitter → Bool
in_range_to most t =
    leb t.phase 3 && (leb t.shifter.length.0 192 && (leb t.shifter.sent.0 most && leb t.left.0 15))

-- "ranges .. that hold every value a rule here can put there": 15 pulses pass between two samples
no_fifteen_left_unsound : ((s : Sampler) → (leb s.left.0 14 && sampler_in_range s) ≡ sampler_in_range s) → ⊥
unfolding format_of
no_fifteen_left_unsound h = false≢true (h (empty_at 0 false (record { 0 = 15 })))

-- "at most 192"
no_sent193_sound : ((t : Transmitter) → in_range_to 193 t ≡ transmitter_in_range t) → ⊥
no_sent193_sound h = true≢false (h (with_shifter fresh_transmitter (shifted 193)))

-- ---- wrong tests, each shut out by the edges of the ranges ----
-- Made in the definition and in the code together, they would still be refused.

abbrev nth : ℕ → List Bool → Bool
nth n l = get_or l n true

-- "registers holding only values that writes accept": OPCR is not looked at; and nothing of B
no_opcr_unseen : Edges (λ (f : Front). front_in_range (with_ports f f.inputs fresh_outputs)) receiver_sound → ⊥
unfolding front_at fresh_side
no_opcr_unseen h = true≢false (ap (nth 1) h.opcr)

no_side_of_b_unseen : Edges (λ (f : Front). front_in_range (with_sides f f.a fresh_side f.timer)) receiver_sound → ⊥
unfolding front_at fresh_side
no_side_of_b_unseen h = true≢false (ap (nth 4) h.mr1)

-- "fields in ranges listed in docs/": the phase of IP2/16 is not
no_edges_unseen :
    Edges (λ (f : Front). front_in_range (with_timer f (with_phases f.timer f.timer.ticks (record { 0 = 0 })))) receiver_sound → ⊥
unfolding front_at fresh_side
no_edges_unseen h = true≢false (ap (nth 2) h.timer)

-- "the waiting place used only with three characters held and no confirmed start under way"
no_waiting_with_start : Edges front_in_range receiver_in_range → ⊥
no_waiting_with_start h = true≢false (ap (nth 3) h.queue)

-- "Order 6's dumps read back as their waves." Assumes nothing.
use Rattle.std.specs.Prelude.{ℕ, zero, suc, ◌+◌, ◌≤◌, ◌<◌, ◌≡◌, Bool, true, false, List, [], ◌∷◌, eqb, length, get_or}
use Rattle.format.specs.Pick.{pick}
use Rattle.events.specs.declared.events.Event.{Event}
use Rattle.chip_device.specs.declared.device.Device.{Device}
use Rattle.chip_device.specs.Device.{device_lines}
use Rattle.chip_step.specs.Chip.{step_of}
use Rattle.chip_laws.specs.Sound.{after}
use Rattle.chip_fast.specs.Fast.{is_tick}
use Rattle.vcd_text.specs.Header.{chip_wires}
use Rattle.vcd_text.specs.Lines.{Line, times_of}
use Rattle.vcd_dump.specs.Waves.{values_of}
use Rattle.vcd_dump.specs.Dump.{events_text}
use Rattle.vcd_subset.specs.Subset.{Named}
use Rattle.vcd_capture.specs.declared.capturing.Asked.{Asked}
use Rattle.capture_laws.specs.Captures.{Modelled, Logged, Number, Log}

-- the events up to tick n, with those that share its time
unfoldable pub events_to : ℕ → List Event → List Event
events_to n [] = []
events_to zero (e ∷ es) = pick (is_tick e) [] (e ∷ events_to zero es)
events_to (suc n) (e ∷ es) = e ∷ events_to (pick (is_tick e) n (suc n)) es

-- the chip's line k after the last event of tick n's time: TxDA is 0, TxDB is 1, ..
abbrev pub chip_line : Device → List Event → ℕ → ℕ → Bool
chip_line d es k n = get_or (values_of (device_lines (after step_of d (events_to n es)))) k true

-- Order 6: "It stops before a refused event". These are before it.
unfoldable pub shown_of : Device → List Event → List Event
shown_of d [] = []
shown_of d (e ∷ es) = pick (eqb (step_of d e).number 0) (e ∷ shown_of (step_of d e).state es) []

-- A dump of any list of events, from any state, and any two of its eleven wires: it is read, and what each log then holds is
-- what document 01's receiver puts together from the chip's own line. `lines` are the dump's.
pub record ReadsBack (number : Number) (log : Log) (lines : Device → List Event → List Line) : Type 0 where
  pub read : (d : Device) (es : List Event) → length es ≤ 1000000 → (q : Asked) → Modelled q
      → (a b : List ℕ) (j k : ℕ) → Named chip_wires a (33 + j) → Named chip_wires b (33 + k) → (room_a room_b : ℕ)
      → length (log false q (events_text d es) a b) ≤ room_a → length (log true q (events_text d es) a b) ≤ room_b
      → number q (events_text d es) a b room_a room_b ≡ 0
  pub waves : (d : Device) (es : List Event) → length es ≤ 1000000 → (q : Asked) → Modelled q
      → (a b : List ℕ) (j k : ℕ) → j < 11 → k < 11 → Named chip_wires a (33 + j) → Named chip_wires b (33 + k)
      → (second : Bool)
      → Logged q (chip_line d (shown_of d es) (pick second k j)) (times_of (lines d es)) (log second q (events_text d es) a b)

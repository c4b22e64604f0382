-- Order 6, of a dump's text by what its lines say, whoever wrote them. Assumes nothing.
use Rattle.std.specs.Prelude.{ℕ, suc, ◌+◌, ◌≤◌, ◌<◌, ◌≡◌, Bool, true, List, [], ◌∷◌, ◌++◌, get_or}
use Rattle.format.specs.Pick.{pick}
use Rattle.events.specs.declared.events.Event.{Event}
use Rattle.chip_device.specs.declared.device.Device.{Device}
use Rattle.chip_device.specs.Device.{device_lines}
use Rattle.chip_step.specs.Chip.{step_of}
use Rattle.chip_laws.specs.Sound.{after}
use Rattle.chip_fast.specs.Fast.{is_tick}
use Rattle.vcd_text.specs.Time.{time_of}
use Rattle.vcd_text.specs.Header.{header_of, chip_wires}
use Rattle.vcd_text.specs.Changes.{differ}
use Rattle.vcd_text.specs.Lines.{Line, lines_text, level_at, times_of, RisesFrom, values_on}
use Rattle.vcd_text.specs.Lines.Line.{Time, Value}
use Rattle.vcd_dump.specs.Waves.{values_of}

-- each differs from the one before
unfoldable pub ChangesFrom : Bool → List Bool → Type 0
ChangesFrom u [] = Unit {0}
ChangesFrom u (v ∷ vs) = (differ u v ≡ true) × ChangesFrom v vs

unfoldable pub Changes : List Bool → Type 0
Changes [] = Unit {0}
Changes (v ∷ vs) = ChangesFrom v vs

-- all of these events are accepted, one after the other
unfoldable pub Accepted : Device → List Event → Type 0
Accepted d [] = Unit {0}
Accepted d (e ∷ es) = ((step_of d e).number ≡ 0) × Accepted (step_of d e).state es

-- "Tick n, from 1": how many ticks are among them
unfoldable pub ticks_in : List Event → ℕ
ticks_in [] = 0
ticks_in (e ∷ es) = pick (is_tick e) (suc (ticks_in es)) (ticks_in es)

-- Nothing follows, or a tick does: the events before it are all that "share the time of the last one".
unfoldable pub TimeEnds : List Event → Type 0
TimeEnds [] = Unit {0}
TimeEnds (e ∷ es) = is_tick e ≡ true

-- "then only times with changes": a value follows each time
unfoldable pub OnlyChanges : List Line → Type 0
OnlyChanges [] = Unit {0}
OnlyChanges (Time t ∷ []) = ⊥
OnlyChanges (Time t ∷ Time u ∷ ls) = ⊥
OnlyChanges (Time t ∷ Value c v ∷ ls) = OnlyChanges ls
OnlyChanges (Value c v ∷ ls) = OnlyChanges ls

-- "in the same order": between two times the codes rise
unfoldable pub CodesFrom : ℕ → List Line → Type 0
CodesFrom code [] = Unit {0}
CodesFrom code (Time t ∷ ls) = CodesFrom 0 ls
CodesFrom code (Value c v ∷ ls) = (code ≤ c) × CodesFrom (suc c) ls

-- What the lines of a list of events, from a state, tell.
pub record Tells (lines : Device → List Event → List Line) : Type 0 where
  -- no time comes twice, and none after a later one
  pub rise : (d : Device) (es : List Event) → RisesFrom 0 (times_of (lines d es))
  pub only : (d : Device) (es : List Event) → OnlyChanges (lines d es)
  pub order : (d : Device) (es : List Event) → CodesFrom 0 (lines d es)
  -- "written where they differ from those written before"
  pub change : (d : Device) (es : List Event) (code : ℕ) → Changes (values_on code (lines d es))
  -- "at each time only the last values count": at tick n's time, each wire has the level that the chip's lines have
  -- after the last event of that time, whatever follows, and whatever a reader took it for before. Wire k's code is
  -- 33 + k.
  pub show : (d : Device) (es later : List Event) → Accepted d (es ++ later) → TimeEnds later → (k : ℕ) → k < 11
      → (level : Bool) → level_at (time_of (ticks_in es)) (33 + k) level (lines d (es ++ later))
      ≡ get_or (values_of (device_lines (after step_of d es))) k level
  -- "It stops before a refused event": neither it nor what follows it is told
  pub stop : (d : Device) (es : List Event) (e : Event) (later : List Event) → Accepted d es
      → ((step_of (after step_of d es) e).number ≡ 0 → ⊥) → lines d (es ++ e ∷ later) ≡ lines d es

-- A dump is the header and these lines: every line of it is one of the layout's.
pub record Shows (dump : Device → List Event → List ℕ) (lines : Device → List Event → List Line) : Type 0 where
  pub layout : (d : Device) (es : List Event) → dump d es ≡ header_of chip_wires ++ lines_text (lines d es)
  pub tells : Tells lines

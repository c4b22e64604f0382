-- The theorem: our dump shows what order 6 asks. Its lines are the definition's; the values of tick n's time are the waves', and these the chip's
-- lines after the last event of that time. Assumes nothing.
use Prim.Native.Nat.{ℕ, zero, suc, ◌+◌, ◌≤◌, ◌<◌}
use mathlib.Core.Path.{◌≡◌, refl, ◌∙◌, ap}
use mathlib.Core.Bool.{Bool, true, false}
use mathlib.Core.List.{List, [], ◌∷◌, ◌++◌, map}
use native.Mathlib.Omega.{arith}
use lib.ListN.{length, get_or, length-map, get_or-map}
use Rattle.format.specs.Pick.{pick}
use Rattle.format.proofs.Laws.Digits.{length_bits}
use Rattle.events.specs.declared.events.Event.{Event}
use Rattle.chip_answers.specs.declared.answers.Lines.{Lines}
use Rattle.chip_answers.specs.Answers.{no_lines}
use Rattle.chip_device.specs.declared.device.Device.{Device}
use Rattle.chip_device.specs.Device.{device_lines}
use Rattle.chip_step.specs.Chip.{step_of}
use Rattle.chip_laws.specs.Sound.{after}
use Rattle.chip_fast.specs.Fast.{is_tick}
use Rattle.vcd_text.specs.Time.{time_of}
use Rattle.vcd_text.specs.Header.{header_of, chip_wires}
use Rattle.vcd_text.specs.Changes.{dump_text}
use Rattle.vcd_text.specs.Lines.{Line, lines_text, level_at}
use Rattle.vcd_dump.specs.Waves.{values_of, waves_from}
use Rattle.vcd_dump.specs.Dump.{events_text}
use Rattle.vcd_laws.specs.Shows.{Accepted, ticks_in, TimeEnds, Tells, Shows}
use Rattle.vcd_laws.proofs.Waves.{waves_at, waves_count, waves_stop}
use Rattle.vcd_laws.proofs.Lines.{lines_of, lines_text_lem, lines_rise, lines_only, lines_order}
use Rattle.vcd_laws.proofs.Values.{Eleven, lines_change}
use Rattle.vcd_laws.proofs.Levels.{level_dumped}

-- what a place holds does not hang on what is given where there is none
get_d_any : {A : Type 0} (l : List A) (n : ℕ) (x y : A) → n < length l → get_or l n x ≡ get_or l n y
get_d_any [] n x y h = absurd (omega arith)
get_d_any (a ∷ l) zero x y h = refl
get_d_any (a ∷ l) (suc n) x y h = get_d_any l n x y (omega arith)

pub eleven : (ls : List Lines) → Eleven (map values_of ls)
unfolding Eleven
eleven [] = tt
eleven (l ∷ ls) = (rw (length_bits 8 l.op), eleven ls)

ticks_more : (es later : List Event) → ticks_in es ≤ ticks_in (es ++ later)
unfolding ticks_in pick
ticks_more [] later = omega arith
ticks_more (e ∷ es) later = go (is_tick e) (ticks_more es later)
  where
    go : (t : Bool) → ticks_in es ≤ ticks_in (es ++ later)
        → pick t (suc (ticks_in es)) (ticks_in es) ≤ pick t (suc (ticks_in (es ++ later))) (ticks_in (es ++ later))
    go true h = omega arith
    go false h = h

-- the lines of a dump
abbrev pub dump_lines : Device → List Event → List Line
dump_lines d es = lines_of 0 [] (map values_of (waves_from step_of d es))

dump_layout : (d : Device) (es : List Event) → events_text d es ≡ header_of chip_wires ++ lines_text (dump_lines d es)
unfolding dump_text
dump_layout d es = rw (lines_text_lem 0 [] (map values_of (waves_from step_of d es)))

dump_shows : (d : Device) (es later : List Event) → Accepted d (es ++ later) → TimeEnds later → (k : ℕ) → k < 11 → (level : Bool)
    → level_at (time_of (ticks_in es)) (33 + k) level (dump_lines d (es ++ later)) ≡ get_or (values_of (device_lines (after step_of d es))) k level
dump_shows d es later a t k h level =
    let waves = waves_from step_of d (es ++ later) in
    let many = waves_count d (es ++ later) a in
    let more = ticks_more es later in
    let within : ticks_in es < length waves = omega arith in
    let within' : ticks_in es < length (map values_of waves) = rw (length-map waves values_of) within in
    let lines = device_lines (after step_of d es) in
    let long : length (values_of lines) ≡ 11 = rw (length_bits 8 lines.op) in
    level_dumped (ticks_in es) k level (map values_of waves) h (eleven waves) within'
    ∙ ap (λ (l : List Bool). get_or l k true)
    (get_d_any (map values_of waves) (ticks_in es) [] (values_of no_lines) within'
    ∙ get_or-map values_of waves (ticks_in es) no_lines
    ∙ ap values_of (waves_at d es later no_lines a t))
    ∙ get_d_any (values_of lines) k true level (omega arith)

pub tells : Tells dump_lines
tells =
    record {
      rise = λ d es. lines_rise 0 [] (map values_of (waves_from step_of d es));
      only = λ d es. lines_only 0 [] (map values_of (waves_from step_of d es));
      order = λ d es. lines_order 0 0 [] (map values_of (waves_from step_of d es));
      change = λ d es code. lines_change code 0 (map values_of (waves_from step_of d es)) (eleven (waves_from step_of d es));
      show = dump_shows;
      stop = λ d es e later a n. ap (λ (ls : List Lines). lines_of 0 [] (map values_of ls)) (waves_stop d es e later a n);
    }

pub shows : Shows events_text dump_lines
shows = record { layout = dump_layout; tells = tells }

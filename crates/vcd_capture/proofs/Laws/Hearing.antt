-- Pulses that find one level, one after the other; and the bytes of what they bring. Assumes nothing.
use Prim.Native.Nat.{ℕ, ◌+◌, ◌-◌, ◌*◌, ◌/◌, ◌^◌, ◌≤◌, ◌<◌}
use mathlib.Core.Path.{◌≡◌, refl, sym, ap}
use mathlib.Core.Bool.{Bool, true}
use mathlib.Core.List.{List, [], ◌∷◌, ◌++◌, append_assoc, append-nil}
use native.Mathlib.Nat.{div-le_self}
use native.Mathlib.Omega.{arith}
use lib.Dec.{eqb}
use lib.ListN.{length, drop, get_or, length-append, length-replicate, drop_of_length-le}
use Rattle.format.proofs.Laws.Pick.{pick_all}
use Rattle.feed.specs.declared.feed.Setting.{Setting}
use Rattle.character.specs.declared.character.Character.{Character}
use Rattle.sampler_state.specs.declared.state.Sampler.{Sampler}
use Rattle.std.specs.Prelude.{Option, None, Some, option_to_list}
use Rattle.sampler.specs.Lines.{hears, after_lines, arrivals}
use Rattle.sampler.specs.Lines as Hearing
use Rattle.vcd_lines.specs.declared.body.Place.{Place}
use Rattle.vcd_lines.specs.declared.body.Place.TheVariants.{LineStart, Hash, Digits, Whole, Level, Code, Outside}
use Rattle.vcd_lines.specs.declared.body.Reading.{Reading}
use Rattle.vcd_lines.specs.declared.body.Said.{Said}
use Rattle.vcd_lines.specs.declared.body.Said.TheVariants.{NoLine, TimeLine, ValueLine}
use Rattle.vcd_lines.specs.Body.{taken_of, line_at, said_of}
use Rattle.vcd_read.proofs.Laws.Checking.{Within}
use Rattle.vcd_read.proofs.Laws.Starts.{from}
use Rattle.vcd_capture.specs.declared.ear.Ear.{Ear}
use Rattle.vcd_capture.specs.Logs.{character_bytes, log_bytes}
use Rattle.vcd_capture.specs.Ear.{ticks_before, pulses_before, pulses_at, pulses_to, ear_until, heard_until, ear_value, ear_said, heard_said, heard_from}

pub log_append : (xs ys : List Character) → log_bytes (xs ++ ys) ≡ log_bytes xs ++ log_bytes ys
unfolding log_bytes
log_append [] ys = refl
log_append (c ∷ xs) ys = rw (log_append xs ys) (sym (append_assoc (character_bytes c) (log_bytes xs) (log_bytes ys)))

pub log_none : log_bytes [] ≡ []
unfolding log_bytes
log_none = refl

pub log_one : (c : Character) → log_bytes (c ∷ []) ≡ character_bytes c
unfolding log_bytes
log_one c = append-nil (character_bytes c)

pub log_length : (cs : List Character) → length (log_bytes cs) ≡ 2 * length cs
unfolding log_bytes character_bytes
log_length [] = refl
log_length (c ∷ cs) = let h = log_length cs in omega arith

pub came_within : (came : Option Character) → length (option_to_list came) ≤ 1
came_within None = omega arith
came_within (Some c) = omega arith

pub no_after : (s : Sampler) (level : Bool) (f : Setting) → after_lines s (pulses_at 0 level f) ≡ s
unfolding after_lines
no_after s level f = refl

pub no_arrivals : (s : Sampler) (level : Bool) (f : Setting) → log_bytes (arrivals s (pulses_at 0 level f)) ≡ []
unfolding arrivals log_bytes
no_arrivals s level f = refl

-- few enough pulses come before a time
pub pulses_within : (period t : ℕ) → t < 2 ^ 33 → pulses_before period t < 2 ^ 32
unfolding pulses_before ticks_before
pulses_within period t h =
    pick_all (λ (n : ℕ). n < 2 ^ 32) (eqb period 0) 0 ((t * 2304 - 1) / 625000 / period) (omega arith)
    (let d = div-le_self ((t * 2304 - 1) / 625000) period in omega arith)

-- ---- line by line ----

arrivals_within : (s : Sampler) (xs : List Hearing.Line) → length (arrivals s xs) ≤ length xs
unfolding arrivals
arrivals_within s [] = omega arith
arrivals_within s (x ∷ xs) =
    let h = arrivals_within (hears s x).next xs in
    let w = came_within (hears s x).came in
    simp length-append (omega arith)

-- no more characters than pulses
heard_within : (period : ℕ) (f : Setting) (t : ℕ) (e : Ear) → length (heard_until period f t e) ≤ pulses_to period t e
unfolding heard_until
heard_within period f t e =
    let h = arrivals_within e.sampler (pulses_at (pulses_to period t e) e.level f) in
    let l = length-replicate (pulses_to period t e) (Hearing.Line.pulse e.level f) in
    omega arith

-- a time that the code holds in 32 bits
abbrev pub SaidFits : Said → Type 0
SaidFits NoLine = Unit {0}
SaidFits (TimeLine t) = t < 2 ^ 33
SaidFits (ValueLine c v) = Unit {0}

-- the count of pulses, and the place in the log, stay within it
pub said_within : (period : ℕ) (f : Setting) (code : ℕ) (e : Ear) (said : Said) (at : ℕ) → e.done < 2 ^ 32 → at ≤ 2 * e.done → SaidFits said
    → ((ear_said period f code e said).done < 2 ^ 32)
    × (at + length (log_bytes (heard_said period f e said)) ≤ 2 * (ear_said period f code e said).done)
unfolding ear_said heard_said ear_until ear_value
said_within period f code e NoLine at h l q = (h, let z = ap length log_none in omega arith)
said_within period f code e (TimeLine t) at h l q =
    let few = pulses_within period t q in
    let n = heard_within period f t e in
    let m = log_length (heard_until period f t e) in
    (omega arith, omega arith)
said_within period f code e (ValueLine c v) at h l q = (h, let z = ap length log_none in omega arith)

-- ---- byte by byte ----

module _ (period : ℕ) (f : Setting) (code end : ℕ) (r : Reading) (e : Ear) where
  heard-cons : (b : ℕ) (bs : List ℕ) → log_bytes (heard_from period f code end r e (b ∷ bs))
      ≡ log_bytes (heard_said period f e (said_of r b))
      ++ log_bytes (heard_from period f code end (taken_of r b true) (ear_said period f code e (said_of r b)) bs)
  unfolding heard_from
  heard-cons b bs = log_append (heard_said period f e (said_of r b)) _

  heard-nil : heard_from period f code end r e [] ≡ heard_until period f end e
  unfolding heard_from
  heard-nil = refl

  pub heard-next : (text : List ℕ) (i : ℕ) → i < length text → log_bytes (heard_from period f code end r e (drop i text))
      ≡ log_bytes (heard_said period f e (said_of r (get_or text i 0)))
      ++ log_bytes (heard_from period f code end (taken_of r (get_or text i 0) true) (ear_said period f code e (said_of r (get_or text i 0))) (drop (i + 1) text))
  heard-next text i h = rw (from text i h) (heard-cons (get_or text i 0) (drop (i + 1) text))

  pub heard-end : (text : List ℕ) (i : ℕ) → length text ≤ i → log_bytes (heard_from period f code end r e (drop i text)) ≡ log_bytes (heard_until period f end e)
  heard-end text i h = rw (drop_of_length-le text h) (ap log_bytes heard-nil)

pub said_fits : (r : Reading) (b : ℕ) → Within r.place → SaidFits (said_of r b)
unfolding said_of
said_fits r b h = pick_all SaidFits (eqb b 10) _ _ (line_fits r.place h) tt
  where
    line_fits : (p : Place) → Within p → SaidFits (line_at p)
    line_fits LineStart h = tt
    line_fits Hash h = tt
    line_fits (Digits t) h = omega arith
    line_fits (Whole t) h = omega arith
    line_fits (Level v) h = tt
    line_fits (Code v c) h = tt
    line_fits Outside h = tt

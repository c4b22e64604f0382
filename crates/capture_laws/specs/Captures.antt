-- Order 7, of a capture by what its text says, whoever reads it. Assumes nothing.
use Rattle.std.specs.Prelude.{ℕ, suc, ◌*◌, ◌≤◌, ◌<◌, ◌≡◌, Bool, true, false, List, [], ◌∷◌, length}
use Rattle.format.specs.Pick.{pick}
use Rattle.format.specs.Format.{mr1_not_modelled, format_of}
use Rattle.character.specs.declared.character.Character.{Character}
use Rattle.sampler_state.specs.State.{hunting}
use Rattle.sampler.specs.Lines.{at16, arrivals}
use Rattle.dividers.specs.Rates.{period_of}
use Rattle.vcd_text.specs.Header.{Wire}
use Rattle.vcd_text.specs.Time.{time_of}
use Rattle.vcd_text.specs.Lines.{Line, level_at, times_of, RisesFrom}
use Rattle.vcd_subset.specs.Subset.{Named, Says}
use Rattle.vcd_capture.specs.declared.capturing.Asked.{Asked}
use Rattle.vcd_capture.specs.Logs.{log_bytes}
use Rattle.vcd_capture.specs.Waves.{level_pulses}

-- ---- the characters of a line ----

-- ticks per 16X pulse, "for a given MR1, ACR bit 7 and CSR code"
abbrev pub period_for : Asked → ℕ
period_for q = (period_of q.acr7 q.code).0

-- "Turn each line, up to the last time, into characters by document 01's receiver, just enabled": these are they, where
-- `level` tells what tick n samples. The last pulse that comes up to the last time is the last that counts.
pub record Heard (q : Asked) (level : ℕ → Bool) (last : ℕ) (cs : List Character) : Type 0 where
  pub pulses : ℕ
  pub up_to : time_of (pulses * period_for q) ≤ last
  pub no_more : last < time_of (suc pulses * period_for q)
  pub are : cs ≡ arrivals (hunting false) (level_pulses level (period_for q) (at16 (format_of q.mr1)) 1 pulses)

unfoldable pub last_of : ℕ → List ℕ → ℕ
last_of t [] = t
last_of t (u ∷ us) = last_of u us

-- the same by the text's times; where there is none, no tick counts
unfoldable pub HeardBy : Asked → (ℕ → Bool) → List ℕ → List Character → Type 0
HeardBy q level [] cs = cs ≡ []
HeardBy q level (t ∷ ts) cs = Heard q level (last_of t ts) cs

-- "Tick n samples the level at order 6's time"; "high before their first value"
abbrev pub sampled_on : ℕ → List Line → ℕ → Bool
sampled_on code ls n = level_at (time_of n) code true ls

-- a log holds them: "two bytes a character (data, marks as SR 7-5)"
pub record Logged (q : Asked) (level : ℕ → Bool) (times log : List ℕ) : Type 0 where
  pub characters : List Character
  pub heard : HeardBy q level times characters
  pub bytes : log ≡ log_bytes characters

-- ---- a capture ----

-- "5 (a code above 12 too)"
abbrev pub Modelled : Asked → Type 0
Modelled q = (mr1_not_modelled q.mr1 ≡ false) × (q.code ≤ 12)

-- A reader: from what is asked, the text and the names of the two wires, the number for two logs of these lengths; and the
-- bytes of A's log, or of B's.
abbrev pub Number : Type 0
Number = Asked → List ℕ → List ℕ → List ℕ → ℕ → ℕ → ℕ

abbrev pub Log : Type 0
Log = Bool → Asked → List ℕ → List ℕ → List ℕ → List ℕ

pub record Captures (number : Number) (log : Log) : Type 0 where
  -- "Refusals, in this order: 5 (a code above 12 too)"
  pub five : (q : Asked) (text a b : List ℕ) (room_a room_b : ℕ) → (Modelled q → ⊥) → number q text a b room_a room_b ≡ 5
  -- "10 text outside the subset or a named wire missing"
  pub ten : (q : Asked) (text a b : List ℕ) (room_a room_b : ℕ) → Modelled q
      → ((ws : List Wire) (ls : List Line) (ca cb : ℕ) → Says text ws ls → Named ws a ca → Named ws b cb → ⊥)
      → number q text a b room_a room_b ≡ 10
  -- "11 a time not later than the one before"
  pub eleven : (q : Asked) (text a b : List ℕ) (room_a room_b : ℕ) → Modelled q
      → (ws : List Wire) (ls : List Line) (ca cb : ℕ) → Says text ws ls → Named ws a ca → Named ws b cb
      → (RisesFrom 0 (times_of ls) → ⊥) → number q text a b room_a room_b ≡ 11
  -- "8 either log too short"
  pub eight : (q : Asked) (text a b : List ℕ) (room_a room_b : ℕ) → Modelled q
      → (ws : List Wire) (ls : List Line) (ca cb : ℕ) → Says text ws ls → Named ws a ca → Named ws b cb
      → RisesFrom 0 (times_of ls)
      → ((length (log false q text a b) ≤ room_a) × (length (log true q text a b) ≤ room_b) → ⊥)
      → number q text a b room_a room_b ≡ 8
  -- and 0 for every other
  pub none : (q : Asked) (text a b : List ℕ) (room_a room_b : ℕ) → Modelled q
      → (ws : List Wire) (ls : List Line) (ca cb : ℕ) → Says text ws ls → Named ws a ca → Named ws b cb
      → RisesFrom 0 (times_of ls)
      → length (log false q text a b) ≤ room_a → length (log true q text a b) ≤ room_b
      → number q text a b room_a room_b ≡ 0
  -- "There are two lent logs, one per channel": each holds the characters of its own wire
  pub hears : (q : Asked) (text a b : List ℕ) → Modelled q
      → (ws : List Wire) (ls : List Line) (ca cb : ℕ) → Says text ws ls → Named ws a ca → Named ws b cb
      → RisesFrom 0 (times_of ls) → (second : Bool)
      → Logged q (sampled_on (pick second cb ca) ls) (times_of ls) (log second q text a b)

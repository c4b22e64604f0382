-- Which log is not too short, whatever text is read. Assumes nothing.
use Rattle.std.specs.Prelude.{ℕ, ◌≤◌, Bool, List, length}
use Rattle.vcd_text.specs.Header.{Wire}
use Rattle.vcd_text.specs.Lines.{Line, times_of, RisesFrom}
use Rattle.vcd_subset.specs.Subset.{Named, Says}
use Rattle.vcd_capture.specs.declared.capturing.Asked.{Asked}
use Rattle.capture_laws.specs.Captures.{Modelled, Log}

-- "8 either log too short": one of 46,810 bytes never is. Up to 4,000,000,000 ns there are at most 2,457,600 pulses, and
-- each character takes at least 105: the low at p, 8 to look at it again, 16 for each of 5 bits and 16 for the stop.
pub record Enough (log : Log) : Type 0 where
  pub most : (q : Asked) (text a b : List ℕ) → Modelled q
      → (ws : List Wire) (ls : List Line) (ca cb : ℕ) → Says text ws ls → Named ws a ca → Named ws b cb
      → RisesFrom 0 (times_of ls) → (second : Bool) → length (log second q text a b) ≤ 46810

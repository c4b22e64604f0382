-- The law that the loop over a line's bits goes by: a turn is a bit of 384 ticks, 216 to its middle and 168 more. Assumes nothing.
use Prim.Native.Nat.{ℕ, zero, suc, ◌+◌, ◌*◌}
use mathlib.Core.Path.{◌≡◌, refl, sym}
use mathlib.Core.List.{List, [], ◌∷◌, ◌++◌}
use native.Mathlib.Omega.{arith}
use lib.ListN.{set, replicate}
use Rattle.chip_device.specs.declared.device.Device.{Device}
use Rattle.events.specs.declared.events.Event.TheVariants.{Write}
use Rattle.chip_step.specs.declared.chip.Answer.{Answer}
use Rattle.chip_step.specs.Chip.{step_of}
use Rattle.chip_ticks.specs.Ticks.{ticked}
use Rattle.chip_ticks.proofs.Laws.{ticked_more}
use Rattle.lister_line.specs.declared.line.Listed.{Listed}
use Rattle.lister_line.specs.Line.{level_text, level_at, line_of, listed_of}

-- the levels of a line of which so many are taken
unfoldable pub line_to : ℕ → Answer → List ℕ
line_to zero a = replicate 10 10
line_to (suc k) a = set (line_to k a) k (level_at k a)

-- the middle of the next bit
pub middle : (k : ℕ) (a : Answer) → ticked 216 (ticked (384 * k) a) ≡ ticked (384 * k + 216) a
middle k a = sym (ticked_more (384 * k) 216 a)

-- its end
pub bit_over : (k : ℕ) (a : Answer) → ticked 168 (ticked (384 * k + 216) a) ≡ ticked (384 * (k + 1)) a
bit_over k a =
    let e : 384 * (k + 1) ≡ 384 * k + 216 + 168 = omega arith in
    rw e (sym (ticked_more (384 * k + 216) 168 a))

-- so far: the last answer and the levels
pub record Sofar (a last : Answer) (line : List ℕ) (k : ℕ) : Type 0 where
  pub reached : last ≡ ticked (384 * k) a
  pub taken : line ≡ line_to k a

pub start : (a : Answer) → Sofar a a (replicate 10 10) 0
unfolding line_to ticked
start a = record { reached = refl; taken = refl }

pub turn : (a last : Answer) (line : List ℕ) (k : ℕ) → Sofar a last line k
    → Sofar a (ticked 168 (ticked 216 last)) (set line k (level_text (ticked 216 last))) (k + 1)
unfolding line_to
turn a last line k h =
    let e : k + 1 ≡ suc k = omega arith in
    let m : ticked 216 last ≡ ticked (384 * k + 216) a = rw h.reached (middle k a) in
    record {
      reached = rw m (bit_over k a);
      taken = rw (e, m, h.taken);
    }

-- the ten levels are taken, and the line ends
pub ends : (d : Device) (byte : ℕ) (a last : Answer) (line : List ℕ) (k : ℕ) → k ≡ 10 → a ≡ step_of d (Write 3 byte) → Sofar a last line k
    → ◌≡◌ {A = Listed} (record { line = line ++ 10 ∷ []; state = last.state }) (listed_of d byte)
unfolding line_to line_of listed_of
ends d byte a last line k e f h = rw (h.taken, h.reached, e, f)

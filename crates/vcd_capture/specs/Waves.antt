-- What a receiver hears of a wire, by the levels that the wire has: pulse j comes with tick j x period and finds the level
-- of that tick's time. Order 7: "Turn each line, up to the last time, into characters by document 01's receiver". Assumes
-- nothing.
use Rattle.std.specs.Prelude.{ℕ, zero, suc, ◌*◌, ◌≤◌, Bool, List, [], ◌∷◌}
use Rattle.feed.specs.declared.feed.Setting.{Setting}
use Rattle.sampler.specs.Lines as Hearing
use Rattle.vcd_text.specs.Time.{time_of}
use Rattle.vcd_text.specs.Lines.{Line, level_at}
use Rattle.vcd_text.specs.Lines.Line.{Time, Value}

-- "phase 0": pulse j comes with tick j x period; so many of them from this one on, of a line with this level at each tick
unfoldable pub level_pulses : (ℕ → Bool) → ℕ → Setting → ℕ → ℕ → List Hearing.Line
level_pulses level period f first zero = []
level_pulses level period f first (suc n) =
    Hearing.Line.pulse (level (first * period)) f ∷ level_pulses level period f (suc first) n

-- those of a wire with these lines, which has this level before them
abbrev pub pulses_over : ℕ → Setting → ℕ → Bool → List Line → ℕ → ℕ → List Hearing.Line
pulses_over period f code level ls first n =
    level_pulses (λ (k : ℕ). level_at (time_of k) code level ls) period f first n

-- no time is after this one
unfoldable pub NoneAfter : ℕ → List Line → Type 0
NoneAfter end [] = Unit {0}
NoneAfter end (Time t ∷ ls) = (t ≤ end) × NoneAfter end ls
NoneAfter end (Value c v ∷ ls) = NoneAfter end ls

-- The ranges of the counter/timer's fields, which "hold every value a rule here can put there". docs/SOUND.md lists the
-- same. A flag, and the count and the preload, may be any of their type. Assumes nothing.
use Rattle.std.specs.Prelude.{◌≡◌, Bool, true, ◌&&◌, nat_le}
use Rattle.timer_state.specs.declared.counting.Timer.{Timer}

-- both /16 phases
abbrev pub timer_in_range : Timer → Bool
timer_in_range t = nat_le t.ticks.0 15 && nat_le t.edges.0 15

-- a way to change a timer that keeps it in range
abbrev pub KeepsTimer : (Timer → Timer) → Type 0
KeepsTimer f = (t : Timer) → timer_in_range t ≡ true → timer_in_range (f t) ≡ true

-- The time of a tick, in nanoseconds. Assumes nothing.
use Rattle.std.specs.Prelude.{ℕ, ◌*◌, ◌/◌}

-- order 6: "Tick n, from 1, stands at the whole part of n x 625,000 / 2,304 ns."
abbrev pub time_of : ℕ → ℕ
time_of n = n * 625000 / 2304

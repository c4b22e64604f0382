-- The commands that the chip does not take. Assumes nothing.
use Rattle.std.specs.Prelude.{ℕ, ◌/◌, ◌%◌, Bool, ◌||◌, eqb}

-- "command whose bits 3-2 or 1-0 are 11"
abbrev pub command_forbidden : ℕ → Bool
command_forbidden byte = eqb (byte / 4 % 4) 3 || eqb (byte % 4) 3

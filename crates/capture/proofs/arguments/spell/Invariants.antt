-- `spell` meets its contract. The invariant of its loop: the bytes that are left lead to the number that is asked.
-- Assumes nothing.
use mathlib.Core.Path.{◌≡◌}
use lib.ListN.{drop}
use Rattle.std.specs.Prelude.{Some}
use Rattle.text.specs.Numbers.{number_from}
use Rattle.capture.proofs.arguments.spell.Given as goal

abbrev pub invariant-loop-byte : goal.invariant-loop-byte
invariant-loop-byte l = number_from l.number (drop l.byte-index l.word) ≡ number_from (Some 0) l.word

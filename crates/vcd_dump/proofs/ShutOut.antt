-- Wrong answers and spaces, shut out by the definitions: a routine that gave them would not meet its contract. An empty list on the fresh device
-- has a text of 372 bytes, its first a `$`, 36. Assumes nothing.
use mathlib.Core.Path.{◌≡◌}
use mathlib.Core.List.{[], ◌∷◌}
use native.Mathlib.Omega.{arith}
use lib.ListN.{length, get_or, replicate}
use Rattle.chip_device.specs.Device.{fresh_device}
use Rattle.chip_device.proofs.Examples.{five_flags}
use Rattle.chip_laws.proofs.Computing.{computing}
use Rattle.vcd_dump.specs.Dump.{text_of, dump_refusal, dumped_of, space_after}
use Rattle.vcd_dump.proofs.Computing.{dumping}

-- "Refusals, in this order: 1, 9 for a longer list, 8 for short space"
no_nine_first : dump_refusal five_flags 1000001 372 372 ≡ 9 → ⊥
unfolding computing dump_refusal
no_nine_first = omega arith

no_eight_before_nine : dump_refusal fresh_device 1000001 372 371 ≡ 8 → ⊥
unfolding computing dump_refusal
no_eight_before_nine = omega arith

-- "up to 1,000,000 events"
no_million_refused : dump_refusal fresh_device 1000000 372 372 ≡ 9 → ⊥
unfolding computing dump_refusal
no_million_refused = omega arith

-- every call refused, and none
no_all_refused : (dumped_of fresh_device [] 372).number ≡ 8 → ⊥
unfolding computing dumping
no_all_refused = omega arith

no_short_accepted : (dumped_of fresh_device [] 371).number ≡ 0 → ⊥
unfolding computing dumping
no_short_accepted = omega arith

-- "answers the length (0 if refused)"
no_refused_length : (dumped_of fresh_device [] 371).length ≡ 372 → ⊥
unfolding computing dumping
no_refused_length = omega arith

no_space_length : (dumped_of fresh_device [] 400).length ≡ 400 → ⊥
unfolding computing dumping
no_space_length = omega arith

-- "short space, which then stays": this one writes as much as there is room for
no_short_filled : get_or (space_after fresh_device [] (replicate 371 7)) 0 0 ≡ 36 → ⊥
unfolding computing dumping
no_short_filled = omega arith

-- what is past the text stays
no_rest_cleared : get_or (space_after fresh_device [] (replicate 400 7)) 372 0 ≡ 0 → ⊥
unfolding computing dumping
no_rest_cleared = omega arith

no_nothing_written : get_or (space_after fresh_device [] (replicate 400 7)) 0 0 ≡ 7 → ⊥
unfolding computing dumping
no_nothing_written = omega arith

-- a rest of one or two bytes is no event: after a tick, OP0 set low and a tick more, this one takes a 0 for a chip reset
no_rest_taken : length (text_of fresh_device (5 ∷ 0 ∷ 0 ∷ 2 ∷ 14 ∷ 1 ∷ 5 ∷ 0 ∷ 0 ∷ 0 ∷ [])) ≡ 388 → ⊥
unfolding computing dumping
no_rest_taken = omega arith

-- a kind above 5 is refused, so that the text stops before it
no_other_kind_skipped : length (text_of fresh_device (6 ∷ 0 ∷ 0 ∷ 5 ∷ 0 ∷ 0 ∷ 2 ∷ 14 ∷ 1 ∷ [])) ≡ 380 → ⊥
unfolding computing dumping
no_other_kind_skipped = omega arith

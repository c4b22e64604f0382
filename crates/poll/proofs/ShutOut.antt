-- Wrong polls, each shut out by a definition: a routine that gave it would not meet its contract. The list is a read of register 2, which is refused
-- ("3: read of register 2 or 10"), between two ticks. Assumes nothing.
use Prim.Native.Nat.{ℕ}
use mathlib.Core.Path.{◌≡◌}
use mathlib.Core.Bool.{true, false}
use mathlib.Core.List.{List, [], ◌∷◌}
use native.Mathlib.Omega.{arith}
use lib.ListN.{get_or}
use Rattle.chip_device.specs.declared.device.Device.{Device}
use Rattle.chip_device.specs.Device.{fresh_device}
use Rattle.chip_device.proofs.Examples.{five_flags}
use Rattle.chip_laws.proofs.Computing.{computing}
use Rattle.records.specs.declared.records.EventRecord.{EventRecord}
use Rattle.records.specs.declared.records.Seen.{Seen}
use Rattle.records.specs.Records.{event_of}
use Rattle.poll.specs.Step.{single_of}
use Rattle.poll.specs.Poll.{poll_refusal, poll_from, after_poll, polled_of, answers_after}

abbrev tick : EventRecord
tick = record { kind = 5; reg = 0; byte = 0 }

abbrev pub listed : List EventRecord
listed = tick ∷ record { kind = 1; reg = 2; byte = 0 } ∷ tick ∷ []

-- a slot that no answer has written
abbrev blank : Seen
blank = record { number = 99; «data» = 99; fresh = true; irq = true; txda = false; txdb = false; op = 99 }

abbrev pub space : List Seen
space = blank ∷ blank ∷ blank ∷ blank ∷ []

-- the number in a slot after the poll
abbrev pub slot : Device → List EventRecord → ℕ → ℕ
slot d es n = (get_or (answers_after d es space) n blank).number

-- the phase of ticks/16: how many ticks the device has had
abbrev pub ticks_in : Device → ℕ
ticks_in d = d.front.timer.ticks.0

-- "It ends at the first refused event": this one goes on after it
no_goes_on : 3 ≡ (polled_of fresh_device listed space).count → ⊥
unfolding computing event_of single_of poll_refusal poll_from after_poll polled_of
no_goes_on = omega arith

no_ticks_on : 2 ≡ ticks_in (polled_of fresh_device listed space).state → ⊥
unfolding computing event_of single_of poll_refusal poll_from after_poll polled_of
no_ticks_on = omega arith

-- "answers up to and including that one are written"
no_refused_unwritten : 99 ≡ slot fresh_device listed 1 → ⊥
unfolding computing event_of single_of poll_refusal poll_from after_poll
no_refused_unwritten = omega arith

-- "the count says how many were written": this one leaves the refused event out
no_one_too_low : 1 ≡ (polled_of fresh_device listed space).count → ⊥
unfolding computing event_of single_of poll_refusal poll_from after_poll polled_of
no_one_too_low = omega arith

-- "later ones stay"
no_later_written : 0 ≡ slot fresh_device listed 2 → ⊥
unfolding computing event_of single_of poll_refusal poll_from after_poll
no_later_written = omega arith

-- "the call itself answers 0"
no_number_of_the_refused : 3 ≡ (polled_of fresh_device listed space).number → ⊥
unfolding computing poll_refusal polled_of
no_number_of_the_refused = omega arith

-- "1, 8 for answer space shorter than the list, 9 for a list .. over its limit", "in this order"; "up to 4,096"
no_nine_before_eight : 9 ≡ poll_refusal fresh_device 5000 4096 → ⊥
unfolding computing poll_refusal
no_nine_before_eight = omega arith

no_eight_before_one : 8 ≡ poll_refusal five_flags 5000 4096 → ⊥
unfolding computing poll_refusal
no_eight_before_one = omega arith

no_long_list_taken : 0 ≡ poll_refusal fresh_device 4097 4097 → ⊥
unfolding computing poll_refusal
no_long_list_taken = omega arith

no_full_list_refused : 9 ≡ poll_refusal fresh_device 4096 4096 → ⊥
unfolding computing poll_refusal
no_full_list_refused = omega arith

no_equal_space_refused : 8 ≡ poll_refusal fresh_device 3 3 → ⊥
unfolding computing poll_refusal
no_equal_space_refused = omega arith

-- "nothing is written and the count is 0": this one answers an unsound device event by event
no_writes_when_refused : 1 ≡ slot five_flags listed 0 → ⊥
unfolding computing poll_refusal after_poll
no_writes_when_refused = omega arith

no_counts_when_refused : 1 ≡ (polled_of five_flags listed space).count → ⊥
unfolding computing poll_refusal after_poll polled_of
no_counts_when_refused = omega arith

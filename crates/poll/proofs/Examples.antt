-- Polls computed: what is accepted, written, counted and refused, in order 5's own numbers. A poll that refused every call, or did nothing, would meet
-- each refutation of `ShutOut`, and none of these. Assumes nothing.
use mathlib.Core.Path.{◌≡◌, refl}
use Rattle.chip_device.specs.Device.{fresh_device}
use Rattle.chip_device.proofs.Examples.{five_flags}
use Rattle.chip_laws.proofs.Computing.{computing}
use Rattle.records.specs.Records.{event_of}
use Rattle.poll.specs.Step.{single_of}
use Rattle.poll.specs.Poll.{poll_refusal, poll_from, after_poll, polled_of}
use Rattle.poll.proofs.ShutOut.{listed, space, slot, ticks_in}

-- "It ends at the first refused event; .. the count says how many were written, and the call itself answers 0."
ends : ((polled_of fresh_device listed space).number ≡ 0)
    × ((polled_of fresh_device listed space).count ≡ 2)
    × (ticks_in (polled_of fresh_device listed space).state ≡ 1)
unfolding computing event_of single_of poll_refusal poll_from after_poll polled_of
ends = (refl, refl, refl)

-- "answers up to and including that one are written, later ones stay"
writes : (slot fresh_device listed 0 ≡ 0) × (slot fresh_device listed 1 ≡ 3) × (slot fresh_device listed 2 ≡ 99)
unfolding computing event_of single_of poll_refusal poll_from after_poll
writes = (refl, refl, refl)

-- "1, 8 for answer space shorter than the list, 9 for a list .. over its limit", "up to 4,096"
refuses : (poll_refusal five_flags 5000 4096 ≡ 1)
    × (poll_refusal fresh_device 5000 4096 ≡ 8)
    × (poll_refusal fresh_device 5000 5000 ≡ 9)
    × (poll_refusal fresh_device 4096 4096 ≡ 0)
unfolding computing poll_refusal
refuses = (refl, refl, refl, refl)

-- What a sampler is doing. A count `left` is of the pulses still to come before the one that decides, so 0 means the
-- next one does. Assumes nothing.
use Rattle.std.specs.Prelude.{ℕ, Bool, true, false}
use Rattle.format.specs.declared.counts.Bits.{Bits}
use Rattle.format.specs.declared.counts.Pulses.{Pulses}
use Rattle.format.specs.Format.{format_of}
use Rattle.format.specs.Pick.{pick}
use Rattle.sampler_state.specs.declared.state.Sampler.{Sampler}
use Rattle.feed.specs.declared.feed.Setting.{Setting}

-- What stands for a setting while none is taken: that of a chip reset's registers.
abbrev pub no_setting : Setting
no_setting = record { format = format_of 0; sixteen = true }

-- a sampler that has nothing of a character yet
abbrev pub empty_at : ℕ → Bool → Pulses → Sampler
empty_at phase high left =
    record { phase = phase; high = high; left = left; setting = no_setting; taken = record { 0 = 0 }; value = 0 }

-- 0: it hunts, and its last sample was high; or was not, or there is none since it was enabled
abbrev pub hunting : Bool → Sampler
hunting high = empty_at 0 high (record { 0 = 0 })

-- 1: between the low at p and the pulse p+8
abbrev pub starting : Setting → Pulses → Sampler
starting f left = record { phase = 1; high = false; left = left; setting = f; taken = record { 0 = 0 }; value = 0 }

-- 2: a confirmed start is under way: so many samples are taken, and they make this value
abbrev pub assembling : Setting → Pulses → Bits → ℕ → Sampler
assembling f left taken value =
    record { phase = 2; high = false; left = left; setting = f; taken = taken; value = value }

-- 3: after a low stop, with so many more lows before the one that is p
abbrev pub after_low_stop : ℕ → Sampler
after_low_stop left = empty_at 3 false (record { 0 = left })

-- 4: the wait for a break's end, with so many more highs before the one that ends it
abbrev pub in_break : ℕ → Sampler
in_break left = empty_at 4 false (record { 0 = left })

-- "Then one sample each 16 pulses"; "At 1X each pulse is a sample": the pulses that are passed over
unfoldable pub gap_of : Bool → Pulses
gap_of sixteen = pick sixteen (record { 0 = 15 }) (record { 0 = 0 })

-- "What follows a low stop goes by that character's 16X or 1X": 8 pulses, or one
unfoldable pub after_stop : Bool → Bool → Sampler
after_stop sixteen stop = pick stop (hunting true) (pick sixteen (after_low_stop 7) (after_low_stop 0))

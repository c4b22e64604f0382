-- What a transmitter holds. Assumes nothing.
use Rattle.std.specs.Prelude.{ℕ, Bool, true, false}
use Rattle.format.specs.declared.counts.Pulses.{Pulses}
use Rattle.transmitter_state.specs.declared.state.Shifter.{Shifter}
use Rattle.transmitter_state.specs.declared.state.Transmitter.{Transmitter}

-- What the transmitter is doing, its phase: nothing; the shifter holds a character; a break is being sent; the one bit
-- of high after it. Any other number is idle.
abbrev pub idle_phase : ℕ
idle_phase = 0

abbrev pub sending : ℕ
sending = 1

abbrev pub in_break : ℕ
in_break = 2

abbrev pub after_break : ℕ
after_break = 3

-- a shifter that nothing has been put into
abbrev pub empty_shifter : Shifter
empty_shifter = record { frame = record { 0 = 0 }; sixteen = false; length = record { 0 = 0 }; sent = record { 0 = 0 } }

-- "Chip reset: .. both sides disabled, .. holding places, shifters .. empty, TxD high"
abbrev pub fresh_transmitter : Transmitter
fresh_transmitter =
    record {
      enabled = false;
      full = false;
      holding = 0;
      phase = idle_phase;
      shifter = empty_shifter;
      left = record { 0 = 0 };
      asked = false;
      txd = true;
    }

-- ---- a transmitter with another part ----

abbrev pub with_enabled : Transmitter → Bool → Transmitter
with_enabled t x =
    record {
      enabled = x;
      full = t.full;
      holding = t.holding;
      phase = t.phase;
      shifter = t.shifter;
      left = t.left;
      asked = t.asked;
      txd = t.txd;
    }

-- another holding place: whether it is full, and with what
abbrev pub with_holding : Transmitter → Bool → ℕ → Transmitter
with_holding t x byte =
    record {
      enabled = t.enabled;
      full = x;
      holding = byte;
      phase = t.phase;
      shifter = t.shifter;
      left = t.left;
      asked = t.asked;
      txd = t.txd;
    }

-- doing something else, with TxD at this level
abbrev pub with_phase : Transmitter → ℕ → Bool → Transmitter
with_phase t x level =
    record {
      enabled = t.enabled;
      full = t.full;
      holding = t.holding;
      phase = x;
      shifter = t.shifter;
      left = t.left;
      asked = t.asked;
      txd = level;
    }

abbrev pub with_shifter : Transmitter → Shifter → Transmitter
with_shifter t x =
    record {
      enabled = t.enabled;
      full = t.full;
      holding = t.holding;
      phase = t.phase;
      shifter = x;
      left = t.left;
      asked = t.asked;
      txd = t.txd;
    }

abbrev pub with_left : Transmitter → Pulses → Transmitter
with_left t x =
    record {
      enabled = t.enabled;
      full = t.full;
      holding = t.holding;
      phase = t.phase;
      shifter = t.shifter;
      left = x;
      asked = t.asked;
      txd = t.txd;
    }

abbrev pub with_asked : Transmitter → Bool → Transmitter
with_asked t x =
    record {
      enabled = t.enabled;
      full = t.full;
      holding = t.holding;
      phase = t.phase;
      shifter = t.shifter;
      left = t.left;
      asked = x;
      txd = t.txd;
    }

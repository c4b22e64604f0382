-- The eight modes of the counter/timer, a case a mode, written out from document 01 for the statements. The code has
-- tests of its own, which must be these: said of any, so that it can be proved of ours and proved false of others.
-- Assumes nothing.
use Rattle.std.specs.Prelude.{◌≡◌, ℕ, ◌/◌, ◌%◌, Bool, true, false, not, ◌||◌, ◌==◌}
use Rattle.format.specs.Pick.{pick}

-- which of the clocks that 01 names have a pulse at one time
pub record Comes : Type 0 where
  pub ip2 : Bool
  pub ip2_by16 : Bool
  pub txca : Bool
  pub txcb : Bool
  pub ticks : Bool
  pub ticks_by16 : Bool

-- "ACR 6-4: 0-3 counter on rising IP2, TxCA 1X, TxCB 1X, ticks/16; 4-7 timer on rising IP2, IP2/16, ticks, ticks/16.":
-- whether the clock of a mode is among them. Bits 6-4 make no mode above 7.
unfoldable pub pulse_in : ℕ → Comes → Bool
pulse_in mode c =
    pick (mode == 0) c.ip2
    (pick (mode == 1) c.txca
    (pick (mode == 2) c.txcb
    (pick (mode == 3) c.ticks_by16
    (pick (mode == 4) c.ip2
    (pick (mode == 5) c.ip2_by16
    (pick (mode == 6) c.ticks
    (pick (mode == 7) c.ticks_by16
    false)))))))

-- "0-3 counter .. 4-7 timer"
abbrev pub timer_in : ℕ → Bool
timer_in mode = not (((mode == 0 || mode == 1) || mode == 2) || mode == 3)

-- a tick, or a rising edge of IP2, which is a 16th of its own or not; and the 1X transmitter clocks, of A and of B
abbrev pub a_tick : Bool → Comes
a_tick sixteenth =
    record { ip2 = false; ip2_by16 = false; txca = false; txcb = false; ticks = true; ticks_by16 = sixteenth }

abbrev pub an_edge : Bool → Comes
an_edge sixteenth =
    record { ip2 = true; ip2_by16 = sixteenth; txca = false; txcb = false; ticks = false; ticks_by16 = false }

abbrev pub ones : Bool → Bool → Comes
ones a b = record { ip2 = false; ip2_by16 = false; txca = a; txcb = b; ticks = false; ticks_by16 = false }

-- the mode that a byte in ACR chooses, and tests of a mode: whether a tick, an edge and the transmitters' clocks pulse
-- it, and whether it is a timer's
pub record Tests : Type 0 where
  pub mode : ℕ → ℕ
  pub tick : ℕ → Bool → Bool
  pub edge : ℕ → Bool → Bool
  pub bits : ℕ → Bool → Bool → Bool
  pub timer : ℕ → Bool

pub record Modes (w : Tests) : Type 0 where
  -- "ACR 6-4"
  pub mode : (acr : ℕ) → w.mode acr ≡ acr / 16 % 8
  pub tick : (mode : ℕ) (sixteenth : Bool) → w.tick mode sixteenth ≡ pulse_in mode (a_tick sixteenth)
  pub edge : (mode : ℕ) (sixteenth : Bool) → w.edge mode sixteenth ≡ pulse_in mode (an_edge sixteenth)
  pub bits : (mode : ℕ) (a b : Bool) → w.bits mode a b ≡ pulse_in mode (ones a b)
  pub timer : (mode : ℕ) → w.timer mode ≡ timer_in mode

-- One channel's side of the front, and what a program writes into it. Assumes nothing.
use Rattle.std.specs.Prelude.{ℕ, Bool, true, false}
use Rattle.format.specs.Format.{mr1_not_modelled, mr2_not_modelled}
use Rattle.format.specs.Pick.{pick}
use Rattle.clocks.specs.declared.channel.Phases.{Phases}
use Rattle.clocks.specs.Channel.{restarted, restarted_on_change}
use Rattle.transmitter_state.specs.declared.state.Transmitter.{Transmitter}
use Rattle.transmitter.specs.declared.transmitter.Input.TheVariants.{Write}
use Rattle.transmitter_state.specs.State.{fresh_transmitter}
use Rattle.transmitter.specs.Transmitter.{after_input}
use Rattle.front_side.specs.declared.side.Side.{Side}

-- "every other register, .. phase, flag .. 0, .. both sides disabled, .. TxD high, .. pointer at MR1"
unfoldable pub fresh_side : Side
fresh_side =
    record {
      mr1 = 0;
      mr2 = 0;
      moved = false;
      csr = 0;
      enabled = false;
      echo = true;
      transmitter = fresh_transmitter;
      phases = restarted;
    }

-- ---- a side with another part ----

-- other mode registers and pointer
abbrev pub with_modes : Side → ℕ → ℕ → Bool → Side
with_modes s mr1 mr2 moved =
    record {
      mr1 = mr1;
      mr2 = mr2;
      moved = moved;
      csr = s.csr;
      enabled = s.enabled;
      echo = s.echo;
      transmitter = s.transmitter;
      phases = s.phases;
    }

-- another enable of its receiver
abbrev pub with_enabled : Side → Bool → Side
with_enabled s x =
    record {
      mr1 = s.mr1;
      mr2 = s.mr2;
      moved = s.moved;
      csr = s.csr;
      enabled = x;
      echo = s.echo;
      transmitter = s.transmitter;
      phases = s.phases;
    }

abbrev pub with_transmitter : Side → Transmitter → Side
with_transmitter s x =
    record {
      mr1 = s.mr1;
      mr2 = s.mr2;
      moved = s.moved;
      csr = s.csr;
      enabled = s.enabled;
      echo = s.echo;
      transmitter = x;
      phases = s.phases;
    }

-- another echoed level
abbrev pub with_echo : Side → Bool → Side
with_echo s x =
    record {
      mr1 = s.mr1;
      mr2 = s.mr2;
      moved = s.moved;
      csr = s.csr;
      enabled = s.enabled;
      echo = x;
      transmitter = s.transmitter;
      phases = s.phases;
    }

-- other clocks: CSR and the phases
abbrev pub with_clocks : Side → ℕ → Phases → Side
with_clocks s csr x =
    record {
      mr1 = s.mr1;
      mr2 = s.mr2;
      moved = s.moved;
      csr = csr;
      enabled = s.enabled;
      echo = s.echo;
      transmitter = s.transmitter;
      phases = x;
    }

-- ---- the mode registers ----

-- "0 MR1 then MR2 (both)": the one that the pointer is at
unfoldable pub mode_register : Side → ℕ
mode_register s = pick s.moved s.mr2 s.mr1

-- whether a write at the pointer chooses "a setting not modelled"
unfoldable pub mode_not_modelled : Side → ℕ → Bool
mode_not_modelled s byte = pick s.moved (mr2_not_modelled byte) (mr1_not_modelled byte)

-- "1 pointer to MR1"; "Any access at MR1 moves the pointer to MR2, where it stays.": the pointer, at MR2 or at MR1
abbrev pub pointed_at : Side → Bool → Side
pointed_at s moved = with_modes s s.mr1 s.mr2 moved

unfoldable pub mode_written : Side → ℕ → Side
mode_written s byte = pick s.moved (with_modes s s.mr1 byte s.moved) (with_modes s byte s.mr2 true)

-- ---- the clocks and the transmit buffer ----

-- "A CSR write restarts that channel's phases, the next pulse coming a full period later"
unfoldable pub csr_written : Side → ℕ → Side
csr_written s byte = with_clocks s byte restarted

-- "a change of ACR bit 7 restarts all four"
unfoldable pub set_changed : Side → ℕ → ℕ → Side
set_changed s before after = with_clocks s s.csr (restarted_on_change s.phases before after)

unfoldable pub buffer_written : Side → ℕ → Side
buffer_written s byte = with_transmitter s (after_input s.transmitter (Write byte))

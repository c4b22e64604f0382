-- "Read / write: 0 MR1 then MR2 (both); 1 SR / CSR; 2 none / command; 3 receive / transmit buffer; 4 IPCR / ACR; 5 ISR
-- / IMR; 6, 7 count high, low / preload high, low; 8-11 as 0-3 for channel B; 12 IVR (both); 13 input port / OPCR; 14
-- start counter / set OP bits; 15 stop counter / reset OP bits.": the writes. Assumes nothing.
use Rattle.std.specs.Prelude.{ℕ, ◌+◌, ◌*◌, ◌/◌, ◌%◌, eqb}
use Rattle.format.specs.Pick.{pick}
use Rattle.front_commands.specs.Commands.{side_commanded, command_feed}
use Rattle.front.specs.declared.front.Front.{Front}
use Rattle.front.specs.declared.front.Handed.{Handed}
use Rattle.front.specs.declared.front.SideHanded.{SideHanded}
use Rattle.front.specs.Front.{with_sides, with_timer, with_ports, with_registers, side_handed, handed_nothing, handed_a}
use Rattle.front.specs.Front.{handed_b}
use Rattle.outputs.specs.declared.outputs.Outputs.{Outputs}
use Rattle.outputs.specs.Outputs.{bits_set, bits_reset, outputs_chosen}
use Rattle.feed.specs.declared.feed.Feed.TheVariants.{Nothing}
use Rattle.front_side.specs.declared.side.Side.{Side}
use Rattle.front_side.specs.Side.{csr_written, buffer_written, set_changed}
use Rattle.front_modes.specs.Modes.{mode_set, mode_feed}
use Rattle.timer_state.specs.Counting.{with_preload}
use Rattle.timer.specs.Timer.{mode_changed}

-- ---- a channel's registers 0 to 3 ----

abbrev pub commanded : Side → ℕ → SideHanded
commanded s byte = side_handed (side_commanded s byte) (command_feed s byte)

unfoldable pub side_written : Side → ℕ → ℕ → SideHanded
side_written s n byte =
    pick (eqb n 0) (side_handed (mode_set s byte) (mode_feed s byte))
    (pick (eqb n 1) (side_handed (csr_written s byte) Nothing)
    (pick (eqb n 2) (commanded s byte)
    (side_handed (buffer_written s byte) Nothing)))

-- ---- the registers that both channels share ----

-- "a change of ACR bit 7 restarts all four"; "A change of ACR 6-4 reloads, .."
unfoldable pub acr_written : Front → ℕ → Front
acr_written f byte =
    with_registers
    (with_sides f (set_changed f.a f.acr byte) (set_changed f.b f.acr byte)
    (mode_changed f.timer f.acr byte))
    byte f.imr f.ivr

abbrev pub imr_written : Front → ℕ → Front
imr_written f byte = with_registers f f.acr byte f.ivr

abbrev pub ivr_written : Front → ℕ → Front
ivr_written f byte = with_registers f f.acr f.imr byte

-- the count stays
abbrev pub preload_written : Front → ℕ → Front
preload_written f preload = with_timer f (with_preload f.timer preload)

-- "preload high, low"
abbrev pub preload_high : ℕ → ℕ → ℕ
preload_high preload byte = byte * 256 + preload % 256

abbrev pub preload_low : ℕ → ℕ → ℕ
preload_low preload byte = preload / 256 * 256 + byte

abbrev pub outputs_written : Front → Outputs → Front
outputs_written f o = with_ports f f.inputs o

unfoldable pub shared_written : Front → ℕ → ℕ → Front
shared_written f n byte =
    pick (eqb n 4) (acr_written f byte)
    (pick (eqb n 5) (imr_written f byte)
    (pick (eqb n 6) (preload_written f (preload_high f.timer.preload byte))
    (pick (eqb n 7) (preload_written f (preload_low f.timer.preload byte))
    (pick (eqb n 12) (ivr_written f byte)
    (pick (eqb n 13) (outputs_written f (outputs_chosen f.outputs byte))
    (pick (eqb n 14) (outputs_written f (bits_set f.outputs byte))
    (pick (eqb n 15) (outputs_written f (bits_reset f.outputs byte))
    f)))))))

-- ---- any register ----

-- "8-11 as 0-3 for channel B"
unfoldable pub register_written : Front → ℕ → ℕ → Handed
register_written f n byte =
    pick (eqb (n / 4) 0) (handed_a f (side_written f.a (n % 4) byte))
    (pick (eqb (n / 4) 2) (handed_b f (side_written f.b (n % 4) byte))
    (handed_nothing (shared_written f n byte)))

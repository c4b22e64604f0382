-- "Read / write: 0 MR1 then MR2 (both); 1 SR / CSR; 2 none / command; 3 receive / transmit buffer; 4 IPCR / ACR; 5 ISR
-- / IMR; 6, 7 count high, low / preload high, low; 8-11 as 0-3 for channel B; 12 IVR (both); 13 input port / OPCR; 14
-- start counter / set OP bits; 15 stop counter / reset OP bits.": the reads. Assumes nothing.
use Rattle.std.specs.Prelude.{ℕ, ◌/◌, ◌%◌, true, eqb}
use Rattle.format.specs.Pick.{pick}
use Rattle.front.specs.declared.front.Front.{Front}
use Rattle.front.specs.declared.front.Handed.{Handed}
use Rattle.front.specs.declared.front.SideHanded.{SideHanded}
use Rattle.front.specs.Front.{with_timer, with_ports, side_handed, handed_nothing, handed_a, handed_b}
use Rattle.inputs.specs.Inputs.{input_port, change_register, changes_cleared}
use Rattle.feed.specs.declared.feed.Feed.TheVariants.{Nothing, Read}
use Rattle.front_side.specs.declared.side.Side.{Side}
use Rattle.front_side.specs.Side.{mode_register, pointed_at}
use Rattle.timer_state.specs.Counting.{mode_of}
use Rattle.timer.specs.Timer.{started_of, stopped_of}

-- ---- what a read does: a channel's registers 0 to 3 ----

-- "Any access at MR1 moves the pointer to MR2, where it stays."
abbrev pub mode_read : Side → SideHanded
mode_read s = side_handed (pointed_at s true) Nothing

-- the receive buffer; a status read does nothing
unfoldable pub side_read : Side → ℕ → SideHanded
side_read s n = pick (eqb n 0) (mode_read s) (pick (eqb n 3) (side_handed s Read) (side_handed s Nothing))

-- ---- the registers that both channels share ----

-- "IPCR: .. a read clears the flags"
abbrev pub flags_read : Front → Front
flags_read f = with_ports f (changes_cleared f.inputs) f.outputs

abbrev pub counter_started : Front → Front
counter_started f = with_timer f (started_of f.timer (mode_of f.acr))

abbrev pub counter_stopped : Front → Front
counter_stopped f = with_timer f (stopped_of f.timer (mode_of f.acr))

unfoldable pub shared_read : Front → ℕ → Front
shared_read f n =
    pick (eqb n 4) (flags_read f) (pick (eqb n 14) (counter_started f) (pick (eqb n 15) (counter_stopped f) f))

-- ---- any register ----

-- "8-11 as 0-3 for channel B"
unfoldable pub register_read : Front → ℕ → Handed
register_read f n =
    pick (eqb (n / 4) 0) (handed_a f (side_read f.a (n % 4)))
    (pick (eqb (n / 4) 2) (handed_b f (side_read f.b (n % 4)))
    (handed_nothing (shared_read f n)))

-- ---- what the front answers ----

-- "Start and stop read 0."; what a receiver answers is not the front's
unfoldable pub front_data : Front → ℕ → ℕ
front_data f n =
    pick (eqb n 0) (mode_register f.a)
    (pick (eqb n 4) (change_register f.inputs)
    (pick (eqb n 6) (f.timer.count / 256)
    (pick (eqb n 7) (f.timer.count % 256)
    (pick (eqb n 8) (mode_register f.b)
    (pick (eqb n 12) f.ivr
    (pick (eqb n 13) (input_port f.inputs)
    0))))))

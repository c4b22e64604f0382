-- What the program does to a transmitter: a write, the commands, and a change of mode. Assumes nothing.
use Rattle.std.specs.Prelude.{ℕ, true, false, ◌||◌, eqb}
use Rattle.format.specs.Pick.{pick}
use Rattle.transmitter_state.specs.declared.state.Transmitter.{Transmitter}
use Rattle.transmitter_state.specs.State.{idle_phase, in_break, after_break, empty_shifter, with_enabled, with_holding}
use Rattle.transmitter_state.specs.State.{with_phase, with_shifter, with_left, with_asked}

-- "A write while disabled is ignored; a second write replaces the first."
unfoldable pub written_of : Transmitter → ℕ → Transmitter
written_of t byte = pick t.enabled (with_holding t true byte) t

abbrev pub enabled_of : Transmitter → Transmitter
enabled_of t = with_enabled t true

-- "TxD is high at once, and for one bit": so many pulses still come at 16X before the one that completes it
abbrev pub high_after : Transmitter → Transmitter
high_after t = with_phase (with_left t (record { 0 = 15 })) after_break true

-- "stop, disable or reset ends it, nothing else; one not yet begun is just dropped"
unfoldable pub break_ended : Transmitter → Transmitter
break_ended t = pick (eqb t.phase in_break) (high_after (with_asked t false)) (with_asked t false)

-- "Disable lets the shifter finish and keeps the holding place."
abbrev pub disabled_of : Transmitter → Transmitter
disabled_of t = with_enabled (break_ended t) false

-- "disabled, all dropped, TxD high"; the high bit after a break stays owed
unfoldable pub dropped_of : Transmitter → Transmitter
dropped_of t =
    with_phase (with_shifter (with_holding (with_enabled t false) false 0) empty_shifter)
    (pick (eqb t.phase after_break) t.phase idle_phase)
    true

-- "3 reset transmitter"
abbrev pub reset_of : Transmitter → Transmitter
reset_of t = dropped_of (break_ended t)

-- "start break while disabled is ignored"; while one is being sent there is nothing to ask for
unfoldable pub break_asked : Transmitter → Transmitter
break_asked t = pick (eqb t.phase in_break) t (with_asked t (t.asked || t.enabled))

-- Order 2: "A mode change drops what is being sent (a break too; the holding place stays) .., and holds TxD high until
-- the next pulse.": no bit is owed then, and a break that is asked stays asked
abbrev pub sending_dropped : Transmitter → Transmitter
sending_dropped t = with_phase (with_shifter t empty_shifter) idle_phase true

-- What a command does to a receiver: bits 6-4 of it, then bits 1-0. Assumes nothing.
use Rattle.std.specs.Prelude.{false}
use Rattle.character.specs.Character.{no_marks, unmarked_of}
use Rattle.sampler_state.specs.State.{hunting}
use Rattle.queue.specs.Queue.{empty_queue, oldest_of, replaced_of}
use Rattle.receiver_state.specs.declared.arrivals.Receiver.{Receiver}
use Rattle.receiver_state.specs.Arrivals.{with_sampler, with_queue, with_overrun, with_sums, with_change}
use Rattle.feed.specs.declared.feed.Effect.{Effect}
use Rattle.feed.specs.declared.feed.Effect.TheVariants.{NoEffect, Reset, ClearErrors, ClearBreakChange}
use Rattle.feed.specs.declared.feed.Enabling.{Enabling}
use Rattle.feed.specs.declared.feed.Enabling.TheVariants.{Stays, Enables, Disables}

-- "Disable drops the character being put together and ends the wait for a break's end, no more."
abbrev pub assembly_dropped : Receiver → Receiver
assembly_dropped r = with_sampler r (hunting false)

-- "2 reset receiver (disabled; queue, waiting place and assembly cleared; overrun mark stays)"
abbrev pub reset_of : Receiver → Receiver
reset_of r = with_queue (assembly_dropped r) empty_queue

-- "4 clear overrun, block sums and the top character's marks"
abbrev pub errors_cleared : Receiver → Receiver
errors_cleared r =
    with_sums (with_overrun (with_queue r (replaced_of r.queue (unmarked_of (oldest_of r.queue)))) false) no_marks

-- "5 clear break change"
abbrev pub break_change_cleared : Receiver → Receiver
break_change_cleared r = with_change r false

-- bits 6-4 of a command
unfoldable pub effect_of : Receiver → Effect → Receiver
effect_of r NoEffect = r
effect_of r Reset = reset_of r
effect_of r ClearErrors = errors_cleared r
effect_of r ClearBreakChange = break_change_cleared r

-- Bits 1-0 of a command, of a receiver that was off (`Enables`, a mode change too) or on (`Disables`): "A receiver just
-- enabled must sample a high before a low counts". "Enabling it again changes nothing.": that is `Stays`.
unfoldable pub enabling_of : Receiver → Enabling → Receiver
enabling_of r Stays = r
enabling_of r Enables = assembly_dropped r
enabling_of r Disables = assembly_dropped r

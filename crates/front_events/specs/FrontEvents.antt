-- What an event makes of the front, and hands to each receiver. No receiver stands in it. Assumes nothing.
use Rattle.front.specs.declared.front.Front.{Front}
use Rattle.front.specs.declared.front.Handed.{Handed}
use Rattle.front_clocks.specs.Clocking.{ticked_of, levels_moved}
use Rattle.front.specs.Front.{front_at, handed_nothing}
use Rattle.front_reads.specs.Reads.{register_read}
use Rattle.feed.specs.declared.feed.Feed.TheVariants as Feeds
use Rattle.front_writes.specs.Writes.{register_written}
use Rattle.events.specs.declared.events.Event.{Event}
use Rattle.events.specs.declared.events.Event.TheVariants.{ChipReset, Read, Write, Acknowledge, Pins, Tick}

-- "Chip reset: .. Pin levels stay."
abbrev pub front_reset : Front → Handed
front_reset f = record { front = front_at f.inputs.levels; a = Feeds.ChipReset; b = Feeds.ChipReset }

-- "acknowledge .. changes nothing"
abbrev pub acknowledged : Front → Handed
acknowledged f = handed_nothing f

unfoldable pub front_stepped : Front → Event → Handed
front_stepped f ChipReset = front_reset f
front_stepped f (Read n) = register_read f n
front_stepped f (Write n byte) = register_written f n byte
front_stepped f Acknowledge = acknowledged f
front_stepped f (Pins levels) = levels_moved f levels
front_stepped f Tick = ticked_of f

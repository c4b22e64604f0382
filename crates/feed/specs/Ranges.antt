-- The range of what a feed carries: fields in ranges "that hold every value a rule here can put there". docs/SOUND.md
-- lists the same. Assumes nothing.
use Rattle.std.specs.Prelude.{Bool, true, ◌&&◌, leb}
use Rattle.feed.specs.declared.feed.Setting.{Setting}
use Rattle.feed.specs.declared.feed.Feed.{Feed}
use Rattle.feed.specs.declared.feed.Feed.TheVariants.{Nothing, Pulse, Command, Read, ChipReset}

-- 5 to 8 data bits, parity 0 with, 1 forced, 2 none
abbrev pub setting_in_range : Setting → Bool
setting_in_range f = leb 5 f.format.width.0 && (leb f.format.width.0 8 && leb f.format.parity 2)

-- What a register accepts is in range; so is what a feed carries then.
abbrev pub feed_in_range : Feed → Bool
feed_in_range Nothing = true
feed_in_range (Pulse level f) = setting_in_range f
feed_in_range (Command e t) = true
feed_in_range Read = true
feed_in_range ChipReset = true

-- A command keeps a side in range: it is two inputs of the transmitter, a pointer, an enable and an echoed level. What it hands to the receiver carries no
-- setting. Assumes nothing.
use Prim.Native.Nat.{ℕ}
use mathlib.Core.Path.{◌≡◌, refl}
use mathlib.Core.Bool.{true}
use Rattle.feed.specs.Ranges.{feed_in_range}
use Rattle.front_side.specs.declared.side.Side.{Side}
use Rattle.front_commands.specs.Commands.{side_commanded, command_feed}
use Rattle.front_side.proofs.Laws.Ranges.{SideWithin, input_within, pointed_within}

pub commanded_within : (s : Side) (byte : ℕ) → SideWithin s → SideWithin (side_commanded s byte)
unfolding side_commanded
commanded_within s byte h = pointed_within _ _ _ _ (input_within _ _ (input_within s _ h))

pub command_in_range : (s : Side) (byte : ℕ) → feed_in_range (command_feed s byte) ≡ true
unfolding command_feed
command_in_range s byte = refl

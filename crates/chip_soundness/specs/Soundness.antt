-- "Sound means no more than this: fields in ranges listed in docs/ that hold every value a rule here can put there,
-- registers holding only values that writes accept, and the waiting place used only with three characters held and no
-- confirmed start under way." Of the front that is `front_in_range`, of a receiver `receiver_sound`. Assumes nothing.
use Rattle.std.specs.Prelude.{Bool, ◌&&◌}
use Rattle.receiver_state.specs.declared.arrivals.Receiver.{Receiver}
use Rattle.receiver.specs.Sound.{receiver_in_range, waiting_sound}

abbrev pub receiver_sound : Receiver → Bool
receiver_sound r = receiver_in_range r && waiting_sound r

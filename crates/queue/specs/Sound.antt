-- The range of the queue's count, which "hold every value a rule here can put there". docs/SOUND.md lists the same.
-- Assumes nothing.
use Rattle.std.specs.Prelude.{Bool, leb}
use Rattle.queue.specs.declared.queue.Queue.{Queue}

-- demand 3: "At most four are ever held."
abbrev pub queue_in_range : Queue → Bool
queue_in_range q = leb q.count 4

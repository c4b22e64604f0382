-- `poll_refusal` meets its contract: its tests are the definition's, in the same order. Assumes nothing.
use Rattle.format.specs.Pick.{pick}
use borrow.Author.Tests.{lt-ltb, le-ltb}
use Rattle.poll.specs.Poll.{poll_refusal}
use Rattle.poll.proofs.polling.poll_refusal.Goals as goal

pub returns-then-not-is_sound : goal.returns-then-not-is_sound
unfolding poll_refusal pick
returns-then-not-is_sound c = rw (← c.if-not-is_sound.ensures)

pub returns-then-space-length : goal.returns-then-space-length
unfolding poll_refusal pick
returns-then-space-length c = rw (← c.if-not-is_sound.ensures, lt-ltb _ _ c.if-space-length.true)

pub returns-then-length-gt-MOST_EVENTS : goal.returns-then-length-gt-MOST_EVENTS
unfolding poll_refusal pick
returns-then-length-gt-MOST_EVENTS c =
    rw (← c.if-not-is_sound.ensures, le-ltb _ _ c.if-space-length.false, lt-ltb _ _ c.if-length-gt-MOST_EVENTS.true)

pub returns : goal.returns
unfolding poll_refusal pick
returns c =
    rw (← c.if-not-is_sound.ensures, le-ltb _ _ c.if-space-length.false, le-ltb _ _ c.if-length-gt-MOST_EVENTS.false)

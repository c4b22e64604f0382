-- The laws of a format, a file a topic; and what `search steps` goes by, the code's tests turned into those of the definitions.
-- Assumes nothing.
use borrow.Author.Tests.{eq-eqb, ne_eqb, lt-ltb, le-ltb, le-leb, lt-leb}
use Rattle.format.proofs.Laws.Pick.{pick_yes, pick_no}
pub mod Digits
pub mod Format
pub mod Numbers
pub mod Once
pub mod Parity
pub mod Pick
pub mod Stop
pub mod Table

pub ruleset steps = (eq-eqb, ne_eqb, lt-ltb, le-ltb, le-leb, lt-leb, pick_yes, pick_no)

-- `byte_of` meets its contract: a number that no byte has is more than 255. Assumes nothing.
use Prim.Native.Nat.{ℕ, ◌<◌}
use mathlib.Core.Path.{◌≡◌, ◌∙◌}
use native.Mathlib.Omega.{arith}
use lib.Dec.{leb}
use borrow.Author.Tests.{le-leb, lt-leb}
use Rattle.std.specs.Prelude.{Some, None, Result, Ok, Err}
use Rattle.std.specs.Result.{OkIff, result_ok}
use Rattle.format.specs.Pick.{pick}
use Rattle.replay_script.specs.Lines.{byte_of}
use Rattle.replay_script.proofs.lines.byte_of.Goals as goal

pub returns-in_err-number : goal.returns-in_err-number
unfolding byte_of
returns-in_err-number c = rw c.in_err-number.was c.from_residual.ensures

within : {E : Type 0} (r : Result ℕ E) (n : ℕ) → OkIff r (n < 256) n → result_ok r ≡ pick (leb n 255) (Some n) None
unfolding pick
within (Ok x) n (l, e) = rw (e, le-leb n 255 (omega (arith, l)))
within (Err d) n h = rw (lt-leb n 255 (omega (arith, h)))

pub returns : goal.returns
unfolding byte_of
returns c = rw c.in_ok-number.was (c.ok.ensures.value ∙ within c.try_from.result c.in_ok-number.field-0 c.try_from.ensures)

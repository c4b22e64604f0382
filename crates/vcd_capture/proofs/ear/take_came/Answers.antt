-- `take_came` meets its contract: a character, or none. Assumes nothing.
use mathlib.Core.Path.{sym, ◌∙◌, ap}
use Rattle.std.specs.Prelude.{Option, option_to_list}
use Rattle.character.specs.declared.character.Character.{Character}
use Rattle.text.proofs.Laws.Pages.{writes_none, writes_as}
use Rattle.vcd_capture.specs.Logs.{log_bytes}
use Rattle.vcd_capture.proofs.Laws.Hearing.{log_none, log_one}
use Rattle.vcd_capture.proofs.ear.take_came.Goals as goal

pub returns-in-None : goal.returns-in-None
returns-in-None c =
    writes_as (sym (ap (λ (x : Option Character). log_bytes (option_to_list x)) c.in-None.is ∙ log_none)) (writes_none _)

pub returns-in-Some : goal.returns-in-Some
returns-in-Some c =
    writes_as (sym (ap (λ (x : Option Character). log_bytes (option_to_list x)) c.in-Some.is ∙ log_one _)) c.put_character.ensures

-- `put_character` meets its contract: the byte, and then the marks. Assumes nothing.
use Prim.Native.Nat.{ℕ}
use mathlib.Core.Path.{ap}
use mathlib.Core.List.{[], ◌∷◌}
use Rattle.text.proofs.Laws.Pages.{writes_then, writes_as}
use Rattle.vcd_capture.specs.Logs.{character_bytes}
use Rattle.vcd_capture.proofs.logs.put_character.Goals as goal

pub returns : goal.returns
unfolding character_bytes
returns c =
    let a = c.args in
    writes_as (ap (λ (m : ℕ). a.character.byte ∷ m ∷ []) c.marks_byte.ensures) (writes_then c.put.ensures c.put-2.ensures)

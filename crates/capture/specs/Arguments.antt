-- The numbers among the arguments: in decimal and up to 255, ACR7 0 or 1. Assumes nothing.
use Rattle.std.specs.Prelude.{ℕ, ◌||◌, List, [], ◌∷◌, Option, Some, None, eqb, ltb}
use Rattle.format.specs.Pick.{pick}
use Rattle.text.specs.Numbers.{number_from}
use Rattle.vcd_capture.specs.declared.capturing.Asked.{Asked}

-- the number that a word spells, as a word with no digit spells none
unfoldable pub spelled : List ℕ → Option ℕ
spelled [] = None
spelled (b ∷ bs) = number_from (Some 0) (b ∷ bs)

unfoldable pub asked_of : ℕ → ℕ → ℕ → Option Asked
asked_of mr1 acr7 code =
    pick (ltb 255 mr1 || (ltb 1 acr7 || ltb 255 code)) None
    (Some (record { mr1 = mr1; acr7 = eqb acr7 1; code = code }))

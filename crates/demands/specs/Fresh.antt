-- Order 1: "The receive buffer read shall also say fresh or stale: fresh exactly when RxRDY was set before it." Over any
-- list of events after a chip reset, by the answers alone. Assumes nothing.
use Rattle.std.specs.Prelude.{ℕ, ◌≡◌, false, List, [], ◌∷◌, ◌++◌}
use Rattle.format.specs.Pick.{pick}
use Rattle.character.specs.declared.character.Character.{Character}
use Rattle.events.specs.declared.events.Event.{Event}
use Rattle.events.specs.declared.events.Event.TheVariants.{Read}
use Rattle.demands.specs.Chip.{Chip, Channel, register_of, and_then, shows, status_bit}
use Rattle.demands.specs.Chip.Channel.{A, B}
use Rattle.demands.specs.Delivery.{marks_shown, reads_buffer, read_from}

-- what the program read as demand 3 had it before: "while the ready bit was set", SR bit 0 just before
abbrev pub ready_at : Chip → ℕ → Channel → List Event → List Character
ready_at c levels ch es =
    pick (status_bit c levels ch es 0)
    (record { byte = shows c levels es (register_of ch 3); marks = marks_shown c levels ch es } ∷ []) []

unfoldable pub ready_from : Chip → ℕ → Channel → List Event → List Event → List Character
ready_from c levels ch before [] = []
ready_from c levels ch before (e ∷ es) =
    pick (reads_buffer ch e) (ready_at c levels ch before) [] ++ ready_from c levels ch (and_then before e) es

pub record Fresh (c : Chip) : Type 0 where
  -- "fresh exactly when RxRDY was set before it"
  pub exactly : (levels : ℕ) (ch : Channel) (es : List Event)
      → (c levels es (Read (register_of ch 3))).fresh ≡ status_bit c levels ch es 0
  -- "a refused read .. is stale"
  pub refused : (levels : ℕ) (es : List Event) (e : Event) → ((c levels es e).number ≡ 0 → ⊥)
      → (c levels es e).fresh ≡ false
  -- "any other event is stale"
  pub other : (levels : ℕ) (es : List Event) (e : Event) → reads_buffer A e ≡ false → reads_buffer B e ≡ false
      → (c levels es e).fresh ≡ false
  -- "Demand 3 counts fresh reads, the same reads as before."
  pub same : (levels : ℕ) (ch : Channel) (es : List Event)
      → read_from c levels ch [] es ≡ ready_from c levels ch [] es

-- What each input but a pulse does, and that it does no more, said of any way `step` to take one. Assumes nothing.
use Rattle.std.specs.Prelude.{ℕ, ◌≡◌, true, false, eqb}
use Rattle.transmitter_state.specs.declared.state.Transmitter.{Transmitter}
use Rattle.transmitter_state.specs.State.{in_break, after_break, fresh_transmitter, with_enabled, with_holding}
use Rattle.transmitter_state.specs.State.{with_asked}
use Rattle.transmitter.specs.declared.transmitter.Input.TheVariants.{Nothing, Write, Enable, Disable, StartBreak}
use Rattle.transmitter.specs.declared.transmitter.Input.TheVariants.{StopBreak, Reset, ChipReset, ModeChange}
use Rattle.transmitter.specs.Status.{shifter_empty}
use Rattle.transmitter.specs.Frames.{Step, free, Undisturbed}

-- "3 reset transmitter (disabled, all dropped, TxD high)"
pub record AllDropped (t : Transmitter) : Type 0 where
  pub disabled : t.enabled ≡ false
  pub holding : t.full ≡ false
  pub shifter : shifter_empty t ≡ true
  pub asked : t.asked ≡ false
  pub high : t.txd ≡ true

-- Order 2: "A mode change drops what is being sent (a break too; the holding place stays) .., and holds TxD high until
-- the next pulse.", on which a start or a break that was asked may come: no bit is owed
pub record SendingDropped (t u : Transmitter) : Type 0 where
  pub shifter : shifter_empty u ≡ true
  pub free : free u ≡ true
  pub high : u.txd ≡ true
  pub stays : Undisturbed t u

pub record Obeys (step : Step) : Type 0 where
  -- "A write while disabled is ignored; a second write replaces the first."
  pub ignores : (t : Transmitter) (byte : ℕ) → t.enabled ≡ false → step t (Write byte) ≡ t
  pub writes : (t : Transmitter) (byte : ℕ) → t.enabled ≡ true → step t (Write byte) ≡ with_holding t true byte
  pub enables : (t : Transmitter) → step t Enable ≡ with_enabled t true
  -- "Disable lets the shifter finish and keeps the holding place.": beside the enable it does what a stop break does
  pub disables : (t : Transmitter) → step t Disable ≡ with_enabled (step t StopBreak) false
  -- "start break while disabled is ignored", and so it is while one is being sent
  pub unasked : (t : Transmitter) → t.enabled ≡ false → step t StartBreak ≡ t
  pub asks : (t : Transmitter) → t.enabled ≡ true → eqb t.phase in_break ≡ false
      → step t StartBreak ≡ with_asked t true
  pub already : (t : Transmitter) → eqb t.phase in_break ≡ true → step t StartBreak ≡ t
  -- "one not yet begun is just dropped"
  pub drops : (t : Transmitter) → eqb t.phase in_break ≡ false → step t StopBreak ≡ with_asked t false
  pub resets : (t : Transmitter) → AllDropped (step t Reset)
  -- the next start may come on the very next pulse, but for the high bit after a break, of which as much is owed as
  -- after a stop
  pub frees : (t : Transmitter) → eqb (step t StopBreak).phase after_break ≡ false → free (step t Reset) ≡ true
  pub owes : (t : Transmitter) → eqb (step t StopBreak).phase after_break ≡ true
      → (eqb (step t Reset).phase after_break ≡ true) × ((step t Reset).left ≡ (step t StopBreak).left)
  pub resets_chip : (t : Transmitter) → step t ChipReset ≡ fresh_transmitter
  pub changes : (t : Transmitter) → SendingDropped t (step t ModeChange)
  pub nothing : (t : Transmitter) → step t Nothing ≡ t

-- The feeds that clear a receiver's last byte read, block sums or break change, and which events hand them on: a chip reset, and an accepted
-- command 4 or 5. Assumes nothing.
use Prim.Native.Nat.{ℕ, ◌/◌, ◌%◌}
use mathlib.Core.Path.{◌≡◌, refl, ◌∙◌}
use mathlib.Core.Bool.{Bool, true, false, ◌&&◌, ◌||◌}
use lib.Dec.{eqb}
use borrow.Author.Tests.{eqb-true}
use Rattle.format.specs.Pick.{pick}
use Rattle.format.proofs.Laws.Pick.{pick_all}
use Rattle.feed.specs.declared.feed.Effect.{Effect}
use Rattle.feed.specs.declared.feed.Effect.TheVariants.{NoEffect, Reset, ClearErrors, ClearBreakChange}
use Rattle.feed.specs.declared.feed.Feed.{Feed}
use Rattle.feed.specs.declared.feed.Feed.TheVariants as Feeds
use Rattle.front_commands.specs.Commands.{receiver_effect, command_feed}
use Rattle.front_side.specs.declared.side.Side.{Side}
use Rattle.front.specs.declared.front.Front.{Front}
use Rattle.events.specs.declared.events.Event.{Event}
use Rattle.events.specs.declared.events.Event.TheVariants.{ChipReset, Read, Write, Acknowledge, Pins, Tick}
use Rattle.demands.specs.Chip.{Channel, register_of}
use Rattle.demands.specs.Told.{commands}
use Rattle.demands.specs.Clocks.{side_of}
use Rattle.demands.specs.Received.{command_of, is_chip_reset}
use Rattle.demands.proofs.Laws.Feeds.{hands_to, pulse_all, write_all}

-- ---- the feeds that clear ----

abbrev pub is_reset : Feed → Bool
is_reset Feeds.Nothing = false
is_reset (Feeds.Pulse level f) = false
is_reset (Feeds.Command e t) = false
is_reset Feeds.Read = false
is_reset Feeds.ChipReset = true

abbrev pub clears_errors : Effect → Bool
clears_errors NoEffect = false
clears_errors Reset = false
clears_errors ClearErrors = true
clears_errors ClearBreakChange = false

abbrev pub clears_break : Effect → Bool
clears_break NoEffect = false
clears_break Reset = false
clears_break ClearErrors = false
clears_break ClearBreakChange = true

-- by what clears of a command
abbrev pub cleared_by : (Effect → Bool) → Feed → Bool
cleared_by p Feeds.Nothing = false
cleared_by p (Feeds.Pulse level f) = false
cleared_by p (Feeds.Command e t) = p e
cleared_by p Feeds.Read = false
cleared_by p Feeds.ChipReset = true

abbrev pub clears_sums : Feed → Bool
clears_sums x = cleared_by clears_errors x

abbrev pub clears_change : Feed → Bool
clears_change x = cleared_by clears_break x

pub reset_handed : (ch : Channel) (f : Front) (e : Event) → is_reset (hands_to ch f e) ≡ is_chip_reset e
unfolding command_feed
reset_handed ch f ChipReset = refl
reset_handed ch f (Read n) = pick_all (λ (x : Feed). is_reset x ≡ false) (eqb n (register_of ch 3)) _ _ refl refl
reset_handed ch f (Write n byte) = write_all (λ (x : Feed). is_reset x ≡ false) ch f n byte refl refl refl
reset_handed ch f Acknowledge = refl
reset_handed ch f (Pins levels) = pulse_all (λ (x : Feed). is_reset x ≡ false) refl (λ level g. refl) _ _ _ _
reset_handed ch f Tick = pulse_all (λ (x : Feed). is_reset x ≡ false) refl (λ level g. refl) _ _ _ _

-- the bits 6-4 that clear
errors_bits : (bits : ℕ) → clears_errors (receiver_effect bits) ≡ eqb bits 4
unfolding receiver_effect pick
errors_bits bits = go (eqb bits 2) (eqb bits 4) (eqb bits 5) refl refl
  where
    go : (s t u : Bool) → eqb bits 2 ≡ s → eqb bits 4 ≡ t
        → clears_errors (pick s Reset (pick t ClearErrors (pick u ClearBreakChange NoEffect))) ≡ t
    go true t u e d = let z : bits ≡ 2 = eqb-true bits 2 e in rw z at d
    go false true u e d = refl
    go false false true e d = refl
    go false false false e d = refl

break_bits : (bits : ℕ) → clears_break (receiver_effect bits) ≡ eqb bits 5
unfolding receiver_effect pick
break_bits bits = go (eqb bits 2) (eqb bits 4) (eqb bits 5) refl refl refl
  where
    go : (s t u : Bool) → eqb bits 2 ≡ s → eqb bits 4 ≡ t → eqb bits 5 ≡ u
        → clears_break (pick s Reset (pick t ClearErrors (pick u ClearBreakChange NoEffect))) ≡ u
    go true t u e d c = let z : bits ≡ 2 = eqb-true bits 2 e in rw z at c
    go false true u e d c = let z : bits ≡ 4 = eqb-true bits 4 d in rw z at c
    go false false true e d c = refl
    go false false false e d c = refl

-- so of any event
cleared_picked : (p : Effect → Bool) (t : Bool) (s : Side) (byte : ℕ) (x : Feed) → cleared_by p x ≡ false
    → cleared_by p (pick t (command_feed s byte) x) ≡ t && p (receiver_effect (byte / 16 % 8))
unfolding command_feed pick
cleared_picked p true s byte x e = refl
cleared_picked p false s byte x e = e

cleared_handed : (p : Effect → Bool) (k : ℕ) → p NoEffect ≡ false → ((bits : ℕ) → p (receiver_effect bits) ≡ eqb bits k) → (ch : Channel) (f : Front) (e : Event)
    → cleared_by p (hands_to ch f e) ≡ is_chip_reset e || command_of ch k e
cleared_handed p k none h ch f ChipReset = refl
cleared_handed p k none h ch f (Read n) = pick_all (λ (x : Feed). cleared_by p x ≡ false) (eqb n (register_of ch 3)) _ _ refl refl
cleared_handed p k none h ch f (Write n byte) =
    cleared_picked p (commands ch n byte) (side_of ch f) byte _ (pick_all (λ (x : Feed). cleared_by p x ≡ false) _ _ _ none refl) ∙ rw (h (byte / 16 % 8))
cleared_handed p k none h ch f Acknowledge = refl
cleared_handed p k none h ch f (Pins levels) = pulse_all (λ (x : Feed). cleared_by p x ≡ false) refl (λ level g. refl) _ _ _ _
cleared_handed p k none h ch f Tick = pulse_all (λ (x : Feed). cleared_by p x ≡ false) refl (λ level g. refl) _ _ _ _

pub sums_handed : (ch : Channel) (f : Front) (e : Event) → clears_sums (hands_to ch f e) ≡ is_chip_reset e || command_of ch 4 e
sums_handed ch f e = cleared_handed clears_errors 4 refl errors_bits ch f e

pub change_handed : (ch : Channel) (f : Front) (e : Event) → clears_change (hands_to ch f e) ≡ is_chip_reset e || command_of ch 5 e
change_handed ch f e = cleared_handed clears_break 5 refl break_bits ch f e

-- Commands 0 to 7 and the enables, written out: a table by bits 6-4 of the byte, by bits 3-2 and by bits 1-0, computed at each of its places. The
-- statement takes what it speaks of, so that wrong commands are refuted by it. Assumes nothing.
use Prim.Native.Nat.{ℕ, zero, suc, ◌/◌, ◌%◌, ◌<◌}
use mathlib.Core.Path.{◌≡◌, refl}
use mathlib.Core.Bool.{Bool, true, false, not, ◌&&◌, ◌||◌}
use mathlib.Core.List.{List, [], ◌∷◌}
use native.Mathlib.Omega.{arith}
use lib.Dec.{eqb}
use lib.ListN.{get_or}
use Rattle.format.specs.Pick.{pick}
use Rattle.feed.specs.declared.feed.Effect.{Effect}
use Rattle.feed.specs.declared.feed.Effect.TheVariants as Receivers
use Rattle.feed.specs.declared.feed.Enabling.{Enabling}
use Rattle.feed.specs.declared.feed.Enabling.TheVariants.{Stays, Enables, Disables}
use Rattle.feed.specs.declared.feed.Feed.{Feed}
use Rattle.feed.specs.declared.feed.Feed.TheVariants.{Command}
use Rattle.transmitter.specs.declared.transmitter.Input.{Input}
use Rattle.transmitter.specs.declared.transmitter.Input.TheVariants.{Nothing, Enable, Disable, StartBreak, StopBreak, Reset}
use Rattle.transmitter.specs.Transmitter.{after_input}
use Rattle.front_side.specs.declared.side.Side.{Side}
use Rattle.front_commands.specs.Commands.{transmitter_effect, receiver_effect, transmitter_enabling, receiver_enabling, enabled_then, enabled_after, echo_after, side_commanded, command_feed}

-- ---- the tables ----

-- "3 reset transmitter", "6, 7 start, stop break"
abbrev pub to_transmitter : List Input
to_transmitter = Nothing ∷ Nothing ∷ Nothing ∷ Reset ∷ Nothing ∷ Nothing ∷ StartBreak ∷ StopBreak ∷ []

-- "2 reset receiver", "4 clear overrun, block sums and the top character's marks; 5 clear break change"
abbrev pub to_receiver : List Effect
to_receiver =
    Receivers.NoEffect ∷ Receivers.NoEffect ∷ Receivers.Reset ∷ Receivers.NoEffect ∷ Receivers.ClearErrors ∷ Receivers.ClearBreakChange
    ∷ Receivers.NoEffect ∷ Receivers.NoEffect ∷ []

-- "2 reset receiver (disabled; .."
abbrev pub leaves_enabled : List Bool
leaves_enabled = true ∷ true ∷ false ∷ true ∷ true ∷ true ∷ true ∷ true ∷ []

-- "1 pointer to MR1"
abbrev pub leaves_moved : List Bool
leaves_moved = true ∷ false ∷ true ∷ true ∷ true ∷ true ∷ true ∷ true ∷ []

-- "then 3-2 (01 enable, 10 disable transmitter)"
abbrev pub enables_transmitter : List Input
enables_transmitter = Nothing ∷ Enable ∷ Disable ∷ Nothing ∷ []

-- "then 1-0 (receiver)", of one that is enabled or not: "Enabling it again changes nothing."
abbrev pub enables_receiver : Bool → List Enabling
enables_receiver enabled = Stays ∷ pick enabled Stays Enables ∷ Disables ∷ Stays ∷ []

-- order 2: a reset of either, and a disable of the receiver, raise the echoed level
abbrev pub raises_echo : List Bool
raises_echo = false ∷ false ∷ true ∷ true ∷ false ∷ false ∷ false ∷ false ∷ []

-- ---- the statement ----

-- "Command: bit 7 ignored; bits 6-4 first, then 3-2 (01 enable, 10 disable transmitter), then 1-0 (receiver)."
pub record Commands (side : Side → ℕ → Side) (feed : Side → ℕ → Feed) : Type 0 where
  pub transmitter : (s : Side) (byte : ℕ)
      → (side s byte).transmitter
      ≡ after_input (after_input s.transmitter (get_or to_transmitter (byte / 16 % 8) Nothing)) (get_or enables_transmitter (byte / 4 % 4) Nothing)
  pub pointer : (s : Side) (byte : ℕ) → (side s byte).moved ≡ (s.moved && get_or leaves_moved (byte / 16 % 8) false)
  pub enable : (s : Side) (byte : ℕ) (e : Bool) → (s.enabled && get_or leaves_enabled (byte / 16 % 8) false) ≡ e
      → (side s byte).enabled ≡ get_or (e ∷ true ∷ false ∷ e ∷ []) (byte % 4) false
  pub receiver : (s : Side) (byte : ℕ) (e : Bool) → (s.enabled && get_or leaves_enabled (byte / 16 % 8) false) ≡ e
      → feed s byte ≡ Command (get_or to_receiver (byte / 16 % 8) Receivers.NoEffect) (get_or (enables_receiver e) (byte % 4) Stays)
  -- order 2: "(high while disabled)", before the command and by it; "3 reset transmitter (.., TxD high)"
  pub echo : (s : Side) (byte : ℕ)
      → (side s byte).echo
      ≡ (not s.enabled || s.echo || get_or raises_echo (byte / 16 % 8) false || get_or (false ∷ false ∷ true ∷ false ∷ []) (byte % 4) false)
  -- no other part
  pub modes : (s : Side) (byte : ℕ) → ((side s byte).mr1 ≡ s.mr1) × ((side s byte).mr2 ≡ s.mr2)
  pub clocks : (s : Side) (byte : ℕ) → ((side s byte).csr ≡ s.csr) × ((side s byte).phases ≡ s.phases)

-- ---- its places ----

four : (P : ℕ → Type 0) → P 0 → P 1 → P 2 → P 3 → (k : ℕ) → k < 4 → P k
four P a b c d zero l = a
four P a b c d (suc zero) l = b
four P a b c d (suc (suc zero)) l = c
four P a b c d (suc (suc (suc zero))) l = d
four P a b c d (suc (suc (suc (suc k)))) l = absurd (omega arith)

eight : (P : ℕ → Type 0) → P 0 → P 1 → P 2 → P 3 → P 4 → P 5 → P 6 → P 7 → (k : ℕ) → k < 8 → P k
eight P a b c d e f g h zero l = a
eight P a b c d e f g h (suc zero) l = b
eight P a b c d e f g h (suc (suc zero)) l = c
eight P a b c d e f g h (suc (suc (suc zero))) l = d
eight P a b c d e f g h (suc (suc (suc (suc k)))) l = four (λ (k : ℕ). P (suc (suc (suc (suc k))))) e f g h k (omega arith)

effects : (k : ℕ) → k < 8 → transmitter_effect k ≡ get_or to_transmitter k Nothing
unfolding transmitter_effect pick
effects = eight (λ (k : ℕ). transmitter_effect k ≡ get_or to_transmitter k Nothing) refl refl refl refl refl refl refl refl

received : (k : ℕ) → k < 8 → receiver_effect k ≡ get_or to_receiver k Receivers.NoEffect
unfolding receiver_effect pick
received = eight (λ (k : ℕ). receiver_effect k ≡ get_or to_receiver k Receivers.NoEffect) refl refl refl refl refl refl refl refl

enabling : (k : ℕ) → k < 4 → transmitter_enabling k ≡ get_or enables_transmitter k Nothing
unfolding transmitter_enabling pick
enabling = four (λ (k : ℕ). transmitter_enabling k ≡ get_or enables_transmitter k Nothing) refl refl refl refl

receiving : (e : Bool) (k : ℕ) → k < 4 → receiver_enabling e k ≡ get_or (enables_receiver e) k Stays
unfolding receiver_enabling pick
receiving e = four (λ (k : ℕ). receiver_enabling e k ≡ get_or (enables_receiver e) k Stays) refl refl refl refl

stays : (x : Bool) (k : ℕ) → k < 8 → enabled_then x k ≡ (x && get_or leaves_enabled k false)
stays x = eight (λ (k : ℕ). enabled_then x k ≡ (x && get_or leaves_enabled k false)) refl refl refl refl refl refl refl refl

points : (x : Bool) (k : ℕ) → k < 8 → (x && not (eqb k 1)) ≡ (x && get_or leaves_moved k false)
points x = eight (λ (k : ℕ). (x && not (eqb k 1)) ≡ (x && get_or leaves_moved k false)) refl refl refl refl refl refl refl refl

enabled_at : (e : Bool) (k : ℕ) → k < 4 → enabled_after e k ≡ get_or (e ∷ true ∷ false ∷ e ∷ []) k false
enabled_at true = four (λ (k : ℕ). enabled_after true k ≡ get_or (true ∷ true ∷ false ∷ true ∷ []) k false) refl refl refl refl
enabled_at false = four (λ (k : ℕ). enabled_after false k ≡ get_or (false ∷ true ∷ false ∷ false ∷ []) k false) refl refl refl refl

raised : (k : ℕ) → k < 8 → (eqb k 2 || eqb k 3) ≡ get_or raises_echo k false
raised = eight (λ (k : ℕ). (eqb k 2 || eqb k 3) ≡ get_or raises_echo k false) refl refl refl refl refl refl refl refl

disabled_at : (k : ℕ) → k < 4 → eqb k 2 ≡ get_or (false ∷ false ∷ true ∷ false ∷ []) k false
disabled_at = four (λ (k : ℕ). eqb k 2 ≡ get_or (false ∷ false ∷ true ∷ false ∷ []) k false) refl refl refl refl

echoes : (on x : Bool) (effect bits : ℕ) → effect < 8 → bits < 4
    → echo_after on x effect bits ≡ (not on || x || get_or raises_echo effect false || get_or (false ∷ false ∷ true ∷ false ∷ []) bits false)
echoes false x effect bits l m = refl
echoes true true effect bits l m = refl
echoes true false effect bits l m = rw (← raised effect l, ← disabled_at bits m)

pub commands : Commands side_commanded command_feed
unfolding side_commanded command_feed
commands =
    record {
      transmitter = λ s byte. rw (effects (byte / 16 % 8) (omega arith), enabling (byte / 4 % 4) (omega arith));
      pointer = λ s byte. points s.moved (byte / 16 % 8) (omega arith);
      enable = λ s byte e h. rw (stays s.enabled (byte / 16 % 8) (omega arith), h) (enabled_at e (byte % 4) (omega arith));
      receiver = λ s byte e h. rw (received (byte / 16 % 8) (omega arith), stays s.enabled (byte / 16 % 8) (omega arith), h, receiving e (byte % 4) (omega arith));
      echo = λ s byte. echoes s.enabled s.echo (byte / 16 % 8) (byte % 4) (omega arith) (omega arith);
      modes = λ s byte. (refl, refl);
      clocks = λ s byte. (refl, refl);
    }

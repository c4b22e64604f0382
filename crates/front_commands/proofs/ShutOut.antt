-- Wrong answers, each shut out by a definition: a routine that gave it would not meet its contract. Assumes nothing.
use Prim.Native.Nat.{ℕ, ◌+◌, ◌-◌, ◌/◌, ◌%◌}
use mathlib.Core.Path.{◌≡◌, refl, ap}
use mathlib.Core.Bool.{Bool, true, false, not, ◌&&◌, ◌||◌, true≢false, false≢true}
use native.Mathlib.Omega.{arith}
use lib.Dec.{eqb}
use Rattle.format.specs.Pick.{pick}
use Rattle.feed.specs.declared.feed.Enabling.TheVariants.{Enables}
use Rattle.transmitter_state.specs.declared.state.Transmitter.{Transmitter}
use Rattle.transmitter_state.specs.State.{fresh_transmitter}
use Rattle.transmitter.specs.Commands.{enabled_of, break_ended, break_asked}
use Rattle.transmitter.specs.Transmitter.{after_input}
use Rattle.front_side.specs.declared.side.Side.{Side}
use Rattle.front_side.specs.Side.{fresh_side, with_enabled, with_transmitter, with_echo, pointed_at}
use Rattle.front_commands.specs.Commands.{transmitter_effect, receiver_effect, transmitter_enabling, receiver_enabling, enabled_then, side_commanded, command_feed}
use Rattle.front_commands.proofs.Laws.Numbers.{Commands}

-- "2 reset receiver (disabled; .."
no_reset_stays_enabled :
    ((enabled : Bool) (effect : ℕ) → (enabled && not (eqb effect 8)) ≡ enabled_then enabled effect)
    → ⊥
no_reset_stays_enabled h = true≢false (h true 2)

-- "Enabling it again changes nothing."
no_enables_again : Enables ≡ receiver_enabling true 1 → ⊥
unfolding receiver_enabling pick
no_enables_again h = let z : ◌≡◌ {A = ℕ} 0 1 = cc in omega arith

-- ---- wrong commands, each shut out by the tables of document 01's numbers ----
-- Made in the definition and in the code together, they would still be refused.

-- command k as the next one, and that one as k
abbrev exchanged : ℕ → ℕ → ℕ
exchanged k byte = pick (eqb (byte / 16 % 8) k) (byte + 16) (pick (eqb (byte / 16 % 8) (k + 1)) (byte - 16) byte)

-- "6, 7 start, stop break"
no_six_and_seven : Commands (λ (s : Side) (byte : ℕ). side_commanded s (exchanged 6 byte)) command_feed → ⊥
unfolding side_commanded transmitter_effect transmitter_enabling after_input break_ended break_asked fresh_side pick
no_six_and_seven h =
    let on : Side = with_transmitter fresh_side (enabled_of fresh_transmitter) in
    false≢true (ap (λ (t : Transmitter). t.asked) (h.transmitter on 96))

-- "4 clear overrun, block sums and the top character's marks; 5 clear break change"
no_four_and_five : Commands side_commanded (λ (s : Side) (byte : ℕ). command_feed s (exchanged 4 byte)) → ⊥
unfolding command_feed receiver_effect receiver_enabling fresh_side pick
no_four_and_five h =
    let x = h.receiver fresh_side 64 _ refl in
    let z : ◌≡◌ {A = ℕ} 0 1 = cc in
    omega arith

-- "1 pointer to MR1; 2 reset receiver"
no_one_and_two : Commands (λ (s : Side) (byte : ℕ). side_commanded s (exchanged 1 byte)) command_feed → ⊥
unfolding side_commanded fresh_side pick
no_one_and_two h = true≢false (h.pointer (pointed_at fresh_side true) 16)

-- "bit 7 ignored": a byte with it set does nothing
no_bit7_counts : Commands (λ (s : Side) (byte : ℕ). pick (eqb (byte / 128 % 2) 1) s (side_commanded s byte)) command_feed → ⊥
unfolding fresh_side pick
no_bit7_counts h = true≢false (h.pointer (pointed_at fresh_side true) 144)

-- ---- order 2: the echoed level ----

-- an enabled receiver's, at a low
abbrev low_echo : Side
low_echo = with_echo (with_enabled fresh_side true) false

-- "(high while disabled)": a disable that leaves it, a reset that enables again (0x21) and leaves it, and an enable of a receiver that is off
no_disable_keeps_echo : Commands (λ (s : Side) (byte : ℕ). with_echo (side_commanded s byte) (s.echo || eqb (byte / 16 % 8) 2 || eqb (byte / 16 % 8) 3)) command_feed → ⊥
unfolding side_commanded fresh_side pick
no_disable_keeps_echo h = false≢true (h.echo low_echo 2)

no_reset_keeps_echo : Commands (λ (s : Side) (byte : ℕ). with_echo (side_commanded s byte) (s.echo || eqb (byte / 16 % 8) 3 || eqb (byte % 4) 2)) command_feed → ⊥
unfolding side_commanded fresh_side pick
no_reset_keeps_echo h = false≢true (h.echo low_echo 33)

no_enable_keeps_echo :
    Commands (λ (s : Side) (byte : ℕ). with_echo (side_commanded s byte) (s.echo || eqb (byte / 16 % 8) 2 || eqb (byte / 16 % 8) 3 || eqb (byte % 4) 2))
    command_feed
    → ⊥
unfolding side_commanded fresh_side pick
no_enable_keeps_echo h = false≢true (h.echo (with_echo fresh_side false) 1)

-- "3 reset transmitter (disabled, all dropped, TxD high)"
no_transmitter_keeps_echo : Commands (λ (s : Side) (byte : ℕ). with_echo (side_commanded s byte) (s.echo || eqb (byte / 16 % 8) 2 || eqb (byte % 4) 2)) command_feed → ⊥
unfolding side_commanded fresh_side pick
no_transmitter_keeps_echo h = false≢true (h.echo low_echo 48)

-- Wrong answers, each shut out by a definition: a routine that gave it would not meet its contract. Assumes nothing.
use Prim.Native.Nat.{ℕ, ◌+◌}
use mathlib.Core.Path.{◌≡◌, sym}
use mathlib.Core.Bool.{true, false, ◌||◌, false≢true}
use native.Mathlib.Omega.{arith}
use lib.Dec.{eqb, ltb}
use mathlib.Core.List.{[], ◌∷◌}
use Rattle.std.proofs.Common.{Some}
use Rattle.format.specs.Pick.{pick}
use Rattle.events.specs.declared.events.Event.TheVariants.{Write, Acknowledge}
use Rattle.replay_script.specs.declared.lines.Line.TheVariants.{Ticks, One}
use Rattle.text.specs.Numbers.{value_after, number_after, number_from}
use Rattle.replay_script.specs.Bytes.{blank_of}
use Rattle.replay_script.specs.Reading.{words_after}
use Rattle.replay_script.specs.declared.reading.Reading.{Reading}
use Rattle.replay_script.specs.Lines.{silent, told_alone, told_with_one, byte_of, told_with_bytes, told_with_two}
use Rattle.replay_script.specs.Place.{line_after}

-- ---- a line, byte by byte ----

no_tab_no_blank : ((b : ℕ) → (eqb b 32 || (eqb b 11 || eqb b 13)) ≡ blank_of b) → ⊥
no_tab_no_blank h = false≢true (h 9)

no_four_words_three : ((n : ℕ) → pick (ltb n 3) (n + 1) n ≡ words_after n) → ⊥
unfolding words_after pick
no_four_words_three h = omega (arith, h 3)

-- ---- what it says ----

-- every line is passed over: such a program does nothing
no_every_line_silent : ((r : Reading) → true ≡ silent r) → ⊥
no_every_line_silent h = false≢true (sym (h (record { inside = true; comment = false; words = 1; name = 1; first = Some 0; second = Some 0 })))

-- blank lines alone are
no_comment_told : ((r : Reading) → eqb r.words 0 ≡ silent r) → ⊥
no_comment_told h = false≢true (h (record { inside = true; comment = true; words = 1; name = 1; first = Some 0; second = Some 0 }))

-- `Ack`
no_capital_ack : One Acknowledge ≡ told_alone 0x1_41_63_6b → ⊥
unfolding told_alone pick
no_capital_ack h = let z : ◌≡◌ {A = ℕ} 0 1 = cc in omega arith

-- `tick 4000000001`
no_count_above_most : Ticks (record { 0 = 4000000001 }) ≡ told_with_one 0x1_74_69_63_6b (Some 4000000001) → ⊥
unfolding told_with_one pick
no_count_above_most h = let z : ◌≡◌ {A = ℕ} 0 1 = cc in omega arith

-- the same as the reader hands its digits on, whatever count is made of them
no_digits_above_most : (n : ℕ) → Ticks (record { 0 = n }) ≡ told_with_one 0x1_74_69_63_6b (number_from (Some 0) (52 ∷ 48 ∷ 48 ∷ 48 ∷ 48 ∷ 48 ∷ 48 ∷ 48 ∷ 48 ∷ 49 ∷ [])) → ⊥
unfolding told_with_one number_from number_after value_after pick
no_digits_above_most n h = let z : ◌≡◌ {A = ℕ} 0 1 = cc in omega arith

-- `write 12 256`, whatever is made of the 256
no_byte256_written : (byte : ℕ) → One (Write 12 byte) ≡ told_with_two 0x1_77_72_69_74_65 (Some 12) (Some 256) → ⊥
unfolding told_with_bytes byte_of pick
no_byte256_written byte h = let z : ◌≡◌ {A = ℕ} 0 1 = cc in omega arith

-- ---- which line it is ----

no_line_number_stays : ((n : ℕ) → n ≡ line_after n) → ⊥
unfolding line_after pick
no_line_number_stays h = omega (arith, h 1)

-- What lines of each kind mean, computed. Assumes nothing.
use mathlib.Core.Path.{◌≡◌, refl}
use mathlib.Core.Bool.{Bool, true, false}
use mathlib.Core.List.{[], ◌∷◌, ◌++◌}
use Rattle.format.specs.Digits.{digit_of}
use Rattle.format.specs.Pick.{pick}
use Rattle.events.specs.declared.events.Event.TheVariants.{ChipReset, Read, Write, Acknowledge, Pins}
use Rattle.replay_script.specs.declared.lines.Line.TheVariants.{Skipped, Wrong, Ticks, One}
use Rattle.replay_script.specs.Script.{pieces_of, full_of, same_of, hash_of, all_digits, value_from, said, meant_of, line_of, reset_text, read_text, write_text, ack_text, pins_text, tick_text}
use Rattle.text.specs.Bytes.{bytes_of}
use Rattle.text.specs.Decimal.{decimal_of}
use Rattle.replay_text.specs.Lines.{seen_text, error_text}

-- one name for what the examples unfold: it says nothing by itself
unfoldable computing : Bool
unfolding pieces_of full_of same_of hash_of all_digits value_from said meant_of pick
computing = true

-- `reset`
reset : line_of reset_text ≡ One ChipReset
unfolding computing
reset = refl

-- ` \treset \r`
reset_blanks : line_of (32 ∷ 9 ∷ 114 ∷ 101 ∷ 115 ∷ 101 ∷ 116 ∷ 32 ∷ 13 ∷ []) ≡ One ChipReset
unfolding computing
reset_blanks = refl

-- `read 15`
read : line_of (read_text ++ 32 ∷ 49 ∷ 53 ∷ []) ≡ One (Read 15)
unfolding computing
read = refl

-- `read\t000255`
read_zeros : line_of (read_text ++ 9 ∷ 48 ∷ 48 ∷ 48 ∷ 50 ∷ 53 ∷ 53 ∷ []) ≡ One (Read 255)
unfolding computing
read_zeros = refl

-- `write 3  85`
write : line_of (write_text ++ 32 ∷ 51 ∷ 32 ∷ 32 ∷ 56 ∷ 53 ∷ []) ≡ One (Write 3 85)
unfolding computing
write = refl

-- `ack`
ack : line_of ack_text ≡ One Acknowledge
unfolding computing
ack = refl

-- `pins 191`
pins : line_of (pins_text ++ 32 ∷ 49 ∷ 57 ∷ 49 ∷ []) ≡ One (Pins 191)
unfolding computing
pins = refl

-- `tick`
tick : line_of tick_text ≡ Ticks (record { 0 = 1 })
unfolding computing
tick = refl

-- `tick 0`
tick_none : line_of (tick_text ++ 32 ∷ 48 ∷ []) ≡ Ticks (record { 0 = 0 })
unfolding computing
tick_none = refl

-- `tick 4000000000`
tick_most : line_of (tick_text ++ 32 ∷ 52 ∷ 48 ∷ 48 ∷ 48 ∷ 48 ∷ 48 ∷ 48 ∷ 48 ∷ 48 ∷ 48 ∷ []) ≡ Ticks (record { 0 = 4000000000 })
unfolding computing
tick_most = refl

-- ``
empty : line_of [] ≡ Skipped
unfolding computing
empty = refl

-- ` \t\r`
blanks : line_of (32 ∷ 9 ∷ 13 ∷ []) ≡ Skipped
unfolding computing
blanks = refl

-- `# read 1`
comment : line_of (35 ∷ 32 ∷ 114 ∷ 101 ∷ 97 ∷ 100 ∷ 32 ∷ 49 ∷ []) ≡ Skipped
unfolding computing
comment = refl

-- ` #reset`
comment_joined : line_of (32 ∷ 35 ∷ 114 ∷ 101 ∷ 115 ∷ 101 ∷ 116 ∷ []) ≡ Skipped
unfolding computing
comment_joined = refl

-- `tick 4000000001`
tick_above : line_of (tick_text ++ 32 ∷ 52 ∷ 48 ∷ 48 ∷ 48 ∷ 48 ∷ 48 ∷ 48 ∷ 48 ∷ 48 ∷ 49 ∷ []) ≡ Wrong
unfolding computing
tick_above = refl

-- `tick 18446744073709551617`
tick_far_above : line_of (tick_text ++ 32 ∷ 49 ∷ 56 ∷ 52 ∷ 52 ∷ 54 ∷ 55 ∷ 52 ∷ 52 ∷ 48 ∷ 55 ∷ 51 ∷ 55 ∷ 48 ∷ 57 ∷ 53 ∷ 53 ∷ 49 ∷ 54 ∷ 49 ∷ 55 ∷ []) ≡ Wrong
unfolding computing
tick_far_above = refl

-- `read 256`
read_above : line_of (read_text ++ 32 ∷ 50 ∷ 53 ∷ 54 ∷ []) ≡ Wrong
unfolding computing
read_above = refl

-- `pins 256`
pins_above : line_of (pins_text ++ 32 ∷ 50 ∷ 53 ∷ 54 ∷ []) ≡ Wrong
unfolding computing
pins_above = refl

-- `write 256 0`
write_above : line_of (write_text ++ 32 ∷ 50 ∷ 53 ∷ 54 ∷ 32 ∷ 48 ∷ []) ≡ Wrong
unfolding computing
write_above = refl

-- `write 0 256`
write_byte_above : line_of (write_text ++ 32 ∷ 48 ∷ 32 ∷ 50 ∷ 53 ∷ 54 ∷ []) ≡ Wrong
unfolding computing
write_byte_above = refl

-- `read`
read_nothing : line_of read_text ≡ Wrong
unfolding computing
read_nothing = refl

-- `write 3`
write_one : line_of (write_text ++ 32 ∷ 51 ∷ []) ≡ Wrong
unfolding computing
write_one = refl

-- `reset 1`
reset_more : line_of (reset_text ++ 32 ∷ 49 ∷ []) ≡ Wrong
unfolding computing
reset_more = refl

-- `write 3 85 1`
write_more : line_of (write_text ++ 32 ∷ 51 ∷ 32 ∷ 56 ∷ 53 ∷ 32 ∷ 49 ∷ []) ≡ Wrong
unfolding computing
write_more = refl

-- `READ 1`
capital : line_of (82 ∷ 69 ∷ 65 ∷ 68 ∷ 32 ∷ 49 ∷ []) ≡ Wrong
unfolding computing
capital = refl

-- `read +1`
sign : line_of (read_text ++ 32 ∷ 43 ∷ 49 ∷ []) ≡ Wrong
unfolding computing
sign = refl

-- `read 1x`
no_digit : line_of (read_text ++ 32 ∷ 49 ∷ 120 ∷ []) ≡ Wrong
unfolding computing
no_digit = refl

-- `resets`
long_name : line_of (reset_text ++ 115 ∷ []) ≡ Wrong
unfolding computing
long_name = refl

-- `rese`
short_name : line_of (114 ∷ 101 ∷ 115 ∷ 101 ∷ []) ≡ Wrong
unfolding computing
short_name = refl

-- `ack # now`
late_comment : line_of (ack_text ++ 32 ∷ 35 ∷ 32 ∷ 110 ∷ 111 ∷ 119 ∷ []) ≡ Wrong
unfolding computing
late_comment = refl

-- `0 13 1 0 1 255` and a line end
seen : seen_text 0 13 true false true 255 true
    ≡ 48 ∷ 32 ∷ 49 ∷ 51 ∷ 32 ∷ 49 ∷ 32 ∷ 48 ∷ 32 ∷ 49 ∷ 32 ∷ 50 ∷ 53 ∷ 53 ∷ 32 ∷ 49 ∷ 10 ∷ []
unfolding digit_of decimal_of pick
seen = refl

-- `error line 18446744073709551615` and a line end
error_last :
    error_text 18446744073709551615
    ≡ 101 ∷ 114 ∷ 114 ∷ 111 ∷ 114 ∷ 32 ∷ 108 ∷ 105 ∷ 110 ∷ 101 ∷ 32 ∷ 49 ∷ 56 ∷ 52 ∷ 52 ∷ 54 ∷ 55 ∷ 52 ∷ 52 ∷ 48 ∷ 55 ∷ 51 ∷ 55 ∷ 48 ∷ 57 ∷ 53 ∷ 53 ∷ 49 ∷ 54 ∷ 49 ∷ 53 ∷ 10 ∷ []
unfolding decimal_of pick error_text bytes_of
error_last = refl

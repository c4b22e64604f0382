-- What a line of a script means, by its words. A line is a list of bytes, with no line end in it. Assumes nothing.
use Rattle.std.specs.Prelude.{ℕ, ◌+◌, ◌-◌, ◌*◌, Bool, true, false, ◌&&◌, List, [], ◌∷◌, ◌++◌, eqb, leb}
use Rattle.format.specs.Pick.{pick}
use Rattle.events.specs.declared.events.Event.TheVariants.{ChipReset, Read, Write, Acknowledge, Pins}
use Rattle.replay_script.specs.declared.lines.Line.{Line}
use Rattle.replay_script.specs.declared.lines.Line.TheVariants.{Skipped, Wrong, Ticks, One}
use Rattle.text.specs.Numbers.{digit}
use Rattle.replay_script.specs.Bytes.{blank_of}

-- the names of the events, as bytes
abbrev pub reset_text : List ℕ
reset_text = 114 ∷ 101 ∷ 115 ∷ 101 ∷ 116 ∷ []

abbrev pub read_text : List ℕ
read_text = 114 ∷ 101 ∷ 97 ∷ 100 ∷ []

abbrev pub write_text : List ℕ
write_text = 119 ∷ 114 ∷ 105 ∷ 116 ∷ 101 ∷ []

abbrev pub ack_text : List ℕ
ack_text = 97 ∷ 99 ∷ 107 ∷ []

abbrev pub pins_text : List ℕ
pins_text = 112 ∷ 105 ∷ 110 ∷ 115 ∷ []

abbrev pub tick_text : List ℕ
tick_text = 116 ∷ 105 ∷ 99 ∷ 107 ∷ []

-- one byte before the first piece
abbrev pub before : ℕ → List (List ℕ) → List (List ℕ)
before b [] = (b ∷ []) ∷ []
before b (p ∷ ps) = (b ∷ p) ∷ ps

-- the pieces of a line between its blanks, empty ones too
unfoldable pub pieces_of : List ℕ → List (List ℕ)
pieces_of [] = [] ∷ []
pieces_of (b ∷ bs) = pick (blank_of b) ([] ∷ pieces_of bs) (before b (pieces_of bs))

-- a piece that is not empty is a word
abbrev pub kept : List ℕ → List (List ℕ)
kept [] = []
kept (b ∷ bs) = (b ∷ bs) ∷ []

unfoldable pub full_of : List (List ℕ) → List (List ℕ)
full_of [] = []
full_of (p ∷ ps) = kept p ++ full_of ps

abbrev pub words_of : List ℕ → List (List ℕ)
words_of line = full_of (pieces_of line)

-- whether two words are the same
unfoldable pub same_of : List ℕ → List ℕ → Bool
same_of [] [] = true
same_of [] (c ∷ cs) = false
same_of (b ∷ bs) [] = false
same_of (b ∷ bs) (c ∷ cs) = eqb b c && same_of bs cs

-- a word that begins `#`
unfoldable pub hash_of : List ℕ → Bool
hash_of [] = false
hash_of (b ∷ bs) = eqb b 35

-- a number is decimal digits alone, and any number of them
unfoldable pub all_digits : List ℕ → Bool
all_digits [] = true
all_digits (b ∷ bs) = digit b && all_digits bs

-- the value of these digits, after those that made n; 48 is the digit 0
unfoldable pub value_from : ℕ → List ℕ → ℕ
value_from n [] = n
value_from n (b ∷ bs) = value_from (n * 10 + (b - 48)) bs

abbrev pub value_of : List ℕ → ℕ
value_of word = value_from 0 word

-- whether a word is a number up to the most
abbrev pub up_to : ℕ → List ℕ → Bool
up_to most word = all_digits word && leb (value_of word) most

-- The lines that say something: `reset`, `read N`, `write N B`, `ack`, `pins B`, `tick` and `tick COUNT`, with N and B
-- up to 255 and COUNT up to 4,000,000,000. By the first word, and those after it:
unfoldable pub said : List ℕ → List (List ℕ) → Line
said name [] =
    pick (same_of name reset_text) (One ChipReset)
    (pick (same_of name ack_text) (One Acknowledge)
    (pick (same_of name tick_text) (Ticks (record { 0 = 1 })) Wrong))
said name (n ∷ []) =
    pick (same_of name tick_text && up_to 4000000000 n) (Ticks (record { 0 = value_of n }))
    (pick (same_of name read_text && up_to 255 n) (One (Read (value_of n)))
    (pick (same_of name pins_text && up_to 255 n) (One (Pins (value_of n))) Wrong))
said name (n ∷ b ∷ []) =
    pick (same_of name write_text && (up_to 255 n && up_to 255 b)) (One (Write (value_of n) (value_of b))) Wrong
said name (n ∷ b ∷ more ∷ rest) = Wrong

-- a blank line, or one that begins `#`, is skipped
unfoldable pub meant_of : List (List ℕ) → Line
meant_of [] = Skipped
meant_of (name ∷ rest) = pick (hash_of name) Skipped (said name rest)

abbrev pub line_of : List ℕ → Line
line_of line = meant_of (words_of line)
